-- Laws of comments and of what is skipped, for the loops that pass them. Assumes nothing.
use mathlib.Core.Path.{◌≡◌, refl, sym, ap, ap₂, ◌∙◌}
use mathlib.Core.Bool.{Bool, true, false, not, ◌&&◌}
use mathlib.Core.List.{List, [], ◌∷◌}
use mathlib.Core.Option.{Option, none, some}
use Prim.Native.Nat.{ℕ, zero, suc, ◌+◌, ◌-◌, ◌≤◌, ◌<◌}
use native.Mathlib.Numerals.{add-one}
use native.Mathlib.Omega.{arith}
use lib.ListN.{length, take, drop, get_or, drop_of_length-le, length-drop}
use lib.Seq.{drop-cons, drop-drop}
use lib.Dec.{eqb, lit<}
use lib.Pointwise.{pointwise}
use Rattle.std.specs.List.{starts_with}
use Rattle.std.proofs.lemmas.Grind.{common_steps}
use borrow.Author.Tests.{eqb-true, ne_eqb}
use Rattle.theorems.proofs.Scanned.Classes.{and_left, and_right}
use Rattle.theorems.proofs.Laws.Rescan.{span_le}
use Rattle.paper.specs.Bytes.{at, is, when◌then◌else◌}
use Rattle.paper.specs.Answer.{Answer, ok, refused}
use Rattle.paper.specs.Tokens.{blank, Here}
use Rattle.paper.specs.Scanner.{span, closing, gap, skip, past}
use Rattle.std.specs.Prelude.{Some, None}
use Rattle.std.specs.Prelude as Rust
use Rattle.spelling.specs.Text.{option_of}
use Rattle.tokens.specs.Gaps.{skips}
use Rattle.spelling.proofs.At.{rest, there, class_there}

-- what the code says of a length, i bytes further on
abbrev pub later : ℕ → Option ℕ → Rust.Option ℕ
later i none = None
later i (some n) = Some (i + n)

pub later_zero : (o : Option ℕ) → option_of o ≡ later 0 o
unfolding option_of
later_zero none = refl
later_zero (some n) = ap Some (omega arith)

-- two bytes stand at the front
abbrev pub two : ℕ → ℕ → List ℕ → Bool
two a b s = eqb a (at s 0) && eqb b (at s 1)

-- as the code finds them
pub two_is : (a b : ℕ) → a < 256 → b < 256 → (s : List ℕ) → starts_with eqb s (a ∷ b ∷ []) ≡ two a b s
two_is a b h l [] = grind (arith, common_steps)
two_is a b h l (x ∷ []) = grind (arith, common_steps)
two_is a b h l (x ∷ y ∷ s) = grind (arith, common_steps)

pub two_front : (a b : ℕ) → a < 256 → b < 256 → (s : List ℕ) → pointwise eqb (take 2 s) (a ∷ b ∷ []) ≡ two a b s
two_front a b h l [] = grind (arith, common_steps)
two_front a b h l (x ∷ []) = grind (arith, common_steps)
two_front a b h l (x ∷ y ∷ s) = grind (arith, common_steps)

-- `*/`
abbrev pub closes : List ℕ → Bool
closes = two 42 47

-- what the code finds of it in the part `&s[i..]`
pub closes_is : (s : List ℕ) (i : ℕ) → starts_with eqb (take (length s - i) (drop i s)) (42 ∷ 47 ∷ []) ≡ closes (drop i s)
closes_is s i = ap (λ (t : List ℕ). starts_with eqb t (42 ∷ 47 ∷ [])) (rest s i) ∙ two_is 42 47 (lit< tt) (lit< tt) (drop i s)

-- the `*/` here, and one further on
closed : (b : ℕ) (t : List ℕ) → (is "*" b && is "/" (at t 0)) ≡ true → closing (b ∷ t) ≡ some 2
unfolding closing
closed b t e = rw (e, closing)

closed_later : (b : ℕ) (t : List ℕ) (i : ℕ) → (is "*" b && is "/" (at t 0)) ≡ false → later i (closing (b ∷ t)) ≡ later (i + 1) (closing t)
unfolding closing
closed_later b t i e = rw (e, closing) (go (closing t))
  where
    go : (o : Option ℕ) → later i (elim o [ none ↦ none | some n ↦ some (suc n) ]) ≡ later (i + 1) o
    go none = refl
    go (some n) = ap Some (omega arith)

module _ (s : List ℕ) (i : ℕ) where
  cut : i < length s → drop i s ≡ get_or s i 0 ∷ drop (i + 1) s
  cut h = rw (add-one, drop-cons s i 0 h)

  same_close : (h : i < length s) → (is "*" (get_or s i 0) && is "/" (at (drop (i + 1) s) 0)) ≡ closes (drop i s)
  same_close h = sym (ap closes (cut h))

  pub closing_here : i < length s → closes (drop i s) ≡ true → Some (i + 2) ≡ later i (closing (drop i s))
  closing_here h e = ap (later i) (sym (ap closing (cut h) ∙ closed (get_or s i 0) (drop (i + 1) s) (same_close h ∙ e)))

  pub closing_later : i < length s → closes (drop i s) ≡ false → later i (closing (drop i s)) ≡ later (i + 1) (closing (drop (i + 1) s))
  closing_later h e = ap (λ (l : List ℕ). later i (closing l)) (cut h) ∙ closed_later (get_or s i 0) (drop (i + 1) s) i (same_close h ∙ e)

  pub closing_never : length s ≤ i → None ≡ later i (closing (drop i s))
  unfolding closing
  closing_never h = rw (drop_of_length-le s h)

-- ---- the gap at the front

pub blank_there : (s : List ℕ) (i : ℕ) → blank (at s i) ≡ true → i < length s
unfolding blank
blank_there s i e = class_there blank refl s i e

abbrev no_LF : ℕ → Bool
no_LF b = not (is "\n" b)

module _ (s : List ℕ) where
  pub gap_blank : blank (at s 0) ≡ true → gap s ≡ some 1
  unfolding gap when◌then◌else◌
  gap_blank e = rw e

  gap_plain : blank (at s 0) ≡ false → is "/" (at s 0) ≡ false → gap s ≡ some 0
  unfolding gap when◌then◌else◌
  gap_plain e f = rw (e, f)

  gap_line : blank (at s 0) ≡ false → is "/" (at s 0) ≡ true → is "/" (at s 1) ≡ true → gap s ≡ some (2 + span no_LF (drop 2 s))
  unfolding gap when◌then◌else◌
  gap_line e f g = rw (e, f, g)

  gap_comment : blank (at s 0) ≡ false → is "/" (at s 0) ≡ true → is "/" (at s 1) ≡ false → is "*" (at s 1) ≡ true → gap s ≡ elim (closing (drop 2 s)) [ none ↦ none | some n ↦ some (2 + n) ]
  unfolding gap when◌then◌else◌
  gap_comment e f g h = rw (e, f, g, h)

  gap_slash : blank (at s 0) ≡ false → is "/" (at s 0) ≡ true → is "/" (at s 1) ≡ false → is "*" (at s 1) ≡ false → gap s ≡ some 0
  unfolding gap when◌then◌else◌
  gap_slash e f g h = rw (e, f, g, h)

-- at a first byte that is no `/` and no blank
pub gap_other : (s : List ℕ) (b : ℕ) → at s 0 ≡ b → (b ≡ 47 → ⊥) → blank b ≡ false → gap s ≡ some 0
gap_other s b e n f = gap_plain s (ap blank e ∙ f) (ap (is "/") e ∙ ne_eqb 47 b (λ q. n (sym q)))

-- and where nothing stands
pub gap_nowhere : (s : List ℕ) → at s 0 ≡ 256 → gap s ≡ some 0
unfolding blank
gap_nowhere s e = gap_plain s (ap blank e) (ap (is "/") e)

-- as the code's tests say
module _ (s : List ℕ) where
  slash : (b : ℕ) → two 47 b s ≡ true → (at s 0 ≡ 47) × (at s 1 ≡ b)
  slash b e = (sym (eqb-true 47 (at s 0) (and_left _ _ e)), sym (eqb-true b (at s 1) (and_right (eqb 47 (at s 0)) _ e)))

  pub line_here : two 47 47 s ≡ true → gap s ≡ some (2 + span no_LF (drop 2 s))
  unfolding blank
  line_here e = let f = slash 47 e in gap_line s (ap blank f.0) (ap (λ b. is "/" b) f.0) (ap (λ b. is "/" b) f.1)

  pub comment_here : two 47 42 s ≡ true → gap s ≡ elim (closing (drop 2 s)) [ none ↦ none | some n ↦ some (2 + n) ]
  unfolding blank
  comment_here e = let f = slash 42 e in gap_comment s (ap blank f.0) (ap (λ b. is "/" b) f.0) (ap (λ b. is "/" b) f.1) (ap (λ b. is "*" b) f.1)

  pub no_gap : two 47 47 s ≡ false → two 47 42 s ≡ false → blank (at s 0) ≡ false → gap s ≡ some 0
  unfolding gap when◌then◌else◌
  no_gap e f g = rw (g, e, f)

-- a comment, after the two bytes that begin it
pub comment_more : (o : Option ℕ) → (n : ℕ) → Some n ≡ option_of o → Some (2 + n) ≡ option_of (elim o [ none ↦ none | some n ↦ some (2 + n) ])
unfolding option_of
comment_more none n e = cc
comment_more (some m) n e = let q : n ≡ m = cc in ap (λ (k : ℕ). Some (2 + k)) q

pub comment_open : (o : Option ℕ) → None ≡ option_of o → None ≡ option_of (elim o [ none ↦ none | some n ↦ some (2 + n) ])
unfolding option_of
comment_open none e = refl
comment_open (some m) e = cc

-- ---- a gap lies within the source

closing_le : (s : List ℕ) (n : ℕ) → closing s ≡ some n → n ≤ length s
unfolding closing
closing_le [] n e = let z : ◌≡◌ {A = ℕ} 0 1 = cc in absurd (omega arith)
closing_le (b ∷ s) n e = go (is "*" b && is "/" (at s 0)) refl (closing s) refl (λ m h. closing_le s m h)
  where
    go : (c : Bool) → (is "*" b && is "/" (at s 0)) ≡ c → (o : Option ℕ) → closing s ≡ o → ((m : ℕ) → closing s ≡ some m → m ≤ length s) → n ≤ suc (length s)
    go true i o h again =
        let f : closing (b ∷ s) ≡ some 2 = closed b s i in
        let q : 2 ≡ n = cc in
        let k = there s 0 47 (sym (eqb-true 47 (at s 0) (and_right (is "*" b) (is "/" (at s 0)) i))) (lit< tt) in
        omega arith
    go false i none h again = let f : none ≡ some n = rw (i, h, closing) at e in let z : ◌≡◌ {A = ℕ} 0 1 = cc in absurd (omega arith)
    go false i (some m) h again =
        let f : some (suc m) ≡ some n = rw (i, h, closing) at e in
        let q : suc m ≡ n = cc in
        let k = again m h in omega arith

pub comment_le : (s : List ℕ) (n : ℕ) → Some n ≡ option_of (closing s) → n ≤ length s
unfolding option_of
comment_le s n e = go (closing s) refl e
  where
    go : (o : Option ℕ) → closing s ≡ o → Some n ≡ option_of o → n ≤ length s
    go none h e = cc
    go (some m) h e = let q : n ≡ m = cc in omega (arith, closing_le s m h)

-- what is skipped at the front, and that it is there
data Gap (s : List ℕ) : Option ℕ → Type 0 where
  no_end : 0 < length s → Gap s none
  ends : (n : ℕ) → n ≤ length s → Gap s (some n)

comment_good : (s : List ℕ) → 1 < length s → (o : Option ℕ) → closing (drop 2 s) ≡ o → Gap s (elim o [ none ↦ none | some n ↦ some (2 + n) ])
comment_good s h none e = no_end (omega arith)
comment_good s h (some n) e = ends (2 + n) (omega (arith, closing_le (drop 2 s) n e, length-drop 2 s))

gap_good : (s : List ℕ) → Gap s (gap s)
gap_good s = go (blank (at s 0)) refl (is "/" (at s 0)) refl (is "/" (at s 1)) refl (is "*" (at s 1)) refl
  where
    second : (b : ℕ) → b < 256 → eqb b (at s 1) ≡ true → 1 < length s
    second b l e = there s 1 b (sym (eqb-true b (at s 1) e)) l

    go : (c : Bool) → blank (at s 0) ≡ c → (d : Bool) → is "/" (at s 0) ≡ d → (e : Bool) → is "/" (at s 1) ≡ e → (f : Bool) → is "*" (at s 1) ≡ f → Gap s (gap s)
    go true i d j e k f l = rw (gap_blank s i) (ends 1 (blank_there s 0 i))
    go false i false j e k f l = rw (gap_plain s i j) (ends 0 (omega arith))
    go false i true j true k f l = rw (gap_line s i j k) (ends (2 + span no_LF (drop 2 s)) (omega (arith, second 47 (lit< tt) k, span_le no_LF (drop 2 s), length-drop 2 s)))
    go false i true j false k true l = rw (gap_comment s i j k l) (comment_good s (second 42 (lit< tt) l) (closing (drop 2 s)) refl)
    go false i true j false k false l = rw (gap_slash s i j k l) (ends 0 (omega arith))

gap_some : {s : List ℕ} {o : Option ℕ} → Gap s o → (n : ℕ) → o ≡ some n → n ≤ length s
gap_some (no_end h) n e = let z : ◌≡◌ {A = ℕ} 0 1 = cc in absurd (omega arith)
gap_some (ends m h) n e = let q : m ≡ n = cc in omega arith

gap_none : {s : List ℕ} {o : Option ℕ} → Gap s o → o ≡ none → 0 < length s
gap_none (no_end h) e = h
gap_none (ends m h) e = let z : ◌≡◌ {A = ℕ} 0 1 = cc in absurd (omega arith)

pub gap_le : (s : List ℕ) (n : ℕ) → gap s ≡ some n → n ≤ length s
gap_le s n e = gap_some (gap_good s) n e

-- ---- all that is skipped

abbrev from : ℕ → List ℕ → Here
from p s = record { place = p; rest = s }

skip_none : (f p : ℕ) (s : List ℕ) → gap s ≡ none → skip (suc f) (from p s) ≡ refused 2 p
unfolding skip
skip_none f p s e = rw (e, skip)

skip_zero : (f p : ℕ) (s : List ℕ) → gap s ≡ some 0 → skip (suc f) (from p s) ≡ ok (from p s)
unfolding skip
skip_zero f p s e = rw (e, skip)

skip_more : (f p n : ℕ) (s : List ℕ) → gap s ≡ some (suc n) → skip (suc f) (from p s) ≡ skip f (from (p + suc n) (drop (suc n) s))
unfolding skip past
skip_more f p n s e = rw (e, skip)

-- a count that is enough may be any other that is
enough : (f g p : ℕ) (s : List ℕ) → length s ≤ f → length s ≤ g → skip f (from p s) ≡ skip g (from p s)
unfolding skip gap blank when◌then◌else◌
enough zero zero p s l m = refl
enough zero (suc g) p [] l m = sym (skip_zero g p [] refl)
enough zero (suc g) p (b ∷ s) l m = absurd (omega arith)
enough (suc f) zero p [] l m = skip_zero f p [] refl
enough (suc f) zero p (b ∷ s) l m = absurd (omega arith)
enough (suc f) (suc g) p s l m = go (gap s) refl (λ q t a b. enough f g q t a b)
  where
    go : (o : Option ℕ) → gap s ≡ o → ((q : ℕ) (t : List ℕ) → length t ≤ f → length t ≤ g → skip f (from q t) ≡ skip g (from q t)) → skip (suc f) (from p s) ≡ skip (suc g) (from p s)
    go none e again = skip_none f p s e ∙ sym (skip_none g p s e)
    go (some zero) e again = skip_zero f p s e ∙ sym (skip_zero g p s e)
    go (some (suc n)) e again =
        skip_more f p n s e ∙ again (p + suc n) (drop (suc n) s) (simp length-drop (omega arith)) (simp length-drop (omega arith)) ∙ sym (skip_more g p n s e)

module _ (p : ℕ) (s : List ℕ) where
  one_more : skips p s ≡ skip (suc (length s)) (from p s)
  unfolding skips
  one_more = enough (length s) (suc (length s)) p s (omega arith) (omega arith)

  pub skips_open : gap s ≡ none → skips p s ≡ refused 2 p
  skips_open e = one_more ∙ skip_none (length s) p s e

  pub skips_stop : gap s ≡ some 0 → skips p s ≡ ok (from p s)
  skips_stop e = one_more ∙ skip_zero (length s) p s e

  pub skips_on : (n : ℕ) → gap s ≡ some (suc n) → skips p s ≡ skips (p + suc n) (drop (suc n) s)
  unfolding skips
  skips_on n e =
      one_more ∙ skip_more (length s) p n s e
      ∙ enough (length s) (length (drop (suc n) s)) (p + suc n) (drop (suc n) s) (simp length-drop (omega arith)) (omega arith)

-- ---- where it ends

-- wherever s stands, what is skipped ends i bytes further on, at a token or at a comment that is not closed
pub data Ending (s : List ℕ) (x : ℕ → Answer Here) : Type 0 where
  at_token : (i : ℕ) → i ≤ length s → ((p : ℕ) → x p ≡ ok (from (p + i) (drop i s))) → Ending s x
  at_comment : (i : ℕ) → i < length s → ((p : ℕ) → x p ≡ refused 2 (p + i)) → Ending s x

ending_from : (f : ℕ) (s : List ℕ) → length s ≤ f → Ending s (λ p. skip f (from p s))
unfolding skip
ending_from zero s l = at_token 0 (omega arith) (λ p. let e : p ≡ p + 0 = omega arith in ap (λ q. ok (from q s)) e)
ending_from (suc f) s l = go (gap s) refl (λ t m. ending_from f t m)
  where
    go : (o : Option ℕ) → gap s ≡ o → ((t : List ℕ) → length t ≤ f → Ending t (λ p. skip f (from p t))) → Ending s (λ p. skip (suc f) (from p s))
    go none e again = at_comment 0 (gap_none (gap_good s) e) (λ p. let q : p ≡ p + 0 = omega arith in skip_none f p s e ∙ ap (refused 2) q)
    go (some zero) e again = at_token 0 (omega arith) (λ p. let q : p ≡ p + 0 = omega arith in skip_zero f p s e ∙ ap (λ q. ok (from q s)) q)
    go (some (suc n)) e again = further (again (drop (suc n) s) (simp length-drop (omega arith)))
      where
        d : length (drop (suc n) s) ≡ length s - suc n
        d = length-drop (suc n) s

        further : Ending (drop (suc n) s) (λ p. skip f (from p (drop (suc n) s))) → Ending s (λ p. skip (suc f) (from p s))
        further (at_token i h k) = at_token (suc n + i) (omega (arith, d, gap_le s (suc n) e)) (λ p.
            let q : p + suc n + i ≡ p + (suc n + i) = omega arith in
            skip_more f p n s e ∙ k (p + suc n) ∙ ap₂ (λ (q : ℕ) (t : List ℕ). ok (from q t)) q (drop-drop i (suc n) s))
        further (at_comment i h k) = at_comment (suc n + i) (omega (arith, d, gap_le s (suc n) e)) (λ p.
            let q : p + suc n + i ≡ p + (suc n + i) = omega arith in
            skip_more f p n s e ∙ k (p + suc n) ∙ ap (refused 2) q)

pub ending : (s : List ℕ) → Ending s (λ p. skips p s)
unfolding skips
ending s = ending_from (length s) s (omega arith)

-- ---- one turn of the loop that skips, at i

-- what the code answers of the part `&s[i..]`
abbrev pub gap_at : List ℕ → ℕ → Rust.Option ℕ
gap_at s i = option_of (gap (take (length s - i) (drop i s)))

module _ (s : List ℕ) (i : ℕ) where
  told_some : (n : ℕ) → Some n ≡ gap_at s i → gap (drop i s) ≡ some n
  unfolding option_of
  told_some n h = go (gap (drop i s)) (h ∙ ap (λ (l : List ℕ). option_of (gap l)) (rest s i))
    where
      go : (o : Option ℕ) → Some n ≡ option_of o → o ≡ some n
      go none e = cc
      go (some m) e = let q : n ≡ m = cc in ap some (sym q)

  told_none : None ≡ gap_at s i → gap (drop i s) ≡ none
  unfolding option_of
  told_none h = go (gap (drop i s)) (h ∙ ap (λ (l : List ℕ). option_of (gap l)) (rest s i))
    where
      go : (o : Option ℕ) → None ≡ option_of o → o ≡ none
      go none e = refl
      go (some m) e = cc

  pub stops : Some 0 ≡ gap_at s i → skips i (drop i s) ≡ ok (from i (drop i s))
  stops e = skips_stop i (drop i s) (told_some 0 e)

  pub goes : (n : ℕ) → Some n ≡ gap_at s i → (n ≡ 0 → ⊥) → i ≤ length s → (i + n ≤ length s) × (skips i (drop i s) ≡ skips (i + n) (drop (i + n) s))
  goes zero e h l = absurd (h refl)
  goes (suc n) e h l =
      let g = told_some (suc n) e in (
        omega (arith, gap_le (drop i s) (suc n) g, length-drop i s),
        skips_on i (drop i s) n g ∙ ap (skips (i + suc n)) (drop-drop (suc n) i s),
      )

  pub opens : None ≡ gap_at s i → skips i (drop i s) ≡ refused 2 i
  opens e = skips_open i (drop i s) (told_none e)
