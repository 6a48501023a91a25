-- Laws of strings: the byte that is meant, and the loop up to the closing quote. Assumes nothing.
use mathlib.Core.Path.{◌≡◌, refl, sym, ap, ap₂, ◌∙◌}
use mathlib.Core.Bool.{Bool, true, false, ◌&&◌, true≢false, false≢true}
use mathlib.Core.List.{List, [], ◌∷◌, ◌++◌}
use mathlib.Core.Option.{Option, none, some}
use Prim.Native.Nat.{ℕ, zero, suc, ◌+◌, ◌-◌, ◌≤◌, ◌<◌}
use native.Mathlib.Numerals.{add-one}
use native.Mathlib.Omega.{arith}
use Rattle.std.proofs.Common.{Some, None}
use Rattle.std.specs.Prelude as Rust
use lib.ListN.{length, take, drop, get_or, set, drop_of_length-le, length-drop}
use lib.Seq.{drop-drop, paste, paste-suc, take_all}
use lib.Dec.{ltb, lit<}
use borrow.Author.Tests.{eq-eqb, ne_eqb, eqb-true, ltb-true, ltb-false}
use Rattle.paper.specs.Bytes.{at, is, among, between, when◌then◌else◌}
use Rattle.paper.specs.Tokens.{octal, escaped}
use Rattle.paper.specs.Scanner.{meant, quoted, empty}
use Rattle.theorems.proofs.Laws.Answers.{if_case}
use Rattle.theorems.proofs.Scanned.Classes.{and_right, or_right}
use Rattle.spelling.specs.declared.text.Meant.{Meant}
use Rattle.spelling.specs.Text.{meant_of, quotes, quoted_of, is_closed, text_in, put}
use Rattle.spelling.proofs.At.{at_in, at_drop, rest, there, class_there}

-- ---- the byte that is meant

-- it is there, and takes some of the source
data Ranged (s : List ℕ) : Option (ℕ × ℕ) → Type 0 where
  no_byte : Ranged s none
  byte : (b n : ℕ) → 1 ≤ n → n ≤ length s → Ranged s (some (b, n))

escape_ranged : (s : List ℕ) (o : Option ℕ) → escaped (at s 1) ≡ o → Ranged s (elim o [ none ↦ none | some b ↦ some (b, 2) ])
unfolding escaped when◌then◌else◌
escape_ranged s none e = no_byte
escape_ranged s (some b) e = byte b 2 (omega arith) (class_there (λ x. elim (escaped x) [ none ↦ false | some y ↦ true ]) refl s 1 (rw e))

some_there : (s : List ℕ) → empty s ≡ false → 1 ≤ length s
some_there [] e = absurd (true≢false e)
some_there (b ∷ s) e = omega arith

ranged : (s : List ℕ) → Ranged s (meant s)
unfolding meant octal
ranged s =
    if_case (Ranged s) _ _ _ (λ _. no_byte) (λ e.
    if_case (Ranged s) _ _ _ (λ _. byte (at s 0) 1 (omega arith) (some_there s (or_right (among "\n\r" (at s 0)) (empty s) e))) (λ _.
    if_case (Ranged s) _ _ _
    (λ f. byte _ 4 (omega arith) (class_there octal refl s 3 (and_right (between "0" "3" (at s 1) && octal (at s 2)) (octal (at s 3)) f)))
    (λ _. escape_ranged s (escaped (at s 1)) refl)))

ranged_some : {s : List ℕ} {o : Option (ℕ × ℕ)} → Ranged s o → (b n : ℕ) → o ≡ some (b, n) → (1 ≤ n) × (n ≤ length s)
ranged_some no_byte b n e = let z : ◌≡◌ {A = ℕ} 0 1 = cc in absurd (omega arith)
ranged_some (byte x m h l) b n e = let p : ◌≡◌ {A = ℕ × ℕ} (x, m) (b, n) = cc in let q : m ≡ n = ap (λ (y : ℕ × ℕ). y.1) p in (omega arith, omega arith)

-- what an answer of the code says of it
pub told_byte : (s : List ℕ) (m : Meant) → Some m ≡ meant_of (meant s) → meant s ≡ some (m.byte, m.len)
unfolding meant_of
told_byte s m e = go (meant s) refl
  where
    go : (o : Option (ℕ × ℕ)) → meant s ≡ o → meant s ≡ some (m.byte, m.len)
    go none g = let f : Some m ≡ None = rw (g, meant_of) at e in cc
    go (some x) g =
        let f : Some m ≡ Some (record { byte = x.0; len = x.1 }) = rw (g, meant_of) at e in
        let q : m ≡ record { byte = x.0; len = x.1 } = cc in
        g ∙ ap (λ (y : Meant). some (y.byte, y.len)) (sym q)

pub told_bad : (s : List ℕ) → None ≡ meant_of (meant s) → meant s ≡ none
unfolding meant_of
told_bad s e = go (meant s) refl
  where
    go : (o : Option (ℕ × ℕ)) → meant s ≡ o → meant s ≡ none
    go none g = g
    go (some x) g = let f : ◌≡◌ {A = Rust.Option Meant} None (Some (record { byte = x.0; len = x.1 })) = rw (g, meant_of) at e in cc

-- ---- up to the closing quote

-- a byte that k bytes mean, before these
unfoldable pub more : ℕ → ℕ → Option (List ℕ × ℕ) → Option (List ℕ × ℕ)
more b k none = none
more b k (some r) = some (b ∷ r.0, k + r.1)

module _ (f : ℕ) (s : List ℕ) where
  quoted_close : is "\"" (at s 0) ≡ true → quoted (suc f) s ≡ some ([], 1)
  unfolding quoted
  quoted_close e = rw (e, quoted)

  quoted_bad : is "\"" (at s 0) ≡ false → meant s ≡ none → quoted (suc f) s ≡ none
  unfolding quoted
  quoted_bad e g = rw (e, quoted) (rw (g, quoted))

  quoted_more : (b k : ℕ) → is "\"" (at s 0) ≡ false → meant s ≡ some (b, k) → quoted (suc f) s ≡ more b k (quoted f (drop k s))
  unfolding quoted more
  quoted_more b k e g = rw (e, quoted) (rw (g, quoted) (go (quoted f (drop k s))))
    where
      go : (o : Option (List ℕ × ℕ)) → elim o [ none ↦ none | some r ↦ some (b ∷ r.0, k + r.1) ] ≡ more b k o
      go none = refl
      go (some r) = refl

-- a count that is enough may be any other that is
pub enough : (f g : ℕ) (s : List ℕ) → length s ≤ f → length s ≤ g → quoted f s ≡ quoted g s
unfolding quoted meant when◌then◌else◌
enough zero zero s l m = refl
enough zero (suc g) [] l m = sym (quoted_bad g [] refl refl)
enough zero (suc g) (b ∷ s) l m = absurd (omega arith)
enough (suc f) zero [] l m = quoted_bad f [] refl refl
enough (suc f) zero (b ∷ s) l m = absurd (omega arith)
enough (suc f) (suc g) s l m = go (is "\"" (at s 0)) refl (meant s) refl (λ t a b. enough f g t a b)
  where
    go : (c : Bool) → is "\"" (at s 0) ≡ c → (o : Option (ℕ × ℕ)) → meant s ≡ o → ((t : List ℕ) → length t ≤ f → length t ≤ g → quoted f t ≡ quoted g t) → quoted (suc f) s ≡ quoted (suc g) s
    go true e o h again = quoted_close f s e ∙ sym (quoted_close g s e)
    go false e none h again = quoted_bad f s e h ∙ sym (quoted_bad g s e h)
    go false e (some n) h again =
        let r = ranged_some (ranged s) n.0 n.1 h in
        quoted_more f s n.0 n.1 e h
        ∙ ap (more n.0 n.1) (again (drop n.1 s) (simp length-drop (omega arith)) (simp length-drop (omega arith)))
        ∙ sym (quoted_more g s n.0 n.1 e h)

pub all_quotes : (f : ℕ) (s : List ℕ) → length s ≤ f → quoted f s ≡ quotes s
unfolding quotes
all_quotes f s l = enough f (length s) s l (omega arith)

one_more : (s : List ℕ) → quotes s ≡ quoted (suc (length s)) s
one_more s = sym (all_quotes (suc (length s)) s (omega arith))

-- the turns of the loop, at the place i
module _ (s : List ℕ) (i : ℕ) where
  pub quotes_end : length s ≤ i → quotes (drop i s) ≡ none
  unfolding quotes quoted
  quotes_end h = ap quotes (drop_of_length-le s h)

  module _ (h : i < length s) where
    front : at (drop i s) 0 ≡ get_or s i 0
    front = at_drop s i 0 ∙ ap (at s) (omega arith) ∙ sym (at_in s i h)

    pub quotes_close : get_or s i 0 ≡ 34 → quotes (drop i s) ≡ some ([], 1)
    quotes_close e = one_more (drop i s) ∙ quoted_close (length (drop i s)) (drop i s) (eq-eqb 34 (at (drop i s) 0) (sym (front ∙ e)))

    module _ (n : get_or s i 0 ≡ 34 → ⊥) where
      no_quote : is "\"" (at (drop i s) 0) ≡ false
      no_quote = ne_eqb 34 (at (drop i s) 0) (λ e. n (sym front ∙ sym e))

      -- the code decodes the part `&s[i..]`
      pub quotes_bad : None ≡ meant_of (meant (take (length s - i) (drop i s))) → quotes (drop i s) ≡ none
      quotes_bad e =
          one_more (drop i s) ∙ quoted_bad (length (drop i s)) (drop i s) no_quote (told_bad (drop i s) (e ∙ ap (λ (t : List ℕ). meant_of (meant t)) (rest s i)))

      pub quotes_more : (m : Meant) → Some m ≡ meant_of (meant (take (length s - i) (drop i s))) → (1 ≤ m.len) × (i + m.len ≤ length s) × (quotes (drop i s) ≡ more m.byte m.len (quotes (drop (i + m.len) s)))
      quotes_more m e =
          let b = m.byte in
          let k = m.len in
          let g = told_byte (drop i s) m (e ∙ ap (λ (t : List ℕ). meant_of (meant t)) (rest s i)) in
          let r = ranged_some (ranged (drop i s)) b k g in (
            r.0,
            omega (arith, r.1, length-drop i s),
            one_more (drop i s) ∙ quoted_more (length (drop i s)) (drop i s) b k no_quote g
                ∙ ap (more b k) (all_quotes (length (drop i s)) (drop k (drop i s)) (simp length-drop (omega arith)) ∙ ap quotes (drop-drop k i s)),
          )

-- a string that is closed further on is not at its end
pub closed_inside : (s : List ℕ) (i : ℕ) → is_closed (quotes (drop i s)) ≡ true → i < length s
unfolding is_closed
closed_inside s i e = go (ltb i (length s)) refl
  where
    go : (b : Bool) → ltb i (length s) ≡ b → i < length s
    go true h = ltb-true i (length s) h
    go false h = absurd (true≢false (sym e ∙ ap is_closed (quotes_end s i (ltb-false i (length s) h))))

-- measured
pub measured_more : (n i b k : ℕ) (o : Option (List ℕ × ℕ)) → quoted_of n i (more b k o) ≡ quoted_of (n + 1) (i + k) o
unfolding quoted_of more
measured_more n i b k none = refl
measured_more n i b k (some r) = ap₂ (λ (c e : ℕ). Some (record { count = c; end = e })) (omega arith) (omega arith)

-- decoded
pub decoded_more : (b k : ℕ) (o : Option (List ℕ × ℕ)) → is_closed (more b k o) ≡ true → (is_closed o ≡ true) × (text_in (more b k o) ≡ b ∷ text_in o)
unfolding is_closed text_in more
decoded_more b k none e = absurd (false≢true e)
decoded_more b k (some r) e = (refl, refl)

pub next_of : (t u : List ℕ) (n b : ℕ) → drop n t ≡ b ∷ u → (n < length t) × (get_or t n 0 ≡ b) × (drop (n + 1) t ≡ u)
next_of t u n b e = rw add-one (go t n e)
  where
    go : (t : List ℕ) (n : ℕ) → drop n t ≡ b ∷ u → (n < length t) × (get_or t n 0 ≡ b) × (drop (suc n) t ≡ u)
    go [] zero e = let z : ◌≡◌ {A = ℕ} 0 1 = cc in absurd (omega arith)
    go [] (suc n) e = let z : ◌≡◌ {A = ℕ} 0 1 = cc in absurd (omega arith)
    go (x ∷ t) zero e = let p : x ≡ b = cc in let q : t ≡ u = cc in (omega arith, p, q)
    go (x ∷ t) (suc n) e = let r = go t n e in (omega arith, r.1, r.2)

-- ---- a turn that writes

module _ (o t : List ℕ) (at n b : ℕ) where
  pub put_more : at + n < length o → n < length t → get_or t n 0 ≡ b → set (paste o at t n) (at + n) b ≡ paste o at t (n + 1)
  put_more h l e = rw (add-one, ← e) (paste-suc o at t n 0 h l)

pub put_all : (o t : List ℕ) (at n : ℕ) → n ≤ length t → drop n t ≡ [] → paste o at t n ≡ put at t o
unfolding put
put_all o t at n h e =
    let l : n ≡ length t = omega (arith, length-drop n t, ap length e) in
    ap (λ (k : ℕ). paste o at t k) l ∙ ap (λ (u : List ℕ). take at o ++ u ++ drop (at + length t) o) (take_all (length t) t (omega arith))

-- ---- a string lies within the source

within_more : (f k b : ℕ) (s : List ℕ) (r : List ℕ × ℕ) → 1 ≤ k → k ≤ length s → (o : Option (List ℕ × ℕ)) → ((q : List ℕ × ℕ) → o ≡ some q → (1 ≤ q.1) × (q.1 ≤ length (drop k s))) → more b k o ≡ some r → (1 ≤ r.1) × (r.1 ≤ length s)
unfolding more
within_more f k b s r h l none again e = let z : ◌≡◌ {A = ℕ} 0 1 = cc in absurd (omega arith)
within_more f k b s r h l (some q) again e =
    let a = again q refl in
    let p : ◌≡◌ {A = List ℕ × ℕ} (b ∷ q.0, k + q.1) r = cc in
    let n : k + q.1 ≡ r.1 = ap (λ (x : List ℕ × ℕ). x.1) p in
    (omega arith, omega (arith, length-drop k s))

pub quoted_within : (f : ℕ) (s : List ℕ) (r : List ℕ × ℕ) → quoted f s ≡ some r → (1 ≤ r.1) × (r.1 ≤ length s)
unfolding quoted
quoted_within zero s r e = let z : ◌≡◌ {A = ℕ} 0 1 = cc in absurd (omega arith)
quoted_within (suc f) s r e = go (is "\"" (at s 0)) refl (meant s) refl (λ t q h. quoted_within f t q h)
  where
    go : (c : Bool) → is "\"" (at s 0) ≡ c → (o : Option (ℕ × ℕ)) → meant s ≡ o → ((t : List ℕ) (q : List ℕ × ℕ) → quoted f t ≡ some q → (1 ≤ q.1) × (q.1 ≤ length t)) → (1 ≤ r.1) × (r.1 ≤ length s)
    go true i o h again =
        let p : ◌≡◌ {A = Option (List ℕ × ℕ)} (some ([], 1)) (some r) = sym (quoted_close f s i) ∙ e in
        let q : ◌≡◌ {A = List ℕ × ℕ} ([], 1) r = cc in
        let n : 1 ≡ r.1 = ap (λ (x : List ℕ × ℕ). x.1) q in
        let l = there s 0 34 (sym (eqb-true 34 (at s 0) i)) (lit< tt) in
        (omega arith, omega arith)
    go false i none h again = let p : none ≡ some r = sym (quoted_bad f s i h) ∙ e in let z : ◌≡◌ {A = ℕ} 0 1 = cc in absurd (omega arith)
    go false i (some m) h again =
        let k = ranged_some (ranged s) m.0 m.1 h in
        within_more f m.1 m.0 s r k.0 k.1 (quoted f (drop m.1 s)) (λ q g. again (drop m.1 s) q g) (sym (quoted_more f s m.0 m.1 i h) ∙ e)
