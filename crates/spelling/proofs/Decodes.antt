-- Laws of `decode`: what the string token at the front means, and where it is written. Assumes nothing.
use mathlib.Core.Path.{◌≡◌, refl, sym, ap, ◌∙◌}
use mathlib.Core.Bool.{Bool, true, false, ◌||◌, true≢false, false≢true}
use mathlib.Core.List.{List, [], ◌∷◌, ◌++◌}
use mathlib.Core.Option.{Option, none, some}
use Prim.Native.Nat.{ℕ, ◌+◌, ◌≤◌, ◌<◌}
use native.Mathlib.Omega.{arith}
use lib.ListN.{length, take, drop, length-drop}
use lib.Seq.{paste-zero}
use lib.Dec.{leb, lit<}
use borrow.Author.Tests.{eq-eqb, ne_eqb, le-leb, lt-leb}
use Rattle.paper.specs.Bytes.{at, is, when◌then◌else◌}
use Rattle.paper.specs.Tokens.{starts, digit}
use Rattle.paper.specs.Scanner.{Scanned, named, number, text, scan, empty}
use Rattle.theorems.proofs.Laws.Answers.{if_case}
use Rattle.std.proofs.Common.{Some, None}
use Rattle.spelling.specs.declared.text.Quoted.{Quoted}
use Rattle.spelling.specs.Text.{quotes, quoted_of, is_closed, text_in, put}
use Rattle.spelling.specs.Spelt.{string_of, text_of, Decoded, decoded}
use Rattle.spelling.proofs.At.{there}
use Rattle.spelling.proofs.Strings.{all_quotes}

-- ---- the text of the token at the front

not_empty : (s : List ℕ) → (length s ≡ 0 → ⊥) → empty s ≡ false
not_empty [] h = absurd (h refl)
not_empty (b ∷ s) h = refl

-- a string stands where a quote does, and what is no name and no number
pub scan_string : (s : List ℕ) → (length s ≡ 0 → ⊥) → starts (at s 0) ≡ false → (digit (at s 0) || is "-" (at s 0)) ≡ false → is "\"" (at s 0) ≡ true → scan s ≡ text (quotes (drop 1 s))
unfolding scan when◌then◌else◌
scan_string s h e f g = rw (not_empty s h, e, f, g) (ap text (all_quotes (length s) (drop 1 s) (omega (arith, length-drop 1 s))))

Nothing : Scanned → Type 0
Nothing x = text_of x ≡ []

-- no string stands where no quote does
pub no_string : (s : List ℕ) → (at s 0 ≡ 34 → ⊥) → text_of (scan s) ≡ []
unfolding scan named number text_of string_of Nothing
no_string s h =
    if_case Nothing _ _ _ (λ _. refl) (λ _.
    if_case Nothing _ _ _ (λ _. if_case Nothing _ _ _ (λ _. refl) (λ _. refl)) (λ _.
    if_case Nothing _ _ _
    (λ _. if_case Nothing _ _ _ (λ _. refl) (λ _. if_case Nothing _ _ _ (λ _. if_case Nothing _ _ _ (λ _. refl) (λ _. refl)) (λ _. if_case Nothing _ _ _ (λ _. refl) (λ _. refl)))) (λ _.
    if_case Nothing _ _ _ (λ e. absurd (true≢false (sym e ∙ ne_eqb 34 (at s 0) (λ q. h (sym q))))) (λ _.
    if_case Nothing _ _ _ (λ _. refl) (λ _. refl)))))

-- where one does stands what is read up to the closing quote
pub a_string : (s : List ℕ) → at s 0 ≡ 34 → scan s ≡ text (quotes (drop 1 s))
unfolding starts digit
a_string s h =
    scan_string s (λ e. omega (arith, there s 0 34 h (lit< tt))) (ap starts h) (ap (λ (b : ℕ). digit b || is "-" b) h) (eq-eqb 34 (at s 0) (sym h))

module _ (o : Option (List ℕ × ℕ)) where
  pub closed_told : (q : Quoted) → Some q ≡ quoted_of 0 1 o → (is_closed o ≡ true) × (q.count ≡ length (text_in o))
  unfolding quoted_of is_closed text_in
  closed_told q h = go o h
    where
      go : (o : Option (List ℕ × ℕ)) → Some q ≡ quoted_of 0 1 o → (is_closed o ≡ true) × (q.count ≡ length (text_in o))
      go none h = cc
      go (some r) h = let e : q ≡ record { count = 0 + length r.0; end = 1 + r.1 } = cc in (refl, ap (λ (y : Quoted). y.count) e ∙ omega arith)

  pub unclosed_told : None ≡ quoted_of 0 1 o → text_of (text o) ≡ []
  unfolding quoted_of text_of text
  unclosed_told h = go o h
    where
      go : (o : Option (List ℕ × ℕ)) → None ≡ quoted_of 0 1 o → text_of (text o) ≡ []
      go none h = refl
      go (some r) h = cc

  pub text_short : is_closed o ≡ true → length (text_in o) ≤ 4095 → text_of (text o) ≡ text_in o
  unfolding is_closed text_in text_of string_of text when◌then◌else◌
  text_short h l = go o h l
    where
      go : (o : Option (List ℕ × ℕ)) → is_closed o ≡ true → length (text_in o) ≤ 4095 → text_of (text o) ≡ text_in o
      go none h l = absurd (false≢true h)
      go (some r) h l = rw (le-leb (length r.0) 4095 l)

  pub text_long : 4095 < length (text_in o) → text_of (text o) ≡ []
  unfolding text_in text_of string_of text when◌then◌else◌
  text_long l = go o l
    where
      go : (o : Option (List ℕ × ℕ)) → 4095 < length (text_in o) → text_of (text o) ≡ []
      go none l = refl
      go (some r) l = rw (lt-leb (length r.0) 4095 l)

-- ---- where it is written

module _ (x : Scanned) (at : ℕ) (o : List ℕ) where
  pub writes_nothing : text_of x ≡ [] → ◌≡◌ {A = Decoded} (record { count = 0; out = o }) (decoded x at o)
  unfolding decoded put when◌then◌else◌
  writes_nothing e = rw e (go (leb (at + 0) (length o)))
    where
      go : (c : Bool) → ◌≡◌ {A = Decoded} (record { count = 0; out = o }) (when c then record { count = 0; out = take at o ++ [] ++ drop (at + 0) o } else record { count = 0; out = o })
      go true = λ i. record { count = 0; out = paste-zero o at [] i }
      go false = refl

  pub writes_none : leb (at + length (text_of x)) (length o) ≡ false → ◌≡◌ {A = Decoded} (record { count = 0; out = o }) (decoded x at o)
  unfolding decoded when◌then◌else◌
  writes_none e = rw e

  pub writes_all : leb (at + length (text_of x)) (length o) ≡ true → ◌≡◌ {A = Decoded} (record { count = length (text_of x); out = put at (text_of x) o }) (decoded x at o)
  unfolding decoded when◌then◌else◌
  writes_all e = rw e
