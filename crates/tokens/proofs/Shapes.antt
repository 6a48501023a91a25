-- What the token at the front can be, and that it lies within the source. Assumes nothing.
use mathlib.Core.Path.{◌≡◌, refl, ap, ◌∙◌}
use mathlib.Core.Bool.{true, false, ◌||◌, true≢false, false≢true}
use mathlib.Core.List.{List, [], ◌∷◌}
use mathlib.Core.Option.{Option, none, some}
use Prim.Native.Nat.{ℕ, zero, suc, ◌≤◌}
use native.Mathlib.Omega.{arith}
use lib.ListN.{length, take, drop, get_or, length-drop}
use lib.Dec.{eqb}
use borrow.Author.Tests.{eqb-false, leb-true}
use Rattle.paper.specs.Bytes.{at, is}
use Rattle.paper.specs.Syntax.{integer, decimal, string}
use Rattle.paper.specs.Tokens.{starts, goes_on, in_range, valued, name, literal, mark, end}
use Rattle.paper.specs.Scanner.{Scanned, token, fault, span, named, number, quoted, text, scan, whole, empty}
use Rattle.theorems.proofs.Laws.Answers.{if_case}
use Rattle.theorems.proofs.Laws.Rescan.{span_le}
use Rattle.theorems.proofs.Scanned.Classes.{or_left}
use Rattle.tokens.specs.Numbers.{number_len}
use Rattle.spelling.proofs.At.{at_in}
use Rattle.tokens.proofs.Runs.{span_some}
use Rattle.tokens.proofs.Digits.{whole_le, number_le}
use Rattle.spelling.proofs.Strings.{quoted_within}

pub data Shape (s : List ℕ) : Scanned → Type 0 where
  at_end : length s ≡ 0 → Shape s (token end 0)
  a_name : (n : ℕ) → 1 ≤ n → n ≤ length s → n ≤ 255 → Shape s (token (name (take n s)) n)
  an_integer : (n : ℕ) → 1 ≤ n → n ≤ length s → in_range (valued (take n s)) ≡ true → Shape s (token (literal (integer (valued (take n s)))) n)
  a_decimal : (n : ℕ) → 1 ≤ n → n ≤ length s → n ≤ 4095 → Shape s (token (literal (decimal (take n s))) n)
  a_string : (t : List ℕ) (n : ℕ) → 1 ≤ n → n ≤ length s → length t ≤ 4095 → Shape s (token (literal (string t)) n)
  a_mark : 1 ≤ length s → Shape s (token (mark (at s 0)) 1)
  a_fault : (k : ℕ) → Shape s (fault k)

empty_end : (s : List ℕ) → empty s ≡ true → length s ≡ 0
empty_end [] e = refl
empty_end (b ∷ s) e = absurd (false≢true e)

empty_not : (s : List ℕ) → empty s ≡ false → 1 ≤ length s
empty_not [] e = absurd (true≢false e)
empty_not (b ∷ s) e = omega arith

-- a byte that begins a name goes on it
name_some : (s : List ℕ) → empty s ≡ false → starts (at s 0) ≡ true → 1 ≤ span goes_on s
unfolding goes_on
name_some s e f =
    let h = empty_not s e in
    let g : goes_on (get_or s 0 0) ≡ true = ap goes_on (at_in s 0 h) ∙ rw f in
    span_some goes_on s h g

text_shape : (s : List ℕ) (o : Option (List ℕ × ℕ)) → quoted (length s) (drop 1 s) ≡ o → 1 ≤ length s → Shape s (text o)
unfolding text
text_shape s none e h = a_fault 2
text_shape s (some r) e h =
    let k = quoted_within (length s) (drop 1 s) r e in
    if_case (Shape s) _ _ _ (λ f. a_string r.0 (suc r.1) (omega arith) (omega (arith, k, length-drop 1 s)) (leb-true (length r.0) 4095 f)) (λ _. a_fault 6)

nonzero : (n : ℕ) → eqb n 0 ≡ false → 1 ≤ n
nonzero n e = go n (eqb-false n 0 e)
  where
    go : (n : ℕ) → (n ≡ 0 → ⊥) → 1 ≤ n
    go zero h = absurd (h refl)
    go (suc n) h = omega arith

pub shape : (s : List ℕ) → Shape s (scan s)
unfolding scan named number number_len
shape s =
    if_case (Shape s) _ _ _ (λ e. at_end (empty_end s e)) (λ e₁.
    if_case (Shape s) _ _ _
    (λ e₂. if_case (Shape s) _ _ _ (λ e₃. a_name (span goes_on s) (name_some s e₁ e₂) (span_le goes_on s) (leb-true (span goes_on s) 255 e₃)) (λ _. a_fault 6))
    (λ _.
    if_case (Shape s) _ _ _ (λ _. numbers (whole s) (whole_le s))
    (λ _.
    if_case (Shape s) _ _ _ (λ _. text_shape s (quoted (length s) (drop 1 s)) refl (empty_not s e₁)) (λ _.
    if_case (Shape s) _ _ _ (λ _. a_mark (empty_not s e₁)) (λ _. a_fault 2)))))
  where
    numbers : (n : ℕ) → n ≤ length s → Shape s (number n (number_len n s) s)
    numbers n h =
        let l = number_le n s h in
        if_case (Shape s) _ _ _ (λ _. a_fault 2) (λ e.
        let some_digits : 1 ≤ n = nonzero n (or_left (eqb n 0) (goes_on (at s (number_len n s))) (or_left (eqb n 0 || goes_on (at s (number_len n s))) (is "." (at s (number_len n s))) e)) in
        if_case (Shape s) _ _ _
        (λ _. if_case (Shape s) _ _ _ (λ f. a_decimal (number_len n s) (omega (arith, l)) l.1 (leb-true (number_len n s) 4095 f)) (λ _. a_fault 6))
        (λ _. if_case (Shape s) _ _ _ (λ f. an_integer n some_digits h f) (λ _. a_fault 4)))
