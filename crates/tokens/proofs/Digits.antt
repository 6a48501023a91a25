-- Laws of digits and of the numbers that they say. Assumes nothing.
use mathlib.Core.Path.{◌≡◌, refl, sym, ap, ◌∙◌}
use mathlib.Core.Bool.{Bool, true, false}
use mathlib.Core.List.{List, [], ◌∷◌}
use Prim.Native.Nat.{ℕ, zero, suc, ◌+◌, ◌-◌, ◌*◌, ◌^◌, ◌≤◌, ◌<◌}
use native.Mathlib.Numerals.{add-one}
use native.Mathlib.Nat.{le_refl, le_trans}
use native.Mathlib.Omega.{arith}
use lib.ListN.{length, drop, get_or, take, drop_of_length-le, length-drop, length-take}
use lib.Seq.{drop-cons, get_or-drop, get_or-take}
use lib.Dec.{leb, ltb}
use lib.IntN.{pos, negsuc, neg_ℤ}
use borrow.Author.Tests.{le-leb, lt-leb, ltb-true, ltb-false, leb-true}
use Rattle.paper.specs.Bytes.{at, is, among, when◌then◌else◌}
use Rattle.paper.specs.Tokens.{digit, count, valued, in_range}
use Rattle.paper.specs.Scanner.{span, digits_after, sign, whole, fraction, exponent}
use Rattle.paper.specs.Layout.{complement}
use Rattle.std.specs.Prelude.{Some, None, ◌%◌}
use Rattle.std.specs.Prelude as Rust
use Rattle.std.specs.Option.{option_map}
use Rattle.tokens.specs.Numbers.{Digits, number_len, amount_of, integer_of}
use Rattle.theorems.proofs.Laws.Rescan.{span_le}
use Rattle.theorems.proofs.Laws.Answers.{if_case}
use Rattle.theorems.proofs.Scanned.Classes.{and_left}

-- ---- lengths

pub after_none : (n : ℕ) (s : List ℕ) → span digit (drop n s) ≡ 0 → 0 ≡ digits_after n s
unfolding digits_after
after_none n s e = rw (e, digits_after)

pub after_some : (n : ℕ) (s : List ℕ) (k : ℕ) → span digit (drop n s) ≡ suc k → n + suc k ≡ digits_after n s
unfolding digits_after
after_some n s k e = rw (e, digits_after)

-- the code's answer, where some stand there
pub after_end : (n k : ℕ) (s : List ℕ) → k ≡ span digit (drop n s) → (k ≡ 0 → ⊥) → n + k ≡ digits_after n s
after_end n zero s h f = absurd (f refl)
after_end n (suc k) s h f = after_some n s k (sym h)

-- ---- they lie within the source

digits_le : (n : ℕ) (s : List ℕ) → digits_after n s ≤ length s
digits_le n s = go (span digit (drop n s)) refl
  where
    go : (k : ℕ) → span digit (drop n s) ≡ k → digits_after n s ≤ length s
    go zero e = omega (arith, after_none n s e)
    go (suc k) e = omega (arith, after_some n s k e, span_le digit (drop n s), length-drop n s)

pub whole_le : (s : List ℕ) → whole s ≤ length s
unfolding whole
whole_le s = digits_le (sign (is "-") (at s 0)) s

pub fraction_le : (s : List ℕ) → fraction s ≤ length s
unfolding fraction
fraction_le s = if_case (λ i. i ≤ length s) _ _ _ (λ _. digits_le 1 s) (λ _. omega arith)

pub exponent_le : (s : List ℕ) → exponent s ≤ length s
unfolding exponent
exponent_le s = if_case (λ i. i ≤ length s) _ _ _ (λ _. digits_le (1 + sign (among "+-") (at s 1)) s) (λ _. omega arith)

pub number_le : (n : ℕ) (s : List ℕ) → n ≤ length s → (n ≤ number_len n s) × (number_len n s ≤ length s)
unfolding number_len
number_le n s h =
    let m = n + fraction (drop n s) in
    let f = fraction_le (drop n s) in
    let e = exponent_le (drop m s) in
    (omega arith, omega (arith, length-drop n s, length-drop m s))

-- ---- values

pub count_more : (s : List ℕ) (v i : ℕ) → i < length s → count v (drop i s) ≡ count (v * 10 + (get_or s i 0 - 48)) (drop (i + 1) s)
unfolding count
count_more s v i h = rw (add-one, drop-cons s i 0 h)

-- digits only make a number larger
grows : (v : ℕ) (s : List ℕ) → v ≤ count v s
unfolding count
grows v [] = le_refl v
grows v (b ∷ bs) = le_trans (omega arith) (grows (v * 10 + (b - 48)) bs)

pub at_least : (s : List ℕ) (v i n : ℕ) → i < length s → n ≡ count v (drop i s) → v * 10 + (get_or s i 0 - 48) ≤ n
at_least s v i n h e = rw (e ∙ count_more s v i h) (grows (v * 10 + (get_or s i 0 - 48)) (drop (i + 1) s))

pub count_end : (s : List ℕ) (v i n : ℕ) → length s ≤ i → n ≡ count v (drop i s) → n ≡ v
unfolding count
count_end s v i n h e = e ∙ ap (count v) (drop_of_length-le s h)

-- what is more than the limit is none; a value within it is one
pub too_large : (limit v : ℕ) → limit < v → None ≡ amount_of limit v
unfolding amount_of when◌then◌else◌
too_large limit v h = simp (lt-leb v limit h)

pub fits : (limit v : ℕ) → v ≤ limit → Some v ≡ amount_of limit v
unfolding amount_of when◌then◌else◌
fits limit v h = simp (le-leb v limit h)

-- ---- integers

-- the 64 bits of the number less than nothing by v
abbrev pub minus : ℕ → ℕ
minus v = complement (neg_ℤ (pos v))

in_range_pos : (n : ℕ) → amount_of 9223372036854775807 n ≡ integer_of (pos n)
unfolding integer_of complement in_range when◌then◌else◌
in_range_pos n = go (ltb n (2 ^ 63)) refl
  where
    go : (c : Bool) → ltb n (2 ^ 63) ≡ c → amount_of 9223372036854775807 n ≡ integer_of (pos n)
    go true e = let h = ltb-true n (2 ^ 63) e in sym (fits 9223372036854775807 n (omega arith)) ∙ rw e
    go false e = let h = ltb-false n (2 ^ 63) e in sym (too_large 9223372036854775807 n (omega arith)) ∙ rw e

in_range_neg : (v : ℕ) → option_map minus (amount_of 9223372036854775808 v) ≡ integer_of (neg_ℤ (pos v))
unfolding integer_of complement in_range when◌then◌else◌
in_range_neg zero = ap (option_map minus) (sym (fits 9223372036854775808 0 (omega arith)))
in_range_neg (suc k) = go (ltb k (2 ^ 63)) refl
  where
    go : (c : Bool) → ltb k (2 ^ 63) ≡ c → option_map minus (amount_of 9223372036854775808 (suc k)) ≡ integer_of (negsuc k)
    go true e = let h = ltb-true k (2 ^ 63) e in ap (option_map minus) (sym (fits 9223372036854775808 (suc k) (omega arith))) ∙ rw e
    go false e = let h = ltb-false k (2 ^ 63) e in ap (option_map minus) (sym (too_large 9223372036854775808 (suc k) (omega arith))) ∙ rw e

module _ (s : List ℕ) where
  pub integer_plain : is "-" (at s 0) ≡ false → amount_of 9223372036854775807 (count 0 s) ≡ integer_of (valued s)
  unfolding valued when◌then◌else◌
  integer_plain e = rw e (in_range_pos (count 0 s))

  pub integer_minus : is "-" (at s 0) ≡ true → option_map minus (amount_of 9223372036854775808 (count 0 (drop 1 s))) ≡ integer_of (valued s)
  unfolding valued when◌then◌else◌
  integer_minus e = rw e (in_range_neg (count 0 (drop 1 s)))

-- ---- the bytes of an integer are digits

digit_low : (b : ℕ) → digit b ≡ true → 48 ≤ b
unfolding digit
digit_low b e = leb-true 48 b (and_left (leb 48 b) (leb b 57) e)

span_digits : (s : List ℕ) (k : ℕ) → k < span digit s → 48 ≤ get_or s k 0
unfolding span
span_digits [] k h = absurd (omega arith)
span_digits (b ∷ s) k h = go (digit b) refl k h (λ j l. span_digits s j l)
  where
    go : (c : Bool) → digit b ≡ c → (k : ℕ) → k < span digit (b ∷ s) → ((j : ℕ) → j < span digit s → 48 ≤ get_or s j 0) → 48 ≤ get_or (b ∷ s) k 0
    go true e zero h again = digit_low b e
    go true e (suc k) h again = let l : suc k < suc (span digit s) = rw (e, span) at h in again k (omega arith)
    go false e k h again = let l : k < 0 = rw (e, span) at h in absurd (omega arith)

after_digits : (g n : ℕ) (s : List ℕ) → n ≡ digits_after g s → (i : ℕ) → g ≤ i → i < n → 48 ≤ get_or s i 0
after_digits g n s e i l h = go (span digit (drop g s)) refl
  where
    go : (k : ℕ) → span digit (drop g s) ≡ k → 48 ≤ get_or s i 0
    go zero q = absurd (omega (arith, after_none g s q))
    go (suc k) q =
        let f : g + (i - g) ≡ i = omega arith in
        let d : get_or (drop g s) (i - g) 0 ≡ get_or s i 0 = get_or-drop g s (i - g) 0 ∙ ap (λ (j : ℕ). get_or s j 0) f in
        omega (arith, d, span_digits (drop g s) (i - g) (omega (arith, after_some g s k q)))

pub whole_digits : (n : ℕ) (s : List ℕ) → n ≡ whole s → Digits (drop (sign (is "-") (at (take n s) 0)) (take n s))
unfolding whole
whole_digits n s e i h =
    let g = sign (is "-") (at (take n s) 0) in
    let m : g + i < n = omega (arith, length-take n s, length-drop g (take n s)) in
    let a : at (take n s) 0 ≡ at s 0 = get_or-take n s 0 256 (omega arith) in
    let f : g ≡ sign (is "-") (at s 0) = ap (sign (is "-")) a in
    omega (
      arith,
      get_or-drop g (take n s) i 0,
      get_or-take n s (g + i) 0 m,
      after_digits (sign (is "-") (at s 0)) n s e (g + i) (omega arith) m,
    )

pub sign_none : (p : ℕ → Bool) (b : ℕ) → p b ≡ false → sign p b ≡ 0
unfolding sign when◌then◌else◌
sign_none p b e = rw e

pub sign_one : (p : ℕ → Bool) (b : ℕ) → p b ≡ true → sign p b ≡ 1
unfolding sign when◌then◌else◌
sign_one p b e = rw e

-- an amount is within the limit
pub amount_le : (limit n v : ℕ) → Some v ≡ amount_of limit n → v ≤ limit
unfolding amount_of when◌then◌else◌
amount_le limit n v e = go (leb n limit) refl
  where
    go : (c : Bool) → leb n limit ≡ c → v ≤ limit
    go true h = let f : Some v ≡ Some n = rw h at e in let q : v ≡ n = cc in omega (arith, leb-true n limit h)
    go false h = let f : ◌≡◌ {A = Rust.Option ℕ} (Some v) None = rw h at e in cc

-- what wraps around to v's negation is its two's complement
pub negated : (v r : ℕ) → v ≤ 9223372036854775808 → r < 18446744073709551616 → (r + v) % 18446744073709551616 ≡ 0 → r ≡ minus v
unfolding complement
negated zero r h l e = omega arith
negated (suc v) r h l e = omega arith
