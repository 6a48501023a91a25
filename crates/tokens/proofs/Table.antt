-- A rule of a table of any elements, proved at all of its entries by one test that antt computes. Assumes nothing.
use mathlib.Core.Path.{◌≡◌, ◌∙◌, subst, sym, refl}
use mathlib.Core.Bool.{Bool, true, false, ◌&&◌}
use mathlib.Core.List.{List, [], ◌∷◌}
use Prim.Native.Nat.{ℕ, zero, suc, ◌+◌, ◌<◌}
use native.Mathlib.Nat.{add-zero, zero-add, add-suc, suc-add, le_of_suc-le-suc, not-suc-le-zero}
use lib.ListN.{length, get_or}
use Rattle.theorems.proofs.Scanned.Classes.{and_left, and_right}

-- two tests say the same
abbrev pub agree : Bool → Bool → Bool
agree true true = true
agree true false = false
agree false true = false
agree false false = true

pub agreed : (a b : Bool) → agree a b ≡ true → a ≡ b
agreed true true e = refl
agreed true false e = sym e
agreed false true e = e
agreed false false e = refl

module _ {A : Type 0} (f : ℕ → A → Bool) where
  -- the test f passes at each entry of the list and its place, counted from i
  abbrev pub every : ℕ → List A → Bool
  every i [] = true
  every i (x ∷ xs) = f i x && every (suc i) xs

  from : (xs : List A) (i : ℕ) (d : A) → every i xs ≡ true → (k : ℕ) → k < length xs → f (i + k) (get_or xs k d) ≡ true
  from [] i d t k h = absurd (not-suc-le-zero h)
  from (x ∷ xs) i d t zero h = subst (λ (m : ℕ). f m x ≡ true) (sym (add-zero i)) (and_left (f i x) (every (suc i) xs) t)
  from (x ∷ xs) i d t (suc k) h =
      subst (λ (m : ℕ). f m (get_or xs k d) ≡ true) (suc-add i k ∙ sym (add-suc i k))
      (from xs (suc i) d (and_right (f i x) (every (suc i) xs) t) k (le_of_suc-le-suc h))

  pub entry : (xs : List A) (d : A) → every 0 xs ≡ true → (k : ℕ) → k < length xs → f k (get_or xs k d) ≡ true
  entry xs d t k h = subst (λ (m : ℕ). f m (get_or xs k d) ≡ true) (zero-add k) (from xs 0 d t k h)
