-- The byte at a place, as the code reads it and as the paper does. Assumes nothing.
use mathlib.Core.Path.{◌≡◌, refl, sym, ap, ◌∙◌}
use mathlib.Core.Bool.{Bool, true, false, true≢false}
use mathlib.Core.List.{List, [], ◌∷◌}
use Prim.Native.Nat.{ℕ, zero, suc, ◌+◌, ◌-◌, ◌<◌, ◌≤◌}
use native.Mathlib.Omega.{arith}
use native.Mathlib.Nat.{le_of_suc-le-suc, not-suc-le-zero}
use lib.ListN.{length, get_or, drop, take, length-drop, get_or-eq_default}
use lib.Seq.{take_all, get_or-drop}
use lib.Dec.{ltb}
use borrow.Author.Tests.{ltb-true, ltb-false}
use Rattle.paper.specs.Bytes.{at}

-- a byte that is there
pub at_in : (s : List ℕ) (i : ℕ) → i < length s → get_or s i 0 ≡ at s i
at_in [] i h = absurd (not-suc-le-zero h)
at_in (b ∷ s) zero h = refl
at_in (b ∷ s) (suc i) h = at_in s i (le_of_suc-le-suc h)

-- and one that is not
pub at_out : (s : List ℕ) (i : ℕ) → length s ≤ i → at s i ≡ 256
at_out s i h = get_or-eq_default s 256 h

pub at_drop : (s : List ℕ) (n i : ℕ) → at (drop n s) i ≡ at s (n + i)
at_drop s n i = get_or-drop n s i 256

-- the part `&s[a..]`
pub rest : (s : List ℕ) (a : ℕ) → take (length s - a) (drop a s) ≡ drop a s
rest s a = take_all (length s - a) (drop a s) (omega (arith, length-drop a s))

-- a byte that is there stands before the end
pub there : (s : List ℕ) (i b : ℕ) → at s i ≡ b → b < 256 → i < length s
there [] i b e h = absurd (omega arith)
there (x ∷ s) zero b e h = omega arith
there (x ∷ s) (suc i) b e h = let k = there s i b e h in omega arith

-- a byte of a class to which 256 does not belong is there
pub class_there : (p : ℕ → Bool) → p 256 ≡ false → (s : List ℕ) (i : ℕ) → p (at s i) ≡ true → i < length s
class_there p n s i e = go (ltb i (length s)) refl
  where
    go : (c : Bool) → ltb i (length s) ≡ c → i < length s
    go true h = ltb-true i (length s) h
    go false h = absurd (true≢false (sym e ∙ ap p (at_out s i (ltb-false i (length s) h)) ∙ n))
