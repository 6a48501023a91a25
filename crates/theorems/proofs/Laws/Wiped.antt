-- Work slices that are wiped: what is in front and behind, twice is once, and that only 8 leaves one as it was. Assumes nothing.
use Prim.Native.Nat.{ℕ, ◌≤◌, ◌<◌}
use native.Mathlib.Omega.{arith}
use mathlib.Core.Path.{◌≡◌, refl, ap}
use mathlib.Core.List.{List, ◌++◌}
use lib.ListN.{length, drop, length-append, length-drop, length-replicate}
use lib.Seq.{drop_at}
use borrow.Author.Tests.{ne_eqb}
use Rattle.paper.specs.Answer.{Answer}
use Rattle.paper.specs.Limits.{least_work}
use Rattle.paper.specs.Lent.{zeros, wiped, cleared}
use Rattle.theorems.proofs.Laws.Gives.{Gives, gives, refuses, gives_weaken}

pub zeros_length : (n : ℕ) → length (zeros n) ≡ n
unfolding zeros
zeros_length n = length-replicate {A = ℕ} n 0

pub wiped_length : (w : List ℕ) → least_work ≤ length w → length (wiped w) ≡ length w
unfolding wiped
wiped_length w l = rw (length-append (zeros least_work) (drop least_work w), zeros_length least_work, length-drop least_work w) (omega arith)

pub wiped_long : (w : List ℕ) → least_work ≤ length w → least_work ≤ length (wiped w)
wiped_long w l = omega (arith, wiped_length w l)

pub wiped_behind : (w : List ℕ) → drop least_work (wiped w) ≡ drop least_work w
unfolding wiped
wiped_behind w = drop_at (zeros least_work) (drop least_work w) least_work (zeros_length least_work)

pub wiped_twice : (w : List ℕ) → wiped (wiped w) ≡ wiped w
unfolding wiped
wiped_twice w = ap (λ x. zeros least_work ++ x) (wiped_behind w)

-- a number that is not 8
abbrev pub Other : ℕ → Type 0
Other n = n ≡ 8 → ⊥

abbrev pub Any : List ℕ → Type 0
Any b = Unit {0}

pub cleared_wiped : (a : Answer (List ℕ)) (w : List ℕ) → Gives Other Any a → cleared a w ≡ wiped w
unfolding cleared
cleared_wiped a w (gives h) = refl
cleared_wiped a w (refuses {n} h) = rw (ne_eqb n 8 h, cleared)

-- a number above 8 is not 8
pub high_other : {a : Answer (List ℕ)} → Gives (λ n. 8 < n) Any a → Gives Other Any a
high_other g = gives_weaken (λ n q e. omega arith) (λ b h. tt) g
