use Prim.Native.Nat.{◌+◌, ◌*◌, ◌≤◌}
use mathlib.Core.Bool.{Bool}
use Rattle.table.specs.Child.{DistinctIs}
use Rattle.table.proofs.once.+distinct_distinct_in.Given as goal

abbrev pub decreases-distinct : goal.decreases-distinct
decreases-distinct l = 2 * l.n + 1

abbrev pub decreases-distinct_in : goal.decreases-distinct_in
decreases-distinct_in l = 2 * l.span

-- whatever is so of the attributes from here on is so of all, if those passed are distinct
abbrev pub invariant-distinct-loop-left : goal.invariant-distinct-loop-left
invariant-distinct-loop-left l =
    record {
      few : l.left ≤ l.n;
      so_far : (r : Bool) → DistinctIs l.body.records.now l.body.text.now l.i l.left r → DistinctIs l.body.records.now l.body.text.now l.fn.from l.n r;
    }

abbrev pub decreases-distinct-loop-left : goal.decreases-distinct-loop-left
decreases-distinct-loop-left l = l.left
