use Prim.Native.Nat.{◌+◌, ◌*◌, ◌≤◌}
use Rattle.std.specs.Prelude.{Option as RustOption}
use Rattle.layout.specs.declared.walk.Place.{Place}
use Rattle.layout.specs.Walk.{WalkIs}
use Rattle.table.specs.Walk.{entries_here}
use Rattle.table.proofs.walk.+entries_value.Given as goal

abbrev pub decreases-entries : goal.decreases-entries
decreases-entries l = 2 * l.n + 1

abbrev pub decreases-value : goal.decreases-value
decreases-value l = 2 * l.span

-- whatever is read from here on gives, with the attributes passed, what is read from the first
abbrev pub invariant-entries-loop-left : goal.invariant-entries-loop-left
invariant-entries-loop-left l =
    record {
      few : l.left ≤ l.n;
      so_far : (r : RustOption Place) → WalkIs (entries_here l.body.records.now l.body.text.now l.depth l.left l.at.record l.at.text) l.body.records.now l.body.text.now r
          → WalkIs (entries_here l.body.records.now l.body.text.now l.depth l.n l.fn.first.record l.fn.first.text) l.body.records.now l.body.text.now r;
    }

abbrev pub decreases-entries-loop-left : goal.decreases-entries-loop-left
decreases-entries-loop-left l = l.left
