use Prim.Native.Nat.{◌+◌, ◌-◌, ◌*◌, ◌≤◌}
use lib.ListN.{length}
use Rattle.std.specs.Prelude.{Option as RustOption}
use Rattle.layout.specs.declared.walk.Place.{Place}
use Rattle.layout.specs.Walk.{WalkIs, elements_here}
use Rattle.layout.proofs.walk.+basic_elements.Given as goal

abbrev pub decreases-basic : goal.decreases-basic
decreases-basic l = 2 * (l.span - 1) + 1

abbrev pub decreases-elements : goal.decreases-elements
decreases-elements l = 2 * l.n

-- whatever is read from here on gives, with the elements passed, what is read from the first
abbrev pub invariant-elements-loop-left : goal.invariant-elements-loop-left
invariant-elements-loop-left l =
    record {
      few : l.left ≤ l.n;
      inside : l.at.record ≤ length l.body.records.now;
      so_far : (r : RustOption Place) → WalkIs (elements_here l.form l.body.records.now l.body.text.now l.depth l.left l.at.record l.at.text) l.body.records.now l.body.text.now r
          → WalkIs (elements_here l.form l.body.records.now l.body.text.now l.depth l.n l.fn.first.record l.fn.first.text) l.body.records.now l.body.text.now r;
    }

abbrev pub decreases-elements-loop-left : goal.decreases-elements-loop-left
decreases-elements-loop-left l = l.left
