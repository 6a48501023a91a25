use Prim.Native.Nat.{◌+◌, ◌-◌, ◌*◌, ◌≤◌}
use lib.ListN.{length}
use Rattle.std.specs.Prelude.{Option as RustOption}
use Rattle.layout.specs.declared.walk.Place.{Place}
use Rattle.layout.specs.Walk.{WalkIs}
use Rattle.steplist.specs.Walk.{statements_here, prototypes_here}
use Rattle.steplist.proofs.walk.+statements.Given as goal

-- the records that are left fall, and of those who call at the same record each has more than whom it calls
abbrev pub decreases-make : goal.decreases-make
decreases-make l = 8 * (length l.here.body.records.now - l.here.at.record)

abbrev pub decreases-value : goal.decreases-value
decreases-value l = 8 * (length l.here.body.records.now - l.here.at.record) + 1

abbrev pub decreases-statement : goal.decreases-statement
decreases-statement l = 8 * (length l.body.records.now - l.at.record) + 2

abbrev pub decreases-statements : goal.decreases-statements
decreases-statements l = 8 * (length l.body.records.now - l.first.record) + 3

abbrev pub decreases-prototype : goal.decreases-prototype
decreases-prototype l = 8 * (length l.here.body.records.now - l.here.at.record)

abbrev pub decreases-prototypes : goal.decreases-prototypes
decreases-prototypes l = 8 * (length l.body.records.now - l.first.record) + 4

-- whatever is read from here on gives, with what was passed, what is read from the first
abbrev pub invariant-prototypes-loop-body : goal.invariant-prototypes-loop-body
invariant-prototypes-loop-body l =
    record {
      on : l.fn.first.record ≤ l.at.record;
      so_far : (r : RustOption Place) → WalkIs (prototypes_here l.body.records.now l.body.text.now l.depth l.at.record l.at.text) l.body.records.now l.body.text.now r
          → WalkIs (prototypes_here l.body.records.now l.body.text.now l.depth l.fn.first.record l.fn.first.text) l.body.records.now l.body.text.now r;
    }

abbrev pub decreases-prototypes-loop-body : goal.decreases-prototypes-loop-body
decreases-prototypes-loop-body l = length l.body.records.now - l.at.record

abbrev pub invariant-statements-loop-body : goal.invariant-statements-loop-body
invariant-statements-loop-body l =
    record {
      on : l.fn.first.record ≤ l.at.record;
      so_far : (r : RustOption Place) → WalkIs (statements_here l.body.records.now l.body.text.now l.depth l.at.record l.at.text) l.body.records.now l.body.text.now r
          → WalkIs (statements_here l.body.records.now l.body.text.now l.depth l.fn.first.record l.fn.first.text) l.body.records.now l.body.text.now r;
    }

abbrev pub decreases-statements-loop-body : goal.decreases-statements-loop-body
decreases-statements-loop-body l = length l.body.records.now - l.at.record
