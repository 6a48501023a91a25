use Prim.Native.Nat.{ℕ, ◌≤◌}
use mathlib.Core.Path.{◌≡◌}
use Rattle.std.specs.Prelude.{Option as RustOption}
use Rattle.table.specs.Child.{found_from, found_in}
use Rattle.table.proofs.child.find_child.Given as goal

-- whatever is found from here on, in so many turns, is what is found from the first
abbrev pub invariant-loop-left : goal.invariant-loop-left
invariant-loop-left l =
    record {
      turns : ℕ;
      enough : l.left ≤ turns;
      so_far : (r : RustOption ℕ) → r ≡ found_from turns l.body.records.now l.body.text.now l.i l.left l.name → r ≡ found_in l.body.records.now l.body.text.now l.fn.from l.n l.name;
    }

abbrev pub decreases-loop-left : goal.decreases-loop-left
decreases-loop-left l = l.left
