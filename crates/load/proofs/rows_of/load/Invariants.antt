use mathlib.Core.Path.{◌≡◌}
use Rattle.memory.specs.Memory.{stored}
use Rattle.load.specs.Load.{loaded}
use Rattle.load.proofs.rows_of.load.Given as goal

abbrev pub invariant-loop-i : goal.invariant-loop-i
invariant-loop-i l = l.w ≡ stored l.initial.w 0 (loaded l.recs l.text 0 l.i)
