use mathlib.Core.Path.{◌≡◌}
use lib.ListN.{length, take, drop}
use lib.Seq.{sets}
use Rattle.memory.proofs.bytes.move_up.Given as goal

abbrev pub invariant-loop-i : goal.invariant-loop-i
invariant-loop-i l = (length l.s ≡ length l.initial.s) × (sets l.s l.to (take l.i (drop l.from l.s)) ≡ sets l.initial.s l.to (take l.n (drop l.from l.initial.s)))
