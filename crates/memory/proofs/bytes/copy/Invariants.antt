use Prim.Native.Nat.{◌+◌}
use mathlib.Core.Path.{◌≡◌}
use lib.ListN.{length, drop}
use lib.Seq.{sets}
use Rattle.memory.proofs.bytes.copy.Given as goal

abbrev pub invariant-loop-i : goal.invariant-loop-i
invariant-loop-i l = (length l.dst ≡ length l.initial.dst) × (sets l.dst (l.at + l.i) (drop l.i l.src) ≡ sets l.initial.dst l.at l.src)
