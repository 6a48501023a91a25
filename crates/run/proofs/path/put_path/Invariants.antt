use Prim.Native.Nat.{◌+◌, ◌*◌, ◌≤◌}
use mathlib.Core.Path.{◌≡◌}
use lib.ListN.{length}
use Rattle.memory.specs.Memory.{stored}
use Rattle.run.specs.Listed.{places}
use Rattle.run.proofs.Placing.{after}
use Rattle.run.proofs.path.put_path.Given as goal

abbrev pub invariant-loop-i : goal.invariant-loop-i
invariant-loop-i l = (l.i ≤ l.n) × (l.q ≤ l.p + 1 + 256 * l.i) × (length l.s ≡ length l.initial.s) × (l.q ≡ after l.t (l.p + 1) l.i) × (l.s ≡ stored l.initial.s l.at (places l.t (l.p + 1) l.i))
