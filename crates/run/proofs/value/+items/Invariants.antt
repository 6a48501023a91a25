use Prim.Native.Nat.{◌-◌, ◌≤◌}
use mathlib.Core.Path.{◌≡◌}
use lib.ListN.{length}
use Rattle.run.proofs.Valuing.{Goes}
use Rattle.run.proofs.value.+items.Given as goal

abbrev pub decreases-items : goal.decreases-items
decreases-items l = l.n

abbrev pub invariant-loop-k : goal.invariant-loop-k
invariant-loop-k l = (l.k ≤ l.n) × (length l.s ≡ 65536) × Goes l.list.bytes.now l.t l.i l.n l.q l.depth l.initial.s l.s l.k

abbrev pub decreases-loop-k : goal.decreases-loop-k
decreases-loop-k l = l.n - l.k
