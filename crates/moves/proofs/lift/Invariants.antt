use Prim.Native.Nat.{◌+◌, ◌-◌, ◌*◌}
use mathlib.Core.Path.{◌≡◌}
use Rattle.memory.specs.Memory.{stored}
use Rattle.rows.specs.Change.{lifted}
use Rattle.moves.proofs.lift.Given as goal

abbrev pub invariant-loop-j : goal.invariant-loop-j
invariant-loop-j l =
    let k = l.hi - l.lo in
    stored l.s ((l.q + l.j) * 16) (lifted l.w l.from l.to (l.lo + l.j) (k - l.j)) ≡ stored l.initial.s (l.q * 16) (lifted l.w l.from l.to l.lo k)
