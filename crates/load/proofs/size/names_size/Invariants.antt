use Prim.Native.Nat.{◌+◌, ◌*◌, ◌-◌, ◌≤◌}
use mathlib.Core.Path.{◌≡◌}
use Rattle.load.specs.Load.{names_size}
use Rattle.load.proofs.size.names_size.Given as goal

abbrev pub invariant-loop : goal.invariant-loop
invariant-loop l = (l.sum + names_size (l.n - l.counter) l.rest ≡ names_size l.n l.text) × (l.sum ≤ 256 * l.counter)
