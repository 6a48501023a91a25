use Prim.Native.Nat.{ℕ, ◌+◌, ◌*◌, ◌≤◌}
use mathlib.Core.Path.{◌≡◌}
use mathlib.Core.List.{List}
use Rattle.rows.specs.Search.{text_bytes}
use Rattle.rows.proofs.Searches.{Upto}
use Rattle.rows.proofs.search.Rows.text_of.Given as goal

abbrev pub invariant-loop-i : goal.invariant-loop-i
invariant-loop-i l =
    let w = l.self.bytes.now in
    let n = l.self.count in
    (l.sum ≤ 65535 * l.i) × ((t u : List ℕ) → l.sum + text_bytes (Upto t u w n l.hi l.i) ≡ text_bytes (Upto t u w n l.hi l.lo))
