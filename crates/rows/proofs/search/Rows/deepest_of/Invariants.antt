use Prim.Native.Nat.{ℕ, max}
use mathlib.Core.Path.{◌≡◌}
use mathlib.Core.List.{List}
use Rattle.paper.specs.Layout.{deepest}
use Rattle.rows.proofs.Searches.{Upto}
use Rattle.rows.proofs.search.Rows.deepest_of.Given as goal

abbrev pub invariant-loop-i : goal.invariant-loop-i
invariant-loop-i l =
    let w = l.self.bytes.now in
    let n = l.self.count in
    (t u : List ℕ) → max l.most (deepest (Upto t u w n l.hi l.i)) ≡ deepest (Upto t u w n l.hi l.lo)
