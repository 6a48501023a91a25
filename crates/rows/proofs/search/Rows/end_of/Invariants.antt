use Prim.Native.Nat.{ℕ}
use mathlib.Core.Path.{◌≡◌}
use mathlib.Core.List.{List}
use Rattle.rows.proofs.Searches.{Ends}
use Rattle.rows.proofs.search.Rows.end_of.Given as goal

abbrev pub invariant-loop-i : goal.invariant-loop-i
invariant-loop-i l =
    let w = l.self.bytes.now in
    let n = l.self.count in
    (t u : List ℕ) → Ends t u w n l.d l.lo ≡ Ends t u w n l.d l.i
