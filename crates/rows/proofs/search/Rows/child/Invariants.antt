use mathlib.Core.Path.{◌≡◌}
use Rattle.rows.proofs.Searches.{Seeks}
use Rattle.rows.proofs.search.Rows.child.Given as goal

abbrev pub invariant-loop-i : goal.invariant-loop-i
invariant-loop-i l =
    let w = l.self.bytes.now in
    let n = l.self.count in
    Seeks l.texts.list.now l.texts.table.now w n l.name l.d l.lo ≡ Seeks l.texts.list.now l.texts.table.now w n l.name l.d l.i
