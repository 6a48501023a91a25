use Prim.Native.Nat.{◌+◌, ◌*◌, ◌-◌, ◌≤◌}
use mathlib.Core.Path.{◌≡◌}
use lib.ListN.{length, drop}
use Rattle.paper.specs.Layout.{texts}
use Rattle.rows.specs.View.{view}
use Rattle.write.proofs.chosen.Chosen.text_size.Given as goal

abbrev pub invariant-loop-i : goal.invariant-loop-i
invariant-loop-i l =
    let rows = view l.texts.list.now l.texts.table.now l.self.bytes.now l.self.last in
    (l.sum ≤ 65791 * (l.i - l.self.first)) × (l.sum + length (texts (drop l.i rows)) ≡ length (texts (drop l.self.first rows)))
