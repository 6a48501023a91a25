-- `Chosen::record_of` meets its contract. Assumes nothing.
use Prim.Native.Nat.{suc}
use native.Mathlib.Omega.{arith}
use lib.ListN.{drop}
use Rattle.rows.specs.View.{view}
use Rattle.write.proofs.Records.{record_is}
use Rattle.write.proofs.chosen.Chosen.record_of.Goals as goal

pub returns : goal.returns
returns c =
    let a = c.args in
    let t = a.texts.list.now in
    let u = a.texts.table.now in
    let w = a.self.bytes.now in
    record_is t u w a.i a.up a.pos (drop (suc a.i) (view t u w a.self.last)) c.row_at-row.result c.row_at-row.ensures _ _ _ _ c.label_text-name.result.now
    (omega arith) (c.label_figure.ensures t u) (c.span_of.ensures t u) c.label_text-name.ensures.0 (c.value_figure.ensures t u)
