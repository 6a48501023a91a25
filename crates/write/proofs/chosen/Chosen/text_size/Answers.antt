-- `Chosen::text_size`: what is counted and what is left come to the whole. Assumes nothing.
use native.Mathlib.Omega.{arith}
use Rattle.write.proofs.Lays.{size_more, size_end}
use Rattle.write.proofs.chosen.Chosen.text_size.Goals as goal

pub loop-i-preserved : goal.loop-i-preserved
loop-i-preserved c =
    let a = c.args in
    let l = c.loop-i in
    (omega (arith, c.row_size-sum.ensures.1), size_more a.texts.list.now a.texts.table.now a.self l.i l.sum c.row_size-sum.result _ c.row_at.result c.row_at.ensures c.loop-i-test.true c.row_size-sum.ensures.0 l.invariant.1)

pub returns : goal.returns
returns c =
    let a = c.args in
    let l = c.loop-i in
    (size_end a.texts.list.now a.texts.table.now a.self l.i l.sum _ c.loop-i-test.false l.invariant.1, omega (arith, a.self.few))
