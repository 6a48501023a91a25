-- `Chosen::put_rows`: what the rows that are left make of the slice is what all of them make of it. Assumes nothing.
use native.Mathlib.Omega.{arith}
use mathlib.Core.Path.{◌∙◌, ap}
use Rattle.memory.specs.Memory.{stored}
use Rattle.write.proofs.Lays.{rows_begin, rows_texts, rows_more, rows_end}
use Rattle.write.proofs.chosen.Chosen.put_rows.Goals as goal

pub loop-i-init : goal.loop-i-init
loop-i-init c = let a = c.args in rows_begin a.texts.list.now a.texts.table.now a.self a.up a.out.now c.requires

pub record_of-requires : goal.record_of-requires
record_of-requires c = (c.loop-i-test.true, omega (arith, c.loop-i.invariant.room, c.loop-i.invariant.long))

pub put_texts-pos-requires : goal.put_texts-pos-requires
put_texts-pos-requires c =
    let a = c.args in
    let l = c.loop-i in
    rows_texts a.texts.list.now a.texts.table.now a.self a.up a.out.now c.requires l.out l.i l.at l.pos l.invariant c.loop-i-test.true _ c.row_at.result c.row_at.ensures c.store.auto.out

pub loop-i-preserved : goal.loop-i-preserved
loop-i-preserved c =
    let a = c.args in
    let l = c.loop-i in
    rows_more a.texts.list.now a.texts.table.now a.self a.up a.out.now c.requires l.out l.i l.at l.pos l.invariant c.loop-i-test.true _ _ c.put_texts-pos.result c.row_at.result c.row_at.ensures
    (c.store.ensures ∙ ap (stored l.out l.at) c.record_of.ensures) c.put_texts-pos.ensures.0 c.put_texts-pos.ensures.1

pub returns : goal.returns
returns c =
    let a = c.args in
    let l = c.loop-i in
    rows_end a.texts.list.now a.texts.table.now a.self a.up a.out.now c.requires l.out l.i l.at l.pos l.invariant c.loop-i-test.false
