-- `write::whole::write` meets its contract. Assumes nothing.
use Rattle.write.proofs.Lays.{write_short, write_put}
use Rattle.write.proofs.whole.write.Goals as goal

pub returns-then-out-total : goal.returns-then-out-total
returns-then-out-total c =
    let a = c.args in
    let s = c.new-chosen in
    write_short a.texts.list.now a.texts.table.now s.result a.rows.bytes.now a.rows.count a.lo a.hi a.up c.text_size-size.result a.out.now
    s.ensures.bytes s.ensures.last s.ensures.first c.text_size-size.ensures.0 c.if-out-total.true

pub returns : goal.returns
returns c =
    let a = c.args in
    let s = c.new-chosen in
    write_put a.texts.list.now a.texts.table.now s.result a.rows.bytes.now a.rows.count a.lo a.hi a.up c.text_size-size.result a.out.now
    s.ensures.bytes s.ensures.last s.ensures.first c.text_size-size.ensures.0 _ _ c.if-out-total.false c.put_header.ensures c.put_rows.ensures
