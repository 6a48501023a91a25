-- `run::put::put_bounded` meets its contract. Assumes nothing.
use mathlib.Core.Path.{refl}
use Rattle.run.proofs.Putting.{over_place, over_depth, over_nodes, over_text, within}
use Rattle.run.proofs.put.put_bounded.Goals as goal
use Rattle.run.proofs.put.put_bounded.Goals.{then-d-gt-DEPTH-via-then-d-gt-DEPTH, then-d-gt-DEPTH-via-else-d-gt-DEPTH+then-deepest_of-gt-DEPTH}

pub returns-then-d-gt-DEPTH : goal.returns-then-d-gt-DEPTH
returns-then-d-gt-DEPTH c =
    let a = c.args in
    let p = c.requires in (
      tt,
      λ pre q k v low l is ev et sh. elim c.then-d-gt-DEPTH.branch [
        | then-d-gt-DEPTH-via-then-d-gt-DEPTH w ↦ over_place a.texts.list.now a.texts.table.now a.w.now a.new.rows.bytes.now a.w.now a.size.rows a.new.rows.count a.lo a.d a.size.text a.name.now a.new.few a.new.room _ refl pre q k v ev w.if-d-gt-DEPTH.true
        | then-d-gt-DEPTH-via-else-d-gt-DEPTH+then-deepest_of-gt-DEPTH w ↦ over_depth a.texts.list.now a.texts.table.now a.w.now a.new.rows.bytes.now a.w.now a.size.rows a.new.rows.count a.lo a.d a.size.text a.name.now a.new.few a.new.room w.deepest_of.result (w.deepest_of.ensures a.texts.list.now a.texts.table.now) pre q k v ev w.if-deepest_of-gt-DEPTH.true
      ],
    )

pub returns-then-grown-gt-NODES : goal.returns-then-grown-gt-NODES
returns-then-grown-gt-NODES c = let a = c.args in let p = c.requires in (tt, λ pre q k v low l is ev et sh. over_nodes a.texts.list.now a.texts.table.now a.w.now a.new.rows.bytes.now c.put_in-grown.new.w a.size.rows a.new.rows.count a.lo a.d a.size.text a.name.now a.new.few a.new.room c.deepest_of.result (c.deepest_of.ensures a.texts.list.now a.texts.table.now) pre q k v ev c.put_in-grown.result.rows c.put_in-grown.result.text c.put_in-grown.ensures low l is et sh c.if-deepest_of-gt-DEPTH.false c.if-grown-gt-NODES.true)

pub returns-then-grown-gt-TEXT : goal.returns-then-grown-gt-TEXT
returns-then-grown-gt-TEXT c = let a = c.args in let p = c.requires in (tt, λ pre q k v low l is ev et sh. over_text a.texts.list.now a.texts.table.now a.w.now a.new.rows.bytes.now c.put_in-grown.new.w a.size.rows a.new.rows.count a.lo a.d a.size.text a.name.now a.new.few a.new.room c.deepest_of.result (c.deepest_of.ensures a.texts.list.now a.texts.table.now) pre q k v ev c.put_in-grown.result.rows c.put_in-grown.result.text c.put_in-grown.ensures low l is et sh c.if-deepest_of-gt-DEPTH.false c.if-grown-gt-NODES.false c.if-grown-gt-TEXT.true)

pub returns : goal.returns
returns c = let a = c.args in let p = c.requires in (c.if-d-gt-DEPTH.false, λ pre q k v low l is ev et sh. within a.texts.list.now a.texts.table.now a.w.now a.new.rows.bytes.now c.put_in-grown.new.w a.size.rows a.new.rows.count a.lo a.d a.size.text a.name.now a.new.few a.new.room c.deepest_of.result (c.deepest_of.ensures a.texts.list.now a.texts.table.now) pre q k v ev c.put_in-grown.result.rows c.put_in-grown.result.text c.put_in-grown.ensures low l is et sh c.if-deepest_of-gt-DEPTH.false c.if-grown-gt-NODES.false c.if-grown-gt-TEXT.false)
