-- `load::rows_of::load`: the records passed are loaded. Assumes nothing.
use native.Mathlib.Omega.{arith}
use mathlib.Core.Path.{ap, ◌∙◌}
use Rattle.rows.specs.Change.{row_stored}
use Rattle.load.proofs.Loads.{load_none, load_turn, load_end}
use Rattle.load.proofs.Sizes.{loads_kept}
use Rattle.load.proofs.rows_of.load.Goals as goal

pub loop-i-init : goal.loop-i-init
loop-i-init c = load_none c.args.recs.now c.args.text.now c.args.w.now

pub loop-i-preserved : goal.loop-i-preserved
loop-i-preserved c =
    let a = c.args in
    let l = c.loop-i in
    load_turn a.recs.now a.text.now a.w.now l.w _ l.i (omega (arith, c.kept-n.ensures.1)) (omega (arith, c.kept-n.ensures.2)) l.invariant
    (c.put_row.ensures ∙ ap (row_stored l.w l.i) c.loaded_row.ensures)

pub returns : goal.returns
returns c =
    let a = c.args in
    let l = c.loop-i in
    let n = c.kept-n.ensures.0 ∙ loads_kept a.recs.now a.w.now in
    (load_end a.recs.now a.text.now a.w.now l.w l.i c.kept-n.result (omega arith) (omega arith) n l.invariant, n)
