-- `table::whole::whole` meets its contract. Assumes nothing.
use mathlib.Core.Path.{sym, ◌∙◌, ap}
use mathlib.Core.Bool.{not}
use borrow.Author.Tests.{lt-ltb, ltb-true, ltb-false}
use Rattle.forms.proofs.Forms.{no_both}
use Rattle.table.proofs.Headers.{whole_wrong, whole_more, whole_text, whole_all}
use Rattle.table.proofs.whole.whole.Goals.{then-end-records, else-end-records}
use Rattle.table.proofs.whole.whole.Goals as goal

pub returns-in_default : goal.returns-in_default
returns-in_default c = whole_wrong c.args.records.now c.args.text.now c.args.n c.in_default.ensures

pub returns-then-not-left_over : goal.returns-then-not-left_over
returns-then-not-left_over c =
    let f = c.if-not-left_over.true in
    elim c.if-end-records.branch [
      | then-end-records w ↦ no_both (w.left_over-is ∙ lt-ltb _ _ w.if-end-records.true) f
      | else-end-records w ↦ whole_all c.args.records.now c.args.text.now c.args.n _ _ c.in-Some.ensures w.if-end-records.false c.distinct.result (ltb-false _ _ (sym w.left_over-is ∙ f)) c.distinct.ensures
    ]

pub returns-else-not-left_over : goal.returns-else-not-left_over
returns-else-not-left_over c =
    let t = c.if-not-left_over.false in
    ap not t ∙ elim c.if-end-records.branch [
      | then-end-records w ↦ whole_more c.args.records.now c.args.text.now c.args.n _ _ c.in-Some.ensures w.if-end-records.true
      | else-end-records w ↦ whole_text c.args.records.now c.args.text.now c.args.n _ _ c.in-Some.ensures w.if-end-records.false (ltb-true _ _ (sym w.left_over-is ∙ t))
    ]
