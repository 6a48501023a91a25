-- `forms::form::item` meets its contract. Assumes nothing.
use mathlib.Core.Path.{◌∙◌, sym}
use borrow.Author.Tests.{eqb-true, eqb-false, ne_eqb}
use Rattle.forms.proofs.Forms.{no_both, item_other, item_named, item_placed}
use Rattle.forms.proofs.form.item.Goals.{then-step_at-number, else-step_at-number}
use Rattle.forms.proofs.form.item.Goals as goal

pub returns-then-label_at-eq0 : goal.returns-then-label_at-eq0
returns-then-label_at-eq0 c =
    let t = c.if-label_at-eq0.true in
    elim c.if-step_at-number.branch [
      | then-step_at-number w ↦ item_placed c.args.recs.now c.args.i 0 _ c.step_at.ensures (w.if-step_at-number.true ∙ c.number.ensures) _ w.label_at.ensures.0 _ c.place_at.ensures (eqb-true _ _ (sym w.value-is ∙ t))
      | else-step_at-number w ↦ no_both t (w.value-is ∙ ne_eqb _ _ w.if-step_at-number.false)
    ]

pub returns-else-label_at-eq0 : goal.returns-else-label_at-eq0
returns-else-label_at-eq0 c =
    let f = c.if-label_at-eq0.false in
    f ∙ elim c.if-step_at-number.branch [
      | then-step_at-number w ↦ item_named c.args.recs.now c.args.i 0 _ c.step_at.ensures (w.if-step_at-number.true ∙ c.number.ensures) _ w.label_at.ensures.0 (eqb-false _ _ (sym w.value-is ∙ f))
      | else-step_at-number w ↦ item_other c.args.recs.now c.args.i 0 _ c.step_at.ensures (λ e. w.if-step_at-number.false (e ∙ sym c.number.ensures))
    ]
