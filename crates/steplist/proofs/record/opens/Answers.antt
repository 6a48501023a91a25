-- `steplist::record::opens` meets its contract. Assumes nothing.
use mathlib.Core.Path.{◌≡◌, sym, ◌∙◌}
use mathlib.Core.Bool.{◌||◌}
use lib.Dec.{eqb}
use borrow.Author.Tests.{eq-eqb, ne_eqb}
use Rattle.layout.proofs.Heads.{and_then, and_else, or_then, or_else}
use Rattle.steplist.proofs.Records.{opens_is}
use Rattle.steplist.proofs.record.opens.Goals.{then-step-number, else-step-number}
use Rattle.steplist.proofs.record.opens.Goals as goal

pub returns-then-fits : goal.returns-then-fits
returns-then-fits c =
    let o : c.if-step-number.opening ≡ (eqb c.step_at-step.result 2 || eqb c.step_at-step.result 3) = elim c.if-step-number.branch [ then-step-number w ↦ or_then _ (eq-eqb _ _ (w.if-step-number.true ∙ c.number.ensures)) (w.opening-is ∙ rw c.number.ensures) | else-step-number w ↦ or_else (ne_eqb _ _ (λ z. w.if-step-number.false (z ∙ sym c.number.ensures))) (w.opening-is ∙ rw w.number-else-step-number.ensures) ] in
    and_then (sym c.fits.ensures ∙ c.if-fits.true) o ∙ opens_is c.args.records.now c.args.i _ c.step_at-step.ensures

pub returns-else-fits : goal.returns-else-fits
returns-else-fits c =
    and_else _ (sym c.fits.ensures ∙ c.if-fits.false) c.fits.ensures ∙ opens_is c.args.records.now c.args.i _ c.step_at-step.ensures
