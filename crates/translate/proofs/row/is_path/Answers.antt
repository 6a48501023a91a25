-- `is_path`: by the step, then by the kind. Assumes nothing.
use Rattle.translate.proofs.Rules.Rows.{is_link, is_reference}
use Rattle.translate.proofs.row.is_path.Goals as goal

pub returns-then-step-number : goal.returns-then-step-number
returns-then-step-number c = is_link _ _ _ c.number.ensures c.if-step-number.true

pub returns-else-step-number : goal.returns-else-step-number
returns-else-step-number c = is_reference _ _ _ _ c.number.ensures c.if-step-number.false c.number-else-step-number.ensures
