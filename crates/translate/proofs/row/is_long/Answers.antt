-- `is_long`: by the kinds. Assumes nothing.
use Rattle.translate.proofs.Rules.Rows.{is_decimal, is_string}
use Rattle.translate.proofs.row.is_long.Goals as goal

pub returns-then-kind-number : goal.returns-then-kind-number
returns-then-kind-number c = is_decimal _ _ c.number.ensures c.if-kind-number.true

pub returns-else-kind-number : goal.returns-else-kind-number
returns-else-kind-number c = is_string _ _ _ c.number.ensures c.if-kind-number.false c.number-else-kind-number.ensures
