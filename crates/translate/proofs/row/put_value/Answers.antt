-- `put_value`: by the sorts of value. Assumes nothing.
use mathlib.Core.Path.{sym, ◌∙◌}
use Rattle.translate.proofs.Rules.Rows.{value_fits, value_put, decimal_fits, decimal_put, string_fits, string_put, value_empty}
use Rattle.translate.proofs.row.put_value.Goals as goal

pub put_path-requires : goal.put_path-requires
put_path-requires c = value_fits c.requires c.is_path.ensures c.if-is_path.true

pub returns-then-is_path : goal.returns-then-is_path
returns-then-is_path c = value_put c.requires c.is_path.ensures c.if-is_path.true c.put_path.ensures

pub put_decimal-requires : goal.put_decimal-requires
put_decimal-requires c = decimal_fits c.requires c.is_path.ensures c.if-is_path.false (c.if-draft-number.true ∙ c.number.ensures)

pub returns-then-draft-number : goal.returns-then-draft-number
returns-then-draft-number c = decimal_put c.requires c.is_path.ensures c.if-is_path.false (c.if-draft-number.true ∙ c.number.ensures) c.put_decimal.ensures

pub put_string-requires : goal.put_string-requires
put_string-requires c =
    string_fits c.requires c.is_path.ensures c.if-is_path.false (λ e. c.if-draft-number.false (e ∙ sym c.number.ensures))
    (c.if-draft-number-2.true ∙ c.number-else-draft-number.ensures)

pub returns-then-draft-number-2 : goal.returns-then-draft-number-2
returns-then-draft-number-2 c =
    string_put c.requires c.is_path.ensures c.if-is_path.false (c.if-draft-number-2.true ∙ c.number-else-draft-number.ensures) c.put_string.ensures

pub returns-else-draft-number-2 : goal.returns-else-draft-number-2
returns-else-draft-number-2 c =
    value_empty c.requires c.is_path.ensures c.if-is_path.false (λ e. c.if-draft-number.false (e ∙ sym c.number.ensures))
    (λ e. c.if-draft-number-2.false (e ∙ sym c.number-else-draft-number.ensures))
