-- `rows::row::field` meets its contract. Assumes nothing.
use native.Mathlib.Omega.{arith}
use mathlib.Core.Path.{sym, ◌∙◌}
use Rattle.rows.proofs.Fields.{field_in, field_out}
use Rattle.rows.proofs.row.field.Goals as goal

pub returns-else-i-lt-ROWS : goal.returns-else-i-lt-ROWS
returns-else-i-lt-ROWS c = let a = c.args in sym (field_out 2 a.w.now a.i a.f (omega arith))

pub returns-then-i-lt-ROWS : goal.returns-then-i-lt-ROWS
returns-then-i-lt-ROWS c = let a = c.args in c.get16.ensures ∙ sym (field_in 2 a.w.now a.i a.f (omega arith))
