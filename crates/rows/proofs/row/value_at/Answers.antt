-- `rows::row::value_at` meets its contract. Assumes nothing.
use native.Mathlib.Omega.{arith}
use mathlib.Core.Path.{sym, ◌∙◌}
use Rattle.rows.proofs.Fields.{field_in, field_out}
use Rattle.rows.proofs.row.value_at.Goals as goal

pub returns-else-i-lt-ROWS : goal.returns-else-i-lt-ROWS
returns-else-i-lt-ROWS c = let a = c.args in sym (field_out 8 a.w.now a.i 8 (omega arith))

pub returns-then-i-lt-ROWS : goal.returns-then-i-lt-ROWS
returns-then-i-lt-ROWS c = let a = c.args in c.get64.ensures ∙ sym (field_in 8 a.w.now a.i 8 (omega arith))
