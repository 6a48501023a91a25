-- `rows::row::put_row` meets its contract. Assumes nothing.
use native.Mathlib.Omega.{arith}
use mathlib.Core.Path.{sym, ◌∙◌}
use Rattle.rows.specs.Change.{row_bytes}
use Rattle.rows.proofs.Fields.{row_in, row_out}
use Rattle.rows.proofs.row.put_row.Goals as goal

pub returns-then-i-lt-ROWS : goal.returns-then-i-lt-ROWS
returns-then-i-lt-ROWS c =
    let a = c.args in
    let r = a.row in
    c.store.ensures ∙ sym (row_in a.w.now a.i (row_bytes r.kind r.depth r.label r.size r.value) (omega arith))

pub returns-else-i-lt-ROWS : goal.returns-else-i-lt-ROWS
returns-else-i-lt-ROWS c =
    let a = c.args in
    let r = a.row in
    sym (row_out a.w.now a.i (row_bytes r.kind r.depth r.label r.size r.value) (omega arith))
