-- `main_table::operation::main` meets its contract. Assumes nothing.
use mathlib.Core.Path.{sym, ◌∙◌, ap}
use Rattle.main_table.specs.Main.{main_of, main_outcome}
use Rattle.table.proofs.Headers.{table_whole}
use Rattle.main_table.proofs.Views.{tabled_of}
use Rattle.main_table.proofs.Mains.{main_short, main_long, main_no_table, not_table, no_header}
use Rattle.main_table.proofs.operation.main.Goals.{in_default-via-in-Some+else-is_table, in_default-via-in_default}
use Rattle.main_table.proofs.operation.main.Goals as goal

pub returns-then-out-lt-TABLE_ROOM : goal.returns-then-out-lt-TABLE_ROOM
returns-then-out-lt-TABLE_ROOM c = rw c.refused.ensures (main_short c.args.table.now c.args.out.now c.if-out-lt-TABLE_ROOM.true)

pub main_in-requires : goal.main_in-requires
main_in-requires c = (rw (c.records_of.ensures, c.text_of.ensures) (tabled_of c.args.table.now _ c.in-Some.ensures (sym c.is_table.ensures ∙ c.if-is_table.true)), c.if-out-lt-TABLE_ROOM.false)

pub returns-in-Some : goal.returns-in-Some
returns-in-Some c =
    rw (c.records_of.ensures, c.text_of.ensures) at c.main_in.ensures
    ∙ ap (λ o. main_outcome (main_of o) c.args.out.now) (sym (table_whole c.args.table.now _ c.in-Some.ensures))
    ∙ main_long c.args.table.now c.args.out.now c.if-out-lt-TABLE_ROOM.false

pub returns-in_default : goal.returns-in_default
returns-in_default c =
    rw c.refused-in_default.ensures (main_no_table c.args.table.now c.args.out.now c.if-out-lt-TABLE_ROOM.false (elim c.in_default.branch [
      | in_default-via-in-Some+else-is_table w ↦ not_table c.args.table.now (sym w.is_table.ensures ∙ w.if-is_table.false)
      | in_default-via-in_default w ↦ no_header c.args.table.now w.in_default.ensures
    ]))
