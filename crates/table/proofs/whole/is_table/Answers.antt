-- `table::whole::is_table` meets its contract. Assumes nothing.
use Rattle.table.proofs.Headers.{table_unfit, table_is}
use Rattle.table.proofs.whole.is_table.Goals as goal

pub returns-in_default : goal.returns-in_default
returns-in_default c = table_unfit c.args.b.now c.in_default.ensures

pub returns : goal.returns
returns c = table_is c.args.b.now _ c.whole.result c.in-Some.ensures (rw (c.records_of.ensures, c.text_of.ensures) at c.whole.ensures)
