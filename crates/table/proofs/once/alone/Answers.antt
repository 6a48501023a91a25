-- `table::once::alone` meets its contract. Assumes nothing.
use Rattle.table.proofs.Children.{found_told, alone_is}
use Rattle.table.proofs.once.alone.Goals as goal

pub returns : goal.returns
returns c = alone_is c.args.body.records.now c.args.body.text.now c.args.i c.args.span c.args.left c.find_child.result c.is_none.result c.is_none.ensures (rw c.name_at.ensures at (found_told _ _ _ _ _ _ (record { byte = c.args.body.are_bytes }) c.find_child.ensures))
