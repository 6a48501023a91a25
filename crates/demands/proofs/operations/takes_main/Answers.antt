-- `demands::takes_main` meets its contract. Assumes nothing.
use Rattle.demands.proofs.Calls.{main_call}
use Rattle.demands.proofs.operations.takes_main.Goals as goal

pub returns : goal.returns
returns c = let a = c.args in main_call a.table.now a.out.now _ c.main.ensures
