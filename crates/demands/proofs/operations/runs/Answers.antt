-- `demands::runs` meets its contract. Assumes nothing.
use Rattle.demands.proofs.Calls.{run_call}
use Rattle.demands.proofs.operations.runs.Goals as goal

pub returns : goal.returns
returns c = let a = c.args in run_call a.steps.now a.table.now a.out.now a.work1.now a.work2.now _ c.run_met.ensures
