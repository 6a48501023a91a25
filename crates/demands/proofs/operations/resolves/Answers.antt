-- `demands::resolves` meets its contract. Assumes nothing.
use Rattle.demands.proofs.Calls.{resolve_call}
use Rattle.demands.proofs.operations.resolves.Goals as goal

pub returns : goal.returns
returns c = let a = c.args in resolve_call a.src.now a.out.now a.work1.now a.work2.now a.work3.now _ c.resolve_met.ensures
