-- `demands::translates` meets its contract. Assumes nothing.
use Rattle.demands.proofs.Calls.{translate_call}
use Rattle.demands.proofs.operations.translates.Goals as goal

pub returns : goal.returns
returns c = let a = c.args in translate_call a.src.now a.out.now a.work.now _ c.translate.ensures
