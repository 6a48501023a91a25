-- `run::operation::run` meets its contract. Assumes nothing.
use mathlib.Core.Path.{◌∙◌}
use Rattle.run.proofs.Ending.{run_settled}
use Rattle.run.proofs.operation.run.Goals as goal

pub returns : goal.returns
returns c = let a = c.args in c.settle.ensures ∙ run_settled a.steps.now a.table.now a.out.now a.work1.now a.work2.now
