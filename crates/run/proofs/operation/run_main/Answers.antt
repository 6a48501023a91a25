-- `run::operation::run_main` meets its contract. Assumes nothing.
use mathlib.Core.Path.{◌∙◌}
use Rattle.run.proofs.Choosing.{main_settled}
use Rattle.run.proofs.operation.run_main.Goals as goal

pub returns : goal.returns
returns c = let a = c.args in c.settle.ensures ∙ main_settled a.steps.now a.table.now a.out.now a.work1.now a.work2.now
