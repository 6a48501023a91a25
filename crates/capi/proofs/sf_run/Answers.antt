-- `capi::sf_run` meets its contract. Assumes nothing.
use mathlib.Core.List.{[], ◌∷◌}
use Rattle.paper.specs.Operations.{runs}
use Rattle.capi.proofs.Calls.{called, small_call, runs_small}
use Rattle.capi.proofs.sf_run.Goals as goal

pub code-requires : goal.code-requires
code-requires c = let a = c.args in small_call (runs a.steps.now a.table.now a.out.now a.work1.now a.work2.now) (runs_small a.steps.now a.table.now a.out.now a.work1.now a.work2.now) c.run.result _ (c.run.new.work1 ∷ c.run.new.work2 ∷ []) c.run.ensures

pub returns : goal.returns
returns c = let a = c.args in called (runs a.steps.now a.table.now a.out.now a.work1.now a.work2.now) c.run.result _ _ (c.run.new.work1 ∷ c.run.new.work2 ∷ []) c.run.ensures c.code.ensures
