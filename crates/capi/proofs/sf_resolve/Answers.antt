-- `capi::sf_resolve` meets its contract. Assumes nothing.
use mathlib.Core.List.{[], ◌∷◌}
use Rattle.paper.specs.Operations.{resolves}
use Rattle.capi.proofs.Calls.{called, small_call, resolves_small}
use Rattle.capi.proofs.sf_resolve.Goals as goal

pub code-requires : goal.code-requires
code-requires c = let a = c.args in small_call (resolves a.src.now a.out.now a.work1.now a.work2.now a.work3.now) (resolves_small a.src.now a.out.now a.work1.now a.work2.now a.work3.now) c.resolve.result _ (c.resolve.new.work1 ∷ c.resolve.new.work2 ∷ c.resolve.new.work3 ∷ []) c.resolve.ensures

pub returns : goal.returns
returns c = let a = c.args in called (resolves a.src.now a.out.now a.work1.now a.work2.now a.work3.now) c.resolve.result _ _ (c.resolve.new.work1 ∷ c.resolve.new.work2 ∷ c.resolve.new.work3 ∷ []) c.resolve.ensures c.code.ensures
