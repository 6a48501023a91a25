-- `capi::sf_translate` meets its contract. Assumes nothing.
use mathlib.Core.List.{[], ◌∷◌}
use Rattle.paper.specs.Operations.{translates}
use Rattle.capi.proofs.Calls.{called, small_call, translates_small}
use Rattle.capi.proofs.sf_translate.Goals as goal

pub code-requires : goal.code-requires
code-requires c = let a = c.args in small_call (translates a.src.now a.out.now a.work.now) (translates_small a.src.now a.out.now a.work.now) c.translate.result _ (c.translate.new.work ∷ []) c.translate.ensures

pub returns : goal.returns
returns c = let a = c.args in called (translates a.src.now a.out.now a.work.now) c.translate.result _ _ (c.translate.new.work ∷ []) c.translate.ensures c.code.ensures
