-- `capi::sf_main` meets its contract. Assumes nothing.
use mathlib.Core.List.{[]}
use Rattle.paper.specs.Operations.{takes_main}
use Rattle.capi.proofs.Calls.{called, small_call, main_small}
use Rattle.capi.proofs.sf_main.Goals as goal

pub code-requires : goal.code-requires
code-requires c = let a = c.args in small_call (takes_main a.table.now a.out.now) (main_small a.table.now a.out.now) c.main.result _ [] c.main.ensures

pub returns : goal.returns
returns c = let a = c.args in called (takes_main a.table.now a.out.now) c.main.result _ _ [] c.main.ensures c.code.ensures
