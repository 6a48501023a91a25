-- `resolve::over_the_empty` meets its contract. Assumes nothing.
use Rattle.resolve.proofs.Turns.{empty_is}
use Rattle.resolve.proofs.over_the_empty.Goals as goal

pub returns : goal.returns
returns c = let a = c.args in empty_is a.list.now a.out.now a.work1.now a.work2.now c.run_main.result _ _ _ c.run_main.ensures
