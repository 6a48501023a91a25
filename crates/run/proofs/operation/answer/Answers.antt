-- `run::operation::answer` meets its contract. Assumes nothing.
use native.Mathlib.Omega.{arith}
use Rattle.std.proofs.lemmas.Result.{err_from_is_err_and}
use Rattle.run.specs.Runs.{store_of}
use Rattle.run.proofs.Ending.{given, not_given, whole_done}
use Rattle.run.proofs.Choosing.{wanted_refused, mained}
use Rattle.run.proofs.operation.answer.Goals as goal

pub returns-in_err-size-clause-answered : goal.returns-in_err-size-clause-answered
returns-in_err-size-clause-answered c = let a = c.args in let exit = err_from_is_err_and c.from_residual.result c.from_residual.ensures.1 in rw (exit.1, exit.2) (wanted_refused a.wanted (store_of a.list.now a.start.now) a.out.now _ (not_given a.list.now a.start.now c.evaluate.new.w c.evaluate.result c.evaluate.ensures _ c.in_err-size.was))

pub returns-in-Whole-clause-answered : goal.returns-in-Whole-clause-answered
returns-in-Whole-clause-answered c = let a = c.args in let G = given a.list.now a.start.now c.evaluate.new.w c.evaluate.result c.evaluate.ensures c.text_of.result.now c.text_of-2.result.now _ c.in_ok-size.was c.text_of.ensures c.text_of-2.ensures in rw c.in-Whole.is (whole_done a.list.now a.start.now c.text_of.result.now c.text_of-2.result.now c.evaluate.new.w a.out.now _ _ c.write.result G (omega arith) c.requires c.write.ensures.0 c.write.ensures.1)

pub returns-in-Main-clause-answered : goal.returns-in-Main-clause-answered
returns-in-Main-clause-answered c = let a = c.args in let G = given a.list.now a.start.now c.evaluate.new.w c.evaluate.result c.evaluate.ensures c.text_of.result.now c.text_of-2.result.now _ c.in_ok-size.was c.text_of.ensures c.text_of-2.ensures in rw c.in-Main.is (mained a.list.now a.start.now c.text_of.result.now c.text_of-2.result.now c.evaluate.new.w a.out.now _ _ c.main_in.result G c.main_in.ensures)
