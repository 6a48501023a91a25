-- `pass`: what `expect` refuses, paper's reader of a mark does. Assumes nothing.
use Rattle.grammar.proofs.Rules.Refusals.{handed_on}
use Rattle.grammar.proofs.Rules.Marks.{no_such_mark}
use Rattle.grammar.proofs.cursor.Cursor.pass.Goals as goal

pub returns-in_err-spot : goal.returns-in_err-spot
returns-in_err-spot c = rw (handed_on c.from_residual.result c.from_residual.ensures.1) (no_such_mark c.in_err-spot.ensures)
