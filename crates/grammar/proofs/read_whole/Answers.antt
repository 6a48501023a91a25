-- `read_whole`: the statements, and the end. Assumes nothing.
use Rattle.grammar.proofs.Rules.Refusals.{handed_on}
use Rattle.grammar.proofs.Rules.Whole.{whole_no, whole_more, whole_done}
use Rattle.grammar.proofs.Rules.Marks.{not_the_end, is_ended}
use Rattle.grammar.proofs.read_whole.Goals as goal

pub returns-in_err-to : goal.returns-in_err-to
returns-in_err-to c =
    rw (handed_on c.from_residual.result c.from_residual.ensures.1) (whole_no _ c.requires _ _ _ c.in_err-to.ensures)

pub returns-in_err-expect : goal.returns-in_err-expect
returns-in_err-expect c =
    rw (handed_on c.from_residual-in_err-expect.result c.from_residual-in_err-expect.ensures.1)
    (whole_more _ c.requires _ _ _ c.in_ok-to.ensures _ (not_the_end c.in_err-expect.ensures))

pub returns : goal.returns
returns c = whole_done _ c.requires _ _ _ c.in_ok-to.ensures (is_ended c.in_ok-expect.ensures)
