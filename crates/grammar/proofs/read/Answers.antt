-- `read`: by the length of the slice; its front is read into. Assumes nothing.
use Rattle.grammar.proofs.Rules.Whole.{reads_short}
use Rattle.grammar.proofs.Rules.Fronts.{read_front}
use Rattle.grammar.proofs.read.Goals as goal

pub returns-in-Some : goal.returns-in-Some
returns-in-Some c =
    let front = c.in-Some.ensures.cases in
    read_front _ _ _ _ _ front.enough front.same c.read_drafts.ensures

pub returns-in-None : goal.returns-in-None
returns-in-None c = reads_short _ _ c.in-None.ensures.cases
