-- `read_link`: its draft, and the `;`. Assumes nothing.
use Rattle.grammar.proofs.Rules.Statements.{link_read}
use Rattle.grammar.proofs.statements.read_link.Goals as goal

pub returns : goal.returns
returns c = link_read _ _ _ _ _ _ c.put.ensures _ (rw c.drafted.ensures at c.pass.ensures)
