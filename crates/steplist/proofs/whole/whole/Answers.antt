-- `steplist::whole::whole` meets its contract. Assumes nothing.
use mathlib.Core.Path.{◌∙◌}
use borrow.Author.Tests.{lt-leb}
use Rattle.steplist.proofs.Wholes.{whole_wrong, whole_more, whole_text}
use Rattle.steplist.proofs.whole.whole.Goals as goal

pub returns-in_default : goal.returns-in_default
returns-in_default c = whole_wrong c.args.records.now c.args.text.now c.in_default.ensures

pub returns-then-records-end : goal.returns-then-records-end
returns-then-records-end c = whole_text c.args.records.now c.args.text.now _ _ c.in-Some.ensures c.if-records-end.true

pub returns-else-records-end : goal.returns-else-records-end
returns-else-records-end c = lt-leb _ _ c.if-records-end.false ∙ whole_more c.args.records.now c.args.text.now _ _ c.in-Some.ensures c.if-records-end.false
