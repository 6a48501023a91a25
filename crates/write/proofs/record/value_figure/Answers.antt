-- `write::record::value_figure` meets its contract. Assumes nothing.
use Rattle.write.proofs.Records.{value_none, value_some}
use Rattle.write.proofs.record.value_figure.Goals as goal

pub returns-then-has_text : goal.returns-then-has_text
returns-then-has_text c = λ t u. value_some t u c.args.row c.args.pos c.has_text.ensures c.if-has_text.true

pub returns-else-has_text : goal.returns-else-has_text
returns-else-has_text c = λ t u. value_none t u c.args.row c.args.pos c.has_text.ensures c.if-has_text.false
