-- `steplist::whole::is_step_list` meets its contract. Assumes nothing.
use mathlib.Core.Path.{sym, ◌∙◌}
use Rattle.steplist.proofs.Wholes.{list_counted, list_uncounted}
use Rattle.steplist.proofs.whole.is_step_list.Goals as goal

pub returns-then-is_some : goal.returns-then-is_some
returns-then-is_some c = list_counted c.args.b.now _ c.whole.result c.count.ensures (sym c.is_some.ensures ∙ c.if-is_some.true) (rw (c.records_of.ensures, c.text_of.ensures) at c.whole.ensures)

pub returns-else-is_some : goal.returns-else-is_some
returns-else-is_some c = list_uncounted c.args.b.now _ c.is_some.result c.count.ensures c.is_some.ensures c.if-is_some.false
