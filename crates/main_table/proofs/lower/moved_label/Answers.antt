-- `main_table::lower::moved_label` meets its contract. Assumes nothing.
use Rattle.main_table.proofs.Lowers.{label_none, label_some}
use Rattle.main_table.proofs.lower.moved_label.Goals as goal

pub returns-then-place-eq-NAMELESS : goal.returns-then-place-eq-NAMELESS
returns-then-place-eq-NAMELESS c = label_none c.args.from c.args.place c.if-place-eq-NAMELESS.true

pub returns-else-place-eq-NAMELESS : goal.returns-else-place-eq-NAMELESS
returns-else-place-eq-NAMELESS c = label_some c.args.from c.args.place c.saturating_sub.result c.if-place-eq-NAMELESS.false c.saturating_sub.ensures
