-- `main_table::lower::moved_value` meets its contract. Assumes nothing.
use mathlib.Core.Path.{sym, ◌∙◌}
use Rattle.paper.specs.Bytes.{when◌then◌else◌}
use Rattle.main_table.specs.Lower.{moved_value}
use Rattle.main_table.proofs.lower.moved_value.Goals as goal

pub returns-then-has_text : goal.returns-then-has_text
unfolding moved_value when◌then◌else◌
returns-then-has_text c = rw (sym c.has_text.ensures ∙ c.if-has_text.true) (rw c.from.ensures at c.saturating_sub.ensures)

pub returns-else-has_text : goal.returns-else-has_text
unfolding moved_value when◌then◌else◌
returns-else-has_text c = rw (sym c.has_text.ensures ∙ c.if-has_text.false)
