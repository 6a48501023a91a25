-- `load::rows_of::placed_value` meets its contract. Assumes nothing.
use mathlib.Core.Path.{◌∙◌}
use Rattle.load.proofs.Sizes.{value_moved, value_stays}
use Rattle.load.proofs.rows_of.placed_value.Goals as goal

pub returns-then-has_text : goal.returns-then-has_text
returns-then-has_text c = let r = c.args.row in c.placed.ensures.0 ∙ value_moved r.kind r.value c.has_text.ensures c.if-has_text.true

pub returns-else-has_text : goal.returns-else-has_text
returns-else-has_text c = let r = c.args.row in value_stays r.kind r.value c.has_text.ensures c.if-has_text.false
