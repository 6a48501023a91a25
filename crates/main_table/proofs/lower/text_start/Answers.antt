-- `main_table::lower::text_start` meets its contract. Assumes nothing.
use native.Mathlib.Omega.{arith}
use mathlib.Core.Path.{◌∙◌}
use Rattle.memory.proofs.Laws.{word_in}
use Rattle.main_table.proofs.Lowers.{from_is}
use Rattle.main_table.proofs.lower.text_start.Goals as goal

pub returns : goal.returns
returns c = from_is c.args.body.records.now c.args.body.text.now c.args.i c.label_at-p.result c.byte.result (c.label_at-p.ensures.0 ∙ word_in 2 _ _ (omega (arith, c.requires))) c.byte.ensures.0
