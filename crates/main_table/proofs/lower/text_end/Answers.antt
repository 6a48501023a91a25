-- `main_table::lower::text_end` meets its contract. Assumes nothing.
use native.Mathlib.Omega.{arith}
use mathlib.Core.Path.{◌∙◌}
use Rattle.memory.proofs.Laws.{word_in}
use Rattle.main_table.proofs.Lowers.{to_next, to_end}
use Rattle.main_table.proofs.lower.text_end.Goals as goal

pub returns-then-next-body : goal.returns-then-next-body
returns-then-next-body c = to_next c.args.body.records.now c.args.body.text.now c.args.next c.label_at.result c.if-next-body.true (c.label_at.ensures.0 ∙ word_in 2 _ _ (omega (arith, c.requires c.if-next-body.true)))

pub returns-else-next-body : goal.returns-else-next-body
returns-else-next-body c = to_end c.args.body.records.now c.args.body.text.now c.args.next c.if-next-body.false
