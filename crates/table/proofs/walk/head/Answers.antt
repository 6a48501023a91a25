-- `table::walk::head` meets its contract. Assumes nothing.
use mathlib.Core.Path.{sym, ◌∙◌}
use Rattle.table.proofs.Heads.{head_wrong, head_placed}
use Rattle.table.proofs.walk.head.Goals as goal

pub returns-then-head : goal.returns-then-head
returns-then-head c = head_placed c.args.records.now c.args.i c.args.depth c.args.left c.depth_at.result c.depth_at.ensures.0 (sym c.head.ensures ∙ c.if-head.true)

pub returns-else-head : goal.returns-else-head
returns-else-head c = c.if-head.false ∙ head_wrong c.args.records.now c.args.i c.args.depth c.args.left (sym c.head.ensures ∙ c.if-head.false)
