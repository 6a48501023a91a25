-- `forms::form::table_element` meets its contract. Assumes nothing.
use mathlib.Core.Path.{◌∙◌}
use borrow.Author.Tests.{ne_eqb}
use Rattle.forms.proofs.Forms.{element_elsewhere, element_named}
use Rattle.forms.proofs.form.table_element.Goals as goal

pub returns-then-depth_at-depth : goal.returns-then-depth_at-depth
returns-then-depth_at-depth c = rw c.from.ensures (element_named c.args.recs.now c.args.i c.args.depth _ c.depth_at.ensures.0 _ c.label_at.ensures.0 c.if-depth_at-depth.true)

pub returns-else-depth_at-depth : goal.returns-else-depth_at-depth
returns-else-depth_at-depth c = ne_eqb _ _ c.if-depth_at-depth.false ∙ element_elsewhere c.args.recs.now c.args.i c.args.depth _ c.depth_at.ensures.0 c.if-depth_at-depth.false
