-- `steplist::statement::link` meets its contract. Assumes nothing.
use Rattle.steplist.proofs.Values.{link_marred, link_no, link_path}
use Rattle.steplist.proofs.statement.link.Goals as goal

pub returns-then-not-plain : goal.returns-then-not-plain
returns-then-not-plain c = link_marred c.args.here.body.records.now c.args.here.body.text.now c.args.depth c.args.here.at.record c.args.here.at.text c.args.here.within c.requires (rw c.if-not-plain.true at c.plain.ensures)

pub returns-in_err-text : goal.returns-in_err-text
returns-in_err-text c = rw c.from_residual.ensures (link_no c.args.here.body.records.now c.args.here.body.text.now c.args.depth c.args.here.at.record c.args.here.at.text c.args.here.within c.requires (rw c.if-not-plain.false at c.plain.ensures) _ c.value_at-place.ensures c.in_err-text.ensures)

pub returns : goal.returns
returns c = link_path c.args.here.body.records.now c.args.here.body.text.now c.args.depth c.args.here.at.record c.args.here.at.text c.args.here.within c.requires (rw c.if-not-plain.false at c.plain.ensures) _ c.value_at-place.ensures _ c.in_ok-text.ensures
