-- `steplist::statement::take` meets its contract. Assumes nothing.
use Rattle.steplist.proofs.Values.{take_marred, take_valued, take_no, take_path}
use Rattle.steplist.proofs.statement.take.Goals.{then-not-plain-via-then-not-plain, then-not-plain-via-else-not-plain+then-value_at-ne0}
use Rattle.steplist.proofs.statement.take.Goals as goal

pub returns-then-not-plain : goal.returns-then-not-plain
returns-then-not-plain c =
    elim c.then-not-plain.branch [
      | then-not-plain-via-then-not-plain w ↦ take_marred c.args.here.body.records.now c.args.here.body.text.now 0 c.args.here.at.record c.args.here.at.text c.args.here.within (rw w.if-not-plain.true at c.plain.ensures)
      | then-not-plain-via-else-not-plain+then-value_at-ne0 w ↦ take_valued c.args.here.body.records.now c.args.here.body.text.now 0 c.args.here.at.record c.args.here.at.text c.args.here.within (rw w.if-not-plain.false at c.plain.ensures) _ w.value_at.ensures w.if-value_at-ne0.true
    ]

pub returns-in_err-text : goal.returns-in_err-text
returns-in_err-text c = rw c.from_residual.ensures (take_no c.args.here.body.records.now c.args.here.body.text.now 0 c.args.here.at.record c.args.here.at.text c.args.here.within (rw c.if-not-plain.false at c.plain.ensures) _ c.value_at.ensures c.if-value_at-ne0.false _ c.label_at-place.ensures.0 c.in_err-text.ensures)

pub returns : goal.returns
returns c = take_path c.args.here.body.records.now c.args.here.body.text.now 0 c.args.here.at.record c.args.here.at.text c.args.here.within (rw c.if-not-plain.false at c.plain.ensures) _ c.value_at.ensures c.if-value_at-ne0.false _ c.label_at-place.ensures.0 _ c.in_ok-text.ensures
