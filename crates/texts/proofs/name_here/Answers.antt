-- `texts::name_here` meets its contract. Assumes nothing.
use Rattle.paper.specs.Decoder.{name_of}
use Rattle.texts.proofs.Leaves.{field_elsewhere, field_is}
use Rattle.texts.proofs.name_here.Goals as goal

pub returns-then-place-p : goal.returns-then-place-p
returns-then-place-p c = field_is name_of c.args.text.now c.args.place c.args.p c.if-place-p.true c.name_end.result c.name_end.ensures

pub returns-else-place-p : goal.returns-else-place-p
returns-else-place-p c = field_elsewhere name_of c.args.text.now c.args.place c.args.p c.if-place-p.false
