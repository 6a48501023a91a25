-- `texts::path_here` meets its contract. Assumes nothing.
use mathlib.Core.Path.{sym}
use Rattle.paper.specs.Decoder.{path_of}
use Rattle.texts.proofs.Leaves.{field_elsewhere, field_is}
use Rattle.texts.proofs.path_here.Goals as goal

pub returns-then-p-place : goal.returns-then-p-place
returns-then-p-place c = field_is path_of c.args.text.now c.args.place c.args.p (sym c.if-p-place.true) c.path_end.result c.path_end.ensures

pub returns-else-p-place : goal.returns-else-p-place
returns-else-p-place c = field_elsewhere path_of c.args.text.now c.args.place c.args.p (λ e. c.if-p-place.false (sym e))
