-- `table::walk::label_end` meets its contract. Assumes nothing.
use Rattle.table.proofs.Heads.{label_is}
use Rattle.table.proofs.walk.label_end.Goals as goal

pub returns : goal.returns
returns c = label_is c.args.body.records.now c.args.body.text.now c.args.at.record c.args.at.text _ c.requires c.label_at.ensures.0 c.name_here.result c.name_here.ensures
