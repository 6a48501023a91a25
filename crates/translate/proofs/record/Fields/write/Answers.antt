-- `write`: six numbers, one behind another. Assumes nothing.
use Rattle.translate.proofs.Rules.Rows.{fields_put}
use Rattle.translate.proofs.record.Fields.write.Goals as goal

pub returns : goal.returns
returns c = fields_put _ _ _ c.requires c.put16.ensures c.put16-2.ensures c.put16-3.ensures c.put16-4.ensures c.put64.ensures c.put32.ensures
