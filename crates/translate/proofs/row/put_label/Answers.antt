-- `put_label`: by whether there is a path. Assumes nothing.
use Rattle.translate.proofs.Rules.Rows.{label_fits, label_put, label_empty}
use Rattle.translate.proofs.row.put_label.Goals as goal

pub put_path-requires : goal.put_path-requires
put_path-requires c = rw c.from.ensures (label_fits c.requires c.has_path.ensures c.if-has_path.true)

pub returns-then-has_path : goal.returns-then-has_path
returns-then-has_path c = label_put c.requires c.has_path.ensures c.if-has_path.true (rw c.from.ensures at c.put_path.ensures)

pub returns-else-has_path : goal.returns-else-has_path
returns-else-has_path c = label_empty c.requires c.has_path.ensures c.if-has_path.false
