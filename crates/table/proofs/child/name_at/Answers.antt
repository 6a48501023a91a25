-- `table::child::name_at` meets its contract. Assumes nothing.
use Rattle.table.specs.Child.{named_at}
use Rattle.table.proofs.child.name_at.Goals as goal

pub returns : goal.returns
unfolding named_at
returns c = rw (← c.label_at-p.ensures.0, ← c.byte.ensures.0) c.part.ensures
