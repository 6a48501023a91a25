-- `memory::number::put16` meets its contract. Assumes nothing.
use Rattle.paper.specs.Layout.{little}
use Rattle.memory.proofs.number.put16.Goals as goal

pub returns : goal.returns
unfolding little
returns c = rw c.to_le_bytes.ensures at c.copy.ensures
