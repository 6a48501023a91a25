-- `memory::number::get64` meets its contract. Assumes nothing.
use Rattle.std.proofs.Common.{arith, ◌∙◌}
use Rattle.paper.specs.DecodeAt.{word}
use Rattle.memory.proofs.number.get64.Goals as goal

pub returns : goal.returns
unfolding word
returns c = (c.from_le_bytes.ensures ∙ omega arith) ∙ c.bytes_at.ensures
