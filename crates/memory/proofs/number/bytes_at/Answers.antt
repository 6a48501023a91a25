-- `memory::number::bytes_at` meets its contract. Assumes nothing.
use Rattle.memory.proofs.Laws.{chunk_word}
use Rattle.memory.proofs.number.bytes_at.Goals as goal

pub returns : goal.returns
returns g c = rw (c.unwrap_or.ensures, c.copied.ensures) (chunk_word g.row.N c.args.s.now c.args.at c.first_chunk.result (rw c.part.ensures at c.first_chunk.ensures.cases))
