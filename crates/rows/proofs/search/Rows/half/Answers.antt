-- `Rows::half` meets its contract. Assumes nothing.
use native.Mathlib.Omega.{arith}
use Rattle.rows.proofs.Fields.{word_two}
use Rattle.rows.proofs.search.Rows.half.Goals as goal

pub returns : goal.returns
returns c = let a = c.args in (omega (arith, word_two a.self.bytes.now a.at), omega arith)
