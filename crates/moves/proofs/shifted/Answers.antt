-- `moves::shifted` meets its contract. Assumes nothing.
use native.Mathlib.Omega.{arith}
use Rattle.rows.specs.Change.{moved}
use Rattle.moves.proofs.shifted.Goals as goal

pub returns : goal.returns
unfolding moved
returns c = omega arith
