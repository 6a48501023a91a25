-- `load::rows_of::placed` meets its contract. Assumes nothing.
use native.Mathlib.Omega.{arith}
use Rattle.load.proofs.Sizes.{placed_is}
use Rattle.load.proofs.rows_of.placed.Goals as goal

pub returns : goal.returns
returns c = (placed_is c.args.place, omega arith)
