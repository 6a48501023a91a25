-- `memory::number::put64` meets its contract. Assumes nothing.
use native.Mathlib.Nat.{div-div-eq-div-mul}
use Rattle.paper.specs.Layout.{little}
use Rattle.memory.proofs.number.put64.Goals as goal

pub returns : goal.returns
unfolding little
returns c = simp div-div-eq-div-mul (rw c.to_le_bytes.ensures at c.copy.ensures)
