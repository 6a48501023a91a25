-- `load::size::name_size` meets its contract. Assumes nothing.
use native.Mathlib.Omega.{arith}
use Rattle.load.proofs.Sizes.{name_none, name_some}
use Rattle.load.proofs.size.name_size.Goals as goal

pub returns-then-place-eq-ELEMENT : goal.returns-then-place-eq-ELEMENT
returns-then-place-eq-ELEMENT c = (name_none c.args.text.now c.args.place c.if-place-eq-ELEMENT.true, omega arith)

pub returns-else-place-eq-ELEMENT : goal.returns-else-place-eq-ELEMENT
returns-else-place-eq-ELEMENT c = (name_some c.args.text.now c.args.place c.byte.result c.if-place-eq-ELEMENT.false c.byte.ensures.0, omega (arith, c.byte.ensures.1))
