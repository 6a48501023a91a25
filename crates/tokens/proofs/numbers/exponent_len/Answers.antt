-- `tokens::numbers::exponent_len` meets its contract. Assumes nothing.
use Rattle.std.proofs.Common.{arith}
use Rattle.std.proofs.lemmas.Grind.{common_steps}
use Rattle.paper.specs.Bytes.{when◌then◌else◌}
use Rattle.paper.specs.Scanner.{exponent, sign}
use Rattle.tokens.proofs.numbers.exponent_len.Goals as goal

pub returns-in-101 : goal.returns-in-101
unfolding exponent sign when◌then◌else◌
returns-in-101 c = grind (arith, common_steps)

pub returns-in-101-2 : goal.returns-in-101-2
unfolding exponent sign when◌then◌else◌
returns-in-101-2 c = grind (arith, common_steps)

pub returns-in_default : goal.returns-in_default
unfolding exponent sign when◌then◌else◌
returns-in_default c = grind (arith, common_steps)

pub returns-in_default-2 : goal.returns-in_default-2
unfolding exponent sign when◌then◌else◌
returns-in_default-2 c = grind (arith, common_steps)

pub returns-in_default-3 : goal.returns-in_default-3
unfolding exponent sign when◌then◌else◌
returns-in_default-3 c = grind (arith, common_steps)
