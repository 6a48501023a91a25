-- `spelling::text::decode_one` meets its contract. Assumes nothing.
use Rattle.std.proofs.Common.{arith}
use Rattle.std.proofs.lemmas.Grind.{common_steps}
use Rattle.paper.specs.Bytes.{when◌then◌else◌}
use Rattle.paper.specs.Scanner.{meant}
use Rattle.spelling.specs.Text.{meant_of}
use Rattle.spelling.proofs.text.decode_one.Goals as goal

pub returns-in-Some : goal.returns-in-Some
unfolding meant_of meant when◌then◌else◌
returns-in-Some c = grind (arith, common_steps)

pub returns-in-None : goal.returns-in-None
unfolding meant_of meant when◌then◌else◌
returns-in-None c = grind (arith, common_steps)

pub returns-in-None-2 : goal.returns-in-None-2
unfolding meant_of meant when◌then◌else◌
returns-in-None-2 c = grind (arith, common_steps)

pub returns-in-None-3 : goal.returns-in-None-3
unfolding meant_of meant when◌then◌else◌
returns-in-None-3 c = grind (arith, common_steps)
