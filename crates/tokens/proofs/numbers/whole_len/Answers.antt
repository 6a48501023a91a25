-- `tokens::numbers::whole_len` meets its contract. Assumes nothing.
use Rattle.std.proofs.Common.{arith}
use Rattle.std.proofs.lemmas.Grind.{common_steps}
use Rattle.paper.specs.Bytes.{when◌then◌else◌}
use Rattle.paper.specs.Scanner.{sign, whole}
use Rattle.tokens.proofs.numbers.whole_len.Goals as goal

pub returns : goal.returns
unfolding whole sign when◌then◌else◌
returns c = grind (arith, common_steps)
