-- `tokens::numbers::fraction_len` meets its contract. Assumes nothing.
use Rattle.std.proofs.Common.{arith}
use Rattle.std.proofs.lemmas.Grind.{common_steps}
use Rattle.paper.specs.Bytes.{when◌then◌else◌}
use Rattle.paper.specs.Scanner.{fraction}
use Rattle.tokens.proofs.numbers.fraction_len.Goals as goal

pub returns-then-starts_with : goal.returns-then-starts_with
unfolding fraction when◌then◌else◌
returns-then-starts_with c = grind (arith, common_steps)

pub returns-else-starts_with : goal.returns-else-starts_with
unfolding fraction when◌then◌else◌
returns-else-starts_with c = grind (arith, common_steps)
