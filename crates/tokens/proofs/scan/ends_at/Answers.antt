-- `tokens::scan::ends_at` meets its contract. Assumes nothing.
use Rattle.std.proofs.Common.{arith}
use Rattle.std.proofs.lemmas.Grind.{common_steps}
use Rattle.paper.specs.Tokens.{goes_on, starts, digit}
use Rattle.tokens.specs.Scans.{ends_at}
use Rattle.tokens.proofs.Classes.{goes_on_is}
use Rattle.tokens.proofs.scan.ends_at.Goals as goal

pub returns-then-not-goes_on : goal.returns-then-not-goes_on
unfolding ends_at
returns-then-not-goes_on c = grind (arith, common_steps, goes_on_is c.in-Some.b.now)

pub returns-else-not-goes_on : goal.returns-else-not-goes_on
unfolding ends_at
returns-else-not-goes_on c = grind (arith, common_steps, goes_on_is c.in-Some.b.now)

pub returns-in-None : goal.returns-in-None
unfolding ends_at goes_on starts digit
returns-in-None c = grind (arith, common_steps)
