-- `spelling::token_part` meets its contract. Assumes nothing.
use Rattle.std.proofs.Common.{rules}
use Rattle.paper.specs.Bytes.{when◌then◌else◌}
use Rattle.spelling.specs.Spelt.{part_of}
use Rattle.spelling.proofs.token_part.Goals as goal

pub returns : goal.returns
unfolding part_of when◌then◌else◌
returns c = search rules
