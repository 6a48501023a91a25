-- `spelling::text::escape` meets its contract. Assumes nothing.
use Rattle.std.proofs.Common.{rules}
use Rattle.paper.specs.Bytes.{when◌then◌else◌}
use Rattle.paper.specs.Tokens.{escaped}
use Rattle.spelling.specs.Text.{option_of}
use Rattle.spelling.proofs.text.escape.Goals as goal

pub returns-in-110 : goal.returns-in-110
unfolding option_of escaped when◌then◌else◌
returns-in-110 c = search rules

pub returns-in-116 : goal.returns-in-116
unfolding option_of escaped when◌then◌else◌
returns-in-116 c = search rules

pub returns-in-98 : goal.returns-in-98
unfolding option_of escaped when◌then◌else◌
returns-in-98 c = search rules

pub returns-in-114 : goal.returns-in-114
unfolding option_of escaped when◌then◌else◌
returns-in-114 c = search rules

pub returns-in-102 : goal.returns-in-102
unfolding option_of escaped when◌then◌else◌
returns-in-102 c = search rules

pub returns-in-92 : goal.returns-in-92
unfolding option_of escaped when◌then◌else◌
returns-in-92 c = search rules

pub returns-in_default : goal.returns-in_default
unfolding option_of escaped when◌then◌else◌
returns-in_default c = search rules
