-- `tokens::class::Class::of` meets its contract. Assumes nothing.
use Rattle.std.proofs.Common.{arith}
use Rattle.paper.specs.Bytes.{when◌then◌else◌}
use Rattle.paper.specs.Tokens.{blank, digit, starts}
use Rattle.tokens.specs.declared.class.Class.TheVariants.{Start}
use Rattle.tokens.specs.Class.{class_of}
use Rattle.tokens.proofs.Classes.{classed}
use Rattle.tokens.proofs.class.Class.of.Goals as goal

-- the table is `classes 0 256`, as antt computes it
pub returns : goal.returns
unfolding class_of blank digit starts when◌then◌else◌
returns c = classed Start 256 0 c.from.result c.args.b (omega arith) (omega arith)
