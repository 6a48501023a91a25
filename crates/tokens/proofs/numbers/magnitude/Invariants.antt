use Rattle.std.proofs.Common.{◌≡◌, drop}
use Rattle.paper.specs.Tokens.{count}
use Rattle.tokens.proofs.numbers.magnitude.Given as goal

abbrev pub invariant-loop-b : goal.invariant-loop-b
invariant-loop-b l = count 0 l.digits ≡ count l.value (drop l.b-index l.digits)
