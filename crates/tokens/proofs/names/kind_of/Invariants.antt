use Rattle.std.proofs.Common.{◌≡◌, drop}
use Rattle.tokens.specs.Kinds.{words, named}
use Rattle.tokens.proofs.names.kind_of.Given as goal

abbrev pub invariant-loop-bytes : goal.invariant-loop-bytes
invariant-loop-bytes l = named words l.name ≡ named (drop l.bytes-index words) l.name
