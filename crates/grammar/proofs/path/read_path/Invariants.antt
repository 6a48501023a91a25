use Prim.Native.Nat.{◌-◌}
use Rattle.grammar.proofs.Rules.Paths.{PathLoop}
use Rattle.grammar.proofs.path.read_path.Given as goal

abbrev pub invariant-loop : goal.invariant-loop
invariant-loop l = PathLoop l.src l.at l.next (32 - l.counter) l.size
