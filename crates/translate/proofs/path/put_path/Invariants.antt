use Prim.Native.Nat.{◌-◌}
use Rattle.translate.specs.Settled.{path_at}
use Rattle.translate.proofs.Rules.Paths.{PathLoop}
use Rattle.translate.proofs.path.put_path.Given as goal

abbrev pub invariant-loop-next : goal.invariant-loop-next
invariant-loop-next l = PathLoop l.src (path_at l.src l.at) l.initial.out l.to l.out l.from l.count l.end

abbrev pub decreases-loop-next : goal.decreases-loop-next
decreases-loop-next l = 32 - l.count
