use mathlib.Core.Path.{◌≡◌}
use lib.ListN.{length}
use Rattle.memory.specs.Memory.{stored}
use Rattle.main_table.specs.Lower.{lowered_all}
use Rattle.main_table.proofs.lower.lower_rows.Given as goal

abbrev pub invariant-loop-k : goal.invariant-loop-k
invariant-loop-k l = record { long : length l.out ≡ length l.initial.out; so_far : l.out ≡ stored l.initial.out 24 (lowered_all l.recs l.first l.from l.k) }
