use Prim.Native.Nat.{◌+◌, ◌-◌, ◌*◌}
use lib.ListN.{length}
use Rattle.grammar.proofs.Rules.Blocks.{PrototypesLoop}
use Rattle.grammar.proofs.Rules.Statements.{StatementsLoop}
use Rattle.grammar.proofs.statements.+read_block_read_prototypes_read_statements_read_value.Given as goal

abbrev pub decreases-read_block : goal.decreases-read_block
decreases-read_block l = 2 * (length l.src.now - l.from.at)

abbrev pub decreases-read_prototypes : goal.decreases-read_prototypes
decreases-read_prototypes l = 2 * (length l.src.now - l.from.at) + 1

abbrev pub decreases-read_statements : goal.decreases-read_statements
decreases-read_statements l = 2 * (length l.src.now - l.from.at)

abbrev pub decreases-read_value : goal.decreases-read_value
decreases-read_value l = 2 * (length l.src.now - l.from.at)

abbrev pub invariant-read_prototypes-loop-prototype : goal.invariant-read_prototypes-loop-prototype
invariant-read_prototypes-loop-prototype l = PrototypesLoop l.src l.initial.here l.left l.initial.work l.work l.here

abbrev pub decreases-read_prototypes-loop-prototype : goal.decreases-read_prototypes-loop-prototype
decreases-read_prototypes-loop-prototype l = length l.src - l.here.at

abbrev pub invariant-read_statements-loop-target : goal.invariant-read_statements-loop-target
invariant-read_statements-loop-target l = StatementsLoop l.src l.initial.here l.left l.initial.work l.work l.here

abbrev pub decreases-read_statements-loop-target : goal.decreases-read_statements-loop-target
decreases-read_statements-loop-target l = length l.src - l.here.at
