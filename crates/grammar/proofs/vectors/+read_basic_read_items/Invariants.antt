use Prim.Native.Nat.{◌+◌, ◌-◌, ◌*◌}
use lib.ListN.{length}
use Rattle.grammar.proofs.Rules.Items.{ItemsLoop}
use Rattle.grammar.proofs.vectors.+read_basic_read_items.Given as goal

abbrev pub decreases-read_basic : goal.decreases-read_basic
decreases-read_basic l = 2 * (length l.src.now - l.from.at) + 1

abbrev pub decreases-read_items : goal.decreases-read_items
decreases-read_items l = 2 * (length l.src.now - l.from.at)

abbrev pub invariant-read_items-loop-found : goal.invariant-read_items-loop-found
invariant-read_items-loop-found l = ItemsLoop l.src l.initial.here l.left l.initial.work l.work l.here

abbrev pub decreases-read_items-loop-found : goal.decreases-read_items-loop-found
decreases-read_items-loop-found l = length l.src - l.here.at
