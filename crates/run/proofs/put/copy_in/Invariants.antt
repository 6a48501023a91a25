use Prim.Native.Nat.{ℕ, ◌+◌, ◌-◌, ◌≤◌}
use mathlib.Core.Path.{◌≡◌}
use lib.ListN.{length}
use Rattle.paper.specs.Store.{Store}
use Rattle.paper.specs.Meaning.{copy}
use Rattle.rows.specs.View.{view}
use Rattle.rows.specs.Flat.{flat}
use Rattle.run.specs.Paths.{names}
use Rattle.run.specs.Puts.{Held}
use Rattle.run.proofs.Assigning.{Mid}
use Rattle.run.proofs.put.copy_in.Given as goal

abbrev pub invariant-loop-j : goal.invariant-loop-j
invariant-loop-j l =
    (l.j ≤ l.rows.count)
    × ((st c : Store) (p : ℕ) → Held (view l.texts.list.now l.texts.table.now l.initial.w l.initial.size.rows) l.initial.size.text st → view l.texts.list.now l.texts.table.now l.rows.bytes.now l.rows.count ≡ flat (1 + length (names l.texts.list.now l.texts.table.now l.path.places.now l.path.count)) c → Mid l.texts.list.now l.texts.table.now l.w l.rows.bytes.now l.size.rows l.rows.count l.size.text l.j (names l.texts.list.now l.texts.table.now l.path.places.now l.path.count) p (copy p (names l.texts.list.now l.texts.table.now l.path.places.now l.path.count) c st))

abbrev pub decreases-loop-j : goal.decreases-loop-j
decreases-loop-j l = l.rows.count - l.j
