-- `Texts::home` meets its contract. Assumes nothing.
use Rattle.rows.proofs.Texts.{points_first, points_second}
use Rattle.rows.proofs.text.Texts.home.Goals as goal

pub returns-then-place-lt-SECOND : goal.returns-then-place-lt-SECOND
returns-then-place-lt-SECOND c = let a = c.args in points_first a.self.list.now a.self.table.now a.place c.if-place-lt-SECOND.true

pub returns-else-place-lt-SECOND : goal.returns-else-place-lt-SECOND
returns-else-place-lt-SECOND c = let a = c.args in points_second a.self.list.now a.self.table.now a.place c.if-place-lt-SECOND.false
