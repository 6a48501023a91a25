-- `Rows::kept` meets its contract. Assumes nothing.
use native.Mathlib.Omega.{arith}
use mathlib.Core.Path.{sym}
use Rattle.rows.proofs.Views.{kept_is, kept_many, kept_short}
use Rattle.rows.proofs.search.Rows.kept.Goals as goal
use Rattle.rows.proofs.search.Rows.kept.Goals.{else-self-le-ROWS-via-then-self-le-ROWS+else-self, else-self-le-ROWS-via-else-self-le-ROWS}

pub returns-then-self : goal.returns-then-self
returns-then-self c =
    let s = c.args.self in
    (sym (kept_is s.bytes.now s.count c.if-self-le-ROWS.true c.if-self.true), c.if-self-le-ROWS.true, c.if-self.true)

pub returns-else-self-le-ROWS : goal.returns-else-self-le-ROWS
returns-else-self-le-ROWS c =
    let s = c.args.self in
    elim c.else-self-le-ROWS.branch [
      | else-self-le-ROWS-via-then-self-le-ROWS+else-self w ↦ (sym (kept_short s.bytes.now s.count w.if-self-le-ROWS.true w.if-self.false), omega arith, omega arith)
      | else-self-le-ROWS-via-else-self-le-ROWS w ↦ (sym (kept_many s.bytes.now s.count w.if-self-le-ROWS.false), omega arith, omega arith)
    ]
