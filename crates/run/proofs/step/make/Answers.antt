-- `run::step::make` meets its contract. Assumes nothing.
use Prim.Native.Nat.{◌+◌}
use native.Mathlib.Omega.{arith}
use mathlib.Core.Path.{◌≡◌, ◌∙◌, ap}
use lib.ListN.{drop}
use Rattle.rows.specs.Change.{row_bytes, row_stored}
use Rattle.run.proofs.Taking.{row_behind}
use Rattle.run.proofs.Stepping.{makes}
use Rattle.run.proofs.step.make.Goals as goal

pub returns : goal.returns
returns c =
    let a = c.args in let p = c.requires in let put : c.put_row.new.w ≡ row_stored a.s.now 0 (row_bytes 0 a.k c.last_label-label.result (1 + c.byte_of.result) 0) = c.put_row.ensures ∙ ap (λ k. row_stored a.s.now 0 (row_bytes k a.k c.last_label-label.result (1 + c.byte_of.result) 0)) c.number.ensures in let ed = ap (drop 32768) put ∙ row_behind a.s.now 0 0 a.k c.last_label-label.result (1 + c.byte_of.result) 0 (omega arith) (omega arith) in
    (c.bind_last.ensures.0, ed, makes a.texts.list.now a.texts.table.now a.w.now a.s.now c.put_row.new.w c.bind_last.new.w a.size.rows a.size.text a.k c.last_label-label.result (1 + c.byte_of.result) c.bind_last.result (omega arith) p.0 p.1 c.last_label-label.ensures (ap (λ x. 1 + x) c.byte_of.ensures.0) (omega (arith, c.byte_of.ensures.1)) put ed c.bind_last.ensures.1)
