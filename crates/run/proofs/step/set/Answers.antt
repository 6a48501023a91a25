-- `run::step::set` meets its contract. Assumes nothing.
use native.Mathlib.Omega.{arith}
use Rattle.run.proofs.Stepping.{sets}
use Rattle.run.proofs.step.set.Goals as goal

pub returns : goal.returns
returns c = let a = c.args in let p = c.requires in (c.bind_last.ensures.0, c.set_rows-rows.ensures.1, sets a.program.texts.list.now a.program.texts.table.now a.w.now a.s.now c.set_rows-rows.new.s c.bind_last.new.w a.size.rows a.size.text a.k c.last_label-label.result 0 c.bind_last.result (omega arith) p.1 p.2 c.last_label-label.ensures a.program.steps.bytes.now a.i c.set_rows-rows.result c.set_rows-rows.ensures.2 c.set_rows-rows.ensures.1 c.bind_last.ensures.1)
