-- `run::step::bind_last` meets its contract. Assumes nothing.
use Prim.Native.Nat.{◌-◌}
use native.Mathlib.Omega.{arith}
use mathlib.Core.Path.{subst}
use Rattle.run.specs.Paths.{names}
use Rattle.run.specs.Puts.{RanKept, Assigns}
use Rattle.run.proofs.Stepping.{cut, binds_last}
use Rattle.run.proofs.step.bind_last.Goals as goal

pub returns : goal.returns
returns c = let a = c.args in let p = c.requires in (subst (λ k. RanKept k c.assign.result) (omega (arith, p.0)) c.assign.ensures.0, binds_last a.texts.list.now a.texts.table.now a.w.now a.s.now c.assign.new.w a.size.rows a.m a.k a.size.text a.label c.name_of.result.now c.assign.result p.0 c.name_of.ensures (subst (λ z. Assigns a.texts.list.now a.texts.table.now a.size.rows (names a.texts.list.now a.texts.table.now z (a.k - 1)) c.name_of.result.now a.m a.size.text a.w.now a.s.now c.assign.new.w c.assign.result) (cut a.s.now 32768 32768 (omega arith)) c.assign.ensures.1))
