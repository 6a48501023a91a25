-- `run::step::copy_at` meets its contract. Assumes nothing.
use native.Mathlib.Omega.{arith}
use mathlib.Core.Path.{subst}
use Rattle.run.specs.Paths.{names}
use Rattle.run.specs.Puts.{Copies}
use Rattle.run.proofs.Stepping.{cut}
use Rattle.run.proofs.step.copy_at.Goals as goal

pub returns : goal.returns
returns c = let a = c.args in let p = c.requires in (c.copy_in.ensures.0, subst (λ z. Copies a.texts.list.now a.texts.table.now a.size.rows (names a.texts.list.now a.texts.table.now z a.k) a.m a.size.text a.w.now a.s.now c.copy_in.new.w c.copy_in.result) (cut a.s.now 32768 32768 (omega arith)) c.copy_in.ensures.1)
