-- `run::step::put_names` meets its contract. Assumes nothing.
use native.Mathlib.Omega.{arith}
use Rattle.run.proofs.Stepping.{names_none, names_some}
use Rattle.run.proofs.step.put_names.Goals as goal

pub returns-then-p-gt-SECOND : goal.returns-then-p-gt-SECOND
returns-then-p-gt-SECOND c = let a = c.args in let p = c.requires in names_none a.t.now a.s.now a.p a.at c.if-p-gt-SECOND.true

pub returns-in_default : goal.returns-in_default
returns-in_default c = let a = c.args in (omega (arith, c.in_default), names_some a.t.now a.s.now c.put_path.new.s a.p a.at c.put_path.result c.put_path.ensures.0 c.put_path.ensures.1)
