-- `run::step::resolve_at` meets its contract. Assumes nothing.
use native.Mathlib.Omega.{arith}
use Prim.Native.Nat.{◌*◌}
use mathlib.Core.Path.{subst}
use lib.ListN.{take, drop}
use Rattle.rows.specs.View.{view}
use Rattle.run.specs.Paths.{names, ResolvesIn}
use Rattle.run.proofs.Stepping.{cut, cut_long}
use Rattle.run.proofs.step.resolve_at.Goals as goal

pub invariant_of-store : goal.invariant_of-store
invariant_of-store c = let a = c.args in record { few = a.size.few; room = omega (arith, a.size.few) }

pub invariant_of-scope : goal.invariant_of-scope
invariant_of-scope c = let a = c.args in let p = c.requires in record { few = omega (arith, p.2); room = cut_long a.s.now 32768 32768 (a.j * 2) (omega arith) (omega (arith, p.2)) }

pub invariant_of-reference : goal.invariant_of-reference
invariant_of-reference c = let a = c.args in let p = c.requires in record { few = omega (arith, p.1); room = cut_long a.s.now 33024 32512 (a.m * 2) (omega arith) (omega (arith, p.1)) }

pub returns : goal.returns
returns c = let a = c.args in let p = c.requires in (c.resolve.ensures.0, subst (λ z. ResolvesIn (view a.texts.list.now a.texts.table.now a.w.now a.size.rows) a.j (names a.texts.list.now a.texts.table.now z a.j) (names a.texts.list.now a.texts.table.now (drop 33024 a.s.now) a.m) c.resolve.result) (cut a.s.now 32768 32768 (omega arith)) (subst (λ z. ResolvesIn (view a.texts.list.now a.texts.table.now a.w.now a.size.rows) a.j (names a.texts.list.now a.texts.table.now (take 32768 (drop 32768 a.s.now)) a.j) (names a.texts.list.now a.texts.table.now z a.m) c.resolve.result) (cut a.s.now 33024 32512 (omega arith)) c.resolve.ensures.1))
