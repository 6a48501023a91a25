-- `run::put::put_in` meets its contract. Assumes nothing.
use Prim.Native.Nat.{◌+◌}
use native.Mathlib.Omega.{arith}
use mathlib.Core.Path.{sym, ◌∙◌, ap}
use Rattle.rows.specs.Search.{found}
use Rattle.run.proofs.Walking.{sought_in}
use Rattle.run.proofs.Putting.{end_in, in_hit, in_miss}
use Rattle.run.proofs.put.put_in.Goals as goal

pub returns-in-Some : goal.returns-in-Some
returns-in-Some c = let a = c.args in let p = c.requires in let l = sought_in a.texts.list.now a.texts.table.now a.w.now a.size.rows (omega (arith, a.size.few)) (omega (arith, a.size.few)) a.name.now a.d a.lo c.in-Some.i (ap found (sym c.in-Some.is) ∙ c.child.ensures) in let E = end_in a.texts.list.now a.texts.table.now a.w.now a.size.rows (omega (arith, a.size.few)) (omega (arith, a.size.few)) (c.in-Some.i + 1) (a.d + 1) c.end_of-e.result (omega (arith, l)) (c.end_of-e.ensures a.texts.list.now a.texts.table.now) in in_hit a.texts.list.now a.texts.table.now a.w.now a.size.rows (omega (arith, a.size.few)) (omega (arith, a.size.few)) _ _ a.lo a.d a.size.text _ a.name.now c.in-Some.i c.end_of-e.result (omega (arith, E.0)) (c.replace.ensures.1 a.texts.list.now a.texts.table.now) (ap found (sym c.in-Some.is) ∙ c.child.ensures) (c.end_of-e.ensures a.texts.list.now a.texts.table.now)

pub returns-in-None : goal.returns-in-None
returns-in-None c = let a = c.args in let p = c.requires in in_miss a.texts.list.now a.texts.table.now a.w.now a.size.rows (omega (arith, a.size.few)) (omega (arith, a.size.few)) _ _ a.lo a.d a.size.text _ a.name.now c.end_of-e-in-None.result (c.replace-in-None.ensures.1 a.texts.list.now a.texts.table.now) (ap found (sym c.in-None.is) ∙ c.child.ensures) (c.end_of-e-in-None.ensures a.texts.list.now a.texts.table.now)

pub overflow_add-i : goal.overflow_add-i
overflow_add-i c = let a = c.args in let p = c.requires in let l = sought_in a.texts.list.now a.texts.table.now a.w.now a.size.rows (omega (arith, a.size.few)) (omega (arith, a.size.few)) a.name.now a.d a.lo c.in-Some.i (ap found (sym c.in-Some.is) ∙ c.child.ensures) in omega (arith, l, a.size.few)

pub replace-requires : goal.replace-requires
replace-requires c = let a = c.args in let p = c.requires in let l = sought_in a.texts.list.now a.texts.table.now a.w.now a.size.rows (omega (arith, a.size.few)) (omega (arith, a.size.few)) a.name.now a.d a.lo c.in-Some.i (ap found (sym c.in-Some.is) ∙ c.child.ensures) in let E = end_in a.texts.list.now a.texts.table.now a.w.now a.size.rows (omega (arith, a.size.few)) (omega (arith, a.size.few)) (c.in-Some.i + 1) _ c.end_of-e.result (omega (arith, l)) (c.end_of-e.ensures a.texts.list.now a.texts.table.now) in (omega (arith, E.0), E.1)

pub replace-requires-in-None : goal.replace-requires-in-None
replace-requires-in-None c = let a = c.args in let p = c.requires in let E = end_in a.texts.list.now a.texts.table.now a.w.now a.size.rows (omega (arith, a.size.few)) (omega (arith, a.size.few)) a.lo a.d c.end_of-e-in-None.result p.0 (c.end_of-e-in-None.ensures a.texts.list.now a.texts.table.now) in (omega arith, E.1)
