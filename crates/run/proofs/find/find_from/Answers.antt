-- `run::find::find_from` meets its contract. Assumes nothing.
use native.Mathlib.Omega.{arith}
use Prim.Native.Nat.{◌+◌, ◌-◌}
use mathlib.Core.Path.{◌∙◌, sym, ap, subst}
use Rattle.rows.specs.View.{name_of, view}
use Rattle.run.specs.Paths.{names, DescendsFrom}
use Rattle.run.proofs.Finding.{was_ok, was_err, found_in, from_child, from_nowhere}
use Rattle.run.proofs.find.find_from.Goals as goal

pub returns : goal.returns
returns c = let a = c.args in let p = c.requires in (found_in a.texts.list.now a.texts.table.now a.store.rows.bytes.now a.store.rows.count (omega (arith, a.store.few)) a.store.room c.in_ok-inner.inner (a.d + (a.reference.count - 1)) c.name_of-name.result.now c.child.result c.child.ensures, from_child a.texts.list.now a.texts.table.now a.store.rows.bytes.now a.store.rows.count (omega (arith, a.store.few)) a.store.room a.reference.places.now a.reference.count a.lo a.d a.reference.room p.1 c.in_ok-inner.inner c.name_of-name.result.now c.child.result (subst (DescendsFrom (view a.texts.list.now a.texts.table.now a.store.rows.bytes.now a.store.rows.count) a.lo a.d (names a.texts.list.now a.texts.table.now a.reference.places.now (a.reference.count - 1))) (was_ok _ _ (sym c.ok.ensures.value ∙ c.in_ok-inner.was)) c.descend.ensures.1) (c.name_of-name.ensures ∙ ap (name_of a.texts.list.now a.texts.table.now) (c.from.ensures ∙ c.get16.ensures)) c.child.ensures)

pub returns-in_err-inner : goal.returns-in_err-inner
returns-in_err-inner c = let a = c.args in let p = c.requires in rw c.from_residual.ensures (tt, was_err _ (sym c.ok.ensures.value ∙ c.in_err-inner.was) (λ reason e. from_nowhere a.texts.list.now a.texts.table.now a.store.rows.bytes.now a.store.rows.count (omega (arith, a.store.few)) a.store.room a.reference.places.now a.reference.count a.lo a.d a.reference.room p.1 reason (subst (DescendsFrom (view a.texts.list.now a.texts.table.now a.store.rows.bytes.now a.store.rows.count) a.lo a.d (names a.texts.list.now a.texts.table.now a.reference.places.now (a.reference.count - 1))) e c.descend.ensures.1)))
