-- `run::find::find` meets its contract. Assumes nothing.
use native.Mathlib.Omega.{arith}
use mathlib.Core.Path.{◌∙◌, sym, subst}
use Rattle.rows.specs.View.{view}
use Rattle.run.specs.Paths.{names, DescendsFrom}
use Rattle.run.proofs.Finding.{was_ok, was_err, length_names, some_names, in_found, in_nowhere}
use Rattle.run.proofs.find.find.Goals as goal

pub returns : goal.returns
returns c = let a = c.args in let p = c.requires in (c.find_from.ensures.0, in_found a.texts.list.now a.texts.table.now a.store.rows.bytes.now a.store.rows.count (omega (arith, a.store.few)) a.store.room (names a.texts.list.now a.texts.table.now a.scope.places.now a.scope.count) (names a.texts.list.now a.texts.table.now a.reference.places.now a.reference.count) (some_names a.texts.list.now a.texts.table.now a.reference.places.now a.reference.count p.0) a.scope.count c.in_ok-lo.lo c.find_from.result (length_names a.texts.list.now a.texts.table.now a.scope.places.now a.scope.count) (subst (DescendsFrom (view a.texts.list.now a.texts.table.now a.store.rows.bytes.now a.store.rows.count) 0 1 (names a.texts.list.now a.texts.table.now a.scope.places.now a.scope.count)) (was_ok _ _ (sym c.ok.ensures.value ∙ c.in_ok-lo.was)) c.descend.ensures.1) c.find_from.ensures.1)

pub returns-in_err-lo : goal.returns-in_err-lo
returns-in_err-lo c = let a = c.args in let p = c.requires in rw c.from_residual.ensures (tt, was_err _ (sym c.ok.ensures.value ∙ c.in_err-lo.was) (λ reason e. in_nowhere a.texts.list.now a.texts.table.now a.store.rows.bytes.now a.store.rows.count (omega (arith, a.store.few)) a.store.room (names a.texts.list.now a.texts.table.now a.scope.places.now a.scope.count) (names a.texts.list.now a.texts.table.now a.reference.places.now a.reference.count) (some_names a.texts.list.now a.texts.table.now a.reference.places.now a.reference.count p.0) reason (subst (DescendsFrom (view a.texts.list.now a.texts.table.now a.store.rows.bytes.now a.store.rows.count) 0 1 (names a.texts.list.now a.texts.table.now a.scope.places.now a.scope.count)) e c.descend.ensures.1)))
