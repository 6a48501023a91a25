-- `run::find::resolve` meets its contract. Assumes nothing.
use native.Mathlib.Omega.{arith}
use mathlib.Core.Path.{subst}
use mathlib.Core.List.{◌++◌}
use Rattle.rows.specs.View.{view}
use Rattle.run.specs.Paths.{names, FoundIn, FindsIn}
use Rattle.run.proofs.Finding.{resolve_here, resolve_ends, resolve_again}
use Rattle.run.proofs.find.+resolve.Goals as goal

pub returns-then-scope-eq0 : goal.returns-then-scope-eq0
returns-then-scope-eq0 t c = let a = c.args in let p = c.requires in (tt, resolve_ends a.texts.list.now a.texts.table.now a.store.rows.bytes.now a.store.rows.count (omega (arith, a.store.few)) a.store.room a.scope.places.now (names a.texts.list.now a.texts.table.now a.reference.places.now a.reference.count) a.scope.count c.if-scope-eq0.true (subst (FindsIn (view a.texts.list.now a.texts.table.now a.store.rows.bytes.now a.store.rows.count) ((names a.texts.list.now a.texts.table.now a.scope.places.now a.scope.count) ++ (names a.texts.list.now a.texts.table.now a.reference.places.now a.reference.count))) c.in_default.is c.find.ensures.1))

pub returns-in_default : goal.returns-in_default
returns-in_default t c = let a = c.args in let p = c.requires in (c.resolve.ensures.0, resolve_again a.texts.list.now a.texts.table.now a.store.rows.bytes.now a.store.rows.count (omega (arith, a.store.few)) a.store.room a.scope.places.now (names a.texts.list.now a.texts.table.now a.reference.places.now a.reference.count) a.scope.count c.resolve.result c.if-scope-eq0.false (subst (FindsIn (view a.texts.list.now a.texts.table.now a.store.rows.bytes.now a.store.rows.count) ((names a.texts.list.now a.texts.table.now a.scope.places.now a.scope.count) ++ (names a.texts.list.now a.texts.table.now a.reference.places.now a.reference.count))) c.in_default.is c.find.ensures.1) c.resolve.ensures.1)

pub returns : goal.returns
returns t c = let a = c.args in let p = c.requires in (subst (FoundIn a.store.rows.count) c.in-Some.is c.find.ensures.0, resolve_here a.texts.list.now a.texts.table.now a.store.rows.bytes.now a.store.rows.count (omega (arith, a.store.few)) a.store.room a.scope.places.now (names a.texts.list.now a.texts.table.now a.reference.places.now a.reference.count) a.scope.count c.in-Some.i (subst (FindsIn (view a.texts.list.now a.texts.table.now a.store.rows.bytes.now a.store.rows.count) ((names a.texts.list.now a.texts.table.now a.scope.places.now a.scope.count) ++ (names a.texts.list.now a.texts.table.now a.reference.places.now a.reference.count))) c.in-Some.is c.find.ensures.1))
