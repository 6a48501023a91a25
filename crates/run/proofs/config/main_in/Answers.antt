-- `run::config::main_in` meets its contract. Assumes nothing.
use native.Mathlib.Omega.{arith}
use mathlib.Core.Path.{sym, ◌∙◌, ap}
use Rattle.rows.specs.Search.{found}
use Rattle.run.proofs.Choosing.{main_inside, main_nothing, main_basic, main_inner}
use Rattle.run.proofs.config.main_in.Goals as goal

pub returns-in_default : goal.returns-in_default
returns-in_default c = let a = c.args in main_nothing a.texts.list.now a.texts.table.now a.store.bytes.now a.store.count c.requires.0 c.requires.1 a.out.now (sym (ap found c.in_default.is) ∙ c.child.ensures)

pub returns-then-kind_at-number : goal.returns-then-kind_at-number
returns-then-kind_at-number c = let a = c.args in main_basic a.texts.list.now a.texts.table.now a.store.bytes.now a.store.count c.requires.0 c.requires.1 a.out.now _ (sym (ap found c.in-Some.is) ∙ c.child.ensures) (λ z. c.if-kind_at-number.true (c.kind_at.ensures ∙ z ∙ sym c.number.ensures))

pub returns : goal.returns
returns c = let a = c.args in main_inner a.texts.list.now a.texts.table.now a.store.bytes.now a.store.count c.requires.0 c.requires.1 a.out.now _ (sym (ap found c.in-Some.is) ∙ c.child.ensures) (sym c.kind_at.ensures ∙ c.if-kind_at-number.false ∙ c.number.ensures) c.end_of-end.result (c.end_of-end.ensures a.texts.list.now a.texts.table.now) c.requires.2 _ c.write.result c.write.ensures.0 c.write.ensures.1

pub overflow_add-i : goal.overflow_add-i
overflow_add-i c = let a = c.args in omega (arith, main_inside a.texts.list.now a.texts.table.now a.store.bytes.now a.store.count c.requires.0 c.requires.1 _ (sym (ap found c.in-Some.is) ∙ c.child.ensures), c.requires.0)
