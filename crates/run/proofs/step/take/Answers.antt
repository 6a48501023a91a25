-- `run::step::take` meets its contract. Assumes nothing.
use native.Mathlib.Omega.{arith}
use mathlib.Core.Path.{sym, ◌∙◌, subst}
use lib.ListN.{drop}
use Rattle.rows.specs.View.{view}
use Rattle.run.specs.Paths.{names, FoundIn, ResolvesIn}
use Rattle.run.specs.Stepping.{scope_in}
use Rattle.run.proofs.Stepping.{reference_kept, drop_kept, kept_then, takes_none, takes_nothing, takes_basic, takes_component}
use Rattle.run.proofs.step.take.Goals as goal

pub returns-in_default : goal.returns-in_default
returns-in_default c = let a = c.args in let p = c.requires in (tt, (reference_kept a.program.texts.list.now a.s.now c.put_names.new.s c.record_at-reference.result.path 0 c.in_default.ensures (omega arith)), takes_none a.program.steps.bytes.now a.program.texts.list.now a.program.texts.table.now a.w.now a.s.now c.put_names.new.s a.i a.size.rows a.size.text a.names.scope a.names.own c.record_at-reference.result.path 0 (omega arith) p.1 a.names.near a.size.few (omega (arith, a.size.few)) c.record_at-reference.ensures.path c.in_default.ensures a.w.now (omega arith))

pub returns-in_default-resolve_at : goal.returns-in_default-resolve_at
returns-in_default-resolve_at c = let a = c.args in let p = c.requires in (tt, (reference_kept a.program.texts.list.now a.s.now c.put_names.new.s c.record_at-reference.result.path c.in-Some.count c.in-Some.ensures.1 (omega arith)), takes_nothing a.program.steps.bytes.now a.program.texts.list.now a.program.texts.table.now a.w.now a.s.now c.put_names.new.s a.i a.size.rows a.size.text a.names.scope a.names.own c.record_at-reference.result.path c.in-Some.count (omega arith) p.1 a.names.near a.size.few (omega (arith, a.size.few)) c.record_at-reference.ensures.path c.in-Some.ensures.1 a.w.now (subst (ResolvesIn (view a.program.texts.list.now a.program.texts.table.now a.w.now a.size.rows) a.names.scope (scope_in a.program.texts.list.now a.program.texts.table.now c.put_names.new.s a.names.scope) (names a.program.texts.list.now a.program.texts.table.now (drop 33024 c.put_names.new.s) c.in-Some.count)) c.in_default-resolve_at.is c.resolve_at.ensures.1))

pub returns-then-kind_at-number : goal.returns-then-kind_at-number
returns-then-kind_at-number c = let a = c.args in let p = c.requires in (tt, (reference_kept a.program.texts.list.now a.s.now c.put_names.new.s c.record_at-reference.result.path c.in-Some.count c.in-Some.ensures.1 (omega arith)), takes_basic a.program.steps.bytes.now a.program.texts.list.now a.program.texts.table.now a.w.now a.s.now c.put_names.new.s a.i a.size.rows a.size.text a.names.scope a.names.own c.record_at-reference.result.path c.in-Some.count (omega arith) p.1 a.names.near a.size.few (omega (arith, a.size.few)) c.record_at-reference.ensures.path c.in-Some.ensures.1 c.in-Some-resolve_at.source a.w.now (subst (FoundIn a.size.rows) c.in-Some-resolve_at.is c.resolve_at.ensures.0) (subst (ResolvesIn (view a.program.texts.list.now a.program.texts.table.now a.w.now a.size.rows) a.names.scope (scope_in a.program.texts.list.now a.program.texts.table.now c.put_names.new.s a.names.scope) (names a.program.texts.list.now a.program.texts.table.now (drop 33024 c.put_names.new.s) c.in-Some.count)) c.in-Some-resolve_at.is c.resolve_at.ensures.1) (λ z. c.if-kind_at-number.true (c.kind_at.ensures ∙ z ∙ sym c.number.ensures)))

pub returns : goal.returns
returns c = let a = c.args in let p = c.requires in (c.copy_at.ensures.0, kept_then a.s.now c.put_names.new.s c.attributes-rows.new.s (reference_kept a.program.texts.list.now a.s.now c.put_names.new.s c.record_at-reference.result.path c.in-Some.count c.in-Some.ensures.1 (omega arith)) (drop_kept c.put_names.new.s c.attributes-rows.new.s c.attributes-rows.ensures.1), takes_component a.program.steps.bytes.now a.program.texts.list.now a.program.texts.table.now a.w.now a.s.now c.put_names.new.s a.i a.size.rows a.size.text a.names.scope a.names.own c.record_at-reference.result.path c.in-Some.count (omega arith) p.1 a.names.near a.size.few (omega (arith, a.size.few)) c.record_at-reference.ensures.path c.in-Some.ensures.1 c.in-Some-resolve_at.source c.attributes-rows.result c.attributes-rows.new.s c.copy_at.new.w c.copy_at.result (subst (FoundIn a.size.rows) c.in-Some-resolve_at.is c.resolve_at.ensures.0) (subst (ResolvesIn (view a.program.texts.list.now a.program.texts.table.now a.w.now a.size.rows) a.names.scope (scope_in a.program.texts.list.now a.program.texts.table.now c.put_names.new.s a.names.scope) (names a.program.texts.list.now a.program.texts.table.now (drop 33024 c.put_names.new.s) c.in-Some.count)) c.in-Some-resolve_at.is c.resolve_at.ensures.1) (sym c.kind_at.ensures ∙ c.if-kind_at-number.false ∙ c.number.ensures) c.attributes-rows.ensures.2 c.attributes-rows.ensures.1 c.copy_at.ensures.1)
