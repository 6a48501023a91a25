-- `run::step::link` meets its contract. Assumes nothing.
use Prim.Native.Nat.{◌%◌}
use native.Mathlib.Omega.{arith}
use mathlib.Core.Path.{ap, subst}
use lib.ListN.{drop}
use Rattle.rows.specs.View.{view}
use Rattle.run.specs.Paths.{names, ResolvesIn}
use Rattle.run.specs.Stepping.{scope_in}
use Rattle.run.proofs.Stepping.{reference_kept, drop_kept, kept_then, links_none, links_nothing, links_value}
use Rattle.run.proofs.step.link.Goals as goal

pub returns-in_default : goal.returns-in_default
returns-in_default c = let a = c.args in let p = c.requires in (tt, (reference_kept a.program.texts.list.now a.s.now c.put_names.new.s (c.record_at.result.value % 65536) 0 c.in_default.ensures (omega arith)), links_none a.program.steps.bytes.now a.program.texts.list.now a.program.texts.table.now a.w.now a.s.now c.put_names.new.s a.i a.size.rows a.size.text a.names.scope a.names.own c.last_label-label.result (c.record_at.result.value % 65536) 0 (omega arith) (omega (arith, a.names.inner)) a.names.few a.names.near c.last_label-label.ensures (ap (λ x. x % 65536) c.record_at.ensures.value) c.in_default.ensures a.w.now (omega arith))

pub returns-in_default-resolve_at : goal.returns-in_default-resolve_at
returns-in_default-resolve_at c = let a = c.args in let p = c.requires in (tt, (reference_kept a.program.texts.list.now a.s.now c.put_names.new.s (c.record_at.result.value % 65536) c.in-Some.count c.in-Some.ensures.1 (omega arith)), links_nothing a.program.steps.bytes.now a.program.texts.list.now a.program.texts.table.now a.w.now a.s.now c.put_names.new.s a.i a.size.rows a.size.text a.names.scope a.names.own c.last_label-label.result (c.record_at.result.value % 65536) c.in-Some.count (omega arith) (omega (arith, a.names.inner)) a.names.few a.names.near c.last_label-label.ensures (ap (λ x. x % 65536) c.record_at.ensures.value) c.in-Some.ensures.1 a.w.now (subst (ResolvesIn (view a.program.texts.list.now a.program.texts.table.now a.w.now a.size.rows) a.names.scope (scope_in a.program.texts.list.now a.program.texts.table.now c.put_names.new.s a.names.scope) (names a.program.texts.list.now a.program.texts.table.now (drop 33024 c.put_names.new.s) c.in-Some.count)) c.in_default-resolve_at.is c.resolve_at.ensures.1))

pub returns : goal.returns
returns c = let a = c.args in let p = c.requires in (c.bind_last.ensures.0, kept_then a.s.now c.put_names.new.s c.value-rows.new.s (reference_kept a.program.texts.list.now a.s.now c.put_names.new.s (c.record_at.result.value % 65536) c.in-Some.count c.in-Some.ensures.1 (omega arith)) (drop_kept c.put_names.new.s c.value-rows.new.s c.value-rows.ensures.1), links_value a.program.steps.bytes.now a.program.texts.list.now a.program.texts.table.now a.w.now a.s.now c.put_names.new.s a.i a.size.rows a.size.text a.names.scope a.names.own c.last_label-label.result (c.record_at.result.value % 65536) c.in-Some.count (omega arith) (omega (arith, a.names.inner)) a.names.few a.names.near c.last_label-label.ensures (ap (λ x. x % 65536) c.record_at.ensures.value) c.in-Some.ensures.1 c.in-Some-resolve_at.at c.value-rows.result c.value-rows.new.s c.bind_last.new.w c.bind_last.result (subst (ResolvesIn (view a.program.texts.list.now a.program.texts.table.now a.w.now a.size.rows) a.names.scope (scope_in a.program.texts.list.now a.program.texts.table.now c.put_names.new.s a.names.scope) (names a.program.texts.list.now a.program.texts.table.now (drop 33024 c.put_names.new.s) c.in-Some.count)) c.in-Some-resolve_at.is c.resolve_at.ensures.1) c.value-rows.ensures.2 c.value-rows.ensures.1 c.bind_last.ensures.1)
