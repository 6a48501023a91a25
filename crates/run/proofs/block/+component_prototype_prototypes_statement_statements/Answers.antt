-- The proof of the cycle of calls of a block's statements and a component's prototypes: each need by a rule of `Statements`, `Prototypes` or `Going`.
-- Three times the records that are left falls, with what the call is for as its last digit. Assumes nothing.
use Prim.Native.Nat.{◌+◌, ◌*◌}
use native.Mathlib.Omega.{arith}
use mathlib.Core.Path.{◌≡◌, refl, sym, ◌∙◌, subst}
use mathlib.Core.Bool.{true, false}
use mathlib.Core.List.{[], ◌∷◌, ◌++◌}
use lib.ListN.{length}
use Rattle.paper.specs.Meaning.{B⟦◌⟧, P⟦◌⟧}
use Rattle.paper.specs.Steps.{done, steps, prototype_steps}
use Rattle.paper.specs.StepLayout.{all_rows}
use Rattle.std.specs.Prelude.{Err}
use Rattle.refusal.specs.declared.Reason.TheVariants.{TargetIsRoot}
use Rattle.std.proofs.lemmas.Result.{err_from_is_err_and}
use Rattle.run.specs.Listed.{step_field, ReadsStep}
use Rattle.run.specs.Stepping.{scope_in, NamesPut, Makes}
use Rattle.run.specs.Blocks.{begins_statement, begins_prototype, NextIn, StatementIs, PrototypeIs, PrototypesAre}
use Rattle.run.proofs.Stepping.{drop_kept}
use Rattle.run.proofs.Evaluating.{names_before}
use Rattle.run.proofs.Statements.{statement_none, statement_set, statement_link, statement_component, component_refused, component_on}
use Rattle.run.proofs.Prototypes.{prototype_take, block_refused, block_on, block_starts, block_ends, prototypes_start, prototypes_end}
use Rattle.kinds.specs.declared.Step.TheVariants.{Take, Set, Link}
use Rattle.run.proofs.Going.{was_read, not_read, placed_in, placed_ok, statement_there, prototype_there, kept_all, kept_less, kept_both, statement_on, statement_off, prototype_on, prototype_off}
use Rattle.run.proofs.block.+component_prototype_prototypes_statement_statements.Goals as goal

pub component-returns : goal.component-returns
component-returns t c = let a = c.args in let p = c.requires in let n = c.in_ok-next.next in let I = placed_ok _ _ _ _ (sym c.placed.ensures ∙ c.in_ok-next.was) in (subst (λ j. NextIn j c.prototypes.result) I.1 c.prototypes.ensures.0, kept_both a.names.scope a.s.now c.make-ran.new.s c.prototypes.new.s (kept_all a.names.scope a.s.now c.make-ran.new.s (drop_kept a.s.now c.make-ran.new.s c.make-ran.ensures.1) (omega (arith, a.names.near))) (kept_less a.names.scope a.names.own c.make-ran.new.s c.prototypes.new.s c.prototypes.ensures.1 (omega (arith, a.names.inner))), component_on a.program.steps.bytes.now a.program.texts.list.now a.program.texts.table.now a.s.now a.w.now a.from.index a.from.size.rows a.from.size.text a.names.scope a.names.own a.program.steps.few p c.make-ran.new.s c.make-ran.new.w c.prototypes.new.w n.size c.prototypes.result (subst (Makes a.program.texts.list.now a.program.texts.table.now a.from.size.rows a.from.size.text a.names.own a.s.now a.w.now c.make-ran.new.w) I.0 c.make-ran.ensures.2) c.make-ran.ensures.1 (subst (λ j. PrototypesAre a.program.steps.bytes.now j a.program.texts.list.now a.program.texts.table.now n.size.rows n.size.text a.names.scope a.names.own c.make-ran.new.s c.make-ran.new.w c.prototypes.new.w c.prototypes.result) I.1 c.prototypes.ensures.2))

pub component-returns-in_err-next : goal.component-returns-in_err-next
component-returns-in_err-next t c = let a = c.args in let p = c.requires in let exit = err_from_is_err_and c.from_residual.result c.from_residual.ensures.1 in rw (exit.1, exit.2) (tt, kept_all a.names.scope a.s.now c.make-ran.new.s (drop_kept a.s.now c.make-ran.new.s c.make-ran.ensures.1) (omega (arith, a.names.near)), component_refused a.program.steps.bytes.now a.program.texts.list.now a.program.texts.table.now a.s.now a.w.now a.from.index a.from.size.rows a.from.size.text a.names.scope a.names.own a.program.steps.few p c.make-ran.new.w c.make-ran.result _ (sym c.placed.ensures ∙ c.in_err-next.was) c.make-ran.ensures.2)

pub prototype-returns-in-Take : goal.prototype-returns-in-Take
prototype-returns-in-Take t c = let a = c.args in let p = c.requires in (subst (NextIn (a.from.index + 1)) (sym c.placed.ensures) (placed_in (a.from.index + 1) 0 _ (a.from.index + 1) c.take-ran.result c.take-ran.ensures.0 (omega arith) (omega (arith, p.0))), kept_all a.names.own a.s.now c.take-ran.new.s c.take-ran.ensures.1 (omega (arith, p.1)), subst (PrototypeIs a.program.steps.bytes.now a.from.index a.program.texts.list.now a.program.texts.table.now a.from.size.rows a.from.size.text a.names.scope a.names.own a.s.now a.w.now c.take-ran.new.w) (sym c.placed.ensures) (prototype_take a.program.steps.bytes.now a.program.texts.list.now a.program.texts.table.now a.s.now a.w.now c.take-ran.new.w a.from.index a.from.size.rows a.from.size.text a.names.scope a.names.own a.program.steps.few p.0 c.take-ran.result (was_read _ Take (subst (ReadsStep _) c.in-Take.is c.record_at.ensures.step) (λ e. cc)) c.take-ran.ensures.2))

pub prototype-returns-in_ok-leave-in_default : goal.prototype-returns-in_ok-leave-in_default
prototype-returns-in_ok-leave-in_default t c = let a = c.args in let p = c.requires in let X = c.in_ok-leave-in_default.ensures.0 in ((omega (arith, X.0, c.behind.ensures.1 X.1), c.behind.ensures.0), c.statements.ensures.1, block_on a.program.steps.bytes.now a.program.texts.list.now a.program.texts.table.now a.s.now a.w.now c.statements.new.w a.from.index a.from.size.rows a.from.size.text a.names.scope a.names.own a.program.steps.few p.0 _ c.behind.result c.in_ok-leave-in_default.leave.size (not_read _ _ Take c.record_at.ensures.step c.in_default.not-Take) c.in_ok-leave-in_default.ensures.2 c.behind.ensures.2)

pub prototype-returns-in_err-leave-in_default : goal.prototype-returns-in_err-leave-in_default
prototype-returns-in_err-leave-in_default t c = let a = c.args in let p = c.requires in let exit = err_from_is_err_and c.from_residual.result c.from_residual.ensures.1 in rw (exit.1, exit.2) (tt, c.statements.ensures.1, block_refused a.program.steps.bytes.now a.program.texts.list.now a.program.texts.table.now a.s.now a.w.now c.statements.new.w a.from.index a.from.size.rows a.from.size.text a.names.scope a.names.own a.program.steps.few p.0 _ (not_read _ _ Take c.record_at.ensures.step c.in_default.not-Take) c.in_err-leave-in_default.ensures.2)

pub prototypes-loop-names-init : goal.prototypes-loop-names-init
prototypes-loop-names-init t c = let a = c.args in let p = c.requires in (omega arith, p.0, (λ t u. refl), λ ps q rest st g y h held. prototypes_start a.program.steps.bytes.now a.program.texts.list.now a.program.texts.table.now a.w.now a.from.index a.from.size.rows a.from.size.text (scope_in a.program.texts.list.now a.program.texts.table.now a.s.now a.names.scope) (scope_in a.program.texts.list.now a.program.texts.table.now a.s.now a.names.own) ps q rest st g y held)

pub prototypes-loop-names-preserved : goal.prototypes-loop-names-preserved
prototypes-loop-names-preserved t c = let a = c.args in let p = c.requires in let l = c.loop-names in let e : begins_prototype (step_field 2 a.program.steps.bytes.now l.next.index 0) ≡ true = sym c.extends.ensures ∙ c.loop-names-test.true in let li = prototype_there a.program.steps.bytes.now l.next.index e a.program.steps.few in let X = c.in_ok-next.ensures.0 in (omega (arith, X.0, l.invariant.0), X.1, kept_both a.names.own a.s.now l.s c.prototype.new.s l.invariant.2 c.prototype.ensures.1, λ ps q rest st g y h held. prototype_on a.program.steps.bytes.now a.program.texts.list.now a.program.texts.table.now l.w c.prototype.new.w a.s.now l.s l.next.index a.names.scope a.names.own l.next.size rest (P⟦ ps ⟧ (scope_in a.program.texts.list.now a.program.texts.table.now a.s.now a.names.scope) (scope_in a.program.texts.list.now a.program.texts.table.now a.s.now a.names.own) st) (a.from.index + length (all_rows (prototype_steps ps ++ (done ∷ [])))) h a.program.steps.few l.invariant.1 (omega (arith, a.names.inner)) l.invariant.2 e (l.invariant.3 ps q rest st g y h held) _ c.in_ok-next.next.size c.in_ok-next.ensures.2)

pub prototypes-returns-in_err-next : goal.prototypes-returns-in_err-next
prototypes-returns-in_err-next t c = let a = c.args in let p = c.requires in let l = c.loop-names in let e : begins_prototype (step_field 2 a.program.steps.bytes.now l.next.index 0) ≡ true = sym c.extends.ensures ∙ c.loop-names-test.true in let li = prototype_there a.program.steps.bytes.now l.next.index e a.program.steps.few in let exit = err_from_is_err_and c.from_residual.result c.from_residual.ensures.1 in rw (exit.1, exit.2) (tt, kept_both a.names.own a.s.now l.s c.prototype.new.s l.invariant.2 c.prototype.ensures.1, λ ps q rest st g y h held. prototype_off a.program.steps.bytes.now a.program.texts.list.now a.program.texts.table.now l.w c.prototype.new.w a.s.now l.s l.next.index a.names.scope a.names.own l.next.size rest (P⟦ ps ⟧ (scope_in a.program.texts.list.now a.program.texts.table.now a.s.now a.names.scope) (scope_in a.program.texts.list.now a.program.texts.table.now a.s.now a.names.own) st) (a.from.index + length (all_rows (prototype_steps ps ++ (done ∷ [])))) h a.program.steps.few l.invariant.1 (omega (arith, a.names.inner)) l.invariant.2 e (l.invariant.3 ps q rest st g y h held) _ c.in_err-next.ensures.2)

pub prototypes-returns : goal.prototypes-returns
prototypes-returns t c = let a = c.args in let p = c.requires in let l = c.loop-names in let e : begins_prototype (step_field 2 a.program.steps.bytes.now l.next.index 0) ≡ false = sym c.extends.ensures ∙ c.loop-names-test.false in ((omega (arith, l.invariant.0, c.behind.ensures.1 l.invariant.1), c.behind.ensures.0), l.invariant.2, λ ps q rest st g y h held. prototypes_end a.program.steps.bytes.now a.program.texts.list.now a.program.texts.table.now l.w l.next.index l.next.size (scope_in a.program.texts.list.now a.program.texts.table.now a.s.now a.names.scope) (scope_in a.program.texts.list.now a.program.texts.table.now a.s.now a.names.own) rest (P⟦ ps ⟧ (scope_in a.program.texts.list.now a.program.texts.table.now a.s.now a.names.scope) (scope_in a.program.texts.list.now a.program.texts.table.now a.s.now a.names.own) st) (a.from.index + length (all_rows (prototype_steps ps ++ (done ∷ [])))) h a.program.steps.few l.invariant.1 c.behind.result e c.behind.ensures.2 (l.invariant.3 ps q rest st g y h held))

pub statement-returns-in_default : goal.statement-returns-in_default
statement-returns-in_default t c = let a = c.args in let p = c.requires in (tt, (names_before a.program.texts.list.now a.s.now c.put_names.new.s c.record_at-record.result.path a.k 0 c.in_default.ensures p.1 (omega arith)), statement_none a.program.steps.bytes.now a.program.texts.list.now a.program.texts.table.now a.s.now c.put_names.new.s a.w.now a.w.now a.from.index a.from.size.rows a.from.size.text a.k 0 p.1 (omega arith) a.program.steps.few p.0 (subst (λ z. NamesPut a.program.texts.list.now z a.s.now (32768 + a.k * 2) c.put_names.new.s 0) c.record_at-record.ensures.path c.in_default.ensures) (Err (record { reason = TargetIsRoot; place = c.record_at-record.result.place })) (omega arith))

pub statement-returns-in-Set : goal.statement-returns-in-Set
statement-returns-in-Set t c = let a = c.args in let p = c.requires in (subst (NextIn (a.from.index + 1)) (sym c.placed.ensures) (placed_in (a.from.index + 1) (a.k + c.in-Some.count) _ c.behind_set.result c.set-ran.result c.set-ran.ensures.0 (omega (arith, c.behind_set.ensures.0)) c.behind_set.ensures.1), kept_both a.k a.s.now c.put_names.new.s c.set-ran.new.s (names_before a.program.texts.list.now a.s.now c.put_names.new.s c.record_at-record.result.path a.k c.in-Some.count c.in-Some.ensures.1 p.1 (omega arith)) (kept_all a.k c.put_names.new.s c.set-ran.new.s (drop_kept c.put_names.new.s c.set-ran.new.s c.set-ran.ensures.1) (omega (arith, p.1))), subst (StatementIs a.program.steps.bytes.now a.from.index a.program.texts.list.now a.program.texts.table.now a.from.size.rows a.from.size.text a.k a.s.now a.w.now c.set-ran.new.w) (sym c.placed.ensures) (statement_set a.program.steps.bytes.now a.program.texts.list.now a.program.texts.table.now a.s.now c.put_names.new.s a.w.now c.set-ran.new.w a.from.index a.from.size.rows a.from.size.text a.k c.in-Some.count p.1 (omega arith) a.program.steps.few p.0 (subst (λ z. NamesPut a.program.texts.list.now z a.s.now (32768 + a.k * 2) c.put_names.new.s c.in-Some.count) c.record_at-record.ensures.path c.in-Some.ensures.1) c.set-ran.result c.behind_set.result (was_read _ Set (subst (ReadsStep _) c.in-Set.is c.record_at-record.ensures.step) (λ e. cc)) c.behind_set.ensures.2 c.set-ran.ensures.2))

pub statement-returns-in-Link : goal.statement-returns-in-Link
statement-returns-in-Link t c = let a = c.args in let p = c.requires in (subst (NextIn (a.from.index + 1)) (sym c.placed-in-Link.ensures) (placed_in (a.from.index + 1) (a.k + c.in-Some.count) _ (a.from.index + 1) c.link-ran.result c.link-ran.ensures.0 (omega arith) (omega (arith, p.0))), kept_both a.k a.s.now c.put_names.new.s c.link-ran.new.s (names_before a.program.texts.list.now a.s.now c.put_names.new.s c.record_at-record.result.path a.k c.in-Some.count c.in-Some.ensures.1 p.1 (omega arith)) (kept_all a.k c.put_names.new.s c.link-ran.new.s c.link-ran.ensures.1 (omega (arith, p.1))), subst (StatementIs a.program.steps.bytes.now a.from.index a.program.texts.list.now a.program.texts.table.now a.from.size.rows a.from.size.text a.k a.s.now a.w.now c.link-ran.new.w) (sym c.placed-in-Link.ensures) (statement_link a.program.steps.bytes.now a.program.texts.list.now a.program.texts.table.now a.s.now c.put_names.new.s a.w.now c.link-ran.new.w a.from.index a.from.size.rows a.from.size.text a.k c.in-Some.count p.1 (omega arith) a.program.steps.few p.0 (subst (λ z. NamesPut a.program.texts.list.now z a.s.now (32768 + a.k * 2) c.put_names.new.s c.in-Some.count) c.record_at-record.ensures.path c.in-Some.ensures.1) c.link-ran.result (was_read _ Link (subst (ReadsStep _) c.in-Link.is c.record_at-record.ensures.step) (λ e. cc)) c.link-ran.ensures.2))

pub statement-returns-in_default-step : goal.statement-returns-in_default-step
statement-returns-in_default-step t c = let a = c.args in let p = c.requires in (c.component.ensures.0, kept_both a.k a.s.now c.put_names.new.s c.component.new.s (names_before a.program.texts.list.now a.s.now c.put_names.new.s c.record_at-record.result.path a.k c.in-Some.count c.in-Some.ensures.1 p.1 (omega arith)) c.component.ensures.1, statement_component a.program.steps.bytes.now a.program.texts.list.now a.program.texts.table.now a.s.now c.put_names.new.s a.w.now c.component.new.w a.from.index a.from.size.rows a.from.size.text a.k c.in-Some.count p.1 (omega arith) a.program.steps.few p.0 (subst (λ z. NamesPut a.program.texts.list.now z a.s.now (32768 + a.k * 2) c.put_names.new.s c.in-Some.count) c.record_at-record.ensures.path c.in-Some.ensures.1) c.component.result (not_read _ _ Set c.record_at-record.ensures.step c.in_default-step.not-Set) (not_read _ _ Link c.record_at-record.ensures.step c.in_default-step.not-Link) c.component.ensures.2)

pub statements-loop-program-init : goal.statements-loop-program-init
statements-loop-program-init t c = let a = c.args in let p = c.requires in (omega arith, p.0, (λ t u. refl), λ b q rest st g y stops h held. block_starts a.program.steps.bytes.now a.program.texts.list.now a.program.texts.table.now a.w.now a.from.index a.from.size.rows a.from.size.text (scope_in a.program.texts.list.now a.program.texts.table.now a.s.now a.k) b q rest st g y held)

pub statements-loop-program-preserved : goal.statements-loop-program-preserved
statements-loop-program-preserved t c = let a = c.args in let p = c.requires in let l = c.loop-program in let e : begins_statement (step_field 2 a.program.steps.bytes.now l.next.index 0) ≡ true = sym c.begins.ensures ∙ c.loop-program-test.true in let li = statement_there a.program.steps.bytes.now l.next.index e a.program.steps.few in let X = c.in_ok-next.ensures.0 in (omega (arith, X.0, l.invariant.0), X.1, kept_both a.k a.s.now l.s c.statement.new.s l.invariant.2 c.statement.ensures.1, λ b q rest st g y stops h held. statement_on a.program.steps.bytes.now a.program.texts.list.now a.program.texts.table.now l.w c.statement.new.w a.s.now l.s l.next.index a.k l.next.size rest (B⟦ b ⟧ (scope_in a.program.texts.list.now a.program.texts.table.now a.s.now a.k) st) (a.from.index + length (all_rows (steps b))) h a.program.steps.few l.invariant.1 stops l.invariant.2 e (l.invariant.3 b q rest st g y stops h held) _ c.in_ok-next.next.size c.in_ok-next.ensures.2)

pub statements-returns-in_err-next : goal.statements-returns-in_err-next
statements-returns-in_err-next t c = let a = c.args in let p = c.requires in let l = c.loop-program in let e : begins_statement (step_field 2 a.program.steps.bytes.now l.next.index 0) ≡ true = sym c.begins.ensures ∙ c.loop-program-test.true in let li = statement_there a.program.steps.bytes.now l.next.index e a.program.steps.few in let exit = err_from_is_err_and c.from_residual.result c.from_residual.ensures.1 in rw (exit.1, exit.2) (tt, kept_both a.k a.s.now l.s c.statement.new.s l.invariant.2 c.statement.ensures.1, λ b q rest st g y stops h held. statement_off a.program.steps.bytes.now a.program.texts.list.now a.program.texts.table.now l.w c.statement.new.w a.s.now l.s l.next.index a.k l.next.size rest (B⟦ b ⟧ (scope_in a.program.texts.list.now a.program.texts.table.now a.s.now a.k) st) (a.from.index + length (all_rows (steps b))) h a.program.steps.few l.invariant.1 stops l.invariant.2 e (l.invariant.3 b q rest st g y stops h held) _ c.in_err-next.ensures.2)

pub statements-returns : goal.statements-returns
statements-returns t c = let a = c.args in let p = c.requires in let l = c.loop-program in let e : begins_statement (step_field 2 a.program.steps.bytes.now l.next.index 0) ≡ false = sym c.begins.ensures ∙ c.loop-program-test.false in ((l.invariant.0, l.invariant.1), l.invariant.2, λ b q rest st g y stops h held. block_ends a.program.steps.bytes.now a.program.texts.list.now a.program.texts.table.now l.w l.next.index l.next.size (scope_in a.program.texts.list.now a.program.texts.table.now a.s.now a.k) rest (B⟦ b ⟧ (scope_in a.program.texts.list.now a.program.texts.table.now a.s.now a.k) st) (a.from.index + length (all_rows (steps b))) h a.program.steps.few l.invariant.1 stops e (l.invariant.3 b q rest st g y stops h held))

pub prototypes-prototype-requires : goal.prototypes-prototype-requires
prototypes-prototype-requires t c = let a = c.args in let p = c.requires in let l = c.loop-names in let e : begins_prototype (step_field 2 a.program.steps.bytes.now l.next.index 0) ≡ true = sym c.extends.ensures ∙ c.loop-names-test.true in let li = prototype_there a.program.steps.bytes.now l.next.index e a.program.steps.few in (omega (arith, c.decreases, l.invariant.0, li), (li, p.1))

pub statements-statement-requires : goal.statements-statement-requires
statements-statement-requires t c = let a = c.args in let p = c.requires in let l = c.loop-program in let e : begins_statement (step_field 2 a.program.steps.bytes.now l.next.index 0) ≡ true = sym c.begins.ensures ∙ c.loop-program-test.true in let li = statement_there a.program.steps.bytes.now l.next.index e a.program.steps.few in (omega (arith, c.decreases, l.invariant.0, li), (li, p.1))
