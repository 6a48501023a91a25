-- `steplist::record::plain` meets its contract. Assumes nothing.
use Prim.Native.Nat.{◌+◌}
use mathlib.Core.Path.{◌≡◌, refl, sym, ap, ◌∙◌}
use mathlib.Core.Bool.{◌&&◌}
use lib.Dec.{eqb}
use borrow.Author.Tests.{eq-eqb, ne_eqb}
use Rattle.paper.specs.Maybe.{require}
use Rattle.memory.specs.Memory.{word_at}
use Rattle.layout.proofs.Heads.{and_then, and_else}
use Rattle.kinds.specs.Numbers.{step_number}
use Rattle.steplist.proofs.Records.{plain_is}
use Rattle.steplist.proofs.record.plain.Goals.{then-depth_at-eq0, else-depth_at-eq0, then-step_at-number, else-step_at-number}
use Rattle.steplist.proofs.record.plain.Goals as goal

pub returns-then-unused : goal.returns-then-unused
returns-then-unused c =
    let u : c.if-depth_at-eq0.unused ≡ (eqb c.depth_at.result 0 && eqb (word_at 2 c.args.records.now (c.args.i + 6)) 0) = elim c.if-depth_at-eq0.branch [ then-depth_at-eq0 w ↦ and_then (eq-eqb _ _ w.if-depth_at-eq0.true) (w.unused-is ∙ ap (λ z. eqb z 0) w.span_at.ensures.0) | else-depth_at-eq0 w ↦ and_else _ (ne_eqb _ _ w.if-depth_at-eq0.false) w.unused-is ] in
    let v : c.if-step_at-number.value ≡ (eqb c.step_at.result (step_number c.args.step) && (eqb c.depth_at.result 0 && eqb (word_at 2 c.args.records.now (c.args.i + 6)) 0)) = rw (← u, ← c.number.ensures) (elim c.if-step_at-number.branch [ then-step_at-number w ↦ and_then (eq-eqb _ _ w.if-step_at-number.true) w.value-is | else-step_at-number w ↦ and_else _ (ne_eqb _ _ w.if-step_at-number.false) w.value-is ]) in
    plain_is c.args.records.now c.args.i (step_number c.args.step) _ _ _ _ c.step_at.ensures c.depth_at.ensures.0 refl c.place_at.ensures ∙ ap require (sym (and_then (sym v ∙ c.if-unused.true) refl))

pub returns-else-unused : goal.returns-else-unused
returns-else-unused c =
    let u : c.if-depth_at-eq0.unused ≡ (eqb c.depth_at.result 0 && eqb (word_at 2 c.args.records.now (c.args.i + 6)) 0) = elim c.if-depth_at-eq0.branch [ then-depth_at-eq0 w ↦ and_then (eq-eqb _ _ w.if-depth_at-eq0.true) (w.unused-is ∙ ap (λ z. eqb z 0) w.span_at.ensures.0) | else-depth_at-eq0 w ↦ and_else _ (ne_eqb _ _ w.if-depth_at-eq0.false) w.unused-is ] in
    let v : c.if-step_at-number.value ≡ (eqb c.step_at.result (step_number c.args.step) && (eqb c.depth_at.result 0 && eqb (word_at 2 c.args.records.now (c.args.i + 6)) 0)) = rw (← u, ← c.number.ensures) (elim c.if-step_at-number.branch [ then-step_at-number w ↦ and_then (eq-eqb _ _ w.if-step_at-number.true) w.value-is | else-step_at-number w ↦ and_else _ (ne_eqb _ _ w.if-step_at-number.false) w.value-is ]) in
    plain_is c.args.records.now c.args.i (step_number c.args.step) _ _ _ _ c.step_at.ensures c.depth_at.ensures.0 refl refl ∙ ap require (sym (and_else _ (sym v ∙ c.if-unused.false) v))
