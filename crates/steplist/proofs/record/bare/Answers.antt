-- `steplist::record::bare` meets its contract. Assumes nothing.
use Prim.Native.Nat.{◌+◌}
use mathlib.Core.Path.{◌≡◌, refl, sym, ap, ◌∙◌}
use mathlib.Core.Bool.{◌&&◌}
use lib.Dec.{eqb}
use borrow.Author.Tests.{eq-eqb, ne_eqb}
use Rattle.paper.specs.Maybe.{require}
use Rattle.memory.specs.Memory.{word_at}
use Rattle.layout.proofs.Heads.{and_then, and_else}
use Rattle.kinds.specs.Numbers.{step_number}
use Rattle.steplist.proofs.Records.{bare_is}
use Rattle.steplist.proofs.record.bare.Goals.{then-label_at-eq0, else-label_at-eq0, then-plain, else-plain}
use Rattle.steplist.proofs.record.bare.Goals as goal

pub returns-then-unused : goal.returns-then-unused
returns-then-unused c =
    let u : c.if-label_at-eq0.unused ≡ (eqb c.label_at.result 0 && eqb (word_at 8 c.args.records.now (c.args.i + 8)) 0) = elim c.if-label_at-eq0.branch [ then-label_at-eq0 w ↦ and_then (eq-eqb _ _ w.if-label_at-eq0.true) (w.unused-is ∙ ap (λ z. eqb z 0) w.value_at.ensures) | else-label_at-eq0 w ↦ and_else _ (ne_eqb _ _ w.if-label_at-eq0.false) w.unused-is ] in
    let v : c.if-plain.value ≡ (c.plain.result && (eqb c.label_at.result 0 && eqb (word_at 8 c.args.records.now (c.args.i + 8)) 0)) = rw (← u) (elim c.if-plain.branch [ then-plain w ↦ and_then w.if-plain.true w.value-is | else-plain w ↦ and_else _ w.if-plain.false w.value-is ]) in
    bare_is c.args.records.now c.args.i (step_number c.args.step) _ _ _ _ c.plain.ensures c.label_at.ensures.0 refl c.place_at.ensures ∙ ap require (sym (and_then (sym v ∙ c.if-unused.true) refl))

pub returns-else-unused : goal.returns-else-unused
returns-else-unused c =
    let u : c.if-label_at-eq0.unused ≡ (eqb c.label_at.result 0 && eqb (word_at 8 c.args.records.now (c.args.i + 8)) 0) = elim c.if-label_at-eq0.branch [ then-label_at-eq0 w ↦ and_then (eq-eqb _ _ w.if-label_at-eq0.true) (w.unused-is ∙ ap (λ z. eqb z 0) w.value_at.ensures) | else-label_at-eq0 w ↦ and_else _ (ne_eqb _ _ w.if-label_at-eq0.false) w.unused-is ] in
    let v : c.if-plain.value ≡ (c.plain.result && (eqb c.label_at.result 0 && eqb (word_at 8 c.args.records.now (c.args.i + 8)) 0)) = rw (← u) (elim c.if-plain.branch [ then-plain w ↦ and_then w.if-plain.true w.value-is | else-plain w ↦ and_else _ w.if-plain.false w.value-is ]) in
    bare_is c.args.records.now c.args.i (step_number c.args.step) _ _ _ _ c.plain.ensures c.label_at.ensures.0 refl refl ∙ ap require (sym (and_else _ (sym v ∙ c.if-unused.false) v))
