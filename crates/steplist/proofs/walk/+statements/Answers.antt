-- The proof of the cycle of calls: each need by a rule of `Statements` or `Values`. Assumes nothing.
use Prim.Native.Nat.{ℕ, ◌+◌, ◌≤◌}
use native.Mathlib.Omega.{arith}
use mathlib.Core.Path.{◌≡◌, refl, sym, ◌∙◌, ap}
use mathlib.Core.List.{List}
use lib.ListN.{length}
use borrow.Author.Tests.{leb-true, leb-false}
use Rattle.std.specs.Prelude.{Some, None}
use Rattle.paper.specs.DecodeAt.{word}
use Rattle.memory.specs.Memory.{word_at}
use Rattle.memory.proofs.Laws.{word_in}
use Rattle.kinds.specs.declared.Step.TheVariants.{Make, Set, Link}
use Rattle.kinds.specs.Numbers.{step_number}
use Rattle.steplist.proofs.Values.{make_marred, make_valued, make_done, make_prototypes, no_value}
use Rattle.kinds.proofs.One.{step_one}
use Rattle.steplist.proofs.Statements.{statement_cut, statement_late, statement_no, statement_value, statements_stop, statements_no, statements_more, prototype_take, block_marred, block_deep, block_no, block_end, opens_inside, prototypes_no, prototypes_more, prototypes_end, stopped}
use Rattle.steplist.proofs.walk.+statements.Goals.{prototype-then-not-bare-via-then-not-bare, prototype-then-not-bare-via-else-not-bare+then-depth-gt-AROUND, statement-then-not-fits-via-then-not-fits, statement-then-not-fits-via-else-not-fits+then-place_at-ge-SOURCE, make-then-not-plain-via-then-not-plain, make-then-not-plain-via-else-not-plain+then-value_at-ne0}
use Rattle.steplist.proofs.walk.+statements.Goals as goal

make_step : (recs : List ℕ) (i : ℕ) → (i + 20 ≤ length recs) × (word 2 recs i ≡ 1) → word_at 2 recs i ≡ 1
make_step recs i h = word_in 2 recs i (omega (arith, h.0)) ∙ h.1

pub make-returns-then-not-plain : goal.make-returns-then-not-plain
make-returns-then-not-plain t c =
    elim c.then-not-plain.branch [
      | make-then-not-plain-via-then-not-plain w ↦ make_marred c.args.here.body.records.now c.args.here.body.text.now c.args.depth c.args.here.at.record c.args.here.at.text c.args.here.within _ refl (λ e. omega (arith, make_step _ _ (c.args.here.within, c.requires), e)) (λ e. omega (arith, make_step _ _ (c.args.here.within, c.requires), e)) (rw w.if-not-plain.true at c.plain.ensures)
      | make-then-not-plain-via-else-not-plain+then-value_at-ne0 w ↦ make_valued c.args.here.body.records.now c.args.here.body.text.now c.args.depth c.args.here.at.record c.args.here.at.text c.args.here.within _ refl (λ e. omega (arith, make_step _ _ (c.args.here.within, c.requires), e)) (λ e. omega (arith, make_step _ _ (c.args.here.within, c.requires), e)) (rw w.if-not-plain.false at c.plain.ensures) _ w.value_at.ensures w.if-value_at-ne0.true
    ]

pub make-returns-then-step_at-number : goal.make-returns-then-step_at-number
make-returns-then-step_at-number t c = make_done c.args.here.body.records.now c.args.here.body.text.now c.args.depth c.args.here.at.record c.args.here.at.text c.args.here.within _ refl (λ e. omega (arith, make_step _ _ (c.args.here.within, c.requires), e)) (λ e. omega (arith, make_step _ _ (c.args.here.within, c.requires), e)) (rw c.if-not-plain.false at c.plain.ensures) _ c.value_at.ensures c.if-value_at-ne0.false (record { byte = c.args.here.body.are_bytes }) _ c.step_at.ensures (c.if-step_at-number.true ∙ c.number.ensures)

pub make-returns : goal.make-returns
make-returns t c = make_prototypes c.args.here.body.records.now c.args.here.body.text.now c.args.depth c.args.here.at.record c.args.here.at.text c.args.here.within _ refl (λ e. omega (arith, make_step _ _ (c.args.here.within, c.requires), e)) (λ e. omega (arith, make_step _ _ (c.args.here.within, c.requires), e)) (rw c.if-not-plain.false at c.plain.ensures) _ c.value_at.ensures c.if-value_at-ne0.false (record { byte = c.args.here.body.are_bytes }) _ c.step_at.ensures (λ e. c.if-step_at-number.false (e ∙ sym c.number.ensures)) c.prototypes.result c.prototypes.ensures

pub prototype-returns-then-step_at-number : goal.prototype-returns-then-step_at-number
prototype-returns-then-step_at-number t c = prototype_take c.args.here.body.records.now c.args.here.body.text.now c.args.depth c.args.here.at.record c.args.here.at.text (record { byte = c.args.here.body.are_bytes }) c.args.here.within _ c.step_at.ensures (c.if-step_at-number.true ∙ c.number.ensures) c.take.result c.take.ensures

pub prototype-returns-then-not-bare : goal.prototype-returns-then-not-bare
prototype-returns-then-not-bare t c =
    elim c.then-not-bare.branch [
      | prototype-then-not-bare-via-then-not-bare w ↦ block_marred c.args.here.body.records.now c.args.here.body.text.now c.args.depth c.args.here.at.record c.args.here.at.text (record { byte = c.args.here.body.are_bytes }) c.args.here.within _ c.step_at.ensures (λ e. c.if-step_at-number.false (e ∙ sym c.number.ensures)) (rw w.if-not-bare.true at c.bare.ensures)
      | prototype-then-not-bare-via-else-not-bare+then-depth-gt-AROUND w ↦ block_deep c.args.here.body.records.now c.args.here.body.text.now c.args.depth c.args.here.at.record c.args.here.at.text (record { byte = c.args.here.body.are_bytes }) c.args.here.within _ c.step_at.ensures (λ e. c.if-step_at-number.false (e ∙ sym c.number.ensures)) (rw w.if-not-bare.false at c.bare.ensures) w.if-depth-gt-AROUND.true
    ]

pub prototype-returns-in_err-end : goal.prototype-returns-in_err-end
prototype-returns-in_err-end t c = rw c.from_residual.ensures (block_no c.args.here.body.records.now c.args.here.body.text.now c.args.depth c.args.here.at.record c.args.here.at.text (record { byte = c.args.here.body.are_bytes }) c.args.here.within _ c.step_at.ensures (λ e. c.if-step_at-number.false (e ∙ sym c.number.ensures)) (rw c.if-not-bare.false at c.bare.ensures) c.if-depth-gt-AROUND.false c.in_err-end.ensures)

pub prototype-returns : goal.prototype-returns
prototype-returns t c = block_end c.args.here.body.records.now c.args.here.body.text.now c.args.depth c.args.here.at.record c.args.here.at.text (record { byte = c.args.here.body.are_bytes }) c.args.here.within _ c.step_at.ensures (λ e. c.if-step_at-number.false (e ∙ sym c.number.ensures)) (rw c.if-not-bare.false at c.bare.ensures) c.if-depth-gt-AROUND.false _ _ c.in_ok-end.ensures c.closed.result c.closed.ensures

pub prototypes-invariant_of-prototype : goal.prototypes-invariant_of-prototype
prototypes-invariant_of-prototype t c = let l = c.loop-body in record { within = opens_inside c.args.body.records.now c.args.body.text.now c.args.depth l.at.record l.at.text (record { byte = c.args.body.are_bytes }) (sym c.opens.ensures ∙ c.loop-body-test.true) }

pub prototypes-prototype-requires : goal.prototypes-prototype-requires
prototypes-prototype-requires t c = let on = c.loop-body.invariant.on in omega (arith, c.decreases)

pub prototypes-returns-in_err-at : goal.prototypes-returns-in_err-at
prototypes-returns-in_err-at t c = let l = c.loop-body in rw c.from_residual.ensures (l.invariant.so_far None (prototypes_no c.args.body.records.now c.args.body.text.now c.args.depth l.at.record l.at.text (record { byte = c.args.body.are_bytes }) (sym c.opens.ensures ∙ c.loop-body-test.true) c.in_err-at.ensures))

pub prototypes-loop-body-smaller : goal.prototypes-loop-body-smaller
prototypes-loop-body-smaller t c = let l = c.loop-body in let h = opens_inside c.args.body.records.now c.args.body.text.now c.args.depth l.at.record l.at.text (record { byte = c.args.body.are_bytes }) (sym c.opens.ensures ∙ c.loop-body-test.true) in omega (arith, c.in_ok-at.ensures.1)

pub prototypes-loop-body-preserved : goal.prototypes-loop-body-preserved
prototypes-loop-body-preserved t c =
    let l = c.loop-body in
    let w = c.in_ok-at.ensures in
    record { on = omega (arith, l.invariant.on, w.1); so_far = λ r h. l.invariant.so_far r (prototypes_more c.args.body.records.now c.args.body.text.now c.args.depth l.at.record l.at.text (record { byte = c.args.body.are_bytes }) (sym c.opens.ensures ∙ c.loop-body-test.true) _ _ r w h) }

pub prototypes-returns : goal.prototypes-returns
prototypes-returns t c = let l = c.loop-body in l.invariant.so_far c.closed.result (prototypes_end c.args.body.records.now c.args.body.text.now c.args.depth l.at.record l.at.text (record { byte = c.args.body.are_bytes }) (sym c.opens.ensures ∙ c.loop-body-test.false) c.closed.result c.closed.ensures)

pub statement-returns-then-not-fits : goal.statement-returns-then-not-fits
statement-returns-then-not-fits t c =
    elim c.then-not-fits.branch [
      | statement-then-not-fits-via-then-not-fits w ↦ statement_cut c.args.body.records.now c.args.body.text.now c.args.depth c.args.at.record c.args.at.text (record { byte = c.args.body.are_bytes }) (leb-false _ _ (sym c.fits.ensures ∙ w.if-not-fits.true))
      | statement-then-not-fits-via-else-not-fits+then-place_at-ge-SOURCE w ↦ statement_late c.args.body.records.now c.args.body.text.now c.args.depth c.args.at.record c.args.at.text (record { byte = c.args.body.are_bytes }) (leb-true _ _ (sym c.fits.ensures ∙ w.if-not-fits.false)) _ w.place_at.ensures (omega (arith, w.if-place_at-ge-SOURCE.true))
    ]

pub statement-returns-in_err-text : goal.statement-returns-in_err-text
statement-returns-in_err-text t c = rw c.from_residual.ensures (statement_no c.args.body.records.now c.args.body.text.now c.args.depth c.args.at.record c.args.at.text (record { byte = c.args.body.are_bytes }) (leb-true _ _ (sym c.fits.ensures ∙ c.if-not-fits.false)) _ c.place_at.ensures (omega arith) _ c.label_at.ensures.0 c.in_err-text.ensures)

pub statement-returns : goal.statement-returns
statement-returns t c = statement_value c.args.body.records.now c.args.body.text.now c.args.depth c.args.at.record c.args.at.text (record { byte = c.args.body.are_bytes }) (leb-true _ _ (sym c.fits.ensures ∙ c.if-not-fits.false)) _ c.place_at.ensures (omega arith) _ c.label_at.ensures.0 _ c.in_ok-text.ensures c.value.result c.value.ensures

pub statements-returns-in_err-at : goal.statements-returns-in_err-at
statements-returns-in_err-at t c = let l = c.loop-body in rw c.from_residual.ensures (l.invariant.so_far None (statements_no c.args.body.records.now c.args.body.text.now c.args.depth l.at.record l.at.text (rw c.loop-body-test.true at c.stops.ensures) c.in_err-at.ensures))

pub statements-loop-body-smaller : goal.statements-loop-body-smaller
statements-loop-body-smaller t c = let l = c.loop-body in let h = stopped c.args.body.records.now l.at.record (rw c.loop-body-test.true at c.stops.ensures) in omega (arith, c.in_ok-at.ensures.1)

pub statements-loop-body-preserved : goal.statements-loop-body-preserved
statements-loop-body-preserved t c =
    let l = c.loop-body in
    let w = c.in_ok-at.ensures in
    record { on = omega (arith, l.invariant.on, w.1); so_far = λ r h. l.invariant.so_far r (statements_more c.args.body.records.now c.args.body.text.now c.args.depth l.at.record l.at.text (rw c.loop-body-test.true at c.stops.ensures) _ _ r w h) }

pub statements-returns : goal.statements-returns
statements-returns t c = let l = c.loop-body in l.invariant.so_far (Some l.at) (statements_stop c.args.body.records.now c.args.body.text.now c.args.depth l.at.record l.at.text (rw c.loop-body-test.false at c.stops.ensures))

pub value-returns-in_default : goal.value-returns-in_default
value-returns-in_default t c =
    let e = c.in_default.ensures in
    no_value c.args.here.body.records.now c.args.here.body.text.now c.args.depth c.args.here.at.record c.args.here.at.text c.args.here.within _ c.step_at.ensures (λ z. omega (arith, e.1, z)) (λ z. omega (arith, e.1, z)) (λ z. omega (arith, e.1, z))

pub value-set-requires : goal.value-set-requires
value-set-requires t c = sym (c.step_at.ensures ∙ word_in 2 c.args.here.body.records.now c.args.here.at.record (omega (arith, c.args.here.within))) ∙ sym c.in-Ok.ensures ∙ ap step_number c.in-Set.is

pub value-link-requires : goal.value-link-requires
value-link-requires t c = sym (c.step_at.ensures ∙ word_in 2 c.args.here.body.records.now c.args.here.at.record (omega (arith, c.args.here.within))) ∙ sym c.in-Ok.ensures ∙ ap step_number c.in-Link.is

pub value-make-requires : goal.value-make-requires
value-make-requires t c = (omega (arith, c.decreases), sym (c.step_at.ensures ∙ word_in 2 c.args.here.body.records.now c.args.here.at.record (omega (arith, c.args.here.within))) ∙ sym c.in-Ok.ensures ∙ ap step_number c.in-Make.is)

pub value-returns-in_default-step : goal.value-returns-in_default-step
value-returns-in_default-step t c =
    let e = c.in-Ok.ensures in
    let n = c.in_default-step in
    no_value c.args.here.body.records.now c.args.here.body.text.now c.args.depth c.args.here.at.record c.args.here.at.text c.args.here.within _ c.step_at.ensures (λ z. n.not-Set (step_one _ Set (e ∙ z))) (λ z. n.not-Link (step_one _ Link (e ∙ z))) (λ z. n.not-Make (step_one _ Make (e ∙ z)))
