-- The proof of the cycle of calls {basic, elements}: each need by a rule of `Steps`. Twice the number of records falls; `basic` leaves one
-- record, its own, out. Assumes nothing.
use native.Mathlib.Omega.{arith}
use mathlib.Core.Path.{sym, ◌∙◌}
use borrow.Author.Tests.{leb-true, leb-false}
use Rattle.std.specs.Prelude.{Some, None}
use Rattle.theorems.proofs.Laws.DecodeAt.{Bytes}
use Rattle.memory.proofs.Laws.{word_in}
use Rattle.layout.proofs.Heads.{sized, head_of, elements_headless, elements_unfit}
use Rattle.layout.proofs.Steps.{basic_outside, basic_valued, basic_deep, basic_vector, basic_wide, basic_leaf, basic_no, elements_end, elements_no, elements_more}
use Rattle.layout.proofs.walk.+basic_elements.Goals.{basic-then-value-ne0-via-then-value-ne0, basic-then-value-ne0-via-else-value-ne0+then-top-depth, elements-then-not-head-via-then-not-head, elements-then-not-head-via-else-not-head+then-not-element_fits}
use Rattle.layout.proofs.walk.+basic_elements.Goals as goal

pub basic-returns-then-not-fits : goal.basic-returns-then-not-fits
basic-returns-then-not-fits t c =
    let B : Bytes c.args.body.records.now = record { byte = λ k. omega (arith, c.args.body.are_bytes k) } in
    (basic_outside c.args.form c.args.body.records.now c.args.body.text.now c.args.depth c.args.span c.args.at.record c.args.at.text B (rw c.size-size.ensures.0 at (leb-false _ _ (sym c.fits.ensures ∙ c.if-not-fits.true))), tt)

pub basic-returns-then-value-ne0 : goal.basic-returns-then-value-ne0
basic-returns-then-value-ne0 t c =
    let B : Bytes c.args.body.records.now = record { byte = λ k. omega (arith, c.args.body.are_bytes k) } in
    let w = leb-true _ _ (sym c.fits.ensures ∙ c.if-not-fits.false) in
    let h = rw c.size-size.ensures.0 at w in (
      elim c.then-value-ne0.branch [
        | basic-then-value-ne0-via-then-value-ne0 w ↦ basic_valued c.args.form c.args.body.records.now c.args.body.text.now c.args.depth c.args.span c.args.at.record c.args.at.text B h _ _ c.kind_of-kind.ensures c.value_at-value.ensures (c.if-kind-number.true ∙ c.number.ensures) w.if-value-ne0.true
        | basic-then-value-ne0-via-else-value-ne0+then-top-depth w ↦ basic_deep c.args.form c.args.body.records.now c.args.body.text.now c.args.depth c.args.span c.args.at.record c.args.at.text B h _ _ c.kind_of-kind.ensures c.value_at-value.ensures (c.if-kind-number.true ∙ c.number.ensures) w.if-value-ne0.false (rw w.top.ensures.0 at w.if-top-depth.true)
      ],
      tt,
    )

pub basic-returns-then-kind-number : goal.basic-returns-then-kind-number
basic-returns-then-kind-number t c =
    let B : Bytes c.args.body.records.now = record { byte = λ k. omega (arith, c.args.body.are_bytes k) } in
    let w = leb-true _ _ (sym c.fits.ensures ∙ c.if-not-fits.false) in
    let h = rw c.size-size.ensures.0 at w in
    (basic_vector c.args.form c.args.body.records.now c.args.body.text.now c.args.depth c.args.span c.args.at.record c.args.at.text B h _ _ c.kind_of-kind.ensures c.value_at-value.ensures c.elements.result (c.if-kind-number.true ∙ c.number.ensures) c.if-value-ne0.false (rw c.top.ensures.0 at c.if-top-depth.false) (rw (c.size-size.ensures.0, c.saturating_sub.ensures) at c.elements.ensures.0), c.elements.ensures.1)

pub basic-returns-then-span-ne-LEAF : goal.basic-returns-then-span-ne-LEAF
basic-returns-then-span-ne-LEAF t c =
    let B : Bytes c.args.body.records.now = record { byte = λ k. omega (arith, c.args.body.are_bytes k) } in
    let w = leb-true _ _ (sym c.fits.ensures ∙ c.if-not-fits.false) in
    let h = rw c.size-size.ensures.0 at w in
    (basic_wide c.args.form c.args.body.records.now c.args.body.text.now c.args.depth c.args.span c.args.at.record c.args.at.text B h _ _ c.kind_of-kind.ensures c.value_at-value.ensures (λ e. c.if-kind-number.false (e ∙ sym c.number.ensures)) c.if-span-ne-LEAF.true, tt)

pub basic-returns-in_err-end : goal.basic-returns-in_err-end
basic-returns-in_err-end t c =
    let B : Bytes c.args.body.records.now = record { byte = λ k. omega (arith, c.args.body.are_bytes k) } in
    let w = leb-true _ _ (sym c.fits.ensures ∙ c.if-not-fits.false) in
    let h = rw c.size-size.ensures.0 at w in
    rw c.from_residual.ensures (basic_no c.args.form c.args.body.records.now c.args.body.text.now c.args.depth c.args.span c.args.at.record c.args.at.text B h _ _ c.kind_of-kind.ensures c.value_at-value.ensures (λ e. c.if-kind-number.false (e ∙ sym c.number.ensures)) c.if-span-ne-LEAF.false (rw c.from.ensures at c.in_err-end.ensures), tt)

pub basic-returns : goal.basic-returns
basic-returns t c =
    let B : Bytes c.args.body.records.now = record { byte = λ k. omega (arith, c.args.body.are_bytes k) } in
    let w = leb-true _ _ (sym c.fits.ensures ∙ c.if-not-fits.false) in
    let h = rw c.size-size.ensures.0 at w in
    (rw c.size-size.ensures.0 (basic_leaf c.args.form c.args.body.records.now c.args.body.text.now c.args.depth c.args.span c.args.at.record c.args.at.text B h _ _ c.kind_of-kind.ensures c.value_at-value.ensures _ (λ e. c.if-kind-number.false (e ∙ sym c.number.ensures)) c.if-span-ne-LEAF.false (rw c.from.ensures at c.in_ok-end.ensures)), w)

pub elements-returns-then-not-head : goal.elements-returns-then-not-head
elements-returns-then-not-head t c =
    let B : Bytes c.args.body.records.now = record { byte = λ k. omega (arith, c.args.body.are_bytes k) } in
    let l = c.loop-left in (
      l.invariant.so_far None (elim c.then-not-head.branch [
        | elements-then-not-head-via-then-not-head w ↦ elements_headless c.args.form c.args.body.records.now c.args.body.text.now l.at.record l.at.text c.args.depth B l.left (omega arith) (sym c.head.ensures ∙ w.if-not-head.true)
        | elements-then-not-head-via-else-not-head+then-not-element_fits w ↦ elements_unfit c.args.form c.args.body.records.now c.args.body.text.now l.at.record l.at.text c.args.depth B l.left (head_of c.args.form c.args.body.records.now l.at.record c.args.depth l.left (sym c.head.ensures ∙ w.if-not-head.false)) (sym w.element_fits.ensures ∙ w.if-not-element_fits.true)
      ]),
      tt,
    )

pub elements-basic-requires : goal.elements-basic-requires
elements-basic-requires t c =
    let l = c.loop-left in
    let H = head_of c.args.form c.args.body.records.now l.at.record c.args.depth l.left (sym c.head.ensures ∙ c.if-not-head.false) in
    let s = c.span_at-span.ensures.0 ∙ word_in 2 _ _ (omega (arith, sized c.args.form)) in
    (omega (arith, c.decreases), tt)

pub elements-overflow_sub-left : goal.elements-overflow_sub-left
elements-overflow_sub-left t c =
    let l = c.loop-left in
    let H = head_of c.args.form c.args.body.records.now l.at.record c.args.depth l.left (sym c.head.ensures ∙ c.if-not-head.false) in
    let s = c.span_at-span.ensures.0 ∙ word_in 2 _ _ (omega (arith, sized c.args.form)) in
    omega arith

pub elements-loop-left-smaller : goal.elements-loop-left-smaller
elements-loop-left-smaller t c =
    let l = c.loop-left in
    let H = head_of c.args.form c.args.body.records.now l.at.record c.args.depth l.left (sym c.head.ensures ∙ c.if-not-head.false) in
    let s = c.span_at-span.ensures.0 ∙ word_in 2 _ _ (omega (arith, sized c.args.form)) in
    omega arith

pub elements-loop-left-preserved : goal.elements-loop-left-preserved
elements-loop-left-preserved t c =
    let B : Bytes c.args.body.records.now = record { byte = λ k. omega (arith, c.args.body.are_bytes k) } in
    let l = c.loop-left in
    let H = head_of c.args.form c.args.body.records.now l.at.record c.args.depth l.left (sym c.head.ensures ∙ c.if-not-head.false) in
    let s = c.span_at-span.ensures.0 ∙ word_in 2 _ _ (omega (arith, sized c.args.form)) in
    let w = c.in_ok-at.ensures in
    record {
      few = omega arith;
      inside = w.1;
      so_far = λ r h. l.invariant.so_far r (elements_more c.args.form c.args.body.records.now c.args.body.text.now c.args.depth l.left l.at.record l.at.text B H (sym c.element_fits.ensures ∙ c.if-not-element_fits.false) _ s _ _ r w.0 h);
    }

pub elements-returns-in_err-at : goal.elements-returns-in_err-at
elements-returns-in_err-at t c =
    let B : Bytes c.args.body.records.now = record { byte = λ k. omega (arith, c.args.body.are_bytes k) } in
    let l = c.loop-left in
    let H = head_of c.args.form c.args.body.records.now l.at.record c.args.depth l.left (sym c.head.ensures ∙ c.if-not-head.false) in
    let s = c.span_at-span.ensures.0 ∙ word_in 2 _ _ (omega (arith, sized c.args.form)) in
    rw c.from_residual.ensures (l.invariant.so_far None (elements_no c.args.form c.args.body.records.now c.args.body.text.now c.args.depth l.left l.at.record l.at.text B H (sym c.element_fits.ensures ∙ c.if-not-element_fits.false) _ s c.in_err-at.ensures.0), tt)

pub elements-returns : goal.elements-returns
elements-returns t c = let l = c.loop-left in (l.invariant.so_far (Some l.at) (elements_end c.args.form c.args.body.records.now c.args.body.text.now c.args.depth l.left l.at.record l.at.text (omega arith)), l.invariant.inside)
