-- The proof of the cycle of calls {entries, value}: each need by a rule of `Steps`. Twice the number of records falls; `entries` calls
-- `value` with as many records as it has, so its measure is one more. Assumes nothing.
use native.Mathlib.Omega.{arith}
use mathlib.Core.Path.{sym, ◌∙◌}
use Rattle.memory.proofs.Laws.{word_in}
use Rattle.std.specs.Prelude.{Some, None}
use Rattle.table.proofs.Heads.{head_of, entries_headless}
use Rattle.table.proofs.Steps.{value_basic, value_valued, value_component, entries_end, entries_unnamed, entries_no, entries_more}
use Rattle.table.proofs.walk.+entries_value.Goals as goal

pub entries-returns-then-not-head : goal.entries-returns-then-not-head
entries-returns-then-not-head t c = let l = c.loop-left in l.invariant.so_far None (entries_headless c.args.body.records.now c.args.body.text.now l.at.record l.at.text c.args.depth (record { byte = c.args.body.are_bytes }) l.left (omega arith) (sym c.head.ensures ∙ c.if-not-head.true))

pub entries-label_end-requires : goal.entries-label_end-requires
entries-label_end-requires t c = let l = c.loop-left in let H = head_of c.args.body.records.now l.at.record c.args.depth l.left (sym c.head.ensures ∙ c.if-not-head.false) in H.within

pub entries-returns-in_err-text : goal.entries-returns-in_err-text
entries-returns-in_err-text t c = let l = c.loop-left in let H = head_of c.args.body.records.now l.at.record c.args.depth l.left (sym c.head.ensures ∙ c.if-not-head.false) in rw c.from_residual.ensures (l.invariant.so_far None (entries_unnamed c.args.body.records.now c.args.body.text.now c.args.depth l.left l.at.record l.at.text (record { byte = c.args.body.are_bytes }) H c.in_err-text.ensures))

pub entries-value-requires : goal.entries-value-requires
entries-value-requires t c =
    let l = c.loop-left in
    let H = head_of c.args.body.records.now l.at.record c.args.depth l.left (sym c.head.ensures ∙ c.if-not-head.false) in
    let s = c.span_at-span.ensures.0 ∙ word_in 2 _ _ (omega (arith, H.within)) in
    (omega (arith, c.decreases), record { within = H.within; deep = H.deep; some = omega arith; spanned = s })

pub entries-returns-in_err-at : goal.entries-returns-in_err-at
entries-returns-in_err-at t c = let l = c.loop-left in let H = head_of c.args.body.records.now l.at.record c.args.depth l.left (sym c.head.ensures ∙ c.if-not-head.false) in rw c.from_residual-in_err-at.ensures (l.invariant.so_far None (entries_no c.args.body.records.now c.args.body.text.now c.args.depth l.left l.at.record l.at.text (record { byte = c.args.body.are_bytes }) H _ c.in_ok-text.ensures c.in_err-at.ensures))

pub entries-overflow_sub-left : goal.entries-overflow_sub-left
entries-overflow_sub-left t c =
    let l = c.loop-left in
    let H = head_of c.args.body.records.now l.at.record c.args.depth l.left (sym c.head.ensures ∙ c.if-not-head.false) in
    let s = c.span_at-span.ensures.0 ∙ word_in 2 _ _ (omega (arith, H.within)) in
    omega arith

pub entries-loop-left-smaller : goal.entries-loop-left-smaller
entries-loop-left-smaller t c =
    let l = c.loop-left in
    let H = head_of c.args.body.records.now l.at.record c.args.depth l.left (sym c.head.ensures ∙ c.if-not-head.false) in
    let s = c.span_at-span.ensures.0 ∙ word_in 2 _ _ (omega (arith, H.within)) in
    omega arith

pub entries-loop-left-preserved : goal.entries-loop-left-preserved
entries-loop-left-preserved t c =
    let l = c.loop-left in
    let H = head_of c.args.body.records.now l.at.record c.args.depth l.left (sym c.head.ensures ∙ c.if-not-head.false) in
    let s = c.span_at-span.ensures.0 ∙ word_in 2 _ _ (omega (arith, H.within)) in
    record {
      few = omega arith;
      so_far = λ r h. l.invariant.so_far r (entries_more c.args.body.records.now c.args.body.text.now c.args.depth l.left l.at.record l.at.text (record { byte = c.args.body.are_bytes }) H _ c.in_ok-text.ensures _ s _ _ r c.in_ok-at.ensures h);
    }

pub entries-returns : goal.entries-returns
entries-returns t c = let l = c.loop-left in l.invariant.so_far (Some l.at) (entries_end c.args.body.records.now c.args.body.text.now c.args.depth l.left l.at.record l.at.text (omega arith))

pub value-returns-then-kind_at-number : goal.value-returns-then-kind_at-number
value-returns-then-kind_at-number t c = value_basic c.args.body.records.now c.args.body.text.now c.args.depth c.args.span c.args.at.record c.args.at.text (record { byte = c.args.body.are_bytes }) c.requires.within c.requires.spanned _ c.kind_at.ensures c.basic.result (λ e. c.if-kind_at-number.true (e ∙ sym c.number.ensures)) c.basic.ensures.0

pub value-returns-then-value_at-ne0 : goal.value-returns-then-value_at-ne0
value-returns-then-value_at-ne0 t c = value_valued c.args.body.records.now c.args.body.text.now c.args.depth c.args.span c.args.at.record c.args.at.text (record { byte = c.args.body.are_bytes }) c.requires.within c.requires.spanned _ c.kind_at.ensures _ c.value_at.ensures (c.if-kind_at-number.false ∙ c.number.ensures) c.if-value_at-ne0.true

pub value-returns : goal.value-returns
value-returns t c = value_component c.args.body.records.now c.args.body.text.now c.args.depth c.args.span c.args.at.record c.args.at.text (record { byte = c.args.body.are_bytes }) c.requires.within c.requires.spanned _ c.kind_at.ensures _ c.value_at.ensures (c.if-kind_at-number.false ∙ c.number.ensures) c.entries.result c.if-value_at-ne0.false c.entries.ensures
