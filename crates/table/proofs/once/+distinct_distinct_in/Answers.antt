-- The proof of the cycle of calls {distinct, distinct_in}: each need by a rule of `Children`. Twice the number of records falls; `distinct`
-- calls `distinct_in` with as many records as it has, so its measure is one more. Assumes nothing.
use native.Mathlib.Omega.{arith}
use native.Mathlib.Nat.{le_refl}
use mathlib.Core.Path.{refl, sym, ◌∙◌}
use mathlib.Core.Bool.{true, false}
use borrow.Author.Tests.{ne_eqb}
use Rattle.memory.proofs.Laws.{word_in}
use Rattle.table.proofs.Children.{span_at_of, distinct_end, distinct_stuck, distinct_twice, distinct_below, distinct_more, distinct_basic, distinct_component}
use Rattle.table.proofs.once.+distinct_distinct_in.Goals.{distinct-then-not-alone-via-then-not-alone, distinct-then-not-alone-via-else-not-alone+then-not-distinct_in}
use Rattle.table.proofs.once.+distinct_distinct_in.Goals as goal

pub distinct-returns-in_default : goal.distinct-returns-in_default
distinct-returns-in_default t c = let l = c.loop-left in l.invariant.so_far false (distinct_stuck c.args.body.records.now c.args.body.text.now l.i l.left (record { byte = c.args.body.are_bytes }) (omega arith) _ (span_at_of _ _ _ _ refl) c.in_default.ensures)

pub distinct-alone-requires : goal.distinct-alone-requires
distinct-alone-requires t c = let S = (span_at_of _ _ _ _ c.in-Some.ensures.0).good c.in-Some.ensures.1 in S

pub distinct-distinct_in-requires : goal.distinct-distinct_in-requires
distinct-distinct_in-requires t c =
    let S = (span_at_of _ _ _ _ c.in-Some.ensures.0).good c.in-Some.ensures.1 in
    (omega (arith, c.decreases), record { head = S.head; some = S.some; few = le_refl _; within = S.within; is = S.is })

pub distinct-returns-then-not-alone : goal.distinct-returns-then-not-alone
distinct-returns-then-not-alone t c =
    let l = c.loop-left in
    let S = (span_at_of _ _ _ _ c.in-Some.ensures.0).good c.in-Some.ensures.1 in
    l.invariant.so_far false (elim c.then-not-alone.branch [
      | distinct-then-not-alone-via-then-not-alone w ↦ distinct_twice c.args.body.records.now c.args.body.text.now l.i l.left (record { byte = c.args.body.are_bytes }) (omega arith) _ S (rw w.if-not-alone.true at c.alone.ensures)
      | distinct-then-not-alone-via-else-not-alone+then-not-distinct_in w ↦ distinct_below c.args.body.records.now c.args.body.text.now l.i l.left (record { byte = c.args.body.are_bytes }) (omega arith) _ S (rw w.if-not-distinct_in.true at w.distinct_in.ensures)
    ])

pub distinct-overflow_mul-i : goal.distinct-overflow_mul-i
distinct-overflow_mul-i t c = let S = (span_at_of _ _ _ _ c.in-Some.ensures.0).good c.in-Some.ensures.1 in omega arith

pub distinct-overflow_add-i : goal.distinct-overflow_add-i
distinct-overflow_add-i t c = let S = (span_at_of _ _ _ _ c.in-Some.ensures.0).good c.in-Some.ensures.1 in omega arith

pub distinct-overflow_sub-left : goal.distinct-overflow_sub-left
distinct-overflow_sub-left t c = let S = (span_at_of _ _ _ _ c.in-Some.ensures.0).good c.in-Some.ensures.1 in omega arith

pub distinct-loop-left-preserved : goal.distinct-loop-left-preserved
distinct-loop-left-preserved t c =
    let l = c.loop-left in
    let S = (span_at_of _ _ _ _ c.in-Some.ensures.0).good c.in-Some.ensures.1 in
    record {
      few = omega arith;
      so_far = λ r h. l.invariant.so_far r (distinct_more c.args.body.records.now c.args.body.text.now l.i l.left (record { byte = c.args.body.are_bytes }) (omega arith) _ S r (rw c.if-not-alone.false at c.alone.ensures) (rw c.if-not-distinct_in.false at c.distinct_in.ensures) h);
    }

pub distinct-returns : goal.distinct-returns
distinct-returns t c = let l = c.loop-left in l.invariant.so_far true (distinct_end c.args.body.records.now c.args.body.text.now l.i l.left (omega arith))

pub distinct_in-returns-then-kind_at-number : goal.distinct_in-returns-then-kind_at-number
distinct_in-returns-then-kind_at-number t c = rw (ne_eqb _ _ c.if-kind_at-number.true) (distinct_basic c.args.body.records.now c.args.body.text.now c.args.i c.args.span _ c.requires.is (c.kind_at.ensures ∙ word_in 2 _ _ (omega (arith, c.requires.head))) (λ e. c.if-kind_at-number.true (e ∙ sym c.number.ensures)))

pub distinct_in-returns-else-kind_at-number : goal.distinct_in-returns-else-kind_at-number
distinct_in-returns-else-kind_at-number t c = distinct_component c.args.body.records.now c.args.body.text.now c.args.i c.args.span _ c.requires.is (c.kind_at.ensures ∙ word_in 2 _ _ (omega (arith, c.requires.head))) _ (c.if-kind_at-number.false ∙ c.number.ensures) c.distinct.ensures
