-- `table::child::span_within` meets its contract. Assumes nothing.
use Prim.Native.Nat.{◌+◌, ◌≤◌}
use native.Mathlib.Omega.{arith}
use mathlib.Core.Path.{sym, ◌∙◌}
use lib.ListN.{length}
use borrow.Author.Tests.{leb-true, leb-false}
use Rattle.memory.proofs.Laws.{word_in}
use Rattle.table.proofs.Children.{span_outside, no_span, many_span, long_span, one_span}
use Rattle.table.proofs.child.span_within.Goals.{then-span-eq0-via-then-span-eq0, then-span-eq0-via-else-span-eq0+then-past, then-span-eq0-via-else-span-eq0+else-past+then-not-fits-2}
use Rattle.table.proofs.child.span_within.Goals as goal

pub returns-then-not-fits : goal.returns-then-not-fits
returns-then-not-fits c = omega (arith, span_outside c.args.records.now c.args.i c.args.left (leb-false _ _ (sym c.fits.ensures ∙ c.if-not-fits.true)))

pub returns-then-span-eq0 : goal.returns-then-span-eq0
returns-then-span-eq0 c =
    let e = λ (h : c.args.i + 16 ≤ length c.args.records.now). c.span_at-span.ensures.0 ∙ word_in 2 _ _ (omega arith) in
    elim c.then-span-eq0.branch [
      | then-span-eq0-via-then-span-eq0 w ↦ no_span c.args.records.now c.args.i c.args.left _ e w.if-span-eq0.true
      | then-span-eq0-via-else-span-eq0+then-past w ↦ many_span c.args.records.now c.args.i c.args.left _ e w.if-past.true
      | then-span-eq0-via-else-span-eq0+else-past+then-not-fits-2 w ↦ long_span c.args.records.now c.args.i c.args.left _ e w.if-past.false (leb-false _ _ (sym w.fits-else-past.ensures ∙ w.if-not-fits-2.true))
    ]

pub returns : goal.returns
returns c =
    let e = λ (h : c.args.i + 16 ≤ length c.args.records.now). c.span_at-span.ensures.0 ∙ word_in 2 _ _ (omega arith) in
    let k : 1 ≤ c.span_at-span.result = omega arith in
    (one_span c.args.records.now c.args.i c.args.left _ e k c.if-past.false (leb-true _ _ (sym c.fits-else-past.ensures ∙ c.if-not-fits-2.false)), k)
