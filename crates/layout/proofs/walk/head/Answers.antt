-- `layout::walk::head` meets its contract. Assumes nothing.
use Prim.Native.Nat.{◌+◌}
use native.Mathlib.Omega.{arith}
use mathlib.Core.Path.{◌≡◌, refl, ◌∙◌}
use mathlib.Core.Bool.{◌&&◌}
use lib.Dec.{leb}
use lib.ListN.{length}
use borrow.Author.Tests.{le-leb, lt-leb}
use Rattle.memory.proofs.Laws.{word_in}
use Rattle.forms.specs.Form.{size_of}
use Rattle.layout.proofs.Heads.{sized, and_then, and_else, head_is}
use Rattle.layout.proofs.walk.head.Goals.{then-fits, else-fits, then-span-ge1, else-span-ge1}
use Rattle.layout.proofs.walk.head.Goals as goal

pub returns-then-within : goal.returns-then-within
returns-then-within c =
    let f : c.if-fits.within ≡ (leb (c.args.i + size_of c.args.form) (length c.args.records.now) && leb c.args.depth 32) = rw (← c.size.ensures.0, ← c.fits.ensures) (elim c.if-fits.branch [ then-fits w ↦ and_then w.if-fits.true w.within-is | else-fits w ↦ and_else _ w.if-fits.false w.within-is ]) in
    let s : c.if-span-ge1.spanned ≡ (leb 1 c.span_at-span.result && leb c.span_at-span.result c.args.left) = elim c.if-span-ge1.branch [ then-span-ge1 w ↦ and_then (le-leb _ _ w.if-span-ge1.true) w.spanned-is | else-span-ge1 w ↦ and_else _ (lt-leb _ _ w.if-span-ge1.false) w.spanned-is ] in
    and_then c.if-within.true refl ∙ head_is c.args.form c.args.records.now c.args.i c.args.depth c.args.left c.span_at-span.result (λ h. c.span_at-span.ensures.0 ∙ word_in 2 _ _ (omega (arith, sized c.args.form))) f s

pub returns-else-within : goal.returns-else-within
returns-else-within c =
    let f : c.if-fits.within ≡ (leb (c.args.i + size_of c.args.form) (length c.args.records.now) && leb c.args.depth 32) = rw (← c.size.ensures.0, ← c.fits.ensures) (elim c.if-fits.branch [ then-fits w ↦ and_then w.if-fits.true w.within-is | else-fits w ↦ and_else _ w.if-fits.false w.within-is ]) in
    let s : c.if-span-ge1.spanned ≡ (leb 1 c.span_at-span.result && leb c.span_at-span.result c.args.left) = elim c.if-span-ge1.branch [ then-span-ge1 w ↦ and_then (le-leb _ _ w.if-span-ge1.true) w.spanned-is | else-span-ge1 w ↦ and_else _ (lt-leb _ _ w.if-span-ge1.false) w.spanned-is ] in
    and_else _ c.if-within.false refl ∙ head_is c.args.form c.args.records.now c.args.i c.args.depth c.args.left c.span_at-span.result (λ h. c.span_at-span.ensures.0 ∙ word_in 2 _ _ (omega (arith, sized c.args.form))) f s
