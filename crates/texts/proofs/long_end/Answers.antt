-- `texts::long_end` meets its contract. Assumes nothing.
use Prim.Native.Nat.{◌+◌, ◌≤◌}
use native.Mathlib.Omega.{arith}
use mathlib.Core.Path.{◌∙◌, sym}
use lib.ListN.{length}
use borrow.Author.Tests.{leb-true, leb-false}
use Rattle.theorems.proofs.Laws.DecodeAt.{Bytes, long_end}
use Rattle.memory.proofs.Laws.{word_in}
use Rattle.texts.specs.Text.{LongIs}
use Rattle.texts.proofs.Texts.{when_so, long_over, long_good}
use Rattle.texts.proofs.long_end.Goals as goal

pub returns-then-not-fits : goal.returns-then-not-fits
returns-then-not-fits c = long_end c.args.text.now c.args.p (leb-false _ _ (sym c.fits.ensures ∙ c.if-not-fits.true))

pub overflow_add-start-2 : goal.overflow_add-start-2
overflow_add-start-2 c = omega (arith, leb-true _ _ (sym c.fits.ensures ∙ c.if-not-fits.false))

pub returns : goal.returns
returns c =
    let B : Bytes c.args.text.now = record { byte = λ i. omega (arith, c.type_inv.text i) } in
    let h : c.args.p + 2 ≤ length c.args.text.now = leb-true _ _ (sym c.fits.ensures ∙ c.if-not-fits.false) in
    let n = c.from-n.ensures ∙ c.get16.ensures ∙ word_in 2 _ _ h in
    let e = c.fits-2.ensures in
    rw c.then_some.ensures (when_so (LongIs c.args.text.now c.args.p) c.fits-2.result _ (λ g. long_good c.args.text.now c.args.p B _ n h (leb-true _ _ (sym e ∙ g))) (λ g. long_over c.args.text.now c.args.p B _ n h (leb-false _ _ (sym e ∙ g))))
