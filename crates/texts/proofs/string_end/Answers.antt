-- `texts::string_end` meets its contract. Assumes nothing.
use borrow.Author.Tests.{leb-true, leb-false}
use Rattle.texts.specs.Text.{EndIs}
use Rattle.texts.proofs.Texts.{when_so, string_good, string_long, string_no}
use Rattle.texts.proofs.string_end.Goals as goal

pub returns-in_err-end : goal.returns-in_err-end
returns-in_err-end c = rw c.from_residual.ensures (string_no c.args.text.now c.args.p c.in_err-end.ensures)

pub returns : goal.returns
returns c = let L = c.in_ok-end.ensures in rw c.then_some.ensures (when_so (EndIs _ c.args.text.now c.args.p) _ _ (λ g. string_good _ _ _ L (leb-true _ _ g)) (λ g. string_long _ _ _ L (leb-false _ _ g)))
