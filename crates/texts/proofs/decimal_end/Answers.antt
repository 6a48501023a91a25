-- `texts::decimal_end` meets its contract. Assumes nothing.
use mathlib.Core.Path.{◌∙◌, sym}
use Rattle.texts.specs.Text.{legal_decimal, EndIs}
use Rattle.texts.proofs.Texts.{when_so, decimal_good, decimal_illegal, decimal_no}
use Rattle.texts.proofs.decimal_end.Goals as goal

pub returns-in_err-end : goal.returns-in_err-end
returns-in_err-end c = rw c.from_residual.ensures (decimal_no c.args.text.now c.args.p c.in_err-end.ensures)

pub returns : goal.returns
unfolding legal_decimal
returns c =
    let L = c.in_ok-end.ensures in
    let e = c.is_decimal.ensures in
    rw c.then_some.ensures (when_so (EndIs _ c.args.text.now c.args.p) c.is_decimal.result _ (λ g. decimal_good _ _ _ L (sym e ∙ g)) (λ g. decimal_illegal _ _ _ L (sym e ∙ g)))
