-- `texts::name_end` meets its contract. Assumes nothing.
use native.Mathlib.Omega.{arith}
use Prim.Native.Nat.{◌<◌}
use lib.ListN.{length}
use mathlib.Core.Path.{◌∙◌, sym}
use Rattle.theorems.proofs.Laws.DecodeAt.{name_end}
use Rattle.texts.specs.Text.{legal_name, EndIs}
use Rattle.texts.proofs.Texts.{when_so, name_long, name_good, name_illegal}
use Rattle.texts.proofs.name_end.Goals as goal

pub returns-in_err-get : goal.returns-in_err-get
returns-in_err-get c = rw c.from_residual.ensures (name_end c.args.text.now c.args.p (omega (arith, c.in_err-get.ensures.lookup)))

pub returns-in_err-name : goal.returns-in_err-name
returns-in_err-name c =
    rw c.from_residual-in_err-name.ensures (name_long c.args.text.now c.args.p c.from-n.result (c.from-n.ensures ∙ c.in_ok-get.ensures.lookup.3.1 0) (omega (arith, c.in_ok-get.ensures.lookup)) (omega (arith, c.in_err-name.ensures.lookup)))

pub returns : goal.returns
unfolding legal_name
returns c =
    let k = c.from-n.ensures ∙ c.in_ok-get.ensures.lookup.3.1 0 in
    let n = c.in_ok-name.ensures.lookup.0.2 in
    let e = c.is_name.ensures in
    let l : c.args.p < length c.args.text.now = c.in_ok-get.ensures.lookup.3.0 in
    let h = c.in_ok-name.ensures.lookup.0.1 in
    rw c.then_some.ensures (when_so (EndIs _ c.args.text.now c.args.p) c.is_name.result _
    (λ g. name_good c.args.text.now c.args.p c.from-n.result k l h (rw n at (sym e ∙ g)))
    (λ g. name_illegal c.args.text.now c.args.p c.from-n.result k l h (rw n at (sym e ∙ g))))
