-- `texts::path_end` meets its contract. Assumes nothing.
use native.Mathlib.Omega.{arith}
use mathlib.Core.Path.{◌∙◌}
use Rattle.texts.proofs.Texts.{path_none, path_small, path_big, path_is}
use mathlib.Core.Logic.{⊎_elim}
use Rattle.texts.proofs.path_end.Goals as goal

pub returns-in_err-get : goal.returns-in_err-get
returns-in_err-get c = rw c.from_residual.ensures (path_none c.args.text.now c.args.p (omega (arith, c.in_err-get.ensures.lookup)))

pub returns-then-n-eq0 : goal.returns-then-n-eq0
returns-then-n-eq0 c =
    let n = c.from-n.ensures ∙ c.in_ok-get.ensures.lookup.3.1 0 in
    let l = c.in_ok-get.ensures.lookup.3.0 in
    ⊎_elim (λ z. path_small c.args.text.now c.args.p _ n l (omega (arith, z))) (λ z. path_big c.args.text.now c.args.p _ n l z.1) c.then-n-eq0.either

pub returns : goal.returns
returns c = path_is c.args.text.now c.args.p _ (c.from-n.ensures ∙ c.in_ok-get.ensures.lookup.3.1 0) c.in_ok-get.ensures.lookup.3.0 c.names_end.result (omega arith) c.if-n-gt-NAMES.false c.names_end.ensures
