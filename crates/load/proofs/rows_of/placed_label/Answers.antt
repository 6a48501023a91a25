-- `load::rows_of::placed_label` meets its contract. Assumes nothing.
use native.Mathlib.Omega.{arith}
use mathlib.Core.Path.{sym, ap, ◌∙◌}
use Rattle.load.specs.Load.{placed}
use Rattle.load.proofs.Sizes.{label_none, label_some, placed_is}
use Rattle.load.proofs.rows_of.placed_label.Goals as goal

pub returns-then-from-eq-ELEMENT : goal.returns-then-from-eq-ELEMENT
returns-then-from-eq-ELEMENT c = label_none c.args.label (omega arith)

pub returns-else-from-eq-ELEMENT : goal.returns-else-from-eq-ELEMENT
returns-else-from-eq-ELEMENT c =
    let p = c.args.label in
    c.placed.ensures.0 ∙ ap placed c.from-else-from-eq-ELEMENT.ensures ∙ sym (placed_is p) ∙ label_some p (λ e. omega arith)
