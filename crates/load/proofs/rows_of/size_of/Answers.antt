-- `load::rows_of::size_of` meets its contract. Assumes nothing.
use mathlib.Core.Path.{◌∙◌, ap}
use Rattle.load.specs.Load.{name_size, value_size}
use Rattle.load.proofs.Loads.{sized}
use Rattle.load.proofs.rows_of.size_of.Goals as goal

pub returns : goal.returns
returns c =
    let text = c.args.text.now in
    let r = c.args.row in
    sized text r.label r.kind r.value c.name_size-name.result c.value_size-value.result
    (c.name_size-name.ensures.0 ∙ ap (name_size text) c.from.ensures) (c.value_size-value.ensures.0 ∙ ap (λ k. value_size text k r.value) c.from-2.ensures)
