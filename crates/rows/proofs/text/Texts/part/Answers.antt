-- `Texts::part` meets its contract. Assumes nothing.
use mathlib.Core.Path.{◌∙◌}
use Rattle.rows.proofs.Texts.{part_there}
use Rattle.rows.proofs.text.Texts.part.Goals as goal

pub returns : goal.returns
returns c =
    let a = c.args in
    c.part.ensures ∙ part_there a.self.list.now a.self.table.now a.place _ _ c.home-at.ensures a.len
