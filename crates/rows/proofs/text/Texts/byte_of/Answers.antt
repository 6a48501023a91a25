-- `Texts::byte_of` meets its contract. Assumes nothing.
use mathlib.Core.Path.{◌∙◌}
use Rattle.rows.proofs.Texts.{byte_there}
use Rattle.rows.proofs.text.Texts.byte_of.Goals as goal

pub returns : goal.returns
returns c =
    let a = c.args in
    (c.byte.ensures.0 ∙ byte_there a.self.list.now a.self.table.now a.place _ _ c.home-at.ensures, c.byte.ensures.1)
