-- `Texts::name_of` meets its contract. Assumes nothing.
use mathlib.Core.Path.{◌∙◌}
use Rattle.rows.proofs.Texts.{byte_there, part_there, name_is}
use Rattle.rows.proofs.text.Texts.name_of.Goals as goal

pub returns : goal.returns
returns c =
    let t = c.args.self.list.now in
    let u = c.args.self.table.now in
    let p = c.args.place in
    c.name_in.ensures ∙ name_is t u _ p _ (part_there t u p _ _ c.home-at.ensures _) (byte_there t u p _ _ c.home-at.ensures)
