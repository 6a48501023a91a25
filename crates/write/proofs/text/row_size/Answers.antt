-- `write::text::row_size` meets its contract. Assumes nothing.
use Rattle.write.proofs.Texts.{row_sized}
use Rattle.write.proofs.text.row_size.Goals as goal

pub returns : goal.returns
returns c =
    let a = c.args in
    row_sized a.texts.list.now a.texts.table.now a.row _ _ c.label_text.ensures.0 c.value_text.ensures.0 c.label_text.ensures.1 c.value_text.ensures.1
