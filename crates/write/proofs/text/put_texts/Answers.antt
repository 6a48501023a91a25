-- `write::text::put_texts`: one text behind the other. Assumes nothing.
use Rattle.write.proofs.Texts.{texts_put}
use Rattle.write.proofs.text.put_texts.Goals as goal

pub returns : goal.returns
returns c =
    let a = c.args in
    texts_put a.texts.list.now a.texts.table.now a.row _ _ c.label_text-label.ensures.0 c.value_text-value.ensures.0 a.out.now _ _ a.at c.requires c.copy.ensures c.copy-2.ensures
