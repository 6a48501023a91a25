-- `write::text::value_text` meets its contract. Assumes nothing.
use native.Mathlib.Omega.{arith}
use mathlib.Core.Path.{refl}
use Rattle.write.proofs.Texts.{value_none, value_some}
use Rattle.write.proofs.text.value_text.Goals as goal

pub returns-then-has_text : goal.returns-then-has_text
returns-then-has_text c =
    let a = c.args in
    value_some a.texts.list.now a.texts.table.now a.row _ c.label_text-name.result.now c.saturating_sub.result c.has_text.ensures c.if-has_text.true (omega arith) c.label_text-name.ensures.0 (omega arith) c.part.ensures

pub returns-else-has_text : goal.returns-else-has_text
returns-else-has_text c =
    let a = c.args in
    value_none a.texts.list.now a.texts.table.now a.row _ c.has_text.ensures c.if-has_text.false refl
