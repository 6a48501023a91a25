-- `write::text::label_text` meets its contract. Assumes nothing.
use native.Mathlib.Omega.{arith}
use Prim.Native.Nat.{◌+◌}
use mathlib.Core.Path.{refl, ap, ◌∙◌}
use Rattle.rows.specs.View.{byte_of, text_part}
use Rattle.write.proofs.Texts.{label_none, label_some}
use Rattle.write.proofs.text.label_text.Goals as goal

pub returns-then-place-eq-ELEMENT : goal.returns-then-place-eq-ELEMENT
returns-then-place-eq-ELEMENT c =
    let a = c.args in
    label_none a.texts.list.now a.texts.table.now a.row _ (omega arith) refl

pub returns-else-place-eq-ELEMENT : goal.returns-else-place-eq-ELEMENT
returns-else-place-eq-ELEMENT c =
    let a = c.args in
    let t = a.texts.list.now in
    let u = a.texts.table.now in
    let b = c.byte_of.result in
    label_some t u a.row _ b (λ e. omega arith) (c.byte_of.ensures.0 ∙ ap (byte_of t u) c.from-place.ensures) c.byte_of.ensures.1 (c.part.ensures ∙ ap (λ p. text_part t u p (1 + b)) c.from-place.ensures)
