-- `Texts::is_named` meets its contract. Assumes nothing.
use mathlib.Core.Path.{sym, ap, ◌∙◌}
use Rattle.paper.specs.Bytes.{same}
use Rattle.rows.proofs.Texts.{no_label, a_label, same_pointwise, name_is, byte_first, byte_second, part_first, part_second}
use Rattle.rows.proofs.text.Texts.is_named.Goals as goal

pub returns-then-place-eq-ELEMENT : goal.returns-then-place-eq-ELEMENT
returns-then-place-eq-ELEMENT c =
    let a = c.args in
    sym (no_label a.self.list.now a.self.table.now a.place a.name.now c.if-place-eq-ELEMENT.true)

pub returns-then-place-lt-SECOND : goal.returns-then-place-lt-SECOND
returns-then-place-lt-SECOND c =
    let a = c.args in
    let t = a.self.list.now in
    let u = a.self.table.now in
    let h = c.if-place-lt-SECOND.true in
    c.eq.ensures ∙ same_pointwise c.name_in.result.now a.name.now
    ∙ ap (λ s. same s a.name.now) (c.name_in.ensures ∙ name_is t u _ a.place _ (sym (part_first t u a.place _ h)) (sym (byte_first t u a.place h)))
    ∙ sym (a_label t u a.place a.name.now c.if-place-eq-ELEMENT.false)

pub returns-else-place-lt-SECOND : goal.returns-else-place-lt-SECOND
returns-else-place-lt-SECOND c =
    let a = c.args in
    let t = a.self.list.now in
    let u = a.self.table.now in
    let h = c.if-place-lt-SECOND.false in
    c.eq-else-place-lt-SECOND.ensures ∙ same_pointwise c.name_in-else-place-lt-SECOND.result.now a.name.now
    ∙ ap (λ s. same s a.name.now) (c.name_in-else-place-lt-SECOND.ensures ∙ name_is t u _ a.place _ (sym (part_second t u a.place _ h)) (sym (byte_second t u a.place h)))
    ∙ sym (a_label t u a.place a.name.now c.if-place-eq-ELEMENT.false)
