-- `run::value::put_record` meets its contract. Assumes nothing.
use mathlib.Core.Path.{refl, ap, ◌∙◌}
use Rattle.load.specs.Load.{value_size}
use Rattle.run.proofs.Valuing.{row_made}
use Rattle.run.proofs.value.put_record.Goals as goal

pub returns : goal.returns
returns c =
    let a = c.args in
    row_made a.list.bytes.now a.t.now a.s.now _ a.i a.q a.label a.depth c.record_at-record.result.kind c.record_at-record.result.value c.name_size.result c.value_size.result _
    c.record_at-record.ensures.kind c.record_at-record.ensures.value c.name_size.ensures.0 (c.value_size.ensures.0 ∙ ap (λ k. value_size a.t.now k c.record_at-record.result.value) c.from.ensures) refl c.put_row.ensures
