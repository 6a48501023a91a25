-- `run::value::set_rows` meets its contract. Assumes nothing.
use native.Mathlib.Omega.{arith}
use mathlib.Core.Path.{refl}
use mathlib.Core.Logic.{inl, inr}
use Rattle.run.proofs.Valuing.{set_stuck, set_made, set_behind}
use Rattle.run.proofs.value.set_rows.Goals as goal
use Rattle.run.proofs.value.set_rows.Goals.{then-m-eq0-via-then-m-eq0, then-m-eq0-via-else-m-eq0+then-i-m}

pub returns-then-m-eq0 : goal.returns-then-m-eq0
returns-then-m-eq0 c =
    let a = c.args in
    let p = c.requires in (
      omega arith,
      refl,
      set_stuck a.list.bytes.now a.t.now a.i a.label a.depth c.record_at-m.result.span a.s.now a.s.now p.0 a.list.few c.record_at-m.ensures.span
          (elim c.then-m-eq0.branch [ then-m-eq0-via-then-m-eq0 w ↦ inl (omega arith) | then-m-eq0-via-else-m-eq0+then-i-m w ↦ inr (omega arith) ]),
    )

pub returns : goal.returns
returns c =
    let a = c.args in
    let p = c.requires in
    let m = c.record_at-m.result.span in (
      omega arith,
      set_behind a.list.bytes.now a.t.now a.i a.label a.depth m a.s.now _ _ (omega arith) (omega arith) c.put_record.ensures c.items.ensures,
      set_made a.list.bytes.now a.t.now a.i a.label a.depth m a.s.now _ _ p.0 p.1 p.2 (omega arith) a.list.few (c.shared_slice_known-1.given a.label).fits c.record_at-m.ensures.span c.put_record.ensures c.items.ensures,
    )
