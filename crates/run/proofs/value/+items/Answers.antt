-- `run::value::items`, which calls itself: the records of an item's elements are fewer than those of the items. Assumes nothing.
use native.Mathlib.Omega.{arith}
use mathlib.Core.Logic.{inl, inr}
use Rattle.run.proofs.Valuing.{goes_start, goes_end, goes_stuck, goes_turn}
use Rattle.run.proofs.value.+items.Goals as goal
use Rattle.run.proofs.value.+items.Goals.{then-m-eq0-via-then-m-eq0, then-m-eq0-via-else-m-eq0+then-n-k}

pub loop-k-init : goal.loop-k-init
loop-k-init t c = let a = c.args in (omega arith, omega arith, goes_start a.list.bytes.now a.t.now a.i a.n a.q a.depth a.s.now)

pub returns-then-m-eq0 : goal.returns-then-m-eq0
returns-then-m-eq0 t c =
    let a = c.args in
    let l = c.loop-k in
    goes_stuck a.list.bytes.now a.t.now a.i a.n a.q a.depth a.s.now l.s l.k c.record_at-m.result.span (omega arith) c.requires.0 c.record_at-m.ensures.span
    (elim c.then-m-eq0.branch [ then-m-eq0-via-then-m-eq0 w ↦ inl (omega arith) | then-m-eq0-via-else-m-eq0+then-n-k w ↦ inr (omega arith) ]) l.invariant.2

pub loop-k-preserved : goal.loop-k-preserved
loop-k-preserved t c =
    let a = c.args in
    let l = c.loop-k in
    let p = c.requires in
    let m = c.record_at-m.result.span in (
      omega arith,
      c.items.array_long,
      goes_turn a.list.bytes.now a.t.now a.i a.n a.q a.depth l.s _ _ l.k m (omega arith) p.0 p.1 p.2 (omega (arith, l.invariant.1)) c.record_at-m.ensures.span c.put_record.ensures c.items.ensures a.s.now (omega arith) (omega arith) l.invariant.2,
    )

pub returns : goal.returns
returns t c = let a = c.args in let l = c.loop-k in goes_end a.list.bytes.now a.t.now a.i a.n a.q a.depth a.s.now l.s l.k l.invariant.0 (λ h. omega arith) l.invariant.2
