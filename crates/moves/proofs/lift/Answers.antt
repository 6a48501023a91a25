-- `moves::lift` meets its contract: what is copied and what is left to copy come to the same list at each turn. Assumes nothing.
use Prim.Native.Nat.{◌-◌, ◌*◌}
use native.Mathlib.Omega.{arith}
use mathlib.Core.Path.{sym, ap, ◌∙◌}
use lib.ListN.{length}
use Rattle.memory.specs.Memory.{stored}
use Rattle.rows.specs.Change.{moved, lifted}
use Rattle.rows.proofs.Changes.{Lifts, lifts_of, unlifted, lifted_is, lift_turn, lift_end}
use Rattle.moves.proofs.lift.Goals as goal

pub loop-j-preserved : goal.loop-j-preserved
loop-j-preserved c =
    let a = c.args in
    let l = c.loop-j in
    let k = a.hi - a.lo in
    let L : Lifts (length a.w.now) a.lo a.hi (length a.s.now) a.q a.to = lifts_of _ _ _ _ _ _ c.lifts_in.ensures c.if-lifts_in.true in
    let row = c.row_at-row in
    lift_turn a.w.now l.s c.put_row.new.w _ a.lo a.q a.from a.to k l.j _ _ _ _ _
    c.loop-j-test.true (omega (arith, L.short)) (omega (arith, L.place, l.auto.s))
    (ap (λ r. r.kind) row.ensures) (c.shifted-depth.ensures ∙ ap (λ r. moved a.from a.to r.depth) row.ensures) (ap (λ r. r.label) row.ensures) (ap (λ r. r.size) row.ensures) (ap (λ r. r.value) row.ensures)
    c.put_row.ensures l.invariant

pub returns-after-loop-j : goal.returns-after-loop-j
returns-after-loop-j c =
    let a = c.args in
    let l = c.loop-j in
    let k = a.hi - a.lo in
    lift_end a.w.now l.s (stored a.s.now (a.q * 16) (lifted a.w.now a.from a.to a.lo k)) a.lo a.q a.from a.to k l.j c.loop-j-test.false l.invariant
    ∙ sym (lifted_is a.w.now a.lo a.hi a.s.now a.q a.from a.to (lifts_of _ _ _ _ _ _ c.lifts_in.ensures c.if-lifts_in.true))

pub returns-else-lifts_in : goal.returns-else-lifts_in
returns-else-lifts_in c =
    let a = c.args in
    sym (unlifted a.w.now a.lo a.hi a.s.now a.q a.from a.to c.lifts_in.ensures c.if-lifts_in.false)
