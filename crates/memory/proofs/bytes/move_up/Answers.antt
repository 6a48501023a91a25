-- `memory::bytes::move_up` meets its contract. Assumes nothing.
use native.Mathlib.Omega.{arith}
use mathlib.Core.Path.{◌≡◌, refl, sym, ◌∙◌}
use lib.ListN.{take, drop, length-set}
use Rattle.memory.proofs.Laws.{stored_sets, length_own}
use Rattle.memory.proofs.Turns.{up_turn}
use Rattle.memory.proofs.bytes.move_up.Goals as goal

pub loop-i-init : goal.loop-i-init
loop-i-init c = (refl, refl)

pub loop-i-preserved : goal.loop-i-preserved
loop-i-preserved c =
    let l = c.loop-i in
    let a = c.args in
    (simp length-set l.invariant.0, up_turn l.s _ a.from a.to l.i (omega arith) (omega arith) (omega arith) l.invariant.1)

pub shape_of-s : goal.shape_of-s
shape_of-s c = c.loop-i.invariant.0

pub returns : goal.returns
returns c =
    let l = c.loop-i in
    let a = c.args in
    let e : l.i ≡ 0 = omega arith in
    rw e at l.invariant.1 ∙ sym (stored_sets a.s.now a.to (take a.n (drop a.from a.s.now)) (omega (arith, length_own a.s.now a.from a.n (omega arith))))
