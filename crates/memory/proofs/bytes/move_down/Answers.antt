-- `memory::bytes::move_down` meets its contract. Assumes nothing.
use Prim.Native.Nat.{◌+◌, ◌-◌}
use native.Mathlib.Nat.{add-zero, sub-zero}
use native.Mathlib.Omega.{arith}
use mathlib.Core.Path.{◌≡◌, refl, sym, ◌∙◌}
use lib.ListN.{take, drop, length-set}
use Rattle.memory.proofs.Laws.{stored_sets, length_own}
use Rattle.memory.proofs.Turns.{turn, own_left}
use Rattle.memory.proofs.bytes.move_down.Goals as goal

pub loop-i-init : goal.loop-i-init
loop-i-init c = (refl, rw (add-zero c.args.to, add-zero c.args.from, sub-zero c.args.n))

pub loop-i-preserved : goal.loop-i-preserved
loop-i-preserved c =
    let l = c.loop-i in
    let a = c.args in
    (simp length-set l.invariant.0, turn l.s (a.to + l.i) (a.to + (l.i + 1)) (omega arith) l.invariant.1 (own_left l.s a.from a.to a.n l.i _ (omega arith) (omega arith) (omega arith)))

pub shape_of-s : goal.shape_of-s
shape_of-s c = c.loop-i.invariant.0

pub returns : goal.returns
returns c =
    let l = c.loop-i in
    let a = c.args in
    let e : a.n - l.i ≡ 0 = omega arith in
    rw e at l.invariant.1 ∙ sym (stored_sets a.s.now a.to (take a.n (drop a.from a.s.now)) (omega (arith, length_own a.s.now a.from a.n (omega arith))))
