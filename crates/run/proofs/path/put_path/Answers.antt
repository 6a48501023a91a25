-- `run::path::put_path`: the places of the names passed are stored. Assumes nothing.
use Prim.Native.Nat.{◌+◌}
use native.Mathlib.Omega.{arith}
use mathlib.Core.Path.{refl, ◌∙◌}
use Rattle.run.proofs.Placing.{after_none, after_more, put_none, put_turn, put_end}
use Rattle.run.proofs.path.put_path.Goals as goal

pub loop-i-init : goal.loop-i-init
loop-i-init c = let a = c.args in (omega arith, omega arith, refl, after_none a.t.now (a.p + 1), put_none a.t.now a.s.now (a.p + 1) a.at)

pub loop-i-preserved : goal.loop-i-preserved
loop-i-preserved c =
    let a = c.args in
    let l = c.loop-i in (
      omega arith,
      omega (arith, c.byte.ensures.1),
      c.put16.auto.s ∙ l.invariant.2,
      after_more a.t.now (a.p + 1) l.i l.q c.byte.result l.invariant.3 c.byte.ensures.0,
      put_turn a.t.now a.s.now l.s _ (a.p + 1) a.at l.i l.q (omega (arith, c.count-n.ensures.1, c.requires.1)) l.invariant.3 l.invariant.4 c.put16.ensures,
    )

pub shape_of-s : goal.shape_of-s
shape_of-s c = c.loop-i.invariant.2

pub returns : goal.returns
returns c =
    let a = c.args in
    let l = c.loop-i in
    (c.count-n.ensures.0, put_end a.t.now a.s.now l.s (a.p + 1) a.at l.i c.count-n.result l.invariant.0 (λ h. omega arith) l.invariant.4)
