-- `load::size::names_size`: what is counted, and what is left to count, come to the same at each turn. Assumes nothing.
use native.Mathlib.Omega.{arith}
use Prim.Native.Nat.{◌+◌, ◌-◌}
use mathlib.Core.Path.{◌≡◌, sym, ap, ◌∙◌}
use mathlib.Core.List.{◌∷◌}
use Rattle.load.specs.Load.{names_size}
use Rattle.load.proofs.Sizes.{names_none, names_zero, names_more}
use Rattle.load.proofs.size.names_size.Goals as goal

pub returns-in_default : goal.returns-in_default
returns-in_default c =
    let l = c.loop in
    (omega (arith, l.invariant.0, names_none (c.args.n - l.counter) l.rest.now c.in_default.ensures.cases), omega arith)

pub loop-preserved : goal.loop-preserved
loop-preserved c =
    let l = c.loop in
    let s = c.in-Some in
    let n = c.args.n in
    let more = names_more (n - l.counter) (n - (l.counter + 1)) c.from-len.result l.rest.now s.names.now c.from-rest.result.now (omega arith) (s.ensures.cases.0 ∙ ap (λ b. b ∷ s.names.now) (sym c.from-len.ensures)) c.from-rest.ensures in
    (omega (arith, l.invariant.0, more), omega arith)

pub returns : goal.returns
returns c =
    let l = c.loop in
    let none : c.args.n - l.counter ≡ 0 = omega arith in
    let e : names_size (c.args.n - l.counter) l.rest.now ≡ 0 = rw none (names_zero l.rest.now) in
    (omega (arith, l.invariant.0, e), omega arith)
