-- `texts::names_end` meets its contract. Assumes nothing.
use native.Mathlib.Omega.{arith}
use native.Mathlib.Nat.{sub-zero}
use mathlib.Core.Path.{◌≡◌}
use Prim.Native.Nat.{◌+◌, ◌-◌}
use Rattle.std.specs.Prelude.{Some, None}
use Rattle.texts.proofs.Texts.{names_stop, names_no, names_go}
use Rattle.texts.proofs.names_end.Goals as goal

pub loop-init : goal.loop-init
loop-init c = record { within = c.requires; so_far = λ r h. rw sub-zero at h }

pub returns-in_err-end : goal.returns-in_err-end
returns-in_err-end c = let l = c.loop in rw c.from_residual.ensures (l.invariant.so_far None (names_no c.args.text.now l.end _ (omega arith) c.in_err-end.ensures))

pub loop-preserved : goal.loop-preserved
loop-preserved c =
    let l = c.loop in
    let N = c.in_ok-end.ensures in
    let e : c.args.n - l.counter - 1 ≡ c.args.n - (l.counter + 1) = omega arith in
    record { within = N.within; so_far = λ r h. l.invariant.so_far r (names_go c.args.text.now l.end _ _ r (omega arith) N (rw e h)) }

pub returns : goal.returns
returns c =
    let l = c.loop in
    let z : c.args.n - l.counter ≡ 0 = omega arith in
    l.invariant.so_far (Some l.end) (rw z (names_stop c.args.text.now l.end l.invariant.within))
