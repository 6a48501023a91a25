-- `memory::bytes::copy` meets its contract. Assumes nothing.
use Prim.Native.Nat.{◌+◌}
use native.Mathlib.Nat.{add-zero}
use native.Mathlib.Omega.{arith}
use mathlib.Core.Path.{◌≡◌, refl, sym, ◌∙◌}
use lib.ListN.{length, length-set}
use lib.Seq.{drop-length}
use Rattle.memory.proofs.Laws.{lies, lies_not, stored_out, stored_sets}
use Rattle.memory.proofs.Turns.{turn, list_left}
use Rattle.memory.proofs.bytes.copy.Goals as goal

pub loop-i-init : goal.loop-i-init
loop-i-init c = (refl, rw (add-zero c.args.at))

pub loop-i-preserved : goal.loop-i-preserved
loop-i-preserved c =
    let l = c.loop-i in
    let a = c.args in
    (simp length-set l.invariant.0, turn l.dst (a.at + l.i) (a.at + (l.i + 1)) (omega arith) l.invariant.1 (list_left a.src.now l.i (omega arith)))

pub returns-after-loop-i : goal.returns-after-loop-i
returns-after-loop-i c =
    let l = c.loop-i in
    let a = c.args in
    let e : l.i ≡ length a.src.now = omega arith in
    rw (e, drop-length a.src.now) at l.invariant.1 ∙ sym (stored_sets a.dst.now a.at a.src.now (lies _ _ _ c.fits.ensures c.if-fits.true))

pub returns-else-fits : goal.returns-else-fits
returns-else-fits c = sym (stored_out _ _ _ (lies_not _ _ _ c.fits.ensures c.if-fits.false))
