-- `memory::bytes::slide` meets its contract. Assumes nothing.
use Prim.Native.Nat.{◌+◌, ◌≤◌, ◌<◌}
use native.Mathlib.Omega.{arith}
use mathlib.Core.Path.{sym, ◌∙◌}
use lib.ListN.{length, take, drop}
use Rattle.memory.proofs.Laws.{fits_yes, fits_no, slid_in, slid_out, stored_out, length_own}
use Rattle.memory.proofs.bytes.slide.Goals as goal
use Rattle.memory.proofs.bytes.slide.Goals.{Else-not-fits}

lies_in : (c : Else-not-fits) → c.args.from + c.args.n ≤ length c.args.s.now
lies_in c = fits_yes _ _ _ c.fits.ensures c.if-not-fits.false-raw

pub returns-then-not-fits : goal.returns-then-not-fits
returns-then-not-fits c =
    let a = c.args in
    sym (slid_out a.s.now a.from a.to a.n (fits_no _ _ _ c.fits.ensures c.if-not-fits.true-raw))

pub returns-then-not-fits-2 : goal.returns-then-not-fits-2
returns-then-not-fits-2 c =
    let a = c.args in
    let h = lies_in (goal.at.returns-then-not-fits-2 c).Else-not-fits in
    let o : length a.s.now < a.to + a.n = fits_no _ _ _ c.fits-2.ensures c.if-not-fits-2.true-raw in
    sym (slid_in a.s.now a.from a.to a.n h ∙ stored_out a.s.now a.to (take a.n (drop a.from a.s.now)) (omega (arith, length_own a.s.now a.from a.n h)))

pub move_down-requires : goal.move_down-requires
move_down-requires c = (c.if-to-from.true, lies_in (goal.at.move_down-requires c).Else-not-fits)

pub returns-then-to-from : goal.returns-then-to-from
returns-then-to-from c =
    let a = c.args in
    c.move_down.ensures ∙ sym (slid_in a.s.now a.from a.to a.n (lies_in (goal.at.returns-then-to-from c).Else-not-fits))

pub move_up-requires : goal.move_up-requires
move_up-requires c = (omega arith, fits_yes _ _ _ c.fits-2.ensures c.if-not-fits-2.false-raw)

pub returns : goal.returns
returns c =
    let a = c.args in
    c.move_up.ensures ∙ sym (slid_in a.s.now a.from a.to a.n (lies_in (goal.at.returns c).Else-not-fits))
