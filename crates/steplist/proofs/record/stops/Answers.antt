-- `steplist::record::stops` meets its contract. Assumes nothing.
use native.Mathlib.Omega.{arith}
use mathlib.Core.Path.{sym, ◌∙◌}
use borrow.Author.Tests.{le-leb, leb-true, leb-false}
use Rattle.theorems.proofs.Laws.DecodeAt.{Bytes}
use Rattle.steplist.proofs.Records.{stops_end, stops_cut, stops_leave}
use Rattle.steplist.proofs.record.stops.Goals as goal

pub returns-then-records-i : goal.returns-then-records-i
returns-then-records-i c text p = le-leb _ _ c.if-records-i.true ∙ stops_end c.args.records.now c.args.i c.if-records-i.true text p

pub returns-then-fits : goal.returns-then-fits
returns-then-fits c text p =
    let B : Bytes c.args.records.now = record { byte = λ k. omega (arith, c.type_inv.records k) } in
    rw c.number.ensures (stops_leave c.args.records.now c.args.i B c.if-records-i.false _ (leb-true _ _ (sym c.fits.ensures ∙ c.if-fits.true)) c.step_at.ensures text p)

pub returns-else-fits : goal.returns-else-fits
returns-else-fits c text p =
    let B : Bytes c.args.records.now = record { byte = λ k. omega (arith, c.type_inv.records k) } in
    c.if-fits.false ∙ stops_cut c.args.records.now c.args.i B c.if-records-i.false (leb-false _ _ (sym c.fits.ensures ∙ c.if-fits.false)) text p
