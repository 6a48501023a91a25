-- `steplist::record::closed` meets its contract. Assumes nothing.
use native.Mathlib.Omega.{arith}
use mathlib.Core.Bool.{true, false}
use mathlib.Core.Path.{refl, sym, ◌∙◌}
use borrow.Author.Tests.{leb-true, leb-false}
use Rattle.theorems.proofs.Laws.DecodeAt.{Bytes}
use Rattle.kinds.specs.Numbers.{step_number}
use Rattle.steplist.proofs.Records.{closes_cut, closes_bare}
use Rattle.steplist.proofs.record.closed.Goals.{then-not-fits-via-then-not-fits, then-not-fits-via-else-not-fits+then-not-bare}
use Rattle.steplist.proofs.record.closed.Goals as goal

pub returns-then-not-fits : goal.returns-then-not-fits
returns-then-not-fits c =
    let B : Bytes c.args.records.now = record { byte = λ k. omega (arith, c.type_inv.records k) } in
    elim c.then-not-fits.branch [
      | then-not-fits-via-then-not-fits w ↦ closes_cut c.args.records.now c.args.at.record (step_number c.args.step) B (leb-false _ _ (sym c.fits.ensures ∙ w.if-not-fits.true))
      | then-not-fits-via-else-not-fits+then-not-bare w ↦ closes_bare c.args.records.now c.args.at.record (step_number c.args.step) B false (leb-true _ _ (sym c.fits.ensures ∙ w.if-not-fits.false)) (rw w.if-not-bare.true at w.bare.ensures)
    ]

pub returns : goal.returns
returns c =
    let B : Bytes c.args.records.now = record { byte = λ k. omega (arith, c.type_inv.records k) } in
    let h = leb-true _ _ (sym c.fits.ensures ∙ c.if-not-fits.false) in
    (closes_bare c.args.records.now c.args.at.record (step_number c.args.step) B true h (rw c.if-not-bare.false at c.bare.ensures), refl, refl, h)
