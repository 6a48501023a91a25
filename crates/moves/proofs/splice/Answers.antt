-- `moves::splice` meets its contract. Assumes nothing.
use mathlib.Core.Path.{sym}
use Rattle.rows.proofs.Changes.{fits_of, unfit, spliced_is}
use Rattle.moves.proofs.splice.Goals as goal

pub returns-then-fits_in : goal.returns-then-fits_in
returns-then-fits_in c =
    let a = c.args in
    spliced_is a.w.now a.n a.lo a.hi a.new.bytes.now a.new.count _ _ _ (fits_of _ _ _ _ _ _ c.fits_in.ensures c.if-fits_in.true)
    c.slide.ensures c.part.ensures c.copy.ensures

pub returns-else-fits_in : goal.returns-else-fits_in
returns-else-fits_in c =
    let a = c.args in
    sym (unfit a.w.now a.n a.lo a.hi a.new.bytes.now a.new.count c.fits_in.ensures c.if-fits_in.false)
