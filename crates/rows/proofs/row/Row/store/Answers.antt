-- `Row::store` meets its contract: five numbers, each right behind the one before. Assumes nothing.
use mathlib.Core.Path.{sym}
use Rattle.memory.proofs.Laws.{fits_yes, fits_no}
use Rattle.rows.proofs.Fields.{row_short, row_written}
use Rattle.rows.proofs.row.Row.store.Goals as goal

pub returns-then-not-fits : goal.returns-then-not-fits
returns-then-not-fits c =
    let a = c.args in
    let r = a.self in
    sym (row_short a.out.now a.at r.kind r.depth r.label r.size r.value (fits_no _ _ _ c.fits.ensures c.if-not-fits.true-raw))

pub returns : goal.returns
returns c =
    let a = c.args in
    let r = a.self in
    row_written a.out.now a.at r.kind r.depth r.label r.size r.value _ _ _ _ _
    (fits_yes _ _ _ c.fits.ensures c.if-not-fits.false-raw)
    c.put16.ensures c.put16-2.ensures c.put16-3.ensures c.put16-4.ensures c.put64.ensures
