-- `load::rows_of::loaded_row` meets its contract. Assumes nothing.
use Rattle.load.proofs.Loads.{row_is}
use Rattle.load.proofs.rows_of.loaded_row.Goals as goal

pub returns : goal.returns
returns c =
    let r = c.row_at-row in
    row_is c.args.recs.now c.args.text.now c.args.i r.result c.placed_label.result c.size_of.result c.placed_value.result r.ensures c.placed_label.ensures c.size_of.ensures c.placed_value.ensures
