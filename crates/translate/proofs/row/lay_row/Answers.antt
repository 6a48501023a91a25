-- `lay_row`: the two texts, then the record before them. Assumes nothing.
use mathlib.Core.Path.{refl}
use Rattle.translate.proofs.Rules.Rows.{fits_as, laid_as, row_label, row_value, row_laid}
use Rattle.translate.proofs.row.lay_row.Goals as goal

pub put_label-mid-requires : goal.put_label-mid-requires
put_label-mid-requires c = row_label (fits_as c.read-draft.ensures c.requires)

pub put_value-end-requires : goal.put_value-end-requires
put_value-end-requires c = row_value (fits_as c.read-draft.ensures c.requires) c.put_label-mid.ensures

pub returns : goal.returns
returns c =
    laid_as c.read-draft.ensures
    (row_laid (fits_as c.read-draft.ensures c.requires) c.put_label-mid.ensures c.put_value-end.ensures c.label_figure.ensures c.value_figure.ensures refl c.write.ensures)
