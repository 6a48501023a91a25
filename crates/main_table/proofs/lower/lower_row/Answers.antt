-- `main_table::lower::lower_row` meets its contract. Assumes nothing.
use mathlib.Core.Path.{◌∙◌, ap}
use Rattle.memory.specs.Memory.{stored}
use Rattle.rows.specs.Change.{row_bytes}
use Rattle.main_table.proofs.Lowers.{row_lowered}
use Rattle.main_table.proofs.lower.lower_row.Goals as goal

pub returns : goal.returns
unfolding row_bytes
returns c = c.store.ensures ∙ ap (stored c.args.out.now c.args.at) (row_lowered c.args.recs.now c.args.i c.args.from _ _ _ _ _ _ _ _ c.requires.0 c.get16.ensures c.get16-2.ensures c.saturating_sub.ensures c.get16-3.ensures c.moved_label.ensures c.get16-4.ensures c.get64.ensures c.moved_value.ensures)
