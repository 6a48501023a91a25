-- `label_figure`: by whether there is a path. Assumes nothing.
use mathlib.Core.Path.{sym, ◌∙◌}
use Rattle.translate.proofs.Rules.Rows.{figure_text, figure_number}
use Rattle.translate.proofs.row.label_figure.Goals as goal

pub returns-then-has_path : goal.returns-then-has_path
returns-then-has_path c = figure_text 0 _ (sym c.has_path.ensures ∙ c.if-has_path.true)

pub returns-else-has_path : goal.returns-else-has_path
returns-else-has_path c = figure_number 0 _ (sym c.has_path.ensures ∙ c.if-has_path.false)
