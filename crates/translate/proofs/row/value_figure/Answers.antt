-- `value_figure`: by whether there is a text. Assumes nothing.
use mathlib.Core.Path.{sym, ◌∙◌}
use Rattle.translate.proofs.Rules.Rows.{figure_text, figure_number}
use Rattle.translate.proofs.row.value_figure.Goals as goal

pub returns-then-has_text : goal.returns-then-has_text
returns-then-has_text c = figure_text _ _ (sym c.has_text.ensures ∙ c.if-has_text.true)

pub returns-else-has_text : goal.returns-else-has_text
returns-else-has_text c = figure_number _ _ (sym c.has_text.ensures ∙ c.if-has_text.false)
