-- `read_drafts`: by the length of the source, and what is read. Assumes nothing.
use native.Mathlib.Omega.{arith}
use mathlib.Core.Path.{sym, ◌∙◌}
use Rattle.grammar.proofs.Rules.Whole.{reads_long, reads_done, reads_no}
use Rattle.grammar.proofs.read_drafts.Goals as goal

pub returns-then-src-gt-SOURCE : goal.returns-then-src-gt-SOURCE
returns-then-src-gt-SOURCE c = reads_long _ _ (omega (arith, c.told-work)) _ c.if-src-gt-SOURCE.true c.clear.ensures

pub returns-else-is_err : goal.returns-else-is_err
returns-else-is_err c =
    reads_done _ _ (omega (arith, c.told-work)) _ _ _ c.clear.ensures c.read_whole-drafts.ensures (sym c.is_err.ensures.value ∙ c.if-is_err.false)

pub returns-then-is_err : goal.returns-then-is_err
returns-then-is_err c =
    reads_no _ _ (omega (arith, c.told-work)) _ _ _ _ c.clear.ensures c.read_whole-drafts.ensures (sym c.is_err.ensures.value ∙ c.if-is_err.true) c.clear-then-is_err.ensures
