-- `run::evaluate::evaluate` meets its contract. Assumes nothing.
use native.Mathlib.Omega.{arith}
use mathlib.Core.Path.{sym, ◌∙◌}
use borrow.Author.Tests.{not-true, not-false}
use Rattle.run.proofs.Running.{both, no_list, no_table, records_few, ready, went}
use Rattle.run.proofs.evaluate.evaluate.Goals as goal

pub returns-then-not-is_step_list : goal.returns-then-not-is_step_list
returns-then-not-is_step_list c = let a = c.args in no_list a.list.now a.start.now a.w.now (sym c.is_step_list.ensures ∙ not-true _ c.if-not-is_step_list.true-raw)

pub returns-then-not-is_table : goal.returns-then-not-is_table
returns-then-not-is_table c = let a = c.args in no_table a.list.now a.start.now a.w.now (sym c.is_step_list.ensures ∙ not-false _ c.if-not-is_step_list.false-raw) (sym c.is_table.ensures ∙ not-true _ c.if-not-is_table.true-raw)

pub invariant_of-steps : goal.invariant_of-steps
invariant_of-steps c = let a = c.args in let F = both a.list.now a.start.now (sym c.is_step_list.ensures ∙ not-false _ c.if-not-is_step_list.false-raw) (sym c.is_table.ensures ∙ not-false _ c.if-not-is_table.false-raw) in record { few = records_few a.list.now a.start.now F c.records_of.result.now c.records_of.ensures }

pub invariant_of-size : goal.invariant_of-size
invariant_of-size c = let a = c.args in let F = both a.list.now a.start.now (sym c.is_step_list.ensures ∙ not-false _ c.if-not-is_step_list.false-raw) (sym c.is_table.ensures ∙ not-false _ c.if-not-is_table.false-raw) in let R = ready a.list.now a.start.now F c.records_of-2.result.now c.records_of.result.now c.text_of.result.now c.text_of-2.result.now c.records_of-2.ensures c.records_of.ensures c.text_of.ensures c.text_of-2.ensures a.w.now c.load-rows.result (omega arith) c.load-rows.ensures.1 in record { few = R.0; short = R.1 }

pub returns : goal.returns
returns c = let a = c.args in let F = both a.list.now a.start.now (sym c.is_step_list.ensures ∙ not-false _ c.if-not-is_step_list.false-raw) (sym c.is_table.ensures ∙ not-false _ c.if-not-is_table.false-raw) in went a.list.now a.start.now F c.records_of-2.result.now c.records_of.result.now c.text_of.result.now c.text_of-2.result.now c.records_of-2.ensures c.records_of.ensures c.text_of.ensures c.text_of-2.ensures a.w.now c.load-rows.result (omega arith) c.load-rows.ensures.1 c.load-rows.new.w c.statements.new.w a.s.now c.statements.result c.load-rows.ensures.0 c.statements.ensures.0 c.statements.ensures.2
