-- `run::put::assign` meets its contract. Assumes nothing.
use mathlib.Core.Path.{subst}
use Rattle.std.proofs.lemmas.Result.{err_from_is_err_and}
use Rattle.rows.specs.View.{view}
use Rattle.run.specs.Paths.{names, DescendsFrom}
use Rattle.run.proofs.Finding.{length_names}
use Rattle.run.proofs.Assigning.{assigns, assigns_nowhere}
use Rattle.run.proofs.put.assign.Goals as goal

pub returns : goal.returns
returns c = let a = c.args in let p = c.requires in (c.put_bounded.ensures.0, assigns a.texts.list.now a.texts.table.now a.w.now a.new.rows.bytes.now c.put_bounded.new.w a.size.rows a.new.rows.count a.path.count a.size.text (names a.texts.list.now a.texts.table.now a.path.places.now a.path.count) a.name.now (length_names a.texts.list.now a.texts.table.now a.path.places.now a.path.count) c.in_ok-lo.lo c.put_bounded.result (subst (DescendsFrom (view a.texts.list.now a.texts.table.now a.w.now a.size.rows) 0 1 (names a.texts.list.now a.texts.table.now a.path.places.now a.path.count)) c.in_ok-lo.was c.descend.ensures.1) c.put_bounded.ensures.1)

pub returns-in_err-lo : goal.returns-in_err-lo
returns-in_err-lo c = let a = c.args in let exit = err_from_is_err_and c.from_residual.result c.from_residual.ensures.1 in rw (exit.1, exit.2) (tt, assigns_nowhere a.texts.list.now a.texts.table.now a.w.now a.new.rows.bytes.now a.w.now a.size.rows a.new.rows.count a.path.count a.size.text (names a.texts.list.now a.texts.table.now a.path.places.now a.path.count) a.name.now (length_names a.texts.list.now a.texts.table.now a.path.places.now a.path.count) _ c.in_err-lo.ensures.1)
