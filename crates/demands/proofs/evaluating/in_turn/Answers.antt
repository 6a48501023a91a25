-- `demands::evaluating::in_turn` meets its contract. Assumes nothing.
use mathlib.Core.Path.{refl, sym, ap, ◌∙◌}
use lib.Seq.{length-take-le}
use Rattle.memory.proofs.Laws.{clear_wiped}
use Rattle.refusal.specs.Refused.{number_of, answered}
use Rattle.demands.proofs.Evaluation.{inside, run_third, refused_third}
use Rattle.demands.proofs.evaluating.in_turn.Goals as goal

pub slice_bounds-runs-end : goal.slice_bounds-runs-end
slice_bounds-runs-end c =
    let a = c.args in
    inside a.src.now a.table.now a.list.now a.out.now a.work1.now a.work2.now c.requires c.translates.new.out c.translates.new.work (answered c.translates.result) c.translates.ensures c.in-Ok.n (ap answered c.in-Ok.is)

pub slice_bounds-runs-end-in-Ok : goal.slice_bounds-runs-end-in-Ok
slice_bounds-runs-end-in-Ok c =
    let a = c.args in
    sym (length-take-le _ _ (inside a.src.now a.table.now a.list.now a.out.now a.work1.now a.work2.now c.requires c.translates.new.out c.translates.new.work (answered c.translates.result) c.translates.ensures c.in-Ok.n (ap answered c.in-Ok.is)))

pub returns-in-Ok : goal.returns-in-Ok
returns-in-Ok c =
    let a = c.args in
    run_third a.src.now a.table.now a.list.now a.out.now a.work1.now a.work2.now c.requires c.translates.new.out c.translates.new.work (answered c.translates.result) c.translates.ensures c.in-Ok.n (ap answered c.in-Ok.is) c.in-Ok.n refl _ c.runs.ensures

pub returns-in-Err : goal.returns-in-Err
returns-in-Err c =
    let a = c.args in
    let p = c.requires in
    refused_third a.src.now a.table.now a.list.now a.out.now a.work1.now a.work2.now p c.translates.new.out c.translates.new.work (answered c.translates.result) c.translates.ensures (number_of c.in-Err.refusal.reason) c.in-Err.refusal.place (ap answered c.in-Err.is) _ (c.clear.ensures ∙ clear_wiped a.work2.now p.others.works_long.1.0)
