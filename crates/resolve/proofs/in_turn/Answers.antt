-- `resolve::in_turn` meets its contract. Assumes nothing.
use mathlib.Core.Path.{sym}
use lib.Seq.{length-take-le}
use Rattle.resolve.proofs.Turns.{first_is, listing, unlisted, turned, not_turned}
use Rattle.resolve.proofs.in_turn.Goals as goal

pub slice_bounds-over_the_empty-end : goal.slice_bounds-over_the_empty-end
slice_bounds-over_the_empty-end c = let a = c.args in let p = c.requires in (listing a.src.now a.work1.now a.work3.now p.1 p.3 c.translate.result c.translate.new.work c.translate.new.out c.translate.ensures c.in-Ok.n c.in-Ok.is).inside

pub slice_bounds-over_the_empty-end-in-Ok : goal.slice_bounds-over_the_empty-end-in-Ok
slice_bounds-over_the_empty-end-in-Ok c = let a = c.args in let p = c.requires in sym (length-take-le _ _ (listing a.src.now a.work1.now a.work3.now p.1 p.3 c.translate.result c.translate.new.work c.translate.new.out c.translate.ensures c.in-Ok.n c.in-Ok.is).inside)

pub returns-in-Ok : goal.returns-in-Ok
returns-in-Ok c = let a = c.args in let p = c.requires in turned a.src.now a.out.now a.work1.now a.work2.now a.work3.now p.0 p.1 p.2 c.translate.new.work c.translate.new.out c.in-Ok.n (first_is a.src.now a.work1.now a.work3.now p.1 p.3 c.translate.result c.translate.new.work c.translate.new.out c.translate.ensures) (listing a.src.now a.work1.now a.work3.now p.1 p.3 c.translate.result c.translate.new.work c.translate.new.out c.translate.ensures c.in-Ok.n c.in-Ok.is) c.over_the_empty.result _ _ _ c.over_the_empty.ensures

pub returns-in-Err : goal.returns-in-Err
returns-in-Err c = let a = c.args in let p = c.requires in let u = unlisted a.src.now a.work1.now a.work3.now p.1 p.3 c.translate.result c.translate.new.work c.translate.new.out c.translate.ensures c.in-Err.refusal c.in-Err.is in not_turned a.src.now a.out.now a.work1.now a.work2.now a.work3.now p.0 p.1 p.2 c.translate.new.work _ c.translate.new.out c.in-Err.refusal (first_is a.src.now a.work1.now a.work3.now p.1 p.3 c.translate.result c.translate.new.work c.translate.new.out c.translate.ensures) u.0 u.1 c.clear.ensures
