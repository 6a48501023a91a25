-- `demands::evaluating::evaluates` meets its contract. Assumes nothing.
use native.Mathlib.Omega.{arith}
use Rattle.demands.proofs.Evaluation.{short_third}
use Rattle.demands.proofs.evaluating.evaluates.Goals as goal
use Rattle.demands.proofs.evaluating.evaluates.Goals.{then-list-lt-LIST-via-then-list-lt-LIST, then-list-lt-LIST-via-else-list-lt-LIST+then-out-lt-TABLE, then-list-lt-LIST-via-else-list-lt-LIST+else-out-lt-TABLE+then-work1-lt-WORK, then-list-lt-LIST-via-else-list-lt-LIST+else-out-lt-TABLE+else-work1-lt-WORK+then-work2-lt-WORK}

pub returns-then-list-lt-LIST : goal.returns-then-list-lt-LIST
returns-then-list-lt-LIST c =
    let a = c.args in
    short_third a.src.now a.table.now a.list.now a.out.now a.work1.now a.work2.now
    (λ h.
    elim c.then-list-lt-LIST.branch [
      | then-list-lt-LIST-via-then-list-lt-LIST w ↦ omega (arith, h.list_long, w.if-list-lt-LIST.true)
      | then-list-lt-LIST-via-else-list-lt-LIST+then-out-lt-TABLE w ↦ omega (arith, h.others.output_long, w.if-out-lt-TABLE.true)
      | then-list-lt-LIST-via-else-list-lt-LIST+else-out-lt-TABLE+then-work1-lt-WORK w ↦ omega (arith, h.others.works_long.0, w.if-work1-lt-WORK.true)
      | then-list-lt-LIST-via-else-list-lt-LIST+else-out-lt-TABLE+else-work1-lt-WORK+then-work2-lt-WORK w ↦ omega (arith, h.others.works_long.1.0, w.if-work2-lt-WORK.true)
    ])
