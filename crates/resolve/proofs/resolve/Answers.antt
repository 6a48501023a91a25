-- `resolve::resolve` meets its contract. Assumes nothing.
use native.Mathlib.Omega.{arith}
use Rattle.resolve.proofs.Turns.{short, all_resolved}
use Rattle.resolve.proofs.resolve.Goals as goal
use Rattle.resolve.proofs.resolve.Goals.{then-out-lt-OUTPUT-via-then-out-lt-OUTPUT, then-out-lt-OUTPUT-via-else-out-lt-OUTPUT+then-work1-lt-WORK, then-out-lt-OUTPUT-via-else-out-lt-OUTPUT+else-work1-lt-WORK+then-work2-lt-WORK, then-out-lt-OUTPUT-via-else-out-lt-OUTPUT+else-work1-lt-WORK+else-work2-lt-WORK+then-work3-lt-WORK}

pub returns-then-out-lt-OUTPUT : goal.returns-then-out-lt-OUTPUT
returns-then-out-lt-OUTPUT c =
    let a = c.args in
    short a.src.now a.out.now a.work1.now a.work2.now a.work3.now
    (λ l l₁ l₂ l₃.
    elim c.then-out-lt-OUTPUT.branch [
      | then-out-lt-OUTPUT-via-then-out-lt-OUTPUT w ↦ let h = w.if-out-lt-OUTPUT.true in omega arith
      | then-out-lt-OUTPUT-via-else-out-lt-OUTPUT+then-work1-lt-WORK w ↦ let h = w.if-work1-lt-WORK.true in omega arith
      | then-out-lt-OUTPUT-via-else-out-lt-OUTPUT+else-work1-lt-WORK+then-work2-lt-WORK w ↦ let h = w.if-work2-lt-WORK.true in omega arith
      | then-out-lt-OUTPUT-via-else-out-lt-OUTPUT+else-work1-lt-WORK+else-work2-lt-WORK+then-work3-lt-WORK w ↦ let h = w.if-work3-lt-WORK.true in omega arith
    ])

pub returns : goal.returns
returns c =
    let a = c.args in
    all_resolved a.src.now a.out.now a.work1.now a.work2.now a.work3.now c.if-out-lt-OUTPUT.false c.if-work1-lt-WORK.false c.if-work2-lt-WORK.false c.if-work3-lt-WORK.false c.in_turn-answer.result _ _ _ c.in_turn-answer.new.work3 _ c.in_turn-answer.ensures c.in_turn-answer.auto.work3 c.clear.ensures
