-- `put`: six numbers, one after the other. Assumes nothing.
use native.Mathlib.Omega.{arith}
use mathlib.Core.Path.{sym}
use Rattle.grammar.proofs.Rules.Puts.{put_out, six_stored}
use Rattle.grammar.proofs.draft.put.Goals as goal

pub returns-else-n-lt-STEPS : goal.returns-else-n-lt-STEPS
returns-else-n-lt-STEPS c = sym (put_out _ _ _ c.if-n-lt-STEPS.false)

pub returns-then-n-lt-STEPS : goal.returns-then-n-lt-STEPS
returns-then-n-lt-STEPS c = six_stored _ _ _ _ _ _ _ _ _ _ _ _ _ _ c.if-n-lt-STEPS.true (omega (arith, c.told-work)) (rw c.number.ensures at c.put16.ensures) (rw c.number-then-n-lt-STEPS.ensures at c.put16-then-n-lt-STEPS.ensures) c.put16-then-n-lt-STEPS-2.ensures c.put16-then-n-lt-STEPS-3.ensures c.put64.ensures c.put32.ensures
