-- `run::step::last_label` meets its contract. Assumes nothing.
use Prim.Native.Nat.{◌-◌, ◌*◌}
use native.Mathlib.Omega.{arith}
use mathlib.Core.Path.{sym, ◌∙◌}
use Rattle.run.proofs.Stepping.{word_drop}
use Rattle.run.proofs.step.last_label.Goals as goal

pub returns-then-p-lt-SECOND : goal.returns-then-p-lt-SECOND
returns-then-p-lt-SECOND c =
    let a = c.args in
    let p = c.requires in
    (omega arith, λ _. (c.from-p.ensures ∙ c.get16.ensures) ∙ sym (word_drop 2 a.s.now 32768 ((a.k - 1) * 2) (omega (arith, p.0, p.1))))

pub returns-else-p-lt-SECOND : goal.returns-else-p-lt-SECOND
returns-else-p-lt-SECOND c =
    let a = c.args in
    let p = c.requires in
    (omega arith, λ h. absurd (omega (arith, h, c.if-p-lt-SECOND.false, (c.from-p.ensures ∙ c.get16.ensures), word_drop 2 a.s.now 32768 ((a.k - 1) * 2) (omega (arith, p.0, p.1)))))
