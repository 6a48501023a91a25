-- `load::size::value_size` meets its contract. Assumes nothing.
use native.Mathlib.Omega.{arith}
use mathlib.Core.Path.{ap, sym, ◌∙◌}
use mathlib.Core.Bool.{false≢true}
use borrow.Author.Tests.{eqb-true, eq-eqb}
use Rattle.load.specs.Load.{path_size}
use Rattle.load.proofs.Sizes.{value_long, value_string, value_path, value_none}
use Rattle.load.proofs.size.value_size.Goals as goal
use Rattle.load.proofs.size.value_size.Goals.{then-kind, else-kind}

pub returns-then-kind-2 : goal.returns-then-kind-2
returns-then-kind-2 c =
    let a = c.args in
    let m = c.from.ensures ∙ c.get16.ensures in
    elim c.if-kind.branch [
      | then-kind w ↦ (value_long a.text.now a.kind a.place c.from.result w.if-kind.true m, omega arith)
      | else-kind w ↦ (value_string a.text.now a.kind a.place c.from.result (eqb-true a.kind 5 (sym w.value-is ∙ c.if-kind-2.true)) m, omega arith)
    ]

pub returns-then-kind-3 : goal.returns-then-kind-3
returns-then-kind-3 c =
    let a = c.args in
    (value_path a.text.now a.kind a.place c.path_size.result c.if-kind-3.true (c.path_size.ensures.0 ∙ ap path_size c.from-then-kind-3.ensures), omega arith)

pub returns-else-kind-3 : goal.returns-else-kind-3
returns-else-kind-3 c =
    let a = c.args in
    let not = sym c.if-kind-2.false in
    elim c.if-kind.branch [
      | then-kind w ↦ absurd (false≢true (not ∙ w.value-is ∙ eq-eqb a.kind 4 w.if-kind.true))
      | else-kind w ↦ (value_none a.text.now a.kind a.place w.if-kind.false (λ e. false≢true (not ∙ w.value-is ∙ eq-eqb a.kind 5 e)) c.if-kind-3.false, omega arith)
    ]
