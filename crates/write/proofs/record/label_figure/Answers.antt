-- `write::record::label_figure` meets its contract. Assumes nothing.
use native.Mathlib.Omega.{arith}
use Rattle.write.proofs.Records.{label_none, label_some}
use Rattle.write.proofs.record.label_figure.Goals as goal

pub returns-then-from-eq-ELEMENT : goal.returns-then-from-eq-ELEMENT
returns-then-from-eq-ELEMENT c = λ t u. label_none t u c.args.label c.args.pos (omega arith)

pub returns-else-from-eq-ELEMENT : goal.returns-else-from-eq-ELEMENT
returns-else-from-eq-ELEMENT c = λ t u. label_some t u c.args.label c.args.pos (λ e. omega arith)
