-- `forms::form::Form::size` meets its contract. Assumes nothing.
use native.Mathlib.Omega.{arith}
use mathlib.Core.Path.{refl}
use Rattle.paper.specs.TableDecoder.{in_table}
use Rattle.paper.specs.StepDecoder.{in_steps}
use Rattle.forms.specs.Form.{form_of, size_of}
use Rattle.forms.proofs.form.Form.size.Goals as goal

pub returns-in-Table : goal.returns-in-Table
unfolding form_of size_of in_table in_steps
returns-in-Table c = (rw c.in-Table.is refl, omega arith, omega arith)

pub returns-in-Steps : goal.returns-in-Steps
unfolding form_of size_of in_table in_steps
returns-in-Steps c = (rw c.in-Steps.is refl, omega arith, omega arith)
