-- `forms::form::Form::kind_of` meets its contract. Assumes nothing.
use Rattle.paper.specs.TableDecoder.{in_table}
use Rattle.paper.specs.StepDecoder.{in_steps}
use Rattle.forms.specs.Form.{form_of, fields, kind_of}
use Rattle.forms.proofs.form.Form.kind_of.Goals as goal

pub returns-in-Table : goal.returns-in-Table
unfolding form_of kind_of fields in_table in_steps
returns-in-Table c = rw c.in-Table.is c.kind_at.ensures

pub returns-in-Steps : goal.returns-in-Steps
unfolding form_of kind_of fields in_table in_steps
returns-in-Steps c = rw c.in-Steps.is c.depth_at.ensures.0
