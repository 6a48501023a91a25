-- `forms::form::Form::element_fits` meets its contract. Assumes nothing.
use Rattle.paper.specs.TableDecoder.{in_table}
use Rattle.paper.specs.StepDecoder.{in_steps}
use Rattle.forms.specs.Form.{form_of, fits_in}
use Rattle.forms.proofs.form.Form.element_fits.Goals as goal

pub returns-in-Table : goal.returns-in-Table
unfolding form_of fits_in in_table in_steps
returns-in-Table c = rw c.in-Table.is c.table_element.ensures

pub returns-in-Steps : goal.returns-in-Steps
unfolding form_of fits_in in_table in_steps
returns-in-Steps c = rw c.in-Steps.is c.item.ensures
