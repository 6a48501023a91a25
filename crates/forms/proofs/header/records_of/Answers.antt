-- `forms::header::records_of` meets its contract. Assumes nothing.
use native.Mathlib.Omega.{arith}
use Rattle.forms.specs.Header.{records_of}
use Rattle.forms.proofs.Headers.{few_times}
use Rattle.forms.proofs.header.records_of.Goals as goal

pub overflow_mul-size : goal.overflow_mul-size
overflow_mul-size c = omega (arith, few_times c.size.result c.long.result c.size.ensures.2)

pub returns : goal.returns
unfolding records_of
returns c = rw (← c.size.ensures.0, ← c.long.ensures.0) c.part.ensures
