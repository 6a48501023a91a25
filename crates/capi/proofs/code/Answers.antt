-- `capi::code` meets its contract. Assumes nothing.
use Rattle.capi.specs.Called.{coded}
use Rattle.capi.proofs.code.Goals as goal

pub returns-in-Ok : goal.returns-in-Ok
unfolding coded
returns-in-Ok c = rw c.in-Ok.is

pub returns-in-Err : goal.returns-in-Err
unfolding coded
returns-in-Err c = rw (c.in-Err.is, c.number.ensures)
