-- `run::block::placed` meets its contract. Assumes nothing.
use mathlib.Core.Path.{sym, ◌∙◌, ap}
use Rattle.std.specs.Prelude.{Err}
use Rattle.run.specs.Listed.{step_field}
use Rattle.run.specs.Blocks.{Placed}
use Rattle.run.proofs.block.placed.Goals as goal

pub returns-in-Ok : goal.returns-in-Ok
returns-in-Ok c = sym (ap (Placed _ c.args.next) c.in-Ok.is)

pub returns-in-Err : goal.returns-in-Err
returns-in-Err c = (λ i. Err (record { reason = c.in-Err.reason; place = c.record_at.ensures.place i })) ∙ sym (ap (Placed (step_field 4 c.args.list.bytes.now c.args.i 16) c.args.next) c.in-Err.is)
