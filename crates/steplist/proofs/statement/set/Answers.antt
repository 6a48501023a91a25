-- `steplist::statement::set` meets its contract. Assumes nothing.
use native.Mathlib.Omega.{arith}
use Rattle.steplist.proofs.Values.{set_none, set_basic}
use Rattle.steplist.proofs.statement.set.Goals as goal

pub returns-then-span-eq0 : goal.returns-then-span-eq0
returns-then-span-eq0 c = set_none c.args.here.body.records.now c.args.here.body.text.now c.args.depth c.args.here.at.record c.args.here.at.text c.args.here.within (record { byte = c.args.here.body.are_bytes }) c.requires _ c.span_at-span.ensures.0 (omega arith)

pub returns : goal.returns
returns c = set_basic c.args.here.body.records.now c.args.here.body.text.now c.args.depth c.args.here.at.record c.args.here.at.text c.args.here.within (record { byte = c.args.here.body.are_bytes }) c.requires _ c.span_at-span.ensures.0 c.basic.result (omega arith) c.basic.ensures.0
