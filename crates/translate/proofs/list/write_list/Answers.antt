-- `write_list`: what the rows that are left make of the slice is what all of them make of it. Assumes nothing.
use native.Mathlib.Omega.{arith}
use Rattle.translate.proofs.Rules.Rows.{list_row, list_more, list_end}
use Rattle.translate.proofs.list.write_list.Goals as goal

pub lay_row-text-requires : goal.lay_row-text-requires
lay_row-text-requires c = list_row _ _ c.requires c.put_header.auto.out c.loop-i.invariant c.loop-i-test.true

pub loop-i-preserved : goal.loop-i-preserved
loop-i-preserved c = list_more _ _ c.requires c.put_header.auto.out c.loop-i.invariant c.loop-i-test.true c.lay_row-text.ensures

pub returns : goal.returns
returns c = list_end _ _ c.requires c.put_header.auto.out c.loop-i.invariant (omega arith) c.put_header.ensures
