-- `put_path`: names are written as they are read; were those that are left written too, the text would be whole. Assumes nothing.
use native.Mathlib.Omega.{arith}
use Rattle.translate.proofs.Rules.Paths.{path_begin, path_next, path_room, path_few, path_more, path_end}
use Rattle.translate.proofs.path.put_path.Goals as goal

pub loop-next-init : goal.loop-next-init
loop-next-init c = path_begin _ _ _ _ c.requires

pub name_at-name-requires : goal.name_at-name-requires
name_at-name-requires c = path_next c.loop-next.invariant

pub put_name-end-requires : goal.put_name-end-requires
put_name-end-requires c = path_room c.loop-next.invariant c.name_at-name.ensures

pub loop-next-smaller : goal.loop-next-smaller
loop-next-smaller c = omega (arith, path_few c.loop-next.invariant c.name_at-name.ensures)

pub loop-next-preserved : goal.loop-next-preserved
loop-next-preserved c = path_more c.loop-next.invariant c.name_at-name.ensures c.put_name-end.ensures _ (rw c.in-Some.is at c.colon_at.ensures)

pub returns-in_default : goal.returns-in_default
returns-in_default c = path_end c.loop-next.invariant c.name_at-name.ensures c.put_name-end.ensures (rw c.in_default.is at c.colon_at.ensures)
