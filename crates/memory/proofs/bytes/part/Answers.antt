-- `memory::bytes::part` meets its contract. Assumes nothing.
use Rattle.std.proofs.Common.{sym}
use native.Mathlib.Nat.{add-sub_cancel_left, sub_self}
use Rattle.memory.proofs.Laws.{lies, lies_not, part_in, part_out}
use Rattle.memory.proofs.bytes.part.Goals as goal

pub returns-then-fits : goal.returns-then-fits
returns-then-fits c = rw add-sub_cancel_left (sym (part_in _ _ _ (lies _ _ _ c.fits.ensures c.if-fits.true)))

pub returns-else-fits : goal.returns-else-fits
returns-else-fits c = rw sub_self (sym (part_out _ _ _ (lies_not _ _ _ c.fits.ensures c.if-fits.false)))
