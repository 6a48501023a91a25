-- `fields::value_at` meets its contract. Assumes nothing.
use Prim.Native.Nat.{◌+◌}
use native.Mathlib.Omega.{arith}
use mathlib.Core.Path.{sym, ◌∙◌}
use borrow.Author.Tests.{leb-false}
use Rattle.memory.proofs.Laws.{word_out}
use Rattle.fields.proofs.value_at.Goals as goal

pub returns-else-fits : goal.returns-else-fits
returns-else-fits c = sym (word_out 8 c.args.recs.now (c.args.i + 8) (omega (arith, leb-false _ _ (sym c.fits.ensures ∙ c.if-fits.false))))
