-- `put_text`: the length, then the bytes. Assumes nothing.
use Prim.Native.Nat.{◌+◌}
use native.Mathlib.Omega.{arith}
use mathlib.Core.Path.{ap, ◌∙◌}
use Rattle.memory.specs.Memory.{stored}
use Rattle.translate.proofs.Rules.Tokens.{text_put, long_length}
use Rattle.translate.proofs.token.put_text.Goals as goal

pub returns : goal.returns
returns c = record { is = c.copy.ensures ∙ ap (λ x. stored x (c.args.to + 2) c.args.text.now) c.put16.ensures ∙ text_put _ _ _ c.requires.room; end = omega (arith, long_length c.args.text.now) }
