-- `put_decimal`: the text is the part of the source. Assumes nothing.
use Rattle.translate.proofs.Rules.Tokens.{decimal_fits}
use Rattle.translate.proofs.token.put_decimal.Goals as goal

pub put_text-requires : goal.put_text-requires
put_text-requires c = rw c.decimal_at.ensures (decimal_fits c.requires)
