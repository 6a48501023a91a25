-- `tokens::scan::integer_token` meets its contract. Assumes nothing.
use Rattle.std.proofs.Common.{length, ap, ◌∙◌}
use Rattle.tokens.proofs.Fronts.{as_front, integer_front_lem}
use Rattle.tokens.proofs.scan.integer_token.Goals as goal

pub returns-in-Some : goal.returns-in-Some
returns-in-Some c = let s = c.args.s.now in ap (as_front (length s)) c.in-Some.ensures ∙ integer_front_lem s

pub returns-in-None : goal.returns-in-None
returns-in-None c = let s = c.args.s.now in ap (as_front (length s)) c.in-None.ensures ∙ integer_front_lem s
