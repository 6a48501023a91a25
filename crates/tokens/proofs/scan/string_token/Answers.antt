-- `tokens::scan::string_token` meets its contract. Assumes nothing.
use Rattle.std.proofs.Common.{drop, ap, ◌∙◌}
use Rattle.spelling.specs.Text.{quotes}
use Rattle.tokens.proofs.Fronts.{as_text, text_front, text_fits, text_long}
use Rattle.tokens.proofs.scan.string_token.Goals as goal

pub returns-in_default : goal.returns-in_default
returns-in_default c = ap as_text c.in_default.ensures ∙ text_front (quotes (drop 1 c.args.s.now))

pub returns-then-count-gt-LONGEST : goal.returns-then-count-gt-LONGEST
returns-then-count-gt-LONGEST c =
    text_long c.in-Some.field-0 c.if-count-gt-LONGEST.true ∙ ap as_text c.in-Some.ensures ∙ text_front (quotes (drop 1 c.args.s.now))

pub returns : goal.returns
returns c = text_fits c.in-Some.field-0 c.if-count-gt-LONGEST.false ∙ ap as_text c.in-Some.ensures ∙ text_front (quotes (drop 1 c.args.s.now))
