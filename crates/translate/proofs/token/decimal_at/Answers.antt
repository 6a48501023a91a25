-- `decimal_at`: the part of the source that the token is. Assumes nothing.
use Rattle.translate.proofs.Rules.Tokens.{decimal_within, decimal_seen, decimal_there}
use native.Mathlib.Omega.{arith}
use mathlib.Core.Path.{◌∙◌}
use Rattle.translate.proofs.token.decimal_at.Goals as goal

pub slice_bounds-next_token-count : goal.slice_bounds-next_token-count
slice_bounds-next_token-count c = omega (arith, decimal_within c.requires)

pub slice_bounds-next_token-start : goal.slice_bounds-next_token-start
slice_bounds-next_token-start c = omega (arith, decimal_within c.requires)

pub unwrap-token-requires : goal.unwrap-token-requires
unwrap-token-requires c = decimal_there _ _ c.requires _ c.next_token.ensures

pub slice_bounds-token_part-count : goal.slice_bounds-token_part-count
slice_bounds-token_part-count c = omega (arith, decimal_within c.requires)

pub slice_bounds-token_part-start : goal.slice_bounds-token_part-start
slice_bounds-token_part-start c = omega (arith, decimal_within c.requires)

pub returns : goal.returns
returns c = c.token_part.ensures ∙ decimal_seen _ _ c.requires c.next_token.ensures _ c.unwrap-token.ensures
