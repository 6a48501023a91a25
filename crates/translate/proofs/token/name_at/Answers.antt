-- `name_at`: from the answer on the rest of the source to the token at the place. Assumes nothing.
use Rattle.translate.proofs.Rules.Tokens.{found_bounds, name_seen, name_there}
use native.Mathlib.Omega.{arith}
use Rattle.translate.proofs.token.name_at.Goals as goal

pub unwrap-token-requires : goal.unwrap-token-requires
unwrap-token-requires c = name_there _ _ c.requires _ c.next_token.ensures

pub overflow_add-result : goal.overflow_add-result
overflow_add-result c = omega (arith, found_bounds _ _ c.requires.within c.next_token.ensures _ c.unwrap-token.ensures)

pub overflow_add-result-2 : goal.overflow_add-result-2
overflow_add-result-2 c = omega (arith, found_bounds _ _ c.requires.within c.next_token.ensures _ c.unwrap-token.ensures)

pub returns : goal.returns
returns c = name_seen _ _ c.requires c.next_token.ensures _ c.unwrap-token.ensures
