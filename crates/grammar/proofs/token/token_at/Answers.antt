-- `token_at`: the next token of the rest, its places moved. Assumes nothing.
use native.Mathlib.Omega.{arith}
use Rattle.tokens.proofs.Told.{bounds}
use Rattle.grammar.proofs.Rules.Told.{seen_token, no_token}
use Rattle.grammar.proofs.token.token_at.Goals as goal

pub overflow_add-result : goal.overflow_add-result
overflow_add-result c = omega (arith, bounds _ _ c.requires _ c.in-Ok.ensures)

pub overflow_add-result-in-Ok : goal.overflow_add-result-in-Ok
overflow_add-result-in-Ok c = omega (arith, bounds _ _ c.requires _ c.in-Ok.ensures)

pub overflow_add-result-in-Err : goal.overflow_add-result-in-Err
overflow_add-result-in-Err c = omega (arith, (no_token _ _ c.requires _ _ c.in-Err.ensures).within)

pub returns-in-Ok : goal.returns-in-Ok
returns-in-Ok c = seen_token _ _ c.requires _ c.in-Ok.ensures

pub returns-in-Err : goal.returns-in-Err
returns-in-Err c = (no_token _ _ c.requires _ _ c.in-Err.ensures).is
