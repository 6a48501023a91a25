-- `colon_at`: from the answer on the rest of the source to the token at the place. Assumes nothing.
use native.Mathlib.Omega.{arith}
use mathlib.Core.Path.{◌≡◌, sym, ◌∙◌}
use Rattle.std.proofs.Common.{rules}
use Rattle.tokens.specs.declared.Kind.TheVariants.{Mark}
use Rattle.translate.proofs.Rules.Tokens.{ok_some, found_bounds, colon_found, colon_other, colon_refused}
use Rattle.translate.proofs.token.colon_at.Goals as goal

pub returns-in_err-token : goal.returns-in_err-token
returns-in_err-token c =
    rw c.from_residual.ensures (colon_refused _ _ c.requires _ c.next_token.ensures (sym c.ok.ensures.value ∙ c.in_err-token.was))

pub overflow_add-result : goal.overflow_add-result
overflow_add-result c =
    omega (arith, found_bounds _ _ c.requires c.next_token.ensures _ (ok_some _ _ (sym c.ok.ensures.value ∙ c.in_ok-token.was)))

pub returns-then-eq : goal.returns-then-eq
returns-then-eq c =
    let colon : c.in_ok-token.token.kind ≡ Mark 58 = search rules in
    colon_found _ _ c.requires c.next_token.ensures _ (ok_some _ _ (sym c.ok.ensures.value ∙ c.in_ok-token.was)) colon

pub returns-else-eq : goal.returns-else-eq
returns-else-eq c =
    let other : c.in_ok-token.token.kind ≡ Mark 58 → ⊥ = search rules in
    colon_other _ _ c.requires c.next_token.ensures _ (ok_some _ _ (sym c.ok.ensures.value ∙ c.in_ok-token.was)) other
