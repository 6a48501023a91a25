-- Of each public function, any two results that its contract allows for the same arguments are one. Assumes nothing.
use Rattle.paper.specs.Determines.{Determines}
use Rattle.refusal.proofs.One.{answered_one}
use Rattle.tokens.proofs.next_token.Reads as NextToken
use Rattle.tokens.proofs.is_name.Reads as IsName
use Rattle.tokens.proofs.is_decimal.Reads as IsDecimal

pub record Determined : Type 0 where
  pub next_token : Determines NextToken.Post (λ _ (rest, _). rest.now) λ _ r _. r
  pub is_name : Determines IsName.Post (λ _ (s, _). s.now) λ _ r _. r
  pub is_decimal : Determines IsDecimal.Post (λ _ (s, _). s.now) λ _ r _. r

pub determined : Determined
determined =
    record {
      next_token = λ _ _ _ _ _ _ _ _ g e f. answered_one _ _ (cc);
      is_name = λ _ _ _ _ _ _ _ _ g e f. cc;
      is_decimal = λ _ _ _ _ _ _ _ _ g e f. cc;
    }
