-- Any two results that the contract allows for the same arguments are one. Assumes nothing.
use Rattle.paper.specs.Determines.{Determines}
use Rattle.steplist.proofs.whole.is_step_list.Reads as IsStepList

pub record Determined : Type 0 where
  pub is_step_list : Determines IsStepList.Post (λ _ (b, _). b.now) λ _ r _. r

pub determined : Determined
determined =
    record {
      is_step_list = λ _ _ _ _ _ _ _ _ g e f. cc;
    }
