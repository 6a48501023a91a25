-- Of each public function, any two results that its contract allows for the same arguments are one. Assumes nothing.
use Rattle.paper.specs.Determines.{Determines}
use Rattle.kinds.proofs.Kind.number.Reads as OfKind
use Rattle.kinds.proofs.Step.number.Reads as OfStep
use Rattle.kinds.proofs.KindTryFromU16.try_from.Reads as ToKind
use Rattle.kinds.proofs.StepTryFromU16.try_from.Reads as ToStep
use Rattle.kinds.proofs.One.{kind_of_one, step_of_one}

pub record Determined : Type 0 where
  pub kind : Determines OfKind.Post (λ _ (self, _). self) λ _ r _. r
  pub step : Determines OfStep.Post (λ _ (self, _). self) λ _ r _. r
  pub to_kind : Determines ToKind.Post (λ _ (number, _). number) λ _ r _. r
  pub to_step : Determines ToStep.Post (λ _ (number, _). number) λ _ r _. r

pub determined : Determined
determined =
    record {
      kind = λ _ _ _ _ _ _ _ _ g e f. cc;
      step = λ _ _ _ _ _ _ _ _ g e f. cc;
      to_kind = λ _ _ _ _ r r' _ _ g e f. kind_of_one _ _ g r r' e f;
      to_step = λ _ _ _ _ r r' _ _ g e f. step_of_one _ _ g r r' e f;
    }
