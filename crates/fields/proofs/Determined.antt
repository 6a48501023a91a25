-- Of each public function, any two results that its contract allows for the same arguments are one. Assumes nothing.
use Rattle.paper.specs.Determines.{Determines, ◌&◌}
use Rattle.fields.proofs.kind_at.Reads as KindAt
use Rattle.fields.proofs.step_at.Reads as StepAt
use Rattle.fields.proofs.depth_at.Reads as DepthAt
use Rattle.fields.proofs.label_at.Reads as LabelAt
use Rattle.fields.proofs.span_at.Reads as SpanAt
use Rattle.fields.proofs.value_at.Reads as ValueAt
use Rattle.fields.proofs.place_at.Reads as PlaceAt

pub record Determined : Type 0 where
  pub kind_at : Determines KindAt.Post (λ _ (recs, (i, _)). recs.now & i) λ _ r _. r
  pub step_at : Determines StepAt.Post (λ _ (recs, (i, _)). recs.now & i) λ _ r _. r
  pub depth_at : Determines DepthAt.Post (λ _ (recs, (i, _)). recs.now & i) λ _ r _. r
  pub label_at : Determines LabelAt.Post (λ _ (recs, (i, _)). recs.now & i) λ _ r _. r
  pub span_at : Determines SpanAt.Post (λ _ (recs, (i, _)). recs.now & i) λ _ r _. r
  pub value_at : Determines ValueAt.Post (λ _ (recs, (i, _)). recs.now & i) λ _ r _. r
  pub place_at : Determines PlaceAt.Post (λ _ (recs, (i, _)). recs.now & i) λ _ r _. r

pub determined : Determined
determined =
    record {
      kind_at = λ _ _ _ _ _ _ _ _ g e f. cc;
      step_at = λ _ _ _ _ _ _ _ _ g e f. cc;
      depth_at = λ _ _ _ _ _ _ _ _ g e f. cc;
      label_at = λ _ _ _ _ _ _ _ _ g e f. cc;
      span_at = λ _ _ _ _ _ _ _ _ g e f. cc;
      value_at = λ _ _ _ _ _ _ _ _ g e f. cc;
      place_at = λ _ _ _ _ _ _ _ _ g e f. cc;
    }
