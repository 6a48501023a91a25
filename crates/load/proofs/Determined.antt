-- Of each public function, any two results that its contract allows for the same arguments are one,
-- with the bytes of the slice that is lent. Assumes nothing.
use Rattle.paper.specs.Determines.{Determines, ◌&◌}
use Rattle.load.proofs.rows_of.load.Reads as Load
use Rattle.load.proofs.size.name_size.Reads as NameSize
use Rattle.load.proofs.size.value_size.Reads as ValueSize

pub record Determined : Type 0 where
  pub load : Determines Load.Post (λ _ (recs, (text, (w, _))). recs.now & text.now & w.now)
      λ _ r (_, (_, (w, _))). r & w.now
  pub name_size : Determines NameSize.Post (λ _ (text, (place, _)). text.now & place) λ _ r _. r
  pub value_size : Determines ValueSize.Post (λ _ (text, (kind, (place, _))). text.now & kind & place) λ _ r _. r

pub determined : Determined
determined =
    record {
      load = λ _ _ _ _ _ _ _ _ g e f. cc;
      name_size = λ _ _ _ _ _ _ _ _ g e f. cc;
      value_size = λ _ _ _ _ _ _ _ _ g e f. cc;
    }
