-- Of each public function, any two results that its contract allows for the same arguments are one,
-- with the bytes of the slice that is lent. Assumes nothing.
use Rattle.paper.specs.Determines.{Determines, ◌&◌}
use Rattle.spelling.specs.Spelt.{Decoded}
use Rattle.spelling.proofs.text.measure.Reads as Measure
use Rattle.spelling.proofs.byte_at.Reads as ByteAt
use Rattle.spelling.proofs.token_part.Reads as TokenPart
use Rattle.spelling.proofs.decode.Reads as Decode

pub record Determined : Type 0 where
  pub measure : Determines Measure.Post (λ _ (s, (from, _)). s.now & from) λ _ r _. r
  pub byte_at : Determines ByteAt.Post (λ _ (s, (i, _)). s.now & i) λ _ r _. r
  pub token_part : Determines TokenPart.Post (λ _ (rest, (at, (end, _))). rest.now & at & end) λ _ r _. r.now
  pub decode : Determines {E = Decoded} Decode.Post (λ _ (rest, (out, (at, _))). rest.now & out.now & at)
      λ _ r (_, (out, _)). record { count = r; out = out.now }

pub determined : Determined
determined =
    record {
      measure = λ _ _ _ _ _ _ _ _ g e f. cc;
      byte_at = λ _ _ _ _ _ _ _ _ g e f. cc;
      token_part = λ _ _ _ _ _ _ _ _ g e f. cc;
      decode = λ _ _ _ _ _ _ _ _ g e f. cc;
    }
