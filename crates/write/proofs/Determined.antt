-- Any two results that the contract allows for the same arguments are one,
-- with the bytes of the slice that is lent. Assumes nothing.
use Rattle.paper.specs.Determines.{Determines, ◌&◌}
use Rattle.write.proofs.whole.write.Reads as Write

pub record Determined : Type 0 where
  pub write : Determines Write.Post
      (λ _ (rows, (lo, (hi, (up, (t, (out, _)))))). rows.bytes.now & rows.count & lo & hi & up & t.list.now & t.table.now & out.now)
      λ _ r (_, (_, (_, (_, (_, (out, _)))))). r & out.now

pub determined : Determined
determined =
    record {
      write = λ _ _ _ _ _ _ _ _ g e f. cc;
    }
