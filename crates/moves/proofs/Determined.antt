-- Of each public function, any two results that its contract allows for the same arguments are one,
-- with the bytes of the slice that is lent. Assumes nothing.
use Rattle.paper.specs.Determines.{Determines, ◌&◌}
use Rattle.moves.proofs.splice.Reads as Splice
use Rattle.moves.proofs.lift.Reads as Lift

pub record Determined : Type 0 where
  pub splice : Determines Splice.Post (λ _ (w, (n, (lo, (hi, (new, _))))). w.now & n & lo & hi & new.bytes.now & new.count)
      λ _ _ (w, _). w.now
  pub lift : Determines Lift.Post (λ _ (w, (lo, (hi, (s, (q, (from, (to, _))))))). w.now & lo & hi & s.now & q & from & to)
      λ _ _ (_, (_, (_, (s, _)))). s.now

pub determined : Determined
determined =
    record {
      splice = λ _ _ _ _ _ _ _ _ g e f. cc;
      lift = λ _ _ _ _ _ _ _ _ g e f. cc;
    }
