-- Of each public function, any two results that its contract allows for the same arguments are one. Assumes nothing.
use Rattle.paper.specs.Determines.{Determines}
use Rattle.refusal.proofs.Reason.number.Reads as Number

pub determined : Determines Number.Post (λ _ (self, _). self) λ _ r _. r
determined _ _ _ _ _ _ _ _ g e f = cc
