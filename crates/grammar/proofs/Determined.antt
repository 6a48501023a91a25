-- Any two results that the contract of `read` allows for the same arguments are one, with the bytes of the work slice.
-- Assumes nothing.
use Prim.Native.Nat.{ℕ}
use mathlib.Core.Path.{◌≡◌, ap}
use mathlib.Core.List.{List}
use Rattle.std.specs.Prelude.{Result}
use Rattle.paper.specs.Determines.{Determines, ◌&◌}
use Rattle.refusal.specs.declared.Refusal.{Refusal}
use Rattle.refusal.proofs.One.{answered_one}
use Rattle.grammar.specs.Reads.{Outcome, outcome}
use Rattle.grammar.specs.declared.answer.Drafts.{Drafts}
use Rattle.grammar.proofs.read.Reads as Read

pub record Returned : Type 0 where
  pub answer : Result Drafts Refusal
  pub work : List ℕ

abbrev pub returned : Result Drafts Refusal → List ℕ → Returned
returned r w = record { answer = r; work = w }

one : (r r' : Result Drafts Refusal) (w w' : List ℕ) → outcome r w ≡ outcome r' w' → returned r w ≡ returned r' w'
one r r' w w' e =
    let answer = answered_one r r' (ap (λ (x : Outcome). x.answer) e) in
    let work = ap (λ (x : Outcome). x.work) e in
    cc

pub determined : Determines Read.Post (λ _ (src, (work, _)). src.now & work.now) λ _ r (_, (work, _)). returned r work.now
determined _ _ _ _ r r' _ _ g e f = one r r' _ _ (cc)
