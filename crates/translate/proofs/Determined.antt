-- Any two results that the contract of `translate` allows for the same arguments are one: the answer as the code gives
-- it, and the bytes of the output and of the work slice. Assumes nothing.
use Prim.Native.Nat.{ℕ}
use mathlib.Core.Path.{◌≡◌, ap}
use mathlib.Core.List.{List}
use Rattle.std.specs.Prelude.{Result}
use Rattle.paper.specs.Lent.{Outcome}
use Rattle.paper.specs.Determines.{Determines, ◌&◌}
use Rattle.refusal.specs.declared.Refusal.{Refusal}
use Rattle.refusal.proofs.One.{answered_one}
use Rattle.translate.specs.Outcomes.{outcome}
use Rattle.translate.proofs.translate.Reads as Translate

pub record Returned : Type 0 where
  pub answer : Result ℕ Refusal
  pub output : List ℕ
  pub work : List ℕ

abbrev pub returned : Result ℕ Refusal → List ℕ → List ℕ → Returned
returned r o w = record { answer = r; output = o; work = w }

pub one : (r r' : Result ℕ Refusal) (o o' w w' : List ℕ) → outcome r o w ≡ outcome r' o' w' → returned r o w ≡ returned r' o' w'
one r r' o o' w w' e =
    let answer = answered_one r r' (ap (λ (x : Outcome). x.answer) e) in
    let output = ap (λ (x : Outcome). x.output) e in
    let works = ap (λ (x : Outcome). x.works) e in
    cc

pub determined : Determines Translate.Post (λ _ (src, (out, (work, _))). src.now & out.now & work.now)
    λ _ r (_, (out, (work, _))). returned r out.now work.now
determined _ _ _ _ r r' _ _ g e f = one r r' _ _ _ _ (cc)
