-- Any two results that the contract of `resolve` allows for the same arguments are one: the answer as the code gives it,
-- and the bytes of the output and of the three work slices. Assumes nothing.
use Prim.Native.Nat.{ℕ}
use mathlib.Core.Path.{◌≡◌, ap}
use mathlib.Core.List.{List}
use Rattle.paper.specs.Lent.{Outcome}
use Rattle.paper.specs.Determines.{Determines, ◌&◌}
use Rattle.std.specs.Prelude.{Result}
use Rattle.refusal.specs.declared.Refusal.{Refusal}
use Rattle.refusal.proofs.One.{answered_one}
use Rattle.resolve.specs.Resolves.{outcome}
use Rattle.resolve.proofs.resolve.Reads as Resolve

pub record Returned : Type 0 where
  pub answer : Result ℕ Refusal
  pub output : List ℕ
  pub work₁ : List ℕ
  pub work₂ : List ℕ
  pub work₃ : List ℕ

abbrev pub returned : Result ℕ Refusal → List ℕ → List ℕ → List ℕ → List ℕ → Returned
returned r o u v w = record { answer = r; output = o; work₁ = u; work₂ = v; work₃ = w }

pub one : (r r' : Result ℕ Refusal) (o o' u u' v v' w w' : List ℕ) → outcome r o u v w ≡ outcome r' o' u' v' w'
    → returned r o u v w ≡ returned r' o' u' v' w'
one r r' o o' u u' v v' w w' e =
    let answer = answered_one r r' (ap (λ (x : Outcome). x.answer) e) in
    let output = ap (λ (x : Outcome). x.output) e in
    let works = ap (λ (x : Outcome). x.works) e in
    cc

pub determined : Determines Resolve.Post
    (λ _ (src, (out, (work₁, (work₂, (work₃, _))))). src.now & out.now & work₁.now & work₂.now & work₃.now)
    λ _ r (_, (out, (work₁, (work₂, (work₃, _))))). returned r out.now work₁.now work₂.now work₃.now
determined _ _ _ _ r r' _ _ g e f = one r r' _ _ _ _ _ _ _ _ (cc)
