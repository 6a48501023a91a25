-- Of `run` and of `run_main`, any two results that the contract allows for the same arguments are one: the answer as the
-- code gives it, and the bytes of the output and of the two work slices. Assumes nothing.
use Prim.Native.Nat.{ℕ}
use mathlib.Core.Path.{◌≡◌, ap}
use mathlib.Core.List.{List}
use Rattle.paper.specs.Lent.{Outcome}
use Rattle.paper.specs.Determines.{Determines, ◌&◌}
use Rattle.std.specs.Prelude.{Result}
use Rattle.refusal.specs.declared.Refusal.{Refusal}
use Rattle.run.specs.Runs.{outcome}
use Rattle.refusal.proofs.One.{answered_one}
use Rattle.run.proofs.operation.run.Reads as Run
use Rattle.run.proofs.operation.run_main.Reads as RunMain

pub record Returned : Type 0 where
  pub answer : Result ℕ Refusal
  pub output : List ℕ
  pub work₁ : List ℕ
  pub work₂ : List ℕ

abbrev pub returned : Result ℕ Refusal → List ℕ → List ℕ → List ℕ → Returned
returned r o v w = record { answer = r; output = o; work₁ = v; work₂ = w }

pub one : (r r' : Result ℕ Refusal) (o o' v v' w w' : List ℕ) → outcome r o v w ≡ outcome r' o' v' w'
    → returned r o v w ≡ returned r' o' v' w'
one r r' o o' v v' w w' e =
    let answer = answered_one r r' (ap (λ (x : Outcome). x.answer) e) in
    let output = ap (λ (x : Outcome). x.output) e in
    let works = ap (λ (x : Outcome). x.works) e in
    cc

pub record Determined : Type 0 where
  pub run : Determines Run.Post
      (λ _ (steps, (table, (out, (work₁, (work₂, _))))). steps.now & table.now & out.now & work₁.now & work₂.now)
      λ _ r (_, (_, (out, (work₁, (work₂, _))))). returned r out.now work₁.now work₂.now
  pub run_main : Determines RunMain.Post
      (λ _ (steps, (table, (out, (work₁, (work₂, _))))). steps.now & table.now & out.now & work₁.now & work₂.now)
      λ _ r (_, (_, (out, (work₁, (work₂, _))))). returned r out.now work₁.now work₂.now

pub determined : Determined
determined =
    record {
      run = λ _ _ _ _ r r' _ _ g e f. one r r' _ _ _ _ _ _ (cc);
      run_main = λ _ _ _ _ r r' _ _ g e f. one r r' _ _ _ _ _ _ (cc);
    }
