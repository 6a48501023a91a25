-- The operation: what the code answers, with every lent slice, and what it is before the third is cleared. Assumes nothing.
use Rattle.std.specs.Prelude.{ℕ, Result, ◌≡◌, List, [], ◌∷◌, drop}
use Rattle.paper.specs.Operations.{resolve}
use Rattle.paper.specs.Lent.{Outcome, told, written, wiped}
use Rattle.refusal.specs.Refused.{answered}
use Rattle.refusal.specs.declared.Refusal.{Refusal}

-- the answer and the lent slices, as one outcome
abbrev pub outcome : Result ℕ Refusal → List ℕ → List ℕ → List ℕ → List ℕ → Outcome
outcome r output work₁ work₂ work₃ = record { answer = answered r; output = output; works = work₁ ∷ work₂ ∷ work₃ ∷ [] }

-- where no lent slice is too short: the step list still stands in the third, which is as it was behind its first 65,536 bytes
pub record Resolving (source output work₁ work₂ work₃ : List ℕ) (r : Result ℕ Refusal) (output' work₁' work₂' work₃' : List ℕ) : Type 0 where
  pub answer : answered r ≡ told (resolve source)
  pub output_is : output' ≡ written (resolve source) output
  pub first : work₁' ≡ wiped work₁
  pub second : work₂' ≡ wiped work₂
  pub behind : drop 65536 work₃' ≡ drop 65536 work₃
