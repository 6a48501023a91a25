-- What the caller is told and what the slices then hold, as paper says it. Assumes nothing.
use Rattle.std.specs.Prelude.{ℕ, List, [], ◌∷◌, Result}
use Rattle.paper.specs.Lent.{Outcome}
use Rattle.refusal.specs.Refused.{answered}
use Rattle.refusal.specs.declared.Refusal.{Refusal}

abbrev pub outcome : Result ℕ Refusal → List ℕ → List ℕ → Outcome
outcome r o w = record { answer = answered r; output = o; works = w ∷ [] }
