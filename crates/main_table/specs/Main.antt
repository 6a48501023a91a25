-- The main operation: what the code answers as the paper's answer, and what it must be. Assumes nothing.
use Rattle.std.specs.Prelude.{ℕ, ◌≤◌, ◌≡◌, List, [], length, Result}
use Rattle.std.proofs.Math.Option.{Option, some}
use Rattle.paper.specs.Answer.{ok, ◌>>=◌}
use Rattle.paper.specs.Answer as Paper
use Rattle.paper.specs.Store.{Store}
use Rattle.paper.specs.Layout.{table}
use Rattle.paper.specs.Meaning.{main}
use Rattle.paper.specs.Operations.{or_refused}
use Rattle.paper.specs.Lent.{Outcome, told, written}
use Rattle.refusal.specs.Refused.{answered}
use Rattle.refusal.specs.declared.Refusal.{Refusal}
use Rattle.table.specs.Whole.{store_in}

-- the answer and the output, as one outcome
abbrev pub outcome : Result ℕ Refusal → List ℕ → Outcome
outcome r output = record { answer = answered r; output = output; works = [] }

-- the main table of a store that was found, or its refusal
unfoldable pub main_of : Option Store → Paper.Answer (List ℕ)
main_of o = or_refused 10 o >>= λ s. main s >>= λ c. ok (table c)

unfoldable pub main_outcome : Paper.Answer (List ℕ) → List ℕ → Outcome
main_outcome a output = record { answer = told a; output = written a output; works = [] }

-- records and a text that are a store's, within the bounds
pub record Tabled (recs text : List ℕ) (n : ℕ) : Type 0 where
  pub store : Store
  pub is : store_in recs text n ≡ some store
  pub many : length recs ≤ 16384
  pub short : length text ≤ 16384
