-- What a demand says of the lent slices, beside the answer. Assumes nothing.
use Rattle.std.specs.Prelude.{ℕ, ◌≤◌, ◌≡◌, List, [], ◌∷◌, length}
use Rattle.paper.specs.Answer.{Answer}
use Rattle.paper.specs.Limits.{least_list, least_table}
use Rattle.paper.specs.Lent.{Outcome, Enough, Lent, Call, written}
use Rattle.paper.specs.Allowed.{Translates, Evaluates}

-- demand 3 has two outputs, the step list's slice and the table's: none of the four lent slices is too short
pub record FourLong (list output work₁ work₂ : List ℕ) : Type 0 where
  pub list_long : least_list ≤ length list
  pub others : Enough least_table output (work₁ ∷ work₂ ∷ [])

-- the slice of the step list holds, afterwards, what translate writes there
pub record Sent (Long : Type 0) (source list list' : List ℕ) : Type 0 where
  pub translation : Answer (List ℕ)
  pub allowed : Lent Long (Translates source) translation
  pub is : list' ≡ written translation list

-- Demand 3, of a call that translates and then runs: "gives the very bytes that evaluating the description over that table gives", and where
-- that is refused the same number at the same place
pub record Third (source start list output work₁ work₂ list' : List ℕ) (x : Outcome) : Type 0 where
  pub ran : Call (FourLong list output work₁ work₂) (Evaluates source start) output (work₁ ∷ work₂ ∷ []) x
  pub sent : Sent (FourLong list output work₁ work₂) source list list'
