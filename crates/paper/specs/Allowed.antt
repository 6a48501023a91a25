-- Which answers document 01 allows, where no lent slice is too short: of each operation, and of a description that is
-- translated and then run. Said with no reader of bytes and no steps in turn. The operations answer exactly this (theorem
-- `demands`). Assumes nothing.
use Rattle.std.specs.Prelude.{ℕ, ◌≡◌, List, []}
use Rattle.paper.specs.Answer.{Answer, ok, refused}
use Rattle.paper.specs.Syntax.{Block}
use Rattle.paper.specs.Described.{Describes, Refused}
use Rattle.paper.specs.Store.{Store}
use Rattle.paper.specs.Meaning.{B⟦◌⟧, SF⟦◌⟧, main}
use Rattle.paper.specs.Layout.{table}
use Rattle.paper.specs.Steps.{steps}
use Rattle.paper.specs.StepLayout.{IsListed, step_list}
use Rattle.paper.specs.WellFormed.{IsTable, IsStepList}

-- the source describes b, and b's steps are within the bounds of a step list
pub record Accepts (source : List ℕ) (b : Block) : Type 0 where
  pub described : Describes source b
  pub listed : IsListed (steps b)

-- ---- "Translate: description to step list."

pub data Translates (source : List ℕ) : Answer (List ℕ) → Type 0 where
  -- the source describes nothing: 1, or the leftmost of 2 to 6
  not_read : {n p : ℕ} → Refused source n p → Translates source (refused n p)
  -- "step list over a bound", 7
  not_listed : {b : Block} → Describes source b → (IsListed (steps b) → ⊥) → Translates source (refused 7 0)
  -- accepted: the step list of what is described
  accepted : {b : Block} → Accepts source b → Translates source (ok (step_list (steps b)))

-- ---- "Run: step list and starting table to the whole table."

pub data Runs (list start : List ℕ) : Answer (List ℕ) → Type 0 where
  -- "step list / table not well-formed", 9, 10
  no_list : ((d : Block) → IsStepList list d → ⊥) → Runs list start (refused 9 0)
  no_table : {d : Block} → IsStepList list d → ((s : Store) → IsTable start s → ⊥) → Runs list start (refused 10 0)
  -- the semantics or a bound refuses a step: 11 to 18
  not_run : {d : Block} {s : Store} {n p : ℕ} → IsStepList list d → IsTable start s → B⟦ d ⟧ [] s ≡ refused n p
      → Runs list start (refused n p)
  -- accepted: the table of what the steps mean over the starting store
  accepted : {d : Block} {s t : Store} → IsStepList list d → IsTable start s → B⟦ d ⟧ [] s ≡ ok t
      → Runs list start (ok (table t))

-- ---- "Main: whole table to the table of `sfConfig`."

pub data TakesMain (whole : List ℕ) : Answer (List ℕ) → Type 0 where
  -- "step list / table not well-formed", 10
  no_table : ((s : Store) → IsTable whole s → ⊥) → TakesMain whole (refused 10 0)
  -- "main absent / no component", 19, 20
  no_main : {s : Store} {n p : ℕ} → IsTable whole s → main s ≡ refused n p → TakesMain whole (refused n p)
  -- accepted: the table of `sfConfig`
  accepted : {s c : Store} → IsTable whole s → main s ≡ ok c → TakesMain whole (ok (table c))

-- ---- demand 2, "Resolve: description to main table; it answers as translate, run over the empty table, then main."

pub data Resolves (source : List ℕ) : Answer (List ℕ) → Type 0 where
  -- 1 to 7
  not_translated : {n p : ℕ} → Translates source (refused n p) → Resolves source (refused n p)
  -- the semantics or a bound refuses a step, 11 to 18, or "main absent / no component", 19, 20
  not_evaluated : {b : Block} {n p : ℕ} → Accepts source b → SF⟦ b ⟧ ≡ refused n p → Resolves source (refused n p)
  -- accepted: the table of what the semantics defines for sfConfig
  accepted : {b : Block} {c : Store} → Accepts source b → SF⟦ b ⟧ ≡ ok c → Resolves source (ok (table c))

-- ---- demand 3: a description, translated, and its list run over a starting table

pub data Evaluates (source start : List ℕ) : Answer (List ℕ) → Type 0 where
  -- 1 to 7
  not_translated : {n p : ℕ} → Translates source (refused n p) → Evaluates source start (refused n p)
  -- "step list / table not well-formed", 10
  no_table : {b : Block} → Accepts source b → ((s : Store) → IsTable start s → ⊥)
      → Evaluates source start (refused 10 0)
  -- the semantics or a bound refuses a step of the description over that table: 11 to 18
  not_evaluated : {b : Block} {s : Store} {n p : ℕ} → Accepts source b → IsTable start s → B⟦ b ⟧ [] s ≡ refused n p
      → Evaluates source start (refused n p)
  -- accepted: the very bytes that evaluating the description over that table gives
  accepted : {b : Block} {s t : Store} → Accepts source b → IsTable start s → B⟦ b ⟧ [] s ≡ ok t
      → Evaluates source start (ok (table t))
