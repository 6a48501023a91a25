-- Theorem 5, demands: each operation, as it is computed, answers exactly what document 01 allows. Assumes nothing.
pub mod Exact
pub mod Answers
pub mod Order
pub mod Places
use Prim.Native.Nat.{ℕ, ◌≤◌, ◌<◌}
use mathlib.Core.Path.{◌≡◌}
use mathlib.Core.List.{List, [], ◌∷◌}
use mathlib.Core.Logic.{◌↔◌, ◌⊎◌}
use lib.ListN.{length}
use Rattle.paper.specs.Answer.{Answer, refused, ◌>>=◌}
use Rattle.paper.specs.Limits.{most_source, least_list, least_table, least_work}
use Rattle.paper.specs.Syntax.{Block}
use Rattle.paper.specs.Store.{Store, ∅}
use Rattle.paper.specs.Layout.{table}
use Rattle.paper.specs.WellFormed.{IsTable, IsStepList}
use Rattle.paper.specs.Lent.{Enough, Lent}
use Rattle.paper.specs.Allowed.{Translates, Runs, TakesMain, Resolves, Evaluates}
use Rattle.paper.specs.Operations.{translate_op, run_op, main_op, resolve_op}
use Answers.{resolve_is}
use Order as Order
use Places as Places

pub record Demands : Type 0 where
  -- over slices of any lengths, each operation's answer is the one that document 01 allows: 8 where a slice is too short, and else what
  -- `specs/Allowed` says, in both directions
  pub translate_exactly : (source output work : List ℕ) (a : Answer (List ℕ))
      → (translate_op source (length output) (length work) ≡ a) ↔ Lent (Enough least_list output (work ∷ [])) (Translates source) a
  pub run_exactly : (list start output work₁ work₂ : List ℕ) (a : Answer (List ℕ))
      → (run_op list start (length output) (length work₁) (length work₂) ≡ a) ↔ Lent (Enough least_table output (work₁ ∷ work₂ ∷ [])) (Runs list start) a
  pub main_exactly : (whole output : List ℕ) (a : Answer (List ℕ)) → (main_op whole (length output) ≡ a) ↔ Lent (Enough least_table output []) (TakesMain whole) a
  -- demand 2
  pub resolve_exactly : (source output work₁ work₂ work₃ : List ℕ) (a : Answer (List ℕ))
      → (resolve_op source (length output) (length work₁) (length work₂) (length work₃) ≡ a)
      ↔ Lent (Enough least_table output (work₁ ∷ work₂ ∷ work₃ ∷ [])) (Resolves source) a
  -- demand 3: where the slices are long enough, translate and then run over a starting table
  pub evaluate_exactly : (source start : List ℕ) (o₁ v₁ o w₁ w₂ : ℕ) → least_list ≤ o₁ → least_work ≤ v₁ → least_table ≤ o → least_work ≤ w₁ → least_work ≤ w₂
      → (a : Answer (List ℕ)) → ((translate_op source o₁ v₁ >>= λ list. run_op list start o w₁ w₂) ≡ a) ↔ Evaluates source start a
  -- "it answers as translate, run over the empty table, then main"
  pub resolves_in_turn : (source : List ℕ) (o w₁ w₂ w₃ o₁ v₁ o₂ v₂ v₃ : ℕ)
      → least_table ≤ o → least_work ≤ w₁ → least_work ≤ w₂ → least_work ≤ w₃ → least_list ≤ o₁ → least_work ≤ v₁ → least_table ≤ o₂ → least_work ≤ v₂ → least_work ≤ v₃
      → resolve_op source o w₁ w₂ w₃ ≡ translate_op source o₁ v₁ >>= λ list. run_op list (table ∅) o₂ v₂ v₃ >>= λ whole. main_op whole o
  -- the numbers of the refusals beside 8, which is none of them: so 8 is answered exactly where a slice is too short. 0 and 21 never occur.
  pub translate_numbers : (source : List ℕ) (n p : ℕ) → Translates source (refused n p) → (1 ≤ n) × (n ≤ 7)
  pub run_numbers : (list start : List ℕ) (n p : ℕ) → Runs list start (refused n p) → (9 ≤ n) × (n ≤ 18)
  pub main_numbers : (whole : List ℕ) (n p : ℕ) → TakesMain whole (refused n p) → (n ≡ 10) ⊎ ((n ≡ 19) ⊎ (n ≡ 20))
  pub resolve_numbers : (source : List ℕ) (n p : ℕ) → Resolves source (refused n p) → ((1 ≤ n) × (n ≤ 7)) ⊎ ((11 ≤ n) × (n ≤ 20))
  pub evaluate_numbers : (source start : List ℕ) (n p : ℕ) → Evaluates source start (refused n p) → ((1 ≤ n) × (n ≤ 7)) ⊎ ((10 ≤ n) × (n ≤ 18))
  -- 9 exactly where the bytes are no step list; then 10 exactly where the bytes are no table
  pub run_9 : (list start : List ℕ) → Runs list start (refused 9 0) ↔ ((d : Block) → IsStepList list d → ⊥)
  pub run_10 : (list start : List ℕ) (d : Block) → IsStepList list d → Runs list start (refused 10 0) ↔ ((s : Store) → IsTable start s → ⊥)
  pub main_10 : (whole : List ℕ) → TakesMain whole (refused 10 0) ↔ ((s : Store) → IsTable whole s → ⊥)
  -- the place of a refusal is in the description or at its end, and at most 32,768; a run's is below 32,768, main's is 0
  pub translate_places : (source : List ℕ) (n p : ℕ) → Translates source (refused n p) → (p ≤ length source) × (p ≤ most_source)
  pub run_places : (list start : List ℕ) (n p : ℕ) → Runs list start (refused n p) → p < most_source
  pub main_places : (whole : List ℕ) (n p : ℕ) → TakesMain whole (refused n p) → p ≡ 0
  pub resolve_places : (source : List ℕ) (n p : ℕ) → Resolves source (refused n p) → (p ≤ length source) × (p ≤ most_source)
  pub evaluate_places : (source start : List ℕ) (n p : ℕ) → Evaluates source start (refused n p) → (p ≤ length source) × (p ≤ most_source)

pub demands : Demands
demands =
    record {
      translate_exactly = Order.translate_exactly;
      run_exactly = Order.run_exactly;
      main_exactly = Order.main_exactly;
      resolve_exactly = Order.resolve_exactly;
      evaluate_exactly = Order.evaluate_exactly;
      resolves_in_turn = resolve_is;
      translate_numbers = Order.translate_numbers;
      run_numbers = Order.run_numbers;
      main_numbers = Order.main_numbers;
      resolve_numbers = Order.resolve_numbers;
      evaluate_numbers = Order.evaluate_numbers;
      run_9 = Order.run_9;
      run_10 = Order.run_10;
      main_10 = Order.main_10;
      translate_places = Places.translate_places;
      run_places = Places.run_places;
      main_places = Places.main_places;
      resolve_places = Places.resolve_places;
      evaluate_places = Places.evaluate_places;
    }
