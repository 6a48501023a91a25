-- What `run_main` writes straight from the store is main of the whole table that `run` would write. Assumes nothing.
use Prim.Native.Nat.{ℕ, ◌≤◌}
use mathlib.Core.Path.{◌≡◌, refl, sym, ◌∙◌}
use mathlib.Core.List.{List}
use mathlib.Core.Option.{Option, none, some}
use borrow.Author.Tests.{le-leb}
use Rattle.paper.specs.Answer.{Answer, ok, refused, demand, ◌>>=◌}
use Rattle.paper.specs.Syntax.{Block}
use Rattle.paper.specs.Store.{Store}
use Rattle.paper.specs.Meaning.{main}
use Rattle.paper.specs.Layout.{table}
use Rattle.paper.specs.Steps.{steps}
use Rattle.paper.specs.Running.{run}
use Rattle.paper.specs.TableDecoder.{table_of}
use Rattle.paper.specs.StepDecoder.{block_of}
use Rattle.paper.specs.Operations.{or_refused, run_op, main_op}
use Rattle.theorems.proofs.Compiled.{compiled}
use Rattle.theorems.proofs.Decoded.StepList.{steps_exact}
use Rattle.theorems.proofs.Decoded.Table.{table_exact, table_complete}
use Rattle.theorems.proofs.Legal.Bounds.{of_table, to_table, evaluates}
use Rattle.run.specs.Runs.{run_main_op}

module _ (list start : List ℕ) (o w₁ w₂ : ℕ) (l : 32792 ≤ o) (l₁ : 65536 ≤ w₁) (l₂ : 65536 ≤ w₂) where
  -- the store that a run gives is the one that its table is of
  back : (d : Block) (s t : Store) → block_of list ≡ some d → table_of start ≡ some s → run (steps d) s ≡ ok t → table_of (table t) ≡ some t
  back d s t ed es e =
      table_complete (table t) t (to_table (evaluates d s t ((steps_exact list d).0 ed).blocks (of_table ((table_exact start s).0 es)) (sym (compiled d s) ∙ e)))

  pub main_of_whole : run_main_op list start o w₁ w₂ ≡ run_op list start o w₁ w₂ >>= λ whole. main_op whole o
  unfolding run_main_op run_op main_op or_refused demand ◌>>=◌
  main_of_whole = rw (le-leb 32792 o l, le-leb 65536 w₁ l₁, le-leb 65536 w₂ l₂) (by_list (block_of list) refl)
    where
      by_run : (d : Block) (s : Store) → block_of list ≡ some d → table_of start ≡ some s → (a : Answer Store) → run (steps d) s ≡ a
          → (a >>= λ t. main t >>= λ c. ok (table c)) ≡ (a >>= λ t. ok (table t)) >>= λ whole. (or_refused 10 (table_of whole) >>= λ t. main t >>= λ c. ok (table c))
      by_run d s ed es (ok t) e = rw (back d s t ed es e)
      by_run d s ed es (refused n p) e = refl

      by_table : (d : Block) → block_of list ≡ some d → (x : Option Store) → table_of start ≡ x
          → (or_refused 10 x >>= λ s. run (steps d) s >>= λ t. main t >>= λ c. ok (table c)) ≡ (or_refused 10 x >>= λ s. run (steps d) s >>= λ t. ok (table t)) >>= λ whole. (or_refused 10 (table_of whole) >>= λ t. main t >>= λ c. ok (table c))
      by_table d ed none es = refl
      by_table d ed (some s) es = by_run d s ed es (run (steps d) s) refl

      by_list : (x : Option Block) → block_of list ≡ x
          → (or_refused 9 x >>= λ d. or_refused 10 (table_of start) >>= λ s. run (steps d) s >>= λ t. main t >>= λ c. ok (table c))
          ≡ (or_refused 9 x >>= λ d. or_refused 10 (table_of start) >>= λ s. run (steps d) s >>= λ t. ok (table t)) >>= λ whole. (or_refused 10 (table_of whole) >>= λ t. main t >>= λ c. ok (table c))
      by_list none ed = refl
      by_list (some d) ed = by_table d ed (table_of start) refl
