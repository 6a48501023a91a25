-- Theorem 3, decoded: the executable readers of tables and of step lists find exactly the well-formed ones, and one layout is one thing's.
-- Assumes nothing.
pub mod Parts
pub mod Rows
pub mod Header
pub mod Table
pub mod StepList
use Prim.Native.Nat.{ℕ}
use mathlib.Core.Path.{◌≡◌}
use mathlib.Core.List.{List}
use mathlib.Core.Option.{some}
use mathlib.Core.Logic.{◌↔◌}
use Rattle.paper.specs.Syntax.{Block}
use Rattle.paper.specs.Store.{Store}
use Rattle.paper.specs.WellFormed.{IsTable, IsStepList}
use Rattle.paper.specs.TableDecoder.{table_of}
use Rattle.paper.specs.StepDecoder.{block_of}
use Table.{table_exact, table_injective}
use StepList.{steps_exact, steps_injective}

pub record Decoded : Type 0 where
  pub tables : (b : List ℕ) (s : Store) → (table_of b ≡ some s) ↔ IsTable b s
  pub step_lists : (b : List ℕ) (d : Block) → (block_of b ≡ some d) ↔ IsStepList b d
  pub one_store : (s t : Store) (b : List ℕ) → IsTable b s → IsTable b t → s ≡ t
  pub one_block : (d e : Block) (b : List ℕ) → IsStepList b d → IsStepList b e → d ≡ e

pub decoded : Decoded
decoded = record { tables = table_exact; step_lists = steps_exact; one_store = table_injective; one_block = steps_injective }
