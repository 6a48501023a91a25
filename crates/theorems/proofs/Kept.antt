-- Theorem 6, kept: no call changes the length of a lent slice. (That two results which a contract allows coincide is proved of the code's own
-- results, in `proofs/Determined` of each crate.) Assumes nothing.
pub mod Slices
use Prim.Native.Nat.{ℕ}
use mathlib.Core.List.{List, [], ◌∷◌}
use Rattle.paper.specs.Operations.{translates, runs, takes_main, resolves}
use Slices.{Kept, translates_kept, runs_kept, main_kept, resolves_kept}

pub record AllKept : Type 0 where
  pub translate : (source output work : List ℕ) → Kept (translates source output work) output (work ∷ [])
  pub run : (list start output work₁ work₂ : List ℕ) → Kept (runs list start output work₁ work₂) output (work₁ ∷ work₂ ∷ [])
  pub main : (whole output : List ℕ) → Kept (takes_main whole output) output []
  pub resolve : (source output work₁ work₂ work₃ : List ℕ) → Kept (resolves source output work₁ work₂ work₃) output (work₁ ∷ work₂ ∷ work₃ ∷ [])

pub kept : AllKept
kept = record { translate = translates_kept; run = runs_kept; main = main_kept; resolve = resolves_kept }
