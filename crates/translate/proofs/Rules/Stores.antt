-- Stores one behind another, the hinder first. Assumes nothing.
use Prim.Native.Nat.{ℕ, ◌+◌, ◌≤◌, ◌<◌}
use native.Mathlib.Omega.{arith}
use mathlib.Core.Path.{◌≡◌, sym, ◌∙◌}
use mathlib.Core.List.{List, [], ◌∷◌, ◌++◌}
use lib.ListN.{length, set}
use Rattle.memory.specs.Memory.{stored}
use Rattle.memory.proofs.Laws.{stored_apart, then_stored, stored_sets}

pub stored_before : (o : List ℕ) (to p : ℕ) (a b : List ℕ) → p ≡ to + length a → p + length b ≤ length o → stored (stored o p b) to a ≡ stored o to (a ++ b)
stored_before o to p a b e h = stored_apart o to a p b (omega arith) h ∙ then_stored o to p a b e h

pub set_stored : (o : List ℕ) (to x : ℕ) → to < length o → set o to x ≡ stored o to (x ∷ [])
set_stored o to x h = sym (stored_sets o to (x ∷ []) (omega arith))
