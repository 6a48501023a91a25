-- How a step list is written: header, then record by record, each record's text behind the text of those before it. Assumes nothing.
use Rattle.std.specs.Prelude.{ℕ, suc, ◌+◌, ◌*◌, List, [], ◌∷◌, length}
use Rattle.paper.specs.Layout.{Row, row_bytes, row_text}
use Rattle.memory.specs.Memory.{stored}

-- the slice with record i, whose text begins at t, written; b is where the text begins in the slice
unfoldable pub lay_row : ℕ → List ℕ → ℕ → ℕ → Row → List ℕ
lay_row b o i t x = stored (stored o (24 + 20 * i) (row_bytes t x)) (b + t) (row_text x)

-- and all the others after it
unfoldable pub lay : ℕ → List ℕ → ℕ → ℕ → List Row → List ℕ
lay b o i t [] = o
lay b o i t (x ∷ xs) = lay b (lay_row b o i t x) (suc i) (t + length (row_text x)) xs
