-- How a table is written: header, then record by record, each record's text behind the text of those before it. Assumes nothing.
use Rattle.std.specs.Prelude.{ℕ, ◌+◌, ◌*◌, List, [], ◌∷◌, ◌++◌, length}
use Rattle.paper.specs.Layout.{Row, little, row_bytes, row_text}
use Rattle.memory.specs.Memory.{stored}

-- the slice with a record at place a, whose text begins at t of the text; b is where the text begins in the slice
unfoldable pub lay_row : ℕ → List ℕ → ℕ → ℕ → Row → List ℕ
lay_row b o a t x = stored (stored o a (row_bytes t x)) (b + t) (row_text x)

-- and all the others after it
unfoldable pub lay : ℕ → List ℕ → ℕ → ℕ → List Row → List ℕ
lay b o a t [] = o
lay b o a t (x ∷ xs) = lay b (lay_row b o a t x) (a + 16) (t + length (row_text x)) xs
