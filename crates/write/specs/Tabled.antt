-- Rows as a table's bytes. Assumes nothing.
use Rattle.std.specs.Prelude.{ℕ, suc, ◌-◌, List, [], ◌∷◌, length, take, drop, leb}
use Rattle.paper.specs.Bytes.{when◌then◌else◌}
use Rattle.paper.specs.Layout.{Row, laid_out}
use Rattle.rows.specs.View.{rows_in}
use Rattle.rows.specs.Search.{deeper}

-- a row as a table has it, `up` less deep: it spans itself and the deeper rows that follow at once
unfoldable pub spanned_row : ℕ → Row → List Row → Row
spanned_row up x xs = record { first = x.first; second = x.second - up; label = x.label; span = suc (deeper (suc x.second) xs); value = x.value; last = [] }

unfoldable pub spanned : ℕ → List Row → List Row
spanned up [] = []
spanned up (x ∷ xs) = spanned_row up x xs ∷ spanned up xs

unfoldable pub tabled : ℕ → List Row → List ℕ
tabled up xs = laid_out 2 (spanned up xs)

-- of the n rows of a slice, those from lo up to hi
unfoldable pub chosen : List ℕ → List ℕ → List ℕ → ℕ → ℕ → ℕ → List Row
chosen t u w n lo hi = take (hi - lo) (drop lo (rows_in t u w n))

-- how many bytes are written: all, or none if they do not all fit
unfoldable pub fitted : List ℕ → List ℕ → ℕ
fitted b out = when leb (length b) (length out) then length b else 0
