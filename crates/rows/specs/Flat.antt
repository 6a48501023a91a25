-- Stores as rows in lent bytes: the paper's rows, each with its text bytes in the place of its span. Assumes nothing.
use Rattle.std.specs.Prelude.{ℕ, ◌<◌, List, [], ◌∷◌, map, length}
use Rattle.paper.specs.Syntax.{Name, Basic, Basics}
use Rattle.paper.specs.Store.{Store, Value}
use Rattle.paper.specs.Layout.{number, text, Row, name_text, table_row, elements, each, row_text, rows, value_rows}

unfoldable pub sized : Row → Row
sized x = record { first = x.first; second = x.second; label = x.label; span = length (row_text x); value = x.value; last = x.last }

-- the rows of a store whose attributes stand at depth d; of one attribute
unfoldable pub flat : ℕ → Store → List Row
flat d s = map sized (rows d s)

unfoldable pub flat_value : ℕ → Name → Value → List Row
flat_value d n v = map sized (value_rows d (text (name_text n)) v)

-- the rows of a vector's elements
abbrev pub below : ℕ → Basic → List Row
below d b = map sized (elements (table_row (number 65535)) d b)

abbrev pub all_below : ℕ → Basics → List Row
all_below d bs = map sized (each (table_row (number 65535)) d bs)

-- the rows behind a component's: none, or the first is less deep
abbrev pub Low : ℕ → List Row → Type 0
Low d [] = Unit {0}
Low d (x ∷ xs) = x.second < d
