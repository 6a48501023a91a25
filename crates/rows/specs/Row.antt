-- A row as it is read. Assumes nothing.
use Rattle.std.specs.Prelude.{ℕ, ◌-◌, List, [], length}
use Rattle.paper.specs.Layout.{text_of}
use Rattle.paper.specs.Layout as Layout
use Rattle.rows.specs.View.{label_of, value_of}
use Rattle.rows.specs.Change.{field_at}
use Rattle.rows.specs.declared.row.Row.{Row}

-- the numbers of the row at index i
abbrev pub row_of : List ℕ → ℕ → Row
row_of w i =
    record {
      kind = field_at 2 w i 0;
      depth = field_at 2 w i 2;
      label = field_at 2 w i 4;
      size = field_at 2 w i 6;
      value = field_at 8 w i 8;
    }

-- what they say
unfoldable pub row_seen : List ℕ → List ℕ → Row → Layout.Row
row_seen t u r =
    let l = label_of t u r.label in
    record {
      first = r.kind;
      second = r.depth;
      label = l;
      span = r.size;
      value = value_of t u r.kind r.value (r.size - length (text_of l));
      last = [];
    }
