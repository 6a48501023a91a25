-- A table's records as rows of a store: the same, but that their texts are the second text's, and that a row has the text bytes of its
-- node in the place of its span. Assumes nothing.
use Rattle.std.specs.Prelude.{ℕ, zero, suc, ◌+◌, ◌*◌, ◌/◌, ◌%◌, ◌&&◌, ◌||◌, List, [], ◌∷◌, ◌++◌, length, drop, get_or, leb, eqb}
use Rattle.paper.specs.Bytes.{when◌then◌else◌}
use Rattle.memory.specs.Memory.{word_at, stored}
use Rattle.rows.specs.Change.{field_at, row_bytes}

-- ---- how many text bytes

-- a name's at a place; an element, 65,535, has none
unfoldable pub name_size : List ℕ → ℕ → ℕ
name_size text p = when eqb p 65535 then 0 else 1 + get_or text p 0

-- n names' in front
unfoldable pub names_size : ℕ → List ℕ → ℕ
names_size zero s = 0
names_size (suc n) [] = 0
names_size (suc n) (b ∷ s) = 1 + b + names_size n (drop b s)

-- a path's in front
unfoldable pub path_size : List ℕ → ℕ
path_size [] = 0
path_size (n ∷ s) = 1 + names_size n s

-- the value's of a node of kind k
unfoldable pub value_size : List ℕ → ℕ → ℕ → ℕ
value_size text k p =
    when eqb k 4 || eqb k 5 then 2 + word_at 2 text p else
    when eqb k 6 then path_size (drop p text) else
    0

-- ---- rows

-- a place of the table's text is one of the second text
unfoldable pub placed : ℕ → ℕ
placed p = p % 32768 + 32768

unfoldable pub placed_label : ℕ → ℕ
placed_label p = when eqb p 65535 then p else placed p

unfoldable pub placed_value : ℕ → ℕ → ℕ
placed_value k v = when leb 4 k && leb k 6 then placed v else v

unfoldable pub size_of : List ℕ → ℕ → ℕ → ℕ → ℕ
size_of text p k v = (name_size text p + value_size text k v) % 65536

-- the row of record i
unfoldable pub loaded_row : List ℕ → List ℕ → ℕ → List ℕ
loaded_row recs text i =
    let k = field_at 2 recs i 0 in
    let p = field_at 2 recs i 4 in
    let v = field_at 8 recs i 8 in
    row_bytes k (field_at 2 recs i 2) (placed_label p) (size_of text p k v) (placed_value k v)

-- the rows of n records, from i on
unfoldable pub loaded : List ℕ → List ℕ → ℕ → ℕ → List ℕ
loaded recs text i zero = []
loaded recs text i (suc n) = loaded_row recs text i ++ loaded recs text (suc i) n

-- as many as there are whole records, if a work slice has room for them, and this one has
unfoldable pub loads : List ℕ → List ℕ → ℕ
loads recs w = let n = length recs / 16 in when leb n 4096 && leb (n * 16) (length w) then n else 0

unfoldable pub load_stored : List ℕ → List ℕ → List ℕ → List ℕ
load_stored recs text w = stored w 0 (loaded recs text 0 (loads recs w))
