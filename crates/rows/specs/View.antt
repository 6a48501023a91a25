-- A store in lent bytes: one row of 16 bytes a node, in a table's order: kind, depth, place of the name, how many text bytes the node
-- has in all, each u16; value u64. Texts stay where they are and are shared: a place below 32,768 is in the text t (the step list's),
-- from there on in the text u (the starting table's). Assumes nothing.
use Rattle.std.specs.Prelude.{◌≡◌, ℕ, zero, suc, ◌+◌, ◌-◌, ◌*◌, ◌&&◌, List, [], ◌∷◌, length, take, drop, get_or, leb, ltb, eqb}
use Rattle.paper.specs.Bytes.{when◌then◌else◌}
use Rattle.paper.specs.Layout.{Field, number, text, Row, text_of}
use Rattle.paper.specs.DecodeAt.{word}
use Rattle.memory.specs.Memory.{part_at}

-- ---- texts

-- a place points to place i of the text s
abbrev pub PointsInto : List ℕ → List ℕ → ℕ → List ℕ → ℕ → Type 0
PointsInto t u p s i = (s ≡ when ltb p 32768 then t else u) × (i ≡ when ltb p 32768 then p else p - 32768)

-- the byte at a place; 0 past the end
unfoldable pub byte_of : List ℕ → List ℕ → ℕ → ℕ
byte_of t u p = when ltb p 32768 then get_or t p 0 else get_or u (p - 32768) 0

-- the n bytes at a place; none where they do not all stand there
unfoldable pub text_part : List ℕ → List ℕ → ℕ → ℕ → List ℕ
text_part t u p n = when ltb p 32768 then part_at t p n else part_at u (p - 32768) n

-- a name's text, its length byte and its bytes, and the name
unfoldable pub label_text : List ℕ → List ℕ → ℕ → List ℕ
label_text t u p = text_part t u p (1 + byte_of t u p)

unfoldable pub name_of : List ℕ → List ℕ → ℕ → List ℕ
name_of t u p = drop 1 (label_text t u p)

-- an element has no name: 65,535
unfoldable pub label_of : List ℕ → List ℕ → ℕ → Field
label_of t u p = when eqb p 65535 then number 65535 else text (label_text t u p)

-- a value of kind k: of kinds 4 to 6 it is the place of m bytes of text
unfoldable pub value_of : List ℕ → List ℕ → ℕ → ℕ → ℕ → Field
value_of t u k v m = when leb 4 k && leb k 6 then text (text_part t u v m) else number v

-- ---- rows

-- what 16 bytes say; the row's span is how many text bytes the node has
unfoldable pub seen : List ℕ → List ℕ → List ℕ → Row
seen t u b =
    let l = label_of t u (word 2 b 4) in
    record {
      first = word 2 b 0;
      second = word 2 b 2;
      label = l;
      span = word 2 b 6;
      value = value_of t u (word 2 b 0) (word 8 b 8) (word 2 b 6 - length (text_of l));
      last = [];
    }

-- the first n groups of k bytes, each read by f
unfoldable pub groups : {A : Type 0} → ℕ → (List ℕ → A) → List ℕ → ℕ → List A
groups k f w zero = []
groups k f w (suc n) = f (take k w) ∷ groups k f (drop k w) n

-- the first n rows of a slice
unfoldable pub view : List ℕ → List ℕ → List ℕ → ℕ → List Row
view t u w n = groups 16 (seen t u) w n

-- how many rows a slice is taken to have that is said to have n: as many as a work slice has room for, or none
unfoldable pub kept : List ℕ → ℕ → ℕ
kept w n = when leb n 4096 && leb (n * 16) (length w) then n else 0

-- the rows of a slice that is said to have n
unfoldable pub rows_in : List ℕ → List ℕ → List ℕ → ℕ → List Row
rows_in t u w n = view t u w (kept w n)
