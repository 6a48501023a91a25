-- Tables as bytes (document 01, "Layouts"): a store as rows, and rows as bytes. Assumes nothing.
use Rattle.std.specs.Prelude.{ℕ, zero, suc, ◌+◌, ◌-◌, ◌/◌, ◌%◌, ◌^◌, max, true, false, List, [], ◌∷◌, ◌++◌, length, ℤ, pos, negsuc}
use Rattle.paper.specs.Syntax.{Name, Path, Basic, boolean, null, integer, decimal, string, reference, vector, Basics, εⱽ, ◌∷ⱽ◌}
use Rattle.paper.specs.Store.{Store, ∅, entry, Value, basic, component}

-- ---- numbers and text

-- "Little-endian": n bytes, the lowest first
unfoldable pub little : ℕ → ℕ → List ℕ
little zero x = []
little (suc n) x = x % 256 ∷ little n (x / 256)

-- "In text a name is a length byte and its bytes; a path is a count byte and its names; a string or decimal is a u16 length and its bytes."
unfoldable pub name_text : Name → List ℕ
name_text n = length n ∷ n

unfoldable pub names_text : Path → List ℕ
names_text [] = []
names_text (n ∷ r) = name_text n ++ names_text r

unfoldable pub path_text : Path → List ℕ
path_text r = length r ∷ names_text r

unfoldable pub long_text : List ℕ → List ℕ
long_text t = little 2 (length t) ++ t

-- "3 integer (two's complement)", in 64 bits
unfoldable pub complement : ℤ → ℕ
complement (pos n) = n
complement (negsuc n) = 2 ^ 64 - suc n

-- ---- rows

-- a field that is a number, or the place of a text
pub data Field : Type 0 where
  number : ℕ → Field
  text : List ℕ → Field

-- Of a table: kind, depth, name, span, value. Of a step list: step, kind, path, span, value, and last the source place's bytes.
pub record Row : Type 0 where
  pub first : ℕ
  pub second : ℕ
  pub label : Field
  pub span : ℕ
  pub value : Field
  pub last : List ℕ

-- "Kinds: 0 component, 1 boolean, 2 null, 3 integer (two's complement), 4 decimal, 5 string, 6 data reference, 7 vector."
unfoldable pub kind : Basic → ℕ
kind (boolean b) = 1
kind null = 2
kind (integer z) = 3
kind (decimal t) = 4
kind (string t) = 5
kind (reference r) = 6
kind (vector bs) = 7

-- "Value is u64: number or text place; 0 for kinds 0, 2, 7."
unfoldable pub content : Basic → Field
content (boolean false) = number 0
content (boolean true) = number 1
content null = number 0
content (integer z) = number (complement z)
content (decimal t) = text (long_text t)
content (string t) = text (long_text t)
content (reference r) = text (path_text r)
content (vector bs) = number 0

-- The rows of a vector's elements: "an element lies one deeper than its vector"; span is "nodes beneath, itself counted".
-- `row` makes a row from a kind, a depth, a span and a value.
unfoldable mutual
  pub elements : (ℕ → ℕ → ℕ → Field → Row) → ℕ → Basic → List Row
  elements row d (boolean b) = []
  elements row d null = []
  elements row d (integer z) = []
  elements row d (decimal t) = []
  elements row d (string t) = []
  elements row d (reference r) = []
  elements row d (vector bs) = each row (suc d) bs

  pub each : (ℕ → ℕ → ℕ → Field → Row) → ℕ → Basics → List Row
  each row d εⱽ = []
  each row d (b ∷ⱽ bs) = let below = elements row d b in row (kind b) d (suc (length below)) (content b) ∷ below ++ each row d bs

-- a row of a table
unfoldable pub table_row : Field → ℕ → ℕ → ℕ → Field → Row
table_row n k d m v = record { first = k; second = d; label = n; span = m; value = v; last = [] }

-- The rows of a store whose attributes stand at depth d, "each followed at once by its children in order, every child by its own first";
-- name place "65,535 for an element"
unfoldable mutual
  pub rows : ℕ → Store → List Row
  rows d ∅ = []
  rows d (entry n v s) = value_rows d (text (name_text n)) v ++ rows d s

  pub value_rows : ℕ → Field → Value → List Row
  value_rows d n (basic b) = let below = elements (table_row (number 65535)) d b in table_row n (kind b) d (suc (length below)) (content b) ∷ below
  value_rows d n (component s) = let below = rows (suc d) s in table_row n 0 d (suc (length below)) (number 0) ∷ below

-- the greatest depth of a table's rows
unfoldable pub deepest : List Row → ℕ
deepest [] = 0
deepest (x ∷ xs) = max x.second (deepest xs)

-- ---- bytes

-- "Each record's name or path, then its value's text, follow in record order without gap or sharing."
unfoldable pub text_of : Field → List ℕ
text_of (number n) = []
text_of (text t) = t

unfoldable pub row_text : Row → List ℕ
row_text x = text_of x.label ++ text_of x.value

unfoldable pub texts : List Row → List ℕ
texts [] = []
texts (x ∷ xs) = row_text x ++ texts xs

-- what stands for a field where the next text begins at t
unfoldable pub figure : ℕ → Field → ℕ
figure t (number n) = n
figure t (text s) = t

-- "Table record, 16 bytes, each followed at once by its children in order, every child by its own first: kind, depth, name place (65,535 for
-- an element), span (nodes beneath, itself counted), each u16; value." In a step list 4 bytes more.
unfoldable pub row_bytes : ℕ → Row → List ℕ
row_bytes t x =
    little 2 x.first ++ (little 2 x.second ++ (little 2 (figure t x.label) ++ (little 2 x.span ++
    (little 8 (figure (t + length (text_of x.label)) x.value) ++ x.last))))

unfoldable pub records : ℕ → List Row → List ℕ
records t [] = []
records t (x ∷ xs) = row_bytes t x ++ records (t + length (row_text x)) xs

-- "Header of six u32: form (1 step list, 2 table), total length, record count, record offset (24), text length, text offset. Records, then
-- text."
unfoldable pub laid_out : ℕ → List Row → List ℕ
laid_out form xs =
    let body = records 0 xs in
    let tail = texts xs in
    let place = 24 + length body in
    little 4 form ++ (little 4 (place + length tail) ++ (little 4 (length xs) ++ (little 4 24 ++ (little 4 (length tail) ++ (little 4 place ++ (body ++ tail))))))

-- form 2; "A root attribute has depth 1."
unfoldable pub table : Store → List ℕ
table s = laid_out 2 (rows 1 s)
