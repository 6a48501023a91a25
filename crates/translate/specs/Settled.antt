-- The row that a draft stands for: its texts read again from the source. Assumes nothing.
use Rattle.std.specs.Prelude.{ℕ, zero, suc, ◌+◌, ◌*◌, ◌≡◌, Bool, true, false, ◌||◌, List, [], ◌∷◌, ◌++◌, drop, eqb}
use Rattle.paper.specs.Bytes.{when◌then◌else◌}
use Rattle.paper.specs.Answer.{Answer, ok, refused}
use Rattle.paper.specs.Syntax.{Path, Basic, boolean, null, integer, decimal, string, reference, vector}
use Rattle.paper.specs.Tokens.{name, literal, mark, end, Here}
use Rattle.paper.specs.Scanner.{Scanned, token, fault, scan}
use Rattle.paper.specs.Reader.{path}
use Rattle.paper.specs.Layout.{Field, number, text, Row, little, path_text, long_text}
use Rattle.memory.specs.Memory.{word_at}
use Rattle.grammar.specs.Places.{here}
use Rattle.grammar.specs.Ties.{Reads, has_path, is_path}
use Rattle.translate.specs.declared.record.Fields.{Fields}

-- ---- texts of the source

unfoldable pub path_in : Answer (Path × Here) → Path
path_in (ok r) = r.0
path_in (refused n p) = []

-- the path that is read at p
unfoldable pub path_at : List ℕ → ℕ → Path
path_at s p = path_in (path (here s p))

unfoldable pub said_by : Basic → List ℕ
said_by b = elim b [ boolean x ↦ [] | null ↦ [] | integer z ↦ [] | decimal t ↦ t | string t ↦ t | reference r ↦ [] | vector bs ↦ [] ]

unfoldable pub said_in : Scanned → List ℕ
said_in (token t n) = elim t [ name m ↦ [] | literal b ↦ said_by b | mark m ↦ [] | end ↦ [] ]
said_in (fault n) = []

-- the text of the decimal or the string that stands at p
unfoldable pub said_at : List ℕ → ℕ → List ℕ
said_at s p = said_in (scan (drop p s))

-- ---- a record's numbers

-- the six numbers of the record at a place
unfoldable pub fields_at : List ℕ → ℕ → Fields
fields_at w at =
    record {
      step = word_at 2 w at;
      kind = word_at 2 w (at + 2);
      path = word_at 2 w (at + 4);
      span = word_at 2 w (at + 6);
      value = word_at 8 w (at + 8);
      place = word_at 4 w (at + 16);
    }

-- and such a record's bytes
unfoldable pub field_bytes : Fields → List ℕ
field_bytes f =
    little 2 f.step ++ (little 2 f.kind ++ (little 2 f.path ++ (little 2 f.span ++ (little 8 f.value ++ little 4 f.place))))

-- ---- rows

unfoldable pub label_at : List ℕ → ℕ → ℕ → Field
label_at s i p = when has_path i then text (path_text (path_at s p)) else number 0

-- a value that is a decimal's or a string's text
unfoldable pub is_long : ℕ → Bool
is_long k = eqb k 4 || eqb k 5

-- a field's figure: where its text begins, or its number
unfoldable pub figure_of : Bool → ℕ → ℕ → ℕ
figure_of textual v t = when textual then t else v

unfoldable pub value_at : List ℕ → ℕ → ℕ → ℕ → Field
value_at s i k v =
    when is_path i k then text (path_text (path_at s v)) else
    when is_long k then text (long_text (said_at s v)) else
    number v

unfoldable pub settled : List ℕ → Fields → Row
settled s f =
    record {
      first = f.step;
      second = f.kind;
      label = label_at s f.step f.path;
      span = f.span;
      value = value_at s f.step f.kind f.value;
      last = little 4 f.place;
    }

-- n rows, of the records from number i on
unfoldable pub rows_at : List ℕ → List ℕ → ℕ → ℕ → List Row
rows_at s w i zero = []
rows_at s w i (suc n) = settled s (fields_at w (20 * i)) ∷ rows_at s w (suc i) n

-- ---- what is there to be read again

pub record PathThere (s : List ℕ) (p : ℕ) : Type 0 where
  pub reads : Reads s p (path_at s p)

pub record DecimalThere (s : List ℕ) (p : ℕ) : Type 0 where
  pub size : ℕ
  pub scanned : scan (drop p s) ≡ token (literal (decimal (said_at s p))) size

pub record StringThere (s : List ℕ) (p : ℕ) : Type 0 where
  pub size : ℕ
  pub scanned : scan (drop p s) ≡ token (literal (string (said_at s p))) size

pub record LabelThere (s : List ℕ) (i p : ℕ) : Type 0 where
  pub path : has_path i ≡ true → PathThere s p

pub record ValueThere (s : List ℕ) (i k v : ℕ) : Type 0 where
  pub path : is_path i k ≡ true → PathThere s v
  pub decimal : is_path i k ≡ false → eqb k 4 ≡ true → DecimalThere s v
  pub string : is_path i k ≡ false → eqb k 4 ≡ false → eqb k 5 ≡ true → StringThere s v

pub record RowThere (s : List ℕ) (f : Fields) : Type 0 where
  pub label : LabelThere s f.step f.path
  pub value : ValueThere s f.step f.kind f.value
