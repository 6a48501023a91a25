-- The contracts of those who write a step list. Assumes nothing.
use Rattle.std.specs.Prelude.{ℕ, ◌+◌, ◌*◌, ◌-◌, ◌≤◌, ◌<◌, ◌≡◌, true, false, List, ◌++◌, length, take, drop, Option, Some, None}
use Rattle.paper.specs.Answer.{ok}
use Rattle.paper.specs.Tokens.{Token, name, Here, is_name, is_mark}
use Rattle.paper.specs.Scanner.{next}
use Rattle.paper.specs.Layout.{name_text, path_text, long_text, text_of, row_text, texts, laid_out}
use Rattle.memory.specs.Memory.{stored}
use Rattle.grammar.specs.Places.{here}
use Rattle.translate.specs.Lay.{lay_row}
use Rattle.translate.specs.Settled.{path_at, said_at, PathThere, DecimalThere, StringThere, LabelThere, ValueThere, RowThere, label_at, value_at, settled, fields_at, rows_at}
use Rattle.translate.specs.declared.record.Fields.{Fields}
use Rattle.translate.specs.declared.token.Span.{Span}

-- ---- tokens

-- a name is the next token
pub record NameNext (s : List ℕ) (at : ℕ) : Type 0 where
  pub spelt : List ℕ
  pub there : Here
  pub after : Here
  pub is : next (here s at) ≡ ok (name spelt, there, after)
  pub free : is_name (name spelt) ≡ true
  pub within : at ≤ length s

-- it stands here, and is these bytes
pub record NameSpan (s : List ℕ) (at : ℕ) (r : Span) : Type 0 where
  pub spelt : List ℕ
  pub is : next (here s at) ≡ ok (name spelt, here s r.at, here s r.end)
  pub part : take (r.end - r.at) (drop r.at s) ≡ spelt
  pub long : r.at + length spelt ≡ r.end
  pub short : length spelt ≤ 255
  pub within : r.end ≤ length s

-- the colon y ends at e
pub record Colon (s : List ℕ) (y : Token × Here × Here) (e : ℕ) : Type 0 where
  pub is : is_mark ":" y.0 ≡ true
  pub on : y.2 ≡ here s e
  pub within : e ≤ length s

abbrev pub ColonIs : List ℕ → Token × Here × Here → Option ℕ → Type 0
ColonIs s y (Some e) = Colon s y e
ColonIs s y None = is_mark ":" y.0 ≡ false

-- whether the next token, if there is one, is a colon
pub record MoreIs (s : List ℕ) (at : ℕ) (r : Option ℕ) : Type 0 where
  pub is : (y : Token × Here × Here) → next (here s at) ≡ ok y → ColonIs s y r

-- ---- texts

-- a text is stored at a place, and r is the place behind it
pub record Put (o o' : List ℕ) (to : ℕ) (t : List ℕ) (r : ℕ) : Type 0 where
  pub is : o' ≡ stored o to t
  pub end : r ≡ to + length t

pub record Room (o : List ℕ) (to : ℕ) (t : List ℕ) : Type 0 where
  pub room : to + length t ≤ length o

pub record PathFits (s : List ℕ) (at : ℕ) (o : List ℕ) (to : ℕ) : Type 0 where
  pub there : PathThere s at
  pub room : Room o to (path_text (path_at s at))

pub record NameFits (n o : List ℕ) (to : ℕ) : Type 0 where
  pub short : length n ≤ 255
  pub room : Room o to (name_text n)

pub record TextFits (t o : List ℕ) (to : ℕ) : Type 0 where
  pub short : length t ≤ 4095
  pub room : Room o to (long_text t)

pub record DecimalFits (s : List ℕ) (at : ℕ) (o : List ℕ) (to : ℕ) : Type 0 where
  pub there : DecimalThere s at
  pub room : Room o to (long_text (said_at s at))

pub record StringFits (s : List ℕ) (at : ℕ) (o : List ℕ) (to : ℕ) : Type 0 where
  pub there : StringThere s at
  pub room : Room o to (long_text (said_at s at))

pub record LabelFits (s : List ℕ) (i p : ℕ) (o : List ℕ) (to : ℕ) : Type 0 where
  pub there : LabelThere s i p
  pub room : Room o to (text_of (label_at s i p))

pub record ValueFits (s : List ℕ) (i k v : ℕ) (o : List ℕ) (to : ℕ) : Type 0 where
  pub there : ValueThere s i k v
  pub room : Room o to (text_of (value_at s i k v))

-- ---- records

-- the row of record i, whose text begins at t, the text beginning at b
pub record RowFits (s : List ℕ) (f : Fields) (b : ℕ) (o : List ℕ) (i t : ℕ) : Type 0 where
  pub there : RowThere s f
  pub few : i < 1024
  pub before : 44 + 20 * i ≤ b
  pub room : b + t + length (row_text (settled s f)) ≤ length o
  pub short : t + length (row_text (settled s f)) ≤ 32768

-- the row is laid, and r is where the text then ends
pub record Laid (s : List ℕ) (f : Fields) (b : ℕ) (o o' : List ℕ) (i t r : ℕ) : Type 0 where
  pub is : o' ≡ lay_row b o i t (settled s f)
  pub end : r ≡ t + length (row_text (settled s f))

-- n records, with so many bytes of text
pub record ListFits (s w : List ℕ) (n size : ℕ) (o : List ℕ) : Type 0 where
  pub there : (i : ℕ) → i < n → RowThere s (fields_at w (20 * i))
  pub few : n ≤ 1024
  pub sized : length (texts (rows_at s w 0 n)) ≡ size
  pub light : size ≤ 32768
  pub room : 53272 ≤ length o

-- the slice with their step list at its front
abbrev pub written_list : List ℕ → List ℕ → ℕ → List ℕ → List ℕ
written_list s w n o = let l = laid_out 1 (rows_at s w 0 n) in l ++ drop (length l) o
