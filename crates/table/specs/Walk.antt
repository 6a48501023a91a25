-- What the code answers of records: where those that it was asked for end, as the paper's readers say. Assumes nothing.
use Rattle.std.specs.Prelude.{ℕ, ◌+◌, ◌≤◌, ◌≡◌, Bool, ◌&&◌, List, length, eqb}
use Rattle.std.proofs.Math.Option.{Option, none, some}
use Rattle.paper.specs.Syntax.{Name}
use Rattle.paper.specs.Store.{Store, Value}
use Rattle.paper.specs.Decoder.{Cursor, field, name_of}
use Rattle.paper.specs.TableDecoder.{in_table}
use Rattle.paper.specs.DecodeAt.{word, raw_at, cursor}
use Rattle.paper.specs.DecodeFrom.{basic_from, entries_from, entry_value}
use Rattle.forms.specs.declared.form.Form.TheVariants.{Table}
use Rattle.std.specs.Prelude.{Option as RustOption, Some, None}
use Rattle.layout.specs.Walk as Layout

-- what every record must have, whatever its kind: a node's head, and this depth
unfoldable pub heads : List ℕ → ℕ → ℕ → ℕ → Bool
heads recs i d n = Layout.heads Table recs i d n && eqb (word 2 recs (i + 2)) d

-- a record at i of which this is known, with its span m
pub record Headed (recs : List ℕ) (i d m : ℕ) : Type 0 where
  pub within : i + 16 ≤ length recs
  pub deep : d ≤ 32
  pub some : 1 ≤ m
  pub spanned : m ≡ word 2 recs (i + 6)

-- the name of the record at i
abbrev pub LabelIs : List ℕ → List ℕ → ℕ → ℕ → RustOption ℕ → Type 0
LabelIs recs text i p (Some q) = (n : Name) × (field name_of (word 2 recs (i + 4)) (cursor recs text (i + 16) p) ≡ some (n, cursor recs text (i + 16) q))
LabelIs recs text i p None = field name_of (word 2 recs (i + 4)) (cursor recs text (i + 16) p) ≡ none

-- the readers, at places
abbrev pub value_here : List ℕ → List ℕ → ℕ → ℕ → ℕ → Option (Value × Cursor)
value_here recs text d i p = entry_value (basic_from in_table) entries_from d (raw_at 0 recs i) (cursor recs text (i + 16) p)

abbrev pub entries_here : List ℕ → List ℕ → ℕ → ℕ → ℕ → ℕ → Option (Store × Cursor)
entries_here recs text d n i p = entries_from d n (cursor recs text i p)
