-- What the code answers of attributes of a table that was found well laid out: for every store whose attributes the records are.
-- Assumes nothing.
use Rattle.std.specs.Prelude.{ℕ, zero, suc, ◌+◌, ◌-◌, ◌*◌, ◌≤◌, ◌<◌, ◌≡◌, Bool, ◌&&◌, List, length, get_or, leb, ltb, eqb}
use Rattle.std.proofs.Math.Option.{none, some}
use Rattle.paper.specs.Bytes.{same, when◌then◌else◌}
use Rattle.paper.specs.Syntax.{Name}
use Rattle.paper.specs.Store.{Store, entry, Value, lookup}
use Rattle.paper.specs.Decoder.{Cursor}
use Rattle.paper.specs.TableDecoder.{distinct, distinct_in, absent}
use Rattle.paper.specs.DecodeAt.{word}
use Rattle.memory.specs.Memory.{word_at, part_at}
use Rattle.std.specs.Prelude.{Option as RustOption, Some, None}
use Rattle.table.specs.Walk.{value_here, entries_here}

-- the name of the record at i; none where it lies outside
unfoldable pub named_at : List ℕ → List ℕ → ℕ → List ℕ
named_at recs text i = part_at text (word_at 2 recs (i + 4) + 1) (get_or text (word_at 2 recs (i + 4)) 0)

-- a span that leads to the next attribute, within what is left
pub record Spanned (recs : List ℕ) (i m left : ℕ) : Type 0 where
  pub head : i + 16 ≤ length recs
  pub some : 1 ≤ m
  pub few : m ≤ left
  pub within : i + 16 * m ≤ length recs
  pub is : m ≡ word 2 recs (i + 6)

pub record SpanAt (recs : List ℕ) (i left m : ℕ) : Type 0 where
  pub good : 1 ≤ m → Spanned recs i m left
  pub found : Spanned recs i (word 2 recs (i + 6)) left → m ≡ word 2 recs (i + 6)

-- the span of the record at i, where it leads to the next within what is left; else 0
unfoldable pub span_in : List ℕ → ℕ → ℕ → ℕ
span_in recs i left =
    when leb (i + 16) (length recs) && (leb (word 2 recs (i + 6)) left && leb (i + 16 * word 2 recs (i + 6)) (length recs)) then word 2 recs (i + 6) else 0

-- none where it is 0
abbrev pub SpanIs : List ℕ → ℕ → ℕ → RustOption ℕ → Type 0
SpanIs recs i left (Some m) = (m ≡ span_in recs i left) × (1 ≤ m)
SpanIs recs i left None = span_in recs i left < 1

-- the first of the attributes at i that has the name, of which there are so many records; the first number, no less, counts the turns
unfoldable pub found_from : ℕ → List ℕ → List ℕ → ℕ → ℕ → List ℕ → RustOption ℕ
found_from zero recs text i left name = None
found_from (suc f) recs text i left name =
    when eqb left 0 then None else
    when ltb (span_in recs i left) 1 then None else
    when same (named_at recs text i) name then Some i else
    found_from f recs text (i + 16 * span_in recs i left) (left - span_in recs i left) name

unfoldable pub found_in : List ℕ → List ℕ → ℕ → ℕ → List ℕ → RustOption ℕ
found_in recs text i n name = found_from n recs text i n name

-- n records at i are the attributes of s, at depth d
pub record Holds (recs text : List ℕ) (i n d p : ℕ) (s : Store) (after : Cursor) : Type 0 where
  pub is : entries_here recs text d n i p ≡ some (s, after)

-- the attribute at j is the one that a name has in s; with the attributes after it, it is held by the records that are left there
pub record ChildAt (recs text : List ℕ) (d : ℕ) (s : Store) (after : Cursor) (name : List ℕ) (j : ℕ) : Type 0 where
  pub what : Value
  pub looked : lookup s name ≡ some what
  pub called : Name
  pub others : Store
  pub left : ℕ
  pub place : ℕ
  pub some_left : 0 < left
  pub holds : Holds recs text j left d place (entry called what others) after

abbrev pub Child : List ℕ → List ℕ → ℕ → Store → Cursor → List ℕ → RustOption ℕ → Type 0
Child recs text d s after name (Some j) = ChildAt recs text d s after name j
Child recs text d s after name None = lookup s name ≡ none

pub record FoundIs (recs text : List ℕ) (i n : ℕ) (name : List ℕ) (r : RustOption ℕ) : Type 0 where
  pub told : (d p : ℕ) (s : Store) (after : Cursor) → Holds recs text i n d p s after → Child recs text d s after name r

pub record AloneIs (recs text : List ℕ) (i m n : ℕ) (r : Bool) : Type 0 where
  pub told : (d p : ℕ) (s : Store) (after : Cursor) → Holds recs text (i + 16 * m) (n - m) d p s after → r ≡ absent (lookup s (named_at recs text i))

pub record DistinctIs (recs text : List ℕ) (i n : ℕ) (r : Bool) : Type 0 where
  pub told : (d p : ℕ) (s : Store) (after : Cursor) → Holds recs text i n d p s after → r ≡ distinct s

pub record DistinctInIs (recs text : List ℕ) (i m : ℕ) (r : Bool) : Type 0 where
  pub told : (d p : ℕ) (v : Value) (after : Cursor) → value_here recs text d i p ≡ some (v, after) → r ≡ distinct_in v
