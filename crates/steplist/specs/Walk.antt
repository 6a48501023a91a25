-- What the code answers of statements: where their records and their text end, as the paper's readers say. Assumes nothing.
use Rattle.std.specs.Prelude.{ℕ, suc, ◌+◌, ◌≤◌, ◌≡◌, List, ltb, eqb}
use Rattle.std.proofs.Math.Option.{Option, none, some}
use Rattle.paper.specs.Bytes.{when◌then◌else◌}
use Rattle.paper.specs.Maybe.{◌>>=◌, require}
use Rattle.paper.specs.Syntax.{Block, Statement, assign, Value, Prototypes, named, block}
use Rattle.paper.specs.Decoder.{Cursor, Raw, record_at, field, path_of}
use Rattle.paper.specs.StepDecoder.{plain, bare}
use Rattle.paper.specs.DecodeAt.{word, raw_at, cursor}
use Rattle.paper.specs.DecodeFrom.{statements_from, value_from, prototypes_from}
use Rattle.std.specs.Prelude.{Option as RustOption, Some, None}
use Rattle.layout.specs.declared.walk.Place.{Place}

-- a reader found something, and has gone on by a record at least
abbrev pub WalkOn : {A : Type 0} → Option (A × Cursor) → List ℕ → List ℕ → ℕ → RustOption Place → Type 0
WalkOn {A} o recs text i (Some at) = ((a : A) × (o ≡ some (a, cursor recs text at.record at.text))) × (i + 20 ≤ at.record)
WalkOn o recs text i None = o ≡ none

-- one statement
unfoldable pub statement_at : ℕ → Cursor → Option (Statement × Cursor)
statement_at d at = do
  (x, at) ← record_at 4 at
  _ ← require (ltb x.place 32768)
  (r, at) ← field path_of x.label at
  (v, at) ← value_from d x at
  some (assign r v, at)

-- one prototype whose record is x, to be put before the others: a reference, a block
unfoldable pub take_at : Raw → Cursor → Option ((Prototypes → Prototypes) × Cursor)
take_at x at = do
  _ ← plain 2 x
  _ ← require (eqb x.value 0)
  (l, at) ← field path_of x.label at
  some (named x.place l, at)

unfoldable pub block_at : ℕ → Raw → Cursor → Option ((Prototypes → Prototypes) × Cursor)
block_at d x at = do
  _ ← bare 3 x
  _ ← require (ltb d 32)
  (b, at) ← statements_from (suc d) at
  at ← record_at 4 at >>= λ y. bare 4 y.0 >>= λ _. some y.1
  some (block b, at)

-- the readers, at places
abbrev pub statements_here : List ℕ → List ℕ → ℕ → ℕ → ℕ → Option (Block × Cursor)
statements_here recs text d i p = statements_from d (cursor recs text i p)

abbrev pub statement_here : List ℕ → List ℕ → ℕ → ℕ → ℕ → Option (Statement × Cursor)
statement_here recs text d i p = statement_at d (cursor recs text i p)

abbrev pub value_here : List ℕ → List ℕ → ℕ → ℕ → ℕ → Option (Value × Cursor)
value_here recs text d i p = value_from d (raw_at 4 recs i) (cursor recs text (i + 20) p)

abbrev pub prototypes_here : List ℕ → List ℕ → ℕ → ℕ → ℕ → Option (Prototypes × Cursor)
prototypes_here recs text d i p = prototypes_from d (cursor recs text i p)

abbrev pub take_here : List ℕ → List ℕ → ℕ → ℕ → Option ((Prototypes → Prototypes) × Cursor)
take_here recs text i p = take_at (raw_at 4 recs i) (cursor recs text (i + 20) p)

unfoldable pub prototype_here : List ℕ → List ℕ → ℕ → ℕ → ℕ → Option ((Prototypes → Prototypes) × Cursor)
prototype_here recs text d i p = when eqb (word 2 recs i) 2 then take_here recs text i p else block_at d (raw_at 4 recs i) (cursor recs text (i + 20) p)
