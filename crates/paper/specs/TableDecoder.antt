-- The reader of tables: the store whose table the bytes are, or nothing. Assumes nothing.
use Rattle.std.specs.Prelude.{ℕ, zero, suc, ◌+◌, ◌*◌, ◌-◌, Bool, true, false, ◌&&◌, List, length, leb, eqb}
use Rattle.std.proofs.Math.Option.{Option, none, some}
use Rattle.paper.specs.Bytes.{when◌then◌else◌}
use Rattle.paper.specs.Maybe.{◌>>=◌, require}
use Rattle.paper.specs.Store.{Store, ∅, entry, component, lookup}
use Rattle.paper.specs.Store as S
use Rattle.paper.specs.Decoder.{Cursor, Form, record_at, field, name_of, basic_at, header, ended}

unfoldable pub in_table : Form
in_table = record { width = 0; top = 32; kind_in = λ x. x.first; fits = λ d x. eqb x.second d && eqb x.label 65535 }

-- the entries of a store at depth d, of which there are n records in all
unfoldable pub entries_at : ℕ → ℕ → ℕ → Cursor → Option (Store × Cursor)
entries_at zero d n at = none
entries_at (suc f) d n at =
    elim n [
      | zero ↦ some (∅, at)
      | suc k ↦ do
        (x, at) ← record_at 0 at
        _ ← require (leb d 32)
        _ ← require (eqb x.second d)
        _ ← require (leb 1 x.span)
        _ ← require (leb x.span (suc k))
        (n, at) ← field name_of x.label at
        (v, at) ← when eqb x.first 0
            then (do
              _ ← require (eqb x.value 0)
              (c, at) ← entries_at f (suc d) (x.span - 1) at
              some (component c, at))
            else (do
              (b, at) ← basic_at f in_table d x.first x.span x.value at
              some (S.basic b, at))
        (s, at) ← entries_at f d (suc k - x.span) at
        some (entry n v s, at)
    ]

-- no name twice in one component
unfoldable pub absent : {A : Type 0} → Option A → Bool
absent none = true
absent (some a) = false

unfoldable mutual
  pub distinct : Store → Bool
  distinct ∅ = true
  distinct (entry n v s) = absent (lookup s n) && (distinct_in v && distinct s)

  pub distinct_in : S.Value → Bool
  distinct_in (S.basic b) = true
  distinct_in (component s) = distinct s

unfoldable pub table_of : List ℕ → Option Store
table_of b = do
  (n, at) ← header 2 16 1024 16384 b
  (s, at) ← entries_at (2 * length at.recs + 2) 1 n at
  _ ← ended at
  _ ← require (distinct s)
  some s
