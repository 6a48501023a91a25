-- The rows of a vector's items, as they are written from a step list. Assumes nothing.
use Rattle.std.specs.Prelude.{ℕ, ◌+◌, ◌*◌, ◌≤◌, ◌≡◌, List, ◌++◌, length, drop}
use Rattle.paper.specs.Syntax.{Basics}
use Rattle.paper.specs.Layout.{Row, each}
use Rattle.paper.specs.StepLayout.{item}
use Rattle.paper.specs.WellFormed.{AreBasic}
use Rattle.rows.specs.View.{view}
use Rattle.rows.specs.Change.{row_bytes}
use Rattle.rows.specs.Flat.{all_below}
use Rattle.load.specs.Load.{size_of}
use Rattle.run.specs.Listed.{step_field, Lies}

-- the bytes of the row of record i, under the name at `label` and at depth d
unfoldable pub row_of : List ℕ → List ℕ → ℕ → ℕ → ℕ → List ℕ
row_of list t i label d =
    let k = step_field 2 list i 2 in
    let v = step_field 8 list i 8 in
    row_bytes k d label (size_of t label k v) v

-- n items stand from record i on: their rows are in s' from row q on, at depth d; those before are as they were, and all behind them
pub record ItemsIn (list t : List ℕ) (i n q d : ℕ) (s s' : List ℕ) : Type 0 where
  pub behind : drop ((q + n) * 16) s' ≡ drop ((q + n) * 16) s
  pub rows : (p e : ℕ) (bs : Basics) (rest : List Row) (u : List ℕ) → Lies list t i p (each item e bs ++ rest) → AreBasic bs → length (each item e bs) ≡ n → length t ≤ 32768
      → view t u s' (q + n) ≡ view t u s q ++ all_below d bs
