-- The decoders of tables and step lists with as much count as is always enough, so that none is left to say.
-- Assumes nothing.
use Rattle.std.specs.Prelude.{ℕ, suc, ◌+◌, ◌*◌, ◌-◌, length, eqb}
use Rattle.std.proofs.Math.Option.{Option, some}
use Rattle.paper.specs.Bytes.{when◌then◌else◌}
use Rattle.paper.specs.Maybe.{◌>>=◌, require}
use Rattle.paper.specs.Syntax.{Basic, Basics, Block, Value, Prototypes}
use Rattle.paper.specs.Store.{Store, component}
use Rattle.paper.specs.Store as S
use Rattle.paper.specs.Decoder.{Cursor, Raw, Form, basic_at, elements_at}
use Rattle.paper.specs.TableDecoder.{entries_at}
use Rattle.paper.specs.StepDecoder.{statements_at, value_at, prototypes_at}

-- ---- basics

unfoldable pub basic_from : Form → ℕ → ℕ → ℕ → ℕ → Cursor → Option (Basic × Cursor)
basic_from form d k m v at = basic_at (2 * length at.recs + 3) form d k m v at

unfoldable pub elements_from : Form → ℕ → ℕ → Cursor → Option (Basics × Cursor)
elements_from form d n at = elements_at (2 * length at.recs + 2) form d n at

-- ---- tables

-- an attribute's value, by the readers of basics and of attributes
unfoldable pub entry_value : (ℕ → ℕ → ℕ → ℕ → Cursor → Option (Basic × Cursor)) → (ℕ → ℕ → Cursor → Option (Store × Cursor)) → ℕ → Raw → Cursor → Option (S.Value × Cursor)
entry_value B E d x at =
    when eqb x.first 0
    then (do
      _ ← require (eqb x.value 0)
      (c, at) ← E (suc d) (x.span - 1) at
      some (component c, at))
    else (do
      (b, at) ← B d x.first x.span x.value at
      some (S.basic b, at))

unfoldable pub entries_from : ℕ → ℕ → Cursor → Option (Store × Cursor)
entries_from d n at = entries_at (2 * length at.recs + 2) d n at

-- ---- step lists

unfoldable pub statements_from : ℕ → Cursor → Option (Block × Cursor)
statements_from d at = statements_at (2 * length at.recs + 2) d at

unfoldable pub value_from : ℕ → Raw → Cursor → Option (Value × Cursor)
value_from d x at = value_at (2 * length at.recs + 4) d x at

unfoldable pub prototypes_from : ℕ → Cursor → Option (Prototypes × Cursor)
prototypes_from d at = prototypes_at (2 * length at.recs + 2) d at
