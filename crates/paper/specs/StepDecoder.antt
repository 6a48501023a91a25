-- The reader of step lists: the block whose step list the bytes are, or nothing. Assumes nothing.
use Rattle.std.specs.Prelude.{ℕ, zero, suc, ◌+◌, ◌*◌, Bool, true, false, ◌&&◌, ◌||◌, List, length, leb, ltb, eqb}
use Rattle.std.proofs.Math.Option.{Option, none, some}
use Rattle.paper.specs.Bytes.{when◌then◌else◌}
use Rattle.paper.specs.Scanner.{empty}
use Rattle.paper.specs.Maybe.{◌>>=◌, require}
use Rattle.paper.specs.Syntax.{Block, εᴮ, ◌∷ᴮ◌, assign, Value, basic, link, extends, Prototypes, εᴾ, named, block}
use Rattle.paper.specs.Decoder.{Cursor, Raw, Form, record_at, field, path_of, basic_at, header, ended}

unfoldable pub in_steps : Form
in_steps = record { width = 4; top = 31; kind_in = λ x. x.second; fits = λ d x. eqb x.first 7 && (eqb x.label 0 && eqb x.place 0) }

-- a record of step i with a path, and with nothing but its place and perhaps a value; one with nothing at all
unfoldable pub plain : ℕ → Raw → Option (Unit {0})
plain i x = do
  _ ← require (eqb x.first i)
  _ ← require (eqb x.second 0)
  _ ← require (eqb x.span 0)
  require (ltb x.place 32768)

unfoldable pub bare : ℕ → Raw → Option (Unit {0})
bare i x = do
  _ ← plain i x
  _ ← require (eqb x.label 0)
  _ ← require (eqb x.value 0)
  require (eqb x.place 0)

-- one prototype at least
unfoldable pub some_prototype : Prototypes → Bool
some_prototype εᴾ = false
some_prototype (named p r ps) = true
some_prototype (block b ps) = true

-- the step that stands here; 0 where the records end
unfoldable pub step_here : Cursor → ℕ
step_here at = elim (record_at 4 at) [ none ↦ 0 | some x ↦ x.0.first ]

-- no statement stands here: the records end, or a leave stands here
unfoldable pub stops : Cursor → Bool
stops at = empty at.recs || eqb (step_here at) 4

unfoldable mutual
  -- statements, up to a leave or to the end of the records; d blocks and vectors are open
  pub statements_at : ℕ → ℕ → Cursor → Option (Block × Cursor)
  statements_at zero d at = none
  statements_at (suc f) d at =
      when stops at then some (εᴮ, at) else (do
        (x, at) ← record_at 4 at
        _ ← require (ltb x.place 32768)
        (r, at) ← field path_of x.label at
        (v, at) ← value_at f d x at
        (b, at) ← statements_at f d at
        some (assign r v ∷ᴮ b, at))

  -- the value of a statement whose first record is x
  pub value_at : ℕ → ℕ → Raw → Cursor → Option (Value × Cursor)
  value_at zero d x at = none
  value_at (suc f) d x at =
      when eqb x.first 6 then (do
        _ ← require (leb 1 x.span)
        (b, at) ← basic_at f in_steps d x.second x.span x.value at
        some (basic x.place b, at)) else
      when eqb x.first 8 then (do
        _ ← plain 8 x
        (l, at) ← field path_of x.value at
        some (link x.place l, at)) else (do
          _ ← plain 1 x
          _ ← require (eqb x.value 0)
          (ps, at) ← prototypes_at f d at
          _ ← require (some_prototype ps)
          some (extends x.place ps, at))

  -- prototypes, and the done that closes them
  pub prototypes_at : ℕ → ℕ → Cursor → Option (Prototypes × Cursor)
  prototypes_at zero d at = none
  prototypes_at (suc f) d at = do
    (x, at) ← record_at 4 at
    when eqb x.first 2 then (do
      _ ← plain 2 x
      _ ← require (eqb x.value 0)
      (l, at) ← field path_of x.label at
      (ps, at) ← prototypes_at f d at
      some (named x.place l ps, at)) else
        when eqb x.first 3 then (do
          _ ← bare 3 x
          _ ← require (ltb d 32)
          (b, at) ← statements_at f (suc d) at
          (y, at) ← record_at 4 at
          _ ← bare 4 y
          (ps, at) ← prototypes_at f d at
          some (block b ps, at)) else (do
            _ ← bare 5 x
            some (εᴾ, at))

unfoldable pub block_of : List ℕ → Option Block
block_of b = do
  (n, at) ← header 1 20 1024 32768 b
  (d, at) ← statements_at (2 * length at.recs + 2) 0 at
  _ ← ended at
  some d
