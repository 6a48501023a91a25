-- The records of a step list where they stand, and what a path and a set are made of. Assumes nothing.
use Rattle.std.specs.Prelude.{ℕ, zero, suc, ◌+◌, ◌*◌, ◌≤◌, ◌<◌, min, ◌≡◌, ◌⊎◌, List, [], ◌++◌, length, drop, get_or}
use Rattle.paper.specs.Syntax.{Name, Path, Basic}
use Rattle.paper.specs.Store.{basic}
use Rattle.paper.specs.Layout.{Row, name_text, little, records, texts}
use Rattle.paper.specs.Steps.{set}
use Rattle.paper.specs.StepLayout.{step_rows}
use Rattle.paper.specs.WellFormed.{IsPath, IsBasic}
use Rattle.kinds.specs.Numbers.{step_number}
use Rattle.kinds.specs.declared.Step.{Step}
use Rattle.kinds.specs.declared.Step.TheVariants.{Done}
use Rattle.memory.specs.Memory.{word_at}
use Rattle.rows.specs.View.{view, label_text}
use Rattle.run.specs.declared.list.Record.{Record}
use Rattle.rows.specs.Flat.{flat_value}

-- a number of the record at index i: n bytes from its byte f on; 0 behind the last
abbrev pub step_field : ℕ → List ℕ → ℕ → ℕ → ℕ
step_field n list i f = word_at n list (i * 20 + f)

-- the step that has this number, or done where none has it
abbrev pub ReadsStep : ℕ → Step → Type 0
ReadsStep n step = (step_number step ≡ n) ⊎ ((step ≡ Done) × ((n ≡ 0) ⊎ (8 < n)))

-- what is read of the record at index i
pub record RecordIs (list : List ℕ) (i : ℕ) (r : Record) : Type 0 where
  pub step : ReadsStep (step_field 2 list i 0) r.step
  pub kind : r.kind ≡ step_field 2 list i 2
  pub path : r.path ≡ step_field 2 list i 4
  pub span : r.span ≡ step_field 2 list i 6
  pub value : r.value ≡ step_field 8 list i 8
  pub place : r.place ≡ step_field 4 list i 16

-- from record i and text place p on, the rows xs stand, and nothing else
pub record Lies (list text : List ℕ) (i p : ℕ) (xs : List Row) : Type 0 where
  pub rows : drop (i * 20) list ≡ records p xs
  pub text_there : drop p text ≡ texts xs

-- ---- a path

-- how many names a path at p is said to have, of the 32 that it may
unfoldable pub path_count : List ℕ → ℕ → ℕ
path_count t p = min (get_or t p 0) 32

-- the places of n names, the first of which begins at q, each u16
unfoldable pub places : List ℕ → ℕ → ℕ → List ℕ
places t q zero = []
places t q (suc n) = little 2 q ++ places t (q + 1 + get_or t q 0) n

-- ---- a set

-- The rows of the value of every set that stands at record i are in s', under the name at `label` and at depth d, m rows in all.
-- What lies behind byte 32,768 is as it was.
abbrev pub SetIn : List ℕ → List ℕ → ℕ → ℕ → ℕ → List ℕ → List ℕ → ℕ → Type 0
SetIn list t i label d s s' m =
    (p q : ℕ) (r : Path) (b : Basic) (rest : List Row) (u : List ℕ) (n : Name) → Lies list t i q (step_rows (set p r b) ++ rest) → IsPath r → IsBasic b → length t ≤ 32768
    → label_text t u label ≡ name_text n → (m ≡ length (step_rows (set p r b))) × (view t u s' m ≡ flat_value d n (basic b))
