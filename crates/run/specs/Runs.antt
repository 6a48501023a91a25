-- The operation: what the code answers as the paper's answer, and what it must be. Assumes nothing.
use Rattle.std.specs.Prelude.{ℕ, ◌≡◌, List, [], ◌∷◌, length, leb, Result}
use Rattle.paper.specs.Answer.{ok, demand, ◌>>=◌}
use Rattle.paper.specs.Answer as Paper
use Rattle.paper.specs.Store.{Store}
use Rattle.paper.specs.Meaning.{main}
use Rattle.paper.specs.Layout.{table}
use Rattle.paper.specs.Steps.{steps}
use Rattle.paper.specs.Running.{run}
use Rattle.paper.specs.TableDecoder.{table_of}
use Rattle.paper.specs.StepDecoder.{block_of}
use Rattle.paper.specs.Operations.{or_refused}
use Rattle.paper.specs.Lent.{Outcome, told, written, cleared}
use Rattle.paper.specs.WellFormed.{IsBounded}
use Rattle.refusal.specs.Refused.{answered}
use Rattle.refusal.specs.declared.Refusal.{Refusal}
use Rattle.forms.specs.Header.{text_of}
use Rattle.rows.specs.View.{view}
use Rattle.rows.specs.Flat.{flat}
use Rattle.run.specs.declared.block.Next.{Next}
use Rattle.run.specs.Blocks.{WentIs, NextIn}

-- ---- the paper's answers

-- the store that a step list gives over a starting table
unfoldable pub store_of : List ℕ → List ℕ → Paper.Answer Store
store_of list start = do
  d ← or_refused 9 (block_of list)
  s ← or_refused 10 (table_of start)
  run (steps d) s

-- its table, and the table of its `sfConfig`
unfoldable pub whole_of : Paper.Answer Store → Paper.Answer (List ℕ)
whole_of a = do
  t ← a
  ok (table t)

unfoldable pub main_of : Paper.Answer Store → Paper.Answer (List ℕ)
main_of a = do
  t ← a
  c ← main t
  ok (table c)

-- run, and then main, with no table between them
unfoldable pub run_main_op : List ℕ → List ℕ → ℕ → ℕ → ℕ → Paper.Answer (List ℕ)
run_main_op list start output work₁ work₂ = do
  _ ← demand (leb 32792 output) 8 0
  _ ← demand (leb 65536 work₁) 8 0
  _ ← demand (leb 65536 work₂) 8 0
  d ← or_refused 9 (block_of list)
  s ← or_refused 10 (table_of start)
  t ← run (steps d) s
  c ← main t
  ok (table c)

unfoldable pub runs_main : List ℕ → List ℕ → List ℕ → List ℕ → List ℕ → Outcome
runs_main list start output work₁ work₂ =
    let a = run_main_op list start (length output) (length work₁) (length work₂) in
    record { answer = told a; output = written a output; works = cleared a work₁ ∷ cleared a work₂ ∷ [] }

-- ---- the code's

-- the answer and the lent slices, as one outcome
abbrev pub outcome : Result ℕ Refusal → List ℕ → List ℕ → List ℕ → Outcome
outcome r output work₁ work₂ = record { answer = answered r; output = output; works = work₁ ∷ work₂ ∷ [] }

-- the answer and the output, of what the paper answers
abbrev pub AnsweredIs : Paper.Answer (List ℕ) → List ℕ → List ℕ → Result ℕ Refusal → Type 0
AnsweredIs a output output' r = (answered r ≡ told a) × (output' ≡ written a output)

-- the rows in w' are the store's
abbrev pub EvaluatedIs : List ℕ → List ℕ → List ℕ → Result Next Refusal → Type 0
EvaluatedIs list start w' r = (next : ℕ) × (NextIn 0 r) × WentIs (view (text_of list) (text_of start) w') next (store_of list start) r

-- what is made of rows that are a store's: the table of its `sfConfig`
abbrev pub MainIs : List ℕ → List ℕ → List ℕ → ℕ → List ℕ → List ℕ → Result ℕ Refusal → Type 0
MainIs t u w n output output' r = (s : Store) → IsBounded s → view t u w n ≡ flat 1 s → AnsweredIs (main_of (ok s)) output output' r
