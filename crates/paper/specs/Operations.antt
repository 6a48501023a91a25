-- The four operations (document 01) on bytes, as they are computed: the answer of each, with every refusal in its order, and the whole
-- outcome of a call. What they answer is said plainly in `Allowed` and `Lent`. A lent slice decides by its length alone, 8. Assumes nothing.
use Rattle.std.specs.Prelude.{ℕ, List, [], ◌∷◌, length, leb}
use Rattle.std.proofs.Math.Option.{Option, none, some}
use Rattle.paper.specs.Limits.{least_list, least_table, least_work}
use Rattle.paper.specs.Lent.{Outcome, told, written, cleared}
use Rattle.paper.specs.Answer.{Answer, ok, refused, demand, ◌>>=◌}
use Rattle.paper.specs.Reader.{read}
use Rattle.paper.specs.Store.{Store, ∅}
use Rattle.paper.specs.Meaning.{B⟦◌⟧, main}
use Rattle.paper.specs.Layout.{table}
use Rattle.paper.specs.Steps.{Step, steps}
use Rattle.paper.specs.Running.{run}
use Rattle.paper.specs.StepLayout.{listed}
use Rattle.paper.specs.TableDecoder.{table_of}
use Rattle.paper.specs.StepDecoder.{block_of}

-- ---- what is meant, before any layout

unfoldable pub translated : List ℕ → Answer (List Step)
translated source = do
  b ← read source
  ok (steps b)

-- the whole table's store of a description over a starting one: by the valuation functions, and by its steps
unfoldable pub evaluated : List ℕ → Store → Answer Store
evaluated source s = do
  b ← read source
  B⟦ b ⟧ [] s

unfoldable pub executed : List ℕ → Store → Answer Store
executed source s = do
  is ← translated source
  run is s

unfoldable pub resolved : List ℕ → Answer Store
resolved source = do
  s ← executed source ∅
  main s

-- ---- in bytes

-- "Translate: description to step list."
unfoldable pub translate : List ℕ → Answer (List ℕ)
translate source = do
  is ← translated source
  listed is

-- "Resolve: description to main table": 7 comes before the steps
unfoldable pub resolve : List ℕ → Answer (List ℕ)
resolve source = do
  _ ← translate source
  s ← resolved source
  ok (table s)

-- what was found, or a refusal with number n at 0
unfoldable pub or_refused : {A : Type 0} → ℕ → Option A → Answer A
or_refused n none = refused n 0
or_refused n (some a) = ok a

-- ---- the answers: "Order: 8, 1, 9, 10; the leftmost of 2 to 6 (one token: 2, 6, 4, 3, 5; for 3 the grammar is read without its limits of 32);
-- 7; steps in turn (11 to 13, then 21, then the first fault of 14 or 15 along the path, then 16, 17, 18); 19, 20."
-- "Smallest slices lent for output: step list 53,272; table 32,792. An input slice is never too short for 8. Work slices of 65,536, one to
-- translate, two to run, three to resolve, none for main."

unfoldable pub translate_op : List ℕ → ℕ → ℕ → Answer (List ℕ)
translate_op source output work = do
  _ ← demand (leb least_list output) 8 0
  _ ← demand (leb least_work work) 8 0
  translate source

-- "Run: step list and starting table to the whole table."
unfoldable pub run_op : List ℕ → List ℕ → ℕ → ℕ → ℕ → Answer (List ℕ)
run_op list start output work₁ work₂ = do
  _ ← demand (leb least_table output) 8 0
  _ ← demand (leb least_work work₁) 8 0
  _ ← demand (leb least_work work₂) 8 0
  d ← or_refused 9 (block_of list)
  s ← or_refused 10 (table_of start)
  t ← run (steps d) s
  ok (table t)

-- "Main: whole table to the table of `sfConfig`."
unfoldable pub main_op : List ℕ → ℕ → Answer (List ℕ)
main_op whole output = do
  _ ← demand (leb least_table output) 8 0
  s ← or_refused 10 (table_of whole)
  c ← main s
  ok (table c)

unfoldable pub resolve_op : List ℕ → ℕ → ℕ → ℕ → ℕ → Answer (List ℕ)
resolve_op source output work₁ work₂ work₃ = do
  _ ← demand (leb least_table output) 8 0
  _ ← demand (leb least_work work₁) 8 0
  _ ← demand (leb least_work work₂) 8 0
  _ ← demand (leb least_work work₃) 8 0
  resolve source

-- ---- the whole outcome of a call, from what the lent slices held before it

unfoldable pub translates : List ℕ → List ℕ → List ℕ → Outcome
translates source output work =
    let a = translate_op source (length output) (length work) in
    record { answer = told a; output = written a output; works = cleared a work ∷ [] }

unfoldable pub runs : List ℕ → List ℕ → List ℕ → List ℕ → List ℕ → Outcome
runs list start output work₁ work₂ =
    let a = run_op list start (length output) (length work₁) (length work₂) in
    record { answer = told a; output = written a output; works = cleared a work₁ ∷ cleared a work₂ ∷ [] }

unfoldable pub takes_main : List ℕ → List ℕ → Outcome
takes_main whole output =
    let a = main_op whole (length output) in
    record { answer = told a; output = written a output; works = [] }

unfoldable pub resolves : List ℕ → List ℕ → List ℕ → List ℕ → List ℕ → Outcome
resolves source output work₁ work₂ work₃ =
    let a = resolve_op source (length output) (length work₁) (length work₂) (length work₃) in
    record { answer = told a; output = written a output; works = cleared a work₁ ∷ cleared a work₂ ∷ cleared a work₃ ∷ [] }
