-- Step lists as bytes (document 01, "Layouts"): steps as rows. Assumes nothing.
use Rattle.std.specs.Prelude.{ℕ, suc, ◌≤◌, List, [], ◌∷◌, ◌++◌, length, leb}
use Rattle.paper.specs.Answer.{Answer, ok, demand, ◌>>=◌}
use Rattle.paper.specs.Limits.{most_steps, most_step_text}
use Rattle.paper.specs.Layout.{Field, number, text, Row, little, path_text, kind, content, elements, laid_out, texts}
use Rattle.paper.specs.Steps.{Step, make, take, enter, leave, done, set, link}

-- "Step record, 20 bytes: step, kind, path place, span, each u16; value; source place u32." "Unused fields are 0."
unfoldable pub step_row : ℕ → ℕ → Field → ℕ → Field → ℕ → Row
step_row i k r m v p = record { first = i; second = k; label = r; span = m; value = v; last = little 4 p }

-- "7 item (vector elements after their set, spans as in tables)"
unfoldable pub item : ℕ → ℕ → ℕ → Field → Row
item k d m v = step_row 7 k (number 0) m v 0

-- "Steps: 1 make, 2 take, 3 enter, 4 leave, 5 done, 6 set, 7 item (vector elements after their set, spans as in tables), 8 link (value is the
-- linked path's place)." "Span is 1 for set and item otherwise."
unfoldable pub step_rows : Step → List Row
step_rows (make p r) = step_row 1 0 (text (path_text r)) 0 (number 0) p ∷ []
step_rows (take p r) = step_row 2 0 (text (path_text r)) 0 (number 0) p ∷ []
step_rows enter = step_row 3 0 (number 0) 0 (number 0) 0 ∷ []
step_rows leave = step_row 4 0 (number 0) 0 (number 0) 0 ∷ []
step_rows done = step_row 5 0 (number 0) 0 (number 0) 0 ∷ []
step_rows (set p r b) = let below = elements item 0 b in step_row 6 (kind b) (text (path_text r)) (suc (length below)) (content b) p ∷ below
step_rows (link p r l) = step_row 8 0 (text (path_text r)) 0 (text (path_text l)) p ∷ []

unfoldable pub all_rows : List Step → List Row
all_rows [] = []
all_rows (i ∷ is) = step_rows i ++ all_rows is

-- form 1
unfoldable pub step_list : List Step → List ℕ
step_list is = laid_out 1 (all_rows is)

-- "1,024 steps and 32,768 step text bytes"
pub record IsListed (is : List Step) : Type 0 where
  pub count : length (all_rows is) ≤ most_steps
  pub text : length (texts (all_rows is)) ≤ most_step_text

-- "step list over a bound", 7
unfoldable pub listed : List Step → Answer (List ℕ)
listed is = do
  _ ← demand (leb (length (all_rows is)) most_steps) 7 0
  _ ← demand (leb (length (texts (all_rows is))) most_step_text) 7 0
  ok (step_list is)
