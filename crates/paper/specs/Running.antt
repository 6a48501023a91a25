-- What it is to run steps in turn, as the operations compute it: the same as what their description means (theorem `compiled`).
-- Assumes nothing.
use Rattle.std.specs.Prelude.{List, [], ◌∷◌, ◌++◌}
use Rattle.paper.specs.Answer.{Answer, ok, refused, ◌>>=◌}
use Rattle.paper.specs.Syntax.{Path}
use Rattle.paper.specs.Store.{Store, ∅, component, resolve}
use Rattle.paper.specs.Store as S
use Rattle.paper.specs.Bounds as Bounds
use Rattle.paper.specs.Meaning.{inherit, linked}
use Rattle.paper.specs.Steps.{Step, make, take, enter, leave, done, set, link}

-- where a run stands: the scope, and for each component being made its statement's scope and its own path, the innermost first
pub record Where : Type 0 where
  pub scope : Path
  pub making : List (Path × Path)

-- the innermost component being made; steps that are not nested are no step list, 9
unfoldable pub made : List (Path × Path) → (Path → Path → List (Path × Path) → Answer (Where × Store)) → Answer (Where × Store)
made [] k = refused 9 0
made (m ∷ ms) k = k m.0 m.1 ms

-- one step: the store and where the run stands after it
unfoldable pub step : Step → Where → Store → Answer (Where × Store)
step (make p r) w s = do
  s ← Bounds.assign p (w.scope ++ r) (component ∅) s
  ok (record { scope = w.scope; making = (w.scope, w.scope ++ r) ∷ w.making }, s)
step (take p l) w s = made w.making λ outer own ms. do
  s ← inherit p own (resolve outer l s) s
  ok (w, s)
step enter w s = made w.making λ outer own ms. ok (record { scope = own; making = w.making }, s)
step leave w s = made w.making λ outer own ms. ok (record { scope = outer; making = w.making }, s)
step done w s = made w.making λ outer own ms. ok (record { scope = w.scope; making = ms }, s)
step (set p r b) w s = do
  s ← Bounds.assign p (w.scope ++ r) (S.basic b) s
  ok (w, s)
step (link p r l) w s = do
  s ← linked p (w.scope ++ r) (resolve w.scope l s) s
  ok (w, s)

-- "steps in turn"
unfoldable pub exec : List Step → Where → Store → Answer (Where × Store)
exec [] w s = ok (w, s)
exec (i ∷ is) w s = do
  (w, s) ← step i w s
  exec is w s

-- the whole table's store that a step list gives over a starting one
unfoldable pub run : List Step → Store → Answer Store
run is s = do
  (w, s) ← exec is (record { scope = []; making = [] }) s
  ok s
