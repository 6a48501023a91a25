-- Theorem 2, compiled: for every block and every store, running the steps is evaluating the block, with the same refusal at the same place.
-- Assumes nothing.
use mathlib.Core.Path.{◌≡◌, refl, sym, ◌∙◌, ap}
use mathlib.Core.List.{List, [], ◌∷◌, ◌++◌}
use Rattle.paper.specs.Answer.{Answer, ok, refused, ◌>>=◌}
use Rattle.paper.specs.Syntax.{Path, Block, εᴮ, ◌∷ᴮ◌, Statement, assign, Value, basic, extends, Prototypes, εᴾ, named, block}
use Rattle.paper.specs.Store.{Store, ∅, component, resolve}
use Rattle.paper.specs.Store as S
use Rattle.paper.specs.Bounds as Bounds
use Rattle.paper.specs.Meaning.{inherit, linked, B⟦◌⟧, A⟦◌⟧, V⟦◌⟧, P⟦◌⟧}
use Rattle.paper.specs.Steps.{Step, leave, done, steps, statement_steps, value_steps, prototype_steps}
use Rattle.paper.specs.Running.{Where, made, step, exec, run}
use Rattle.theorems.proofs.Laws.Answers.{assoc, under}

-- ---- running one list after another

exec-++ : (is js : List Step) (w : Where) (s : Store) → exec (is ++ js) w s ≡ exec is w s >>= (λ x. exec js x.0 x.1)
unfolding exec ◌>>=◌
exec-++ [] js w s = refl
exec-++ (i ∷ is) js w s = under (step i w s) (λ x. exec-++ is js x.0 x.1) ∙ sym (assoc (step i w s) _ _)

-- where a run begins
abbrev root : Where
root = record { scope = []; making = [] }

-- a store, with the machine where it was
abbrev at : Where → Answer Store → Answer (Where × Store)
at w m = m >>= λ s. ok (w, s)

-- the machine after a make whose statement stands in the scope ns and whose component is r
abbrev within : Path → Path → List (Path × Path) → Where
within ns r ms = record { scope = ns; making = (ns, r) ∷ ms }

-- where a list leaves the machine at w' with what m gives, the list after it goes on from there
then : (is js : List Step) (w w' : Where) (s : Store) (m : Answer Store) → exec is w s ≡ at w' m → exec (is ++ js) w s ≡ m >>= (λ s. exec js w' s)
unfolding ◌>>=◌
then is js w w' s m e = exec-++ is js w s ∙ ap (λ a. a >>= λ x. exec js x.0 x.1) e ∙ assoc m _ _

-- and where each of those goes on as it should, so do both
both : (w : Where) (m : Answer Store) (k : Store → Answer Store) {f : Store → Answer (Where × Store)} → ((s : Store) → f s ≡ at w (k s)) → m >>= f ≡ at w (m >>= k)
unfolding ◌>>=◌
both w m k h = under m h ∙ sym (assoc m _ _)

mutual
  unfolding steps exec step made B⟦◌⟧ ◌>>=◌

  block_runs : (b : Block) (w : Where) (s : Store) → exec (steps b) w s ≡ at w (B⟦ b ⟧ w.scope s)
  block_runs εᴮ w s = refl
  block_runs (a ∷ᴮ b) w s =
      then (statement_steps a) (steps b) w w s (A⟦ a ⟧ w.scope s) (statement_runs a w s)
      ∙ both w (A⟦ a ⟧ w.scope s) (B⟦ b ⟧ w.scope) (λ s. block_runs b w s)

  statement_runs : (a : Statement) (w : Where) (s : Store) → exec (statement_steps a) w s ≡ at w (A⟦ a ⟧ w.scope s)
  statement_runs (assign r v) w s = value_runs v r w s

  value_runs : (v : Value) (r : Path) (w : Where) (s : Store) → exec (value_steps v r) w s ≡ at w (V⟦ v ⟧ w.scope (w.scope ++ r) s)
  value_runs (basic p b) r w s = assoc (Bounds.assign p (w.scope ++ r) (S.basic b) s) _ _
  value_runs (Value.link p l) r w s = assoc (linked p (w.scope ++ r) (resolve w.scope l s) s) _ _
  value_runs (extends p ps) r w s =
      let own = w.scope ++ r in
      let m = Bounds.assign p own (component ∅) s in
      assoc m _ _
      ∙ both w m (P⟦ ps ⟧ w.scope own) (λ s.
      then (prototype_steps ps) (done ∷ []) (within w.scope own w.making) (within w.scope own w.making) s (P⟦ ps ⟧ w.scope own s)
      (prototypes_run ps w.scope own w.making s))

  prototypes_run : (ps : Prototypes) (ns r : Path) (ms : List (Path × Path)) (s : Store) → exec (prototype_steps ps) (within ns r ms) s ≡ at (within ns r ms) (P⟦ ps ⟧ ns r s)
  prototypes_run εᴾ ns r ms s = refl
  prototypes_run (named p l ps) ns r ms s =
      let m = inherit p r (resolve ns l s) s in
      assoc m _ _ ∙ both (within ns r ms) m (P⟦ ps ⟧ ns r) (λ s. prototypes_run ps ns r ms s)
  prototypes_run (block b ps) ns r ms s =
      let inside : Where = record { scope = r; making = (ns, r) ∷ ms } in
      then (steps b) (leave ∷ prototype_steps ps) inside inside s (B⟦ b ⟧ r s) (block_runs b inside s)
      ∙ both (within ns r ms) (B⟦ b ⟧ r s) (P⟦ ps ⟧ ns r) (λ s. prototypes_run ps ns r ms s)

-- a store, taken out again from where the machine stands
store_only : (w : Where) (m : Answer Store) → at w m >>= (λ x. ok x.1) ≡ m
unfolding ◌>>=◌
store_only w (ok s) = refl
store_only w (refused n p) = refl

pub compiled : (b : Block) (s : Store) → run (steps b) s ≡ B⟦ b ⟧ [] s
unfolding run ◌>>=◌
compiled b s = ap (λ a. a >>= λ x. ok x.1) (block_runs b root s) ∙ store_only root (B⟦ b ⟧ [] s)
