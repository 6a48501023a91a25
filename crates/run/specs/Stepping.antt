-- What one step comes to, by the paper's words for it. The names of scope and target stand in s from byte 32,768 on, those of a
-- reference from byte 33,024 on. Assumes nothing.
use Rattle.std.specs.Prelude.{ℕ, ◌+◌, ◌-◌, ◌*◌, ◌≤◌, ◌<◌, ◌≡◌, List, [], ◌∷◌, ◌++◌, length, drop, Result, Option, Some, None}
use Rattle.paper.specs.Syntax.{Name, Path, Basic}
use Rattle.paper.specs.Store.{Store, ∅, Value, basic, component, resolve}
use Rattle.paper.specs.Bounds.{assign}
use Rattle.paper.specs.Meaning.{linked, inherit}
use Rattle.paper.specs.Layout.{Row, name_text}
use Rattle.paper.specs.Steps.{set, link, take}
use Rattle.paper.specs.StepLayout.{step_rows}
use Rattle.paper.specs.WellFormed.{IsPath, IsPlace, IsBasic}
use Rattle.memory.specs.Memory.{word_at, stored}
use Rattle.refusal.specs.declared.Reason.{Reason}
use Rattle.rows.specs.View.{view, label_text}
use Rattle.rows.specs.Flat.{flat_value}
use Rattle.run.specs.declared.size.Size.{Size}
use Rattle.run.specs.Paths.{names}
use Rattle.run.specs.Puts.{Held, RanIs}
use Rattle.run.specs.Listed.{Lies, path_count, places}

-- the first k names
abbrev pub scope_in : List ℕ → List ℕ → List ℕ → ℕ → Path
scope_in t u s k = names t u (drop 32768 s) k

-- as many names as a scope and a target can have are as they were
abbrev pub ScopeKept : List ℕ → List ℕ → Type 0
ScopeKept s s' = (t u : List ℕ) → scope_in t u s' 64 ≡ scope_in t u s 64

-- the first k names that have their places in z are the target, and the last one's text stands at its place
pub record Target (t u z : List ℕ) (k : ℕ) (front : Path) (last : Name) : Type 0 where
  pub names_are : names t u z k ≡ front ++ (last ∷ [])
  pub low : word_at 2 z ((k - 1) * 2) < 32768
  pub label : label_text t u (word_at 2 z ((k - 1) * 2)) ≡ name_text last

-- a value whose m rows stand in s, bound at the target
abbrev pub BindsLast : List ℕ → List ℕ → ℕ → ℕ → ℕ → ℕ → ℕ → List ℕ → List ℕ → List ℕ → Result Size Reason → Type 0
BindsLast t u n text k label m s w w' r =
    (st : Store) (front : Path) (last : Name) (v : Value) (p : ℕ) → Held (view t u w n) text st → Target t u (drop 32768 s) k front last → label ≡ word_at 2 (drop 32768 s) ((k - 1) * 2)
    → view t u s m ≡ flat_value k last v → RanIs p (view t u w') (assign p (front ++ (last ∷ [])) v st) r

-- names put at a place, if a path stands at p
pub record NamesPut (t : List ℕ) (p : ℕ) (s : List ℕ) (at : ℕ) (s' : List ℕ) (n : ℕ) : Type 0 where
  pub few : n ≤ 32
  pub is : s' ≡ stored s at (places t (p + 1) n)
  pub count : p ≤ 32768 → n ≡ path_count t p

-- and none of them is told apart from some
abbrev pub SomeNamesPut : List ℕ → ℕ → List ℕ → ℕ → List ℕ → Option ℕ → Type 0
SomeNamesPut t p s at s' (Some n) = (1 ≤ n) × NamesPut t p s at s' n
SomeNamesPut t p s at s' None = NamesPut t p s at s' 0

-- "bind an empty component"
abbrev pub Makes : List ℕ → List ℕ → ℕ → ℕ → ℕ → List ℕ → List ℕ → List ℕ → Result Size Reason → Type 0
Makes t u n text k s w w' r = (st : Store) (front : Path) (last : Name) (p : ℕ) → Held (view t u w n) text st → Target t u (drop 32768 s) k front last → RanIs p (view t u w') (assign p (front ++ (last ∷ [])) (component ∅) st) r

abbrev pub Sets : List ℕ → ℕ → List ℕ → List ℕ → ℕ → ℕ → ℕ → List ℕ → List ℕ → List ℕ → Result Size Reason → Type 0
Sets list i t u n text k s w w' r =
    (st : Store) (front : Path) (last : Name) (p q : ℕ) (l : Path) (b : Basic) (rest : List Row) → Held (view t u w n) text st → Target t u (drop 32768 s) k front last
    → Lies list t i q (step_rows (set p l b) ++ rest) → IsPath l → IsBasic b → length t ≤ 32768 → RanIs p (view t u w') (assign p (front ++ (last ∷ [])) (basic b) st) r

-- j names are the statement's scope
abbrev pub Links : List ℕ → ℕ → List ℕ → List ℕ → ℕ → ℕ → ℕ → ℕ → List ℕ → List ℕ → List ℕ → Result Size Reason → Type 0
Links list i t u n text j k s w w' r =
    (st : Store) (front : Path) (last : Name) (p q : ℕ) (l m : Path) (rest : List Row) → Held (view t u w n) text st → Target t u (drop 32768 s) k front last
    → Lies list t i q (step_rows (link p l m) ++ rest) → IsPath l → IsPath m → IsPlace p → length t ≤ 32768 → RanIs p (view t u w') (linked p (front ++ (last ∷ [])) (resolve (scope_in t u s j) m st) st) r

abbrev pub Takes : List ℕ → ℕ → List ℕ → List ℕ → ℕ → ℕ → ℕ → ℕ → List ℕ → List ℕ → List ℕ → Result Size Reason → Type 0
Takes list i t u n text j k s w w' r =
    (st : Store) (p q : ℕ) (m : Path) (rest : List Row) → Held (view t u w n) text st
    → Lies list t i q (step_rows (take p m) ++ rest) → IsPath m → IsPlace p → length t ≤ 32768 → RanIs p (view t u w') (inherit p (scope_in t u s k) (resolve (scope_in t u s j) m st) st) r
