-- Values taken out of the store's rows. Assumes nothing.
use Rattle.std.specs.Prelude.{ℕ, ◌≤◌, ◌≡◌, List}
use Rattle.paper.specs.Syntax.{Name}
use Rattle.paper.specs.Store.{Store, Value, component}
use Rattle.paper.specs.Layout.{name_text, deepest}
use Rattle.rows.specs.View.{view, label_text}
use Rattle.rows.specs.Search.{text_bytes}
use Rattle.rows.specs.Flat.{flat, flat_value}
use Rattle.run.specs.Paths.{StandsAt}

-- the rows in s are those of the attributes of every component that stands at row j
abbrev pub AttributesTaken : List ℕ → ℕ → ℕ → ℕ → List ℕ → ℕ → Type 0
AttributesTaken w n j d s m =
    (t u : List ℕ) (c : Store) → StandsAt (view t u w n) (component c) j → deepest (view t u w n) ≤ 32 → view t u s m ≡ flat d c

-- the rows in s are those of every value that stands at row j, under the name at `label`
abbrev pub ValueTaken : List ℕ → List ℕ → List ℕ → ℕ → ℕ → ℕ → ℕ → List ℕ → ℕ → Type 0
ValueTaken t u w n j label d s m =
    (v : Value) (name : Name) → StandsAt (view t u w n) v j → label_text t u label ≡ name_text name → deepest (view t u w n) ≤ 32 → text_bytes (view t u w n) ≤ 16384 → view t u s m ≡ flat_value d name v
