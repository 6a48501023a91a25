-- What a description means (document 01, "Meaning"; document 002, Definitions 17 to 27), over any starting store.
-- ns is the statement's scope; r is the target, scope joined with reference; p is a step's place. Assumes nothing.
use Rattle.std.specs.Prelude.{ℕ, [], ◌∷◌, ◌++◌}
use Rattle.std.proofs.Math.Option.{Option, none, some}
use Rattle.paper.specs.Bytes.{bytes}
use Rattle.paper.specs.Answer.{Answer, ok, refused, ◌>>=◌}
use Rattle.paper.specs.Syntax.{Path, Block, εᴮ, ◌∷ᴮ◌, Statement, assign, Value, basic, link, extends, Prototypes, εᴾ, named, block}
use Rattle.paper.specs.Store.{Store, ∅, entry, component, resolve, find}
use Rattle.paper.specs.Store as S
use Rattle.paper.specs.Bounds as Bounds

-- Definition 17, copy: "the attributes of the value found are put into it one by one, in order, whole"
unfoldable pub copy : ℕ → Path → Store → Store → Answer Store
copy p r ∅ s = ok s
copy p r (entry n v t) s = do
  s ← Bounds.assign p (r ++ (n ∷ [])) v s
  copy p r t s

-- Definition 18, inherit, from what the prototype's reference found: "prototype finds nothing / no component", 12, 13.
-- "The value copied is the one before the first put."
unfoldable pub inherit : ℕ → Path → Option S.Value → Store → Answer Store
inherit p r none s = refused 12 p
inherit p r (some v) s = elim v [ S.basic b ↦ refused 13 p | component t ↦ copy p r t s ]

-- "Link: resolve in the scope, then bind the value as it is now." "link finds nothing", 11
unfoldable pub linked : ℕ → Path → Option S.Value → Store → Answer Store
linked p r none s = refused 11 p
linked p r (some v) s = Bounds.assign p r v s

unfoldable mutual
  -- Definition 26
  pub B⟦◌⟧ : Block → Path → Store → Answer Store
  B⟦ εᴮ ⟧ ns s = ok s
  B⟦ a ∷ᴮ b ⟧ ns s = do
    s ← A⟦ a ⟧ ns s
    B⟦ b ⟧ ns s

  -- Definition 25: the target is "never searched for"
  pub A⟦◌⟧ : Statement → Path → Store → Answer Store
  A⟦ assign r v ⟧ ns s = V⟦ v ⟧ ns (ns ++ r) s

  -- Definition 24: "Basic: bind it at scope joined with target." "Extends: bind an empty component first. Then prototypes"
  pub V⟦◌⟧ : Value → Path → Path → Store → Answer Store
  V⟦ basic p b ⟧ ns r s = Bounds.assign p r (S.basic b) s
  V⟦ link p l ⟧ ns r s = linked p r (resolve ns l s) s
  V⟦ extends p ps ⟧ ns r s = do
    s ← Bounds.assign p r (component ∅) s
    P⟦ ps ⟧ ns r s

  -- Definition 23: "Then prototypes left to right: a reference is resolved in the statement's own scope, *outside* the new component (for a
  -- target `x:y` not in `x`), and the attributes of the value found are put into it one by one, in order, whole; a block is evaluated with
  -- the new component as scope."
  pub P⟦◌⟧ : Prototypes → Path → Path → Store → Answer Store
  P⟦ εᴾ ⟧ ns r s = ok s
  P⟦ named p l ps ⟧ ns r s = do
    s ← inherit p r (resolve ns l s) s
    P⟦ ps ⟧ ns r s
  P⟦ block b ps ⟧ ns r s = do
    s ← B⟦ b ⟧ r s
    P⟦ ps ⟧ ns r s

-- Definition 27, its last part: "Main is root name `sfConfig`, a component." "main absent / no component", 19, 20
unfoldable pub main : Store → Answer Store
main s =
    elim (find (bytes "sfConfig" ∷ []) (component s)) [
      | none ↦ refused 19 0
      | some v ↦ elim v [ S.basic b ↦ refused 20 0 | component c ↦ ok c ]
    ]

-- Definition 27, over the empty store
unfoldable pub SF⟦◌⟧ : Block → Answer Store
SF⟦ b ⟧ = do
  s ← B⟦ b ⟧ [] ∅
  main s
