-- A refusal's place: in a description, or at its end, or 0; of a run below 32,768; of main 0. Assumes nothing.
use Prim.Native.Nat.{ℕ, ◌+◌, ◌≤◌, ◌<◌, min}
use native.Mathlib.Omega.{arith}
use mathlib.Core.Path.{◌≡◌, refl, ap, subst, ◌∙◌}
use mathlib.Core.Bool.{Bool, true, false}
use mathlib.Core.List.{List, [], ◌∷◌, ◌++◌}
use mathlib.Core.Option.{Option, none, some}
use lib.ListN.{length, length-append}
use Rattle.paper.specs.Bytes.{bytes}
use Rattle.paper.specs.Answer.{Answer, ok, refused, demand, ◌>>=◌}
use Rattle.paper.specs.Limits.{most_source}
use Rattle.paper.specs.Syntax.{Path, Block, εᴮ, ◌∷ᴮ◌, Statement, assign, Value, basic, link, extends, Prototypes, εᴾ, named, block}
use Rattle.paper.specs.Tokens.{Token, Here}
use Rattle.paper.specs.Written.{Stands, over, no_token, no_close}
use Rattle.paper.specs.Described.{Passes, none_yet, and_then, Refuses, no_next, not_here, Describes, Refused, too_long, leftmost}
use Rattle.paper.specs.Reader.{read}
use Rattle.paper.specs.Store.{Store, ∅, entry, component, lookup, bind, find, resolve}
use Rattle.paper.specs.Store as S
use Rattle.paper.specs.Bounds as Bounds
use Rattle.paper.specs.Meaning.{copy, inherit, linked, B⟦◌⟧, A⟦◌⟧, V⟦◌⟧, P⟦◌⟧, SF⟦◌⟧, main}
use Rattle.paper.specs.StepLayout.{listed}
use Rattle.paper.specs.WellFormed.{IsBlock, IsStatement, IsValueOf, ArePrototypes}
use Rattle.paper.specs.Operations as Op
use Rattle.paper.specs.Allowed.{Accepts, Translates, Runs, TakesMain, Resolves, Evaluates}
use Rattle.theorems.proofs.Demands.Exact.{translates_exactly}
use Rattle.theorems.proofs.Legal.Read.{Within, WithinStatement, WithinValue, WithinPrototypes, read_there}
use Rattle.theorems.proofs.ReadExactly.{read_exactly}

-- a refusal, if it is one, has a place of at most N
abbrev pub Near : {X : Type 0} → ℕ → Answer X → Type 0
Near N (ok x) = Unit {0}
Near N (refused n p) = p ≤ N

near_bind : {X Y : Type 0} (N : ℕ) (m : Answer X) (f : X → Answer Y) → Near N m → ((x : X) → m ≡ ok x → Near N (f x)) → Near N (m >>= f)
unfolding ◌>>=◌
near_bind N (ok x) f h g = g x refl
near_bind N (refused n p) f h g = h

near_demand : {Y : Type 0} (N : ℕ) (c : Bool) (n p : ℕ) (f : Unit {0} → Answer Y) → p ≤ N → Near N (f tt) → Near N (demand c n p >>= f)
unfolding ◌>>=◌ demand
near_demand N true n p f h g = g
near_demand N false n p f h g = h

near_place : {X : Type 0} (N : ℕ) (m : Answer X) (n p : ℕ) → Near N m → m ≡ refused n p → p ≤ N
near_place N m n p h e = subst (Near N) e h

-- ---- steps: a refusal has its step's place

module _ (N p : ℕ) (h : p ≤ N) where
  bind_near : (r : Path) (v : S.Value) (s : Store) → Near N (bind p r v s)
  unfolding bind
  bind_near [] v s = h
  bind_near (n ∷ []) v s = tt
  bind_near (n ∷ m ∷ r) v s = go (lookup s n) refl (λ c. bind_near (m ∷ r) v c)
    where
      go : (o : Option S.Value) → lookup s n ≡ o → ((c : Store) → Near N (bind p (m ∷ r) v c)) → Near N (bind p (n ∷ m ∷ r) v s)
      go none e again = rw (e, bind) h
      go (some (S.basic b)) e again = rw (e, bind) h
      go (some (component c)) e again = rw (e, bind) (near_bind N (bind p (m ∷ r) v c) _ (again c) (λ _ _. tt))

  assign_near : (r : Path) (v : S.Value) (s : Store) → Near N (Bounds.assign p r v s)
  unfolding Bounds.assign Bounds.bounded
  assign_near r v s = near_bind N (bind p r v s) _ (bind_near r v s) (λ t _. near_demand N _ 16 p _ h (near_demand N _ 17 p _ h (near_demand N _ 18 p _ h tt)))

  copy_near : (r : Path) (t s : Store) → Near N (copy p r t s)
  unfolding copy
  copy_near r ∅ s = tt
  copy_near r (entry n v t) s = near_bind N (Bounds.assign p (r ++ (n ∷ [])) v s) _ (assign_near (r ++ (n ∷ [])) v s) (λ s' _. copy_near r t s')

  inherit_near : (r : Path) (o : Option S.Value) (s : Store) → Near N (inherit p r o s)
  unfolding inherit
  inherit_near r none s = h
  inherit_near r (some (S.basic b)) s = h
  inherit_near r (some (component t)) s = copy_near r t s

  linked_near : (r : Path) (o : Option S.Value) (s : Store) → Near N (linked p r o s)
  unfolding linked
  linked_near r none s = h
  linked_near r (some v) s = assign_near r v s

-- every place of a well-formed step list is below 32,768
mutual
  pub block_places : (b : Block) → IsBlock b → Within 32767 b
  block_places εᴮ g = tt
  block_places (a ∷ᴮ b) g = (statement_places a g.0, block_places b g.1)

  statement_places : (a : Statement) → IsStatement a → WithinStatement 32767 a
  statement_places (assign r v) g = value_places v g.1

  value_places : (v : Value) → IsValueOf v → WithinValue 32767 v
  value_places (basic p b) g = omega (arith, g.0)
  value_places (link p r) g = omega (arith, g.0)
  value_places (extends p ps) g = (omega (arith, g.0), prototype_places ps g.2)

  prototype_places : (ps : Prototypes) → ArePrototypes ps → WithinPrototypes 32767 ps
  prototype_places εᴾ g = tt
  prototype_places (named p r ps) g = (omega (arith, g.0), prototype_places ps g.2)
  prototype_places (block b ps) g = (block_places b g.0, prototype_places ps g.1)

-- a smaller bound is a bound
mutual
  within_more : (N M : ℕ) → N ≤ M → (b : Block) → Within N b → Within M b
  within_more N M l εᴮ g = tt
  within_more N M l (a ∷ᴮ b) g = (statement_more N M l a g.0, within_more N M l b g.1)

  statement_more : (N M : ℕ) → N ≤ M → (a : Statement) → WithinStatement N a → WithinStatement M a
  statement_more N M l (assign r v) g = value_more N M l v g

  value_more : (N M : ℕ) → N ≤ M → (v : Value) → WithinValue N v → WithinValue M v
  value_more N M l (basic p b) g = omega arith
  value_more N M l (link p r) g = omega arith
  value_more N M l (extends p ps) g = (omega (arith, g.0), prototypes_more N M l ps g.1)

  prototypes_more : (N M : ℕ) → N ≤ M → (ps : Prototypes) → WithinPrototypes N ps → WithinPrototypes M ps
  prototypes_more N M l εᴾ g = tt
  prototypes_more N M l (named p r ps) g = (omega (arith, g.0), prototypes_more N M l ps g.1)
  prototypes_more N M l (block b ps) g = (within_more N M l b g.0, prototypes_more N M l ps g.1)

mutual
  unfolding B⟦◌⟧

  block_near : (N : ℕ) (b : Block) (ns : Path) (s : Store) → Within N b → Near N (B⟦ b ⟧ ns s)
  block_near N εᴮ ns s g = tt
  block_near N (a ∷ᴮ b) ns s g = near_bind N (A⟦ a ⟧ ns s) _ (statement_near N a ns s g.0) (λ t _. block_near N b ns t g.1)

  statement_near : (N : ℕ) (a : Statement) (ns : Path) (s : Store) → WithinStatement N a → Near N (A⟦ a ⟧ ns s)
  statement_near N (assign r v) ns s g = value_near N v ns (ns ++ r) s g

  value_near : (N : ℕ) (v : Value) (ns r : Path) (s : Store) → WithinValue N v → Near N (V⟦ v ⟧ ns r s)
  value_near N (basic p b) ns r s g = assign_near N p g r (S.basic b) s
  value_near N (link p k) ns r s g = linked_near N p g r (resolve ns k s) s
  value_near N (extends p ps) ns r s g = near_bind N (Bounds.assign p r (component ∅) s) _ (assign_near N p g.0 r (component ∅) s) (λ t _. prototypes_near N ps ns r t g.1)

  prototypes_near : (N : ℕ) (ps : Prototypes) (ns r : Path) (s : Store) → WithinPrototypes N ps → Near N (P⟦ ps ⟧ ns r s)
  prototypes_near N εᴾ ns r s g = tt
  prototypes_near N (named p l ps) ns r s g = near_bind N (inherit p r (resolve ns l s) s) _ (inherit_near N p g.0 r (resolve ns l s) s) (λ t _. prototypes_near N ps ns r t g.1)
  prototypes_near N (block b ps) ns r s g = near_bind N (B⟦ b ⟧ r s) _ (block_near N b r s g.0) (λ t _. prototypes_near N ps ns r t g.1)

main_near : (N : ℕ) (s : Store) → Near N (main s)
unfolding main
main_near N s = go (find (bytes "sfConfig" ∷ []) (component s)) refl
  where
    go : (o : Option S.Value) → find (bytes "sfConfig" ∷ []) (component s) ≡ o → Near N (main s)
    go none e = rw (e, main) (omega arith)
    go (some (S.basic b)) e = rw (e, main) (omega arith)
    go (some (component c)) e = rw (e, main) tt

-- ---- reading: a refusal stands in the source, or at its end

abbrev whole : Here → ℕ
whole h = h.place + length h.rest

stood : {at h after : Here} {t : Token} → Stands at t h after → whole after ≡ whole at
stood {h = h} {after = after} s =
    let k : length h.rest ≡ length s.word + length after.rest = ap length s.front ∙ length-append s.word after.rest in
    omega (arith, s.where_h, s.where_after)

passed : {at mid : Here} {ts : List (Token × ℕ)} → Passes at ts mid → whole mid ≡ whole at
passed none_yet = refl
passed (and_then n e ps) = passed ps ∙ stood n.stands

place_in : {ts : List Token} {mid : Here} {n p : ℕ} → Refuses ts mid n p → p ≤ whole mid
place_in (no_next (over s o)) = omega (arith, s.where_h)
place_in (no_next (no_token k e d u)) = omega (arith, e)
place_in (no_next (no_close k e u)) = omega (arith, e)
place_in (not_here s f) = omega (arith, s.stands.where_h)

-- the least that a place in a description can be held to: its length, and the greatest length of one
abbrev pub ends : List ℕ → ℕ
ends source = min (length source) most_source

refused_near : (source : List ℕ) {n p : ℕ} → Refused source n p → p ≤ ends source
refused_near source (too_long l) = omega arith
refused_near source (leftmost l f) = omega (arith, l, place_in f.refuses, passed f.passes)

read_near : (source : List ℕ) → Near (ends source) (read source)
read_near source = go (read source) refl
  where
    go : (a : Answer Block) → read source ≡ a → Near (ends source) a
    go (ok b) e = tt
    go (refused n p) e = refused_near source ((read_exactly.refused source n p).0 e)

read_short : (source : List ℕ) (b : Block) → Describes source b → length source ≤ ends source
read_short source b d = omega (arith, d.size)

-- ---- the operations

translate_near : (source : List ℕ) → Near (ends source) (Op.translate source)
unfolding Op.translate Op.translated listed
translate_near source =
    near_bind (ends source) (Op.translated source) _ (near_bind (ends source) (read source) _ (read_near source) (λ b _. tt))
    (λ is _. near_demand (ends source) _ 7 0 _ (omega arith) (near_demand (ends source) _ 7 0 _ (omega arith) tt))

pub translate_places : (source : List ℕ) (n p : ℕ) → Translates source (refused n p) → (p ≤ length source) × (p ≤ most_source)
translate_places source n p h =
    let l = near_place (ends source) (Op.translate source) n p (translate_near source) ((translates_exactly source (refused n p)).1 h) in
    (omega arith, omega arith)

-- what is accepted has its places in the source
accepted_near : (source : List ℕ) (b : Block) → Accepts source b → (s : Store) → Near (ends source) (B⟦ b ⟧ [] s)
accepted_near source b h s =
    let r = (read_exactly.accepted source b).1 h.described in
    block_near (ends source) b [] s (within_more (length source) (ends source) (read_short source b h.described) b (read_there source b r))

pub run_places : (list start : List ℕ) (n p : ℕ) → Runs list start (refused n p) → p < most_source
run_places list start n p h = let l : p ≤ 32767 = go h in omega arith
  where
    go : {a : Answer (List ℕ)} → Runs list start a → Near 32767 a
    go (Runs.no_list n) = omega arith
    go (Runs.no_table hd n) = omega arith
    go (Runs.not_run {d} {s} {n} {p} hd hs e) = near_place 32767 (B⟦ d ⟧ [] s) n p (block_near 32767 d [] s (block_places d hd.blocks)) e
    go (Runs.accepted hd hs e) = tt

pub main_places : (whole : List ℕ) (n p : ℕ) → TakesMain whole (refused n p) → p ≡ 0
main_places whole n p h = let l : p ≤ 0 = go h in omega arith
  where
    go : {a : Answer (List ℕ)} → TakesMain whole a → Near 0 a
    go (TakesMain.no_table n) = omega arith
    go (TakesMain.no_main {s} {n} {p} hs e) = near_place 0 (main s) n p (main_near 0 s) e
    go (TakesMain.accepted hs e) = tt

pub resolve_places : (source : List ℕ) (n p : ℕ) → Resolves source (refused n p) → (p ≤ length source) × (p ≤ most_source)
unfolding SF⟦◌⟧
resolve_places source n p h = let l : p ≤ ends source = go h in (omega arith, omega arith)
  where
    meant : (b : Block) → Accepts source b → Near (ends source) SF⟦ b ⟧
    meant b h = near_bind (ends source) (B⟦ b ⟧ [] ∅) main (accepted_near source b h ∅) (λ s _. main_near (ends source) s)

    go : {a : Answer (List ℕ)} → Resolves source a → Near (ends source) a
    go (Resolves.not_translated {n} {p} t) = let l = translate_places source n p t in omega arith
    go (Resolves.not_evaluated {b} {n} {p} h e) = near_place (ends source) SF⟦ b ⟧ n p (meant b h) e
    go (Resolves.accepted h e) = tt

pub evaluate_places : (source start : List ℕ) (n p : ℕ) → Evaluates source start (refused n p) → (p ≤ length source) × (p ≤ most_source)
evaluate_places source start n p h = let l : p ≤ ends source = go h in (omega arith, omega arith)
  where
    go : {a : Answer (List ℕ)} → Evaluates source start a → Near (ends source) a
    go (Evaluates.not_translated {n} {p} t) = let l = translate_places source n p t in omega arith
    go (Evaluates.no_table h n) = omega arith
    go (Evaluates.not_evaluated {b} {s} {n} {p} h hs e) = near_place (ends source) (B⟦ b ⟧ [] s) n p (accepted_near source b h s) e
    go (Evaluates.accepted h hs e) = tt
