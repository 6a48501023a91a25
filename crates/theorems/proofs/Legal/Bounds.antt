-- Evaluation keeps the bounds, so what it gives has a table; and so has the main component. Assumes nothing.
use Prim.Native.Nat.{ℕ, suc, ◌+◌, ◌≤◌, max}
use native.Mathlib.Omega.{arith}
use mathlib.Core.Path.{◌≡◌, refl, subst}
use mathlib.Core.Bool.{Bool, true, false}
use mathlib.Core.List.{List, [], ◌∷◌, ◌++◌}
use mathlib.Core.Option.{Option, none, some}
use lib.ListN.{length, length-append}
use lib.Dec.{lit≤}
use borrow.Author.Tests.{leb-true}
use Rattle.paper.specs.Bytes.{bytes, same}
use Rattle.paper.specs.Answer.{ok, refused}
use Rattle.paper.specs.Syntax.{Name, Path, Basic, boolean, null, integer, decimal, string, reference, vector, Basics, εⱽ, ◌∷ⱽ◌, Block, εᴮ, ◌∷ᴮ◌, Statement, assign, Value, basic, link, extends, Prototypes, εᴾ, named, block}
use Rattle.paper.specs.Store.{Store, ∅, entry, component, lookup, find, resolve, bind}
use Rattle.paper.specs.Store as S
use Rattle.paper.specs.Bounds.{Bounded, bounded}
use Rattle.paper.specs.Bounds as Bounds
use Rattle.paper.specs.Meaning.{copy, inherit, linked, B⟦◌⟧, A⟦◌⟧, V⟦◌⟧, P⟦◌⟧, main}
use Rattle.paper.specs.Layout.{Field, number, text, Row, table_row, name_text, kind, content, elements, each, rows, value_rows, row_text, texts, deepest, table}
use Rattle.paper.specs.WellFormed.{IsStore, IsValue, IsBlock, IsStatement, IsValueOf, ArePrototypes, IsBounded, IsTable}
use Rattle.theorems.proofs.Laws.Gives.{Gives, gives, refuses, gives_bind, gives_demand, gives_ok, gives_refused}
use Rattle.theorems.proofs.Legal.Names.{keeps}

-- a refusal of a step has a number from 11 to 18: no target is the root itself (21)
abbrev pub Stepping : ℕ → Type 0
Stepping n = (11 ≤ n) × (n ≤ 18)

record Any {A : Type 0} (x : A) : Type 0 where

bind_bound : (p : ℕ) (r : Path) (v : S.Value) (s : Store) → 1 ≤ length r → Gives Stepping Any (bind p r v s)
unfolding bind
bind_bound p [] v s l = absurd (omega arith)
bind_bound p (n ∷ []) v s l = gives (record {})
bind_bound p (n ∷ m ∷ r) v s l = go (lookup s n) refl (λ c. bind_bound p (m ∷ r) v c (omega arith))
  where
    go : (o : Option S.Value) → lookup s n ≡ o → ((c : Store) → Gives Stepping Any (bind p (m ∷ r) v c)) → Gives Stepping Any (bind p (n ∷ m ∷ r) v s)
    go none e again = rw (e, bind) (refuses (lit≤ tt, lit≤ tt))
    go (some (S.basic b)) e again = rw (e, bind) (refuses (lit≤ tt, lit≤ tt))
    go (some (component c)) e again = rw (e, bind) (gives_bind _ (again c) (λ c _. gives (record {})))

bounded_bound : (p : ℕ) (s : Store) → Gives Stepping Bounded (bounded p s)
unfolding bounded
bounded_bound p s =
    gives_demand _ 16 p _ (lit≤ tt, lit≤ tt) (λ e₁. gives_demand _ 17 p _ (lit≤ tt, lit≤ tt) (λ e₂. gives_demand _ 18 p _ (lit≤ tt, lit≤ tt) (λ e₃.
    gives {x = s} (record { depth = leb-true _ _ e₁; nodes = leb-true _ _ e₂; text = leb-true _ _ e₃ }))))

assign_bound : (p : ℕ) (r : Path) (v : S.Value) (s : Store) → 1 ≤ length r → Gives Stepping Bounded (Bounds.assign p r v s)
unfolding Bounds.assign
assign_bound p r v s l = gives_bind _ (bind_bound p r v s l) (λ s _. bounded_bound p s)

copy_bound : (p : ℕ) (r : Path) (t s : Store) → Bounded s → Gives Stepping Bounded (copy p r t s)
unfolding copy
copy_bound p r ∅ s h = gives h
copy_bound p r (entry n v t) s h = gives_bind _ (assign_bound p (r ++ (n ∷ [])) v s (simp length-append (omega arith))) (λ s g. copy_bound p r t s g)

inherit_bound : (p : ℕ) (r : Path) (o : Option S.Value) (s : Store) → Bounded s → Gives Stepping Bounded (inherit p r o s)
unfolding inherit
inherit_bound p r none s h = refuses (lit≤ tt, lit≤ tt)
inherit_bound p r (some (S.basic b)) s h = refuses (lit≤ tt, lit≤ tt)
inherit_bound p r (some (component t)) s h = copy_bound p r t s h

linked_bound : (p : ℕ) (r : Path) (o : Option S.Value) (s : Store) → 1 ≤ length r → Gives Stepping Bounded (linked p r o s)
unfolding linked
linked_bound p r none s l = refuses (lit≤ tt, lit≤ tt)
linked_bound p r (some v) s l = assign_bound p r v s l

mutual
  unfolding B⟦◌⟧

  block_bound : (b : Block) (ns : Path) (s : Store) → IsBlock b → Bounded s → Gives Stepping Bounded (B⟦ b ⟧ ns s)
  block_bound εᴮ ns s g h = gives h
  block_bound (a ∷ᴮ b) ns s g h = gives_bind _ (statement_bound a ns s g.0 h) (λ s h. block_bound b ns s g.1 h)

  statement_bound : (a : Statement) (ns : Path) (s : Store) → IsStatement a → Bounded s → Gives Stepping Bounded (A⟦ a ⟧ ns s)
  statement_bound (assign r v) ns s g h = value_bound v ns (ns ++ r) s g.1 (simp length-append (omega (arith, g.0.some))) h

  value_bound : (v : Value) (ns r : Path) (s : Store) → IsValueOf v → 1 ≤ length r → Bounded s → Gives Stepping Bounded (V⟦ v ⟧ ns r s)
  value_bound (basic p b) ns r s g l h = assign_bound p r (S.basic b) s l
  value_bound (link p k) ns r s g l h = linked_bound p r (resolve ns k s) s l
  value_bound (extends p ps) ns r s g l h = gives_bind _ (assign_bound p r (component ∅) s l) (λ s h. prototypes_bound ps ns r s g.2 h)

  prototypes_bound : (ps : Prototypes) (ns r : Path) (s : Store) → ArePrototypes ps → Bounded s → Gives Stepping Bounded (P⟦ ps ⟧ ns r s)
  prototypes_bound εᴾ ns r s g h = gives h
  prototypes_bound (named p l ps) ns r s g h = gives_bind _ (inherit_bound p r (resolve ns l s) s h) (λ s h. prototypes_bound ps ns r s g.2 h)
  prototypes_bound (block b ps) ns r s g h = gives_bind _ (block_bound b r s g.0 h) (λ s h. prototypes_bound ps ns r s g.1 h)

-- ---- tables

pub of_table : {b : List ℕ} {s : Store} → IsTable b s → IsBounded s
of_table h = h.held

pub to_table : {s : Store} → IsBounded s → IsTable (table s) s
to_table h = record { laid_out = refl; held = h }

pub empty_bounded : IsBounded ∅
unfolding rows deepest texts
empty_bounded = record { store = tt; bounds = record { depth = omega arith; nodes = omega arith; text = omega arith } }

-- what a block gives, over a store as it should be and within the bounds, is such a store
pub evaluates : (b : Block) (s t : Store) → IsBlock b → IsBounded s → B⟦ b ⟧ [] s ≡ ok t → IsBounded t
evaluates b s t hb h e = record { store = keeps b [] s t hb tt h.store e; bounds = gives_ok (block_bound b [] s hb h.bounds) e }

pub evaluates_numbers : (b : Block) (s : Store) (n p : ℕ) → IsBlock b → IsBounded s → B⟦ b ⟧ [] s ≡ refused n p → Stepping n
evaluates_numbers b s n p hb h e = gives_refused (block_bound b [] s hb h.bounds) e

-- ---- the main component

deepest-++ : (xs ys : List Row) → deepest (xs ++ ys) ≡ max (deepest xs) (deepest ys)
unfolding deepest
deepest-++ [] ys = omega arith
deepest-++ (x ∷ xs) ys = rw (deepest-++ xs ys) (omega arith)

texts-++ : (xs ys : List Row) → length (texts (xs ++ ys)) ≡ length (texts xs) + length (texts ys)
unfolding texts
texts-++ [] ys = omega arith
texts-++ (x ∷ xs) ys = simp length-append (omega (arith, texts-++ xs ys))

-- the rows ys measure no less than the rows xs
record Less (xs ys : List Row) : Type 0 where
  depth : deepest xs ≤ deepest ys
  nodes : length xs ≤ length ys
  text : length (texts xs) ≤ length (texts ys)

less-++ : {xs xs' ys ys' : List Row} → Less xs xs' → Less ys ys' → Less (xs ++ ys) (xs' ++ ys')
less-++ {xs} {xs'} {ys} {ys'} f g =
    record {
      depth = rw (deepest-++ xs ys, deepest-++ xs' ys') (omega (arith, f.depth, g.depth));
      nodes = simp length-append (omega (arith, f.nodes, g.nodes));
      text = rw (texts-++ xs ys, texts-++ xs' ys') (omega (arith, f.text, g.text));
    }

less_trans : {xs ys zs : List Row} → Less xs ys → Less ys zs → Less xs zs
less_trans f g = record { depth = omega (arith, f.depth, g.depth); nodes = omega (arith, f.nodes, g.nodes); text = omega (arith, f.text, g.text) }

less_refl : (xs : List Row) → Less xs xs
less_refl xs = record { depth = omega arith; nodes = omega arith; text = omega arith }

less_left : (xs ys : List Row) → Less xs (xs ++ ys)
less_left xs ys = record { depth = rw (deepest-++ xs ys) (omega arith); nodes = simp length-append (omega arith); text = rw (texts-++ xs ys) (omega arith) }

less_right : (xs ys : List Row) → Less ys (xs ++ ys)
less_right xs ys = record { depth = rw (deepest-++ xs ys) (omega arith); nodes = simp length-append (omega arith); text = rw (texts-++ xs ys) (omega arith) }

less_row : (n : Field) (k d m m' : ℕ) (v : Field) → Less (table_row n k d m v ∷ []) (table_row n k (suc d) m' v ∷ [])
unfolding table_row deepest texts row_text
less_row n k d m m' v = record { depth = omega arith; nodes = omega arith; text = omega arith }

-- one deeper is no less
mutual
  unfolding elements

  deeper_elements : (b : Basic) (n : Field) (d : ℕ) → Less (elements (table_row n) d b) (elements (table_row n) (suc d) b)
  deeper_elements (boolean b) n d = less_refl []
  deeper_elements null n d = less_refl []
  deeper_elements (integer z) n d = less_refl []
  deeper_elements (decimal t) n d = less_refl []
  deeper_elements (string t) n d = less_refl []
  deeper_elements (reference r) n d = less_refl []
  deeper_elements (vector bs) n d = deeper_each bs n (suc d)

  deeper_each : (bs : Basics) (n : Field) (d : ℕ) → Less (each (table_row n) d bs) (each (table_row n) (suc d) bs)
  deeper_each εⱽ n d = less_refl []
  deeper_each (b ∷ⱽ bs) n d = less-++ (less_row n (kind b) d _ _ (content b)) (less-++ (deeper_elements b n d) (deeper_each bs n d))

mutual
  unfolding rows

  deeper : (s : Store) (d : ℕ) → Less (rows d s) (rows (suc d) s)
  deeper ∅ d = less_refl []
  deeper (entry n v s) d = less-++ (deeper_value v (text (name_text n)) d) (deeper s d)

  deeper_value : (v : S.Value) (n : Field) (d : ℕ) → Less (value_rows d n v) (value_rows (suc d) n v)
  deeper_value (S.basic b) n d = less-++ (less_row n (kind b) d _ _ (content b)) (deeper_elements b (number 65535) d)
  deeper_value (component s) n d = less-++ (less_row n 0 d _ _ (number 0)) (deeper s (suc d))

record Part (d : ℕ) (s c : Store) : Type 0 where
  store : IsStore c
  less : Less (rows (suc d) c) (rows d s)

-- a component that a store holds
part : (s : Store) (m : Name) (c : Store) (d : ℕ) → IsStore s → lookup s m ≡ some (component c) → Part d s c
unfolding lookup rows
part ∅ m c d h e = let z : ◌≡◌ {A = ℕ} 0 1 = cc in absurd (omega arith)
part (entry k v s) m c d h e = go (same k m) refl v h.2 e (λ e. part s m c d h.3 e)
  where
    go : (t : Bool) → same k m ≡ t → (v : S.Value) → IsValue v → lookup (entry k v s) m ≡ some (component c) → (lookup s m ≡ some (component c) → Part d s c) → Part d (entry k v s) c
    go true q (S.basic b) hv e again = let f : some (S.basic b) ≡ some (component c) = rw (q, lookup) at e in let z : ◌≡◌ {A = ℕ} 0 1 = cc in absurd (omega arith)
    go true q (component t) hv e again =
        let f : some (component t) ≡ some (component c) = rw (q, lookup) at e in
        let g : t ≡ c = inside f in
        subst (λ x. Part d (entry k (component t) s) x) g
        (record { store = hv; less = less_trans (less_right (table_row (text (name_text k)) 0 d (suc (length (rows (suc d) t))) (number 0) ∷ []) (rows (suc d) t)) (less_left _ (rows d s)) })
      where
        inside : {a b : Store} → some (component a) ≡ some (component b) → a ≡ b
        inside e = cc
    go false q v hv e again =
        let p = again (rw (q, lookup) at e) in
        record { store = p.store; less = less_trans p.less (less_right (value_rows d (text (name_text k)) v) (rows d s)) }

-- a refusal of the main component has number 19 or 20
pub data Main : ℕ → Type 0 where
  absent : Main 19
  no_component : Main 20

main_bound : (s : Store) → IsBounded s → Gives Main IsBounded (main s)
unfolding main find
main_bound s h = go (lookup s (bytes "sfConfig")) refl
  where
    go : (o : Option S.Value) → lookup s (bytes "sfConfig") ≡ o → Gives Main IsBounded (main s)
    go none q = rw (q, main) (refuses absent)
    go (some (S.basic b)) q = rw (q, main) (refuses no_component)
    go (some (component t)) q =
        let p = part s (bytes "sfConfig") t 1 h.store q in
        let l = less_trans (deeper t 1) p.less in
        rw (q, main) (gives {x = t} (record { store = p.store; bounds = record { depth = omega (arith, l.depth, h.bounds.depth); nodes = omega (arith, l.nodes, h.bounds.nodes); text = omega (arith, l.text, h.bounds.text) } }))

-- the main component of a store as it should be and within the bounds is such a store
pub mains : (s c : Store) → IsBounded s → main s ≡ ok c → IsBounded c
mains s c h e = gives_ok (main_bound s h) e

pub main_numbers : (s : Store) (n p : ℕ) → IsBounded s → main s ≡ refused n p → Main n
main_numbers s n p h e = gives_refused (main_bound s h) e
