-- Evaluation keeps stores as they should be: names well-formed and none twice (Theorem 2 of document 002). Assumes nothing.
use Prim.Native.Nat.{ℕ, zero, suc, ◌≤◌}
use native.Mathlib.Omega.{arith}
use mathlib.Core.Path.{◌≡◌, refl, sym, ◌∙◌, ap₂, subst}
use mathlib.Core.Bool.{Bool, true, false, true≢false, false≢true, ◌&&◌}
use mathlib.Core.List.{List, [], ◌∷◌, ◌++◌}
use mathlib.Core.Option.{Option, none, some}
use lib.ListN.{length, take}
use lib.Dec.{T, eqb, eqb_refl}
use borrow.Author.Tests.{eqb-true}
use Rattle.paper.specs.Bytes.{same}
use Rattle.paper.specs.Answer.{Answer, ok}
use Rattle.paper.specs.Syntax.{Name, Path, Block, εᴮ, ◌∷ᴮ◌, Statement, assign, Value, basic, extends, Prototypes, εᴾ, named, block}
use Rattle.paper.specs.Store.{Store, ∅, entry, component, put, lookup, find, resolve_in, resolve, bind}
use Rattle.paper.specs.Store as S
use Rattle.paper.specs.Bounds.{bounded}
use Rattle.paper.specs.Bounds as Bounds
use Rattle.paper.specs.Meaning.{copy, inherit, linked, B⟦◌⟧, A⟦◌⟧, V⟦◌⟧, P⟦◌⟧}
use Rattle.paper.specs.WellFormed.{IsName, AreNames, IsStore, IsValue, IsBlock, IsStatement, IsValueOf, ArePrototypes}
use Rattle.theorems.proofs.Laws.Answers.{All, holds, numbered, all_bind, all_demand}

1≤ : {n : ℕ} → 1 ≤ suc n
1≤ = omega arith

-- ---- names compared

and_true : (a b : Bool) → (a && b) ≡ true → (a ≡ true) × (b ≡ true)
and_true true b e = (refl, e)
and_true false b e = absurd (false≢true e)

same_eq : (a b : List ℕ) → same a b ≡ true → a ≡ b
same_eq [] [] e = refl
same_eq [] (y ∷ b) e = absurd (false≢true e)
same_eq (x ∷ a) [] e = absurd (false≢true e)
same_eq (x ∷ a) (y ∷ b) e = let h = and_true (eqb x y) (same a b) e in ap₂ ◌∷◌ (eqb-true x y h.0) (same_eq a b h.1)

-- by the two values of a test
cases : {P : Type 0} (c : Bool) → (c ≡ true → P) → (c ≡ false → P) → P
cases true f g = f refl
cases false f g = g refl

-- ---- put

lookup_none : (k : Name) (w : S.Value) (s : Store) (m : Name) → lookup (entry k w s) m ≡ none → (same k m ≡ false) × (lookup s m ≡ none)
unfolding lookup
lookup_none k w s m e =
    cases (same k m)
    (λ t. let f : some w ≡ none = rw (t, lookup) at e in let z : ◌≡◌ {A = ℕ} 0 1 = cc in absurd (omega arith))
    (λ t. (t, rw (t, lookup) at e))

put_absent : (s : Store) (m n : Name) (v : S.Value) → same n m ≡ false → lookup s m ≡ none → lookup (put s n v) m ≡ none
unfolding put lookup
put_absent ∅ m n v d e = rw (d, lookup)
put_absent (entry k w s) m n v d e =
    let h = lookup_none k w s m e in
    cases (same k n)
    (λ t. rw (t, put) (rw (d, lookup) h.1))
    (λ t. rw (t, put) (rw (h.0, lookup) (put_absent s m n v d h.1)))

T_true : (b : Bool) → T b → b ≡ true
T_true true t = refl
T_true false t = absurd t

same_refl : (a : List ℕ) → same a a ≡ true
same_refl [] = refl
same_refl (x ∷ a) = rw (T_true (eqb x x) (eqb_refl x), same_refl a)

same_sym : (a b : List ℕ) → same a b ≡ false → same b a ≡ false
same_sym a b e = cases (same b a) (λ t. absurd (true≢false (sym (subst (λ x. same x b ≡ true) (same_eq b a t) (same_refl b)) ∙ e))) (λ t. t)

pub put_keeps : (s : Store) (n : Name) (v : S.Value) → IsName n → IsValue v → IsStore s → IsStore (put s n v)
unfolding put lookup
put_keeps ∅ n v hn hv hs = (hn, refl, hv, tt)
put_keeps (entry m w s) n v hn hv hs =
    cases (same m n)
    (λ e. rw (e, put) (hn, subst (λ x. lookup s x ≡ none) (same_eq m n e) hs.1, hv, hs.3))
    (λ e. rw (e, put) (hs.0, put_absent s m n v (same_sym m n e) hs.1, hs.2, put_keeps s n v hn hv hs.3))

-- ---- find and resolve

Found : Option S.Value → Type 0
Found none = Unit
Found (some v) = IsValue v

lookup_keeps : (s : Store) (n : Name) → IsStore s → Found (lookup s n)
unfolding lookup Found
lookup_keeps ∅ n hs = tt
lookup_keeps (entry m w s) n hs = cases (same m n) (λ e. rw (e, lookup) hs.2) (λ e. rw (e, lookup) (lookup_keeps s n hs.3))

find_keeps : (r : Path) (v : S.Value) → IsValue v → Found (find r v)
unfolding find Found
find_keeps [] v hv = hv
find_keeps (n ∷ r) (S.basic b) hv = tt
find_keeps (n ∷ r) (component s) hv = go (lookup s n) refl (lookup_keeps s n hv) (λ w h. find_keeps r w h)
  where
    go : (o : Option S.Value) → lookup s n ≡ o → Found o → ((w : S.Value) → IsValue w → Found (find r w)) → Found (find (n ∷ r) (component s))
    go none e h again = rw (e, find) tt
    go (some w) e h again = rw (e, find) (again w h)

resolve_keeps : (k : ℕ) (scope r : Path) (s : Store) → IsStore s → Found (resolve_in k scope r s)
unfolding resolve_in Found
resolve_keeps zero scope r s hs = find_keeps r (component s) hs
resolve_keeps (suc k) scope r s hs = go (find (take (suc k) scope ++ r) (component s)) refl (find_keeps (take (suc k) scope ++ r) (component s) hs) (resolve_keeps k scope r s hs)
  where
    go : (o : Option S.Value) → find (take (suc k) scope ++ r) (component s) ≡ o → Found o → Found (resolve_in k scope r s) → Found (resolve_in (suc k) scope r s)
    go none e h again = rw (e, resolve_in) again
    go (some w) e h again = rw (e, resolve_in) h

-- ---- bind and copy

Kept : Store → Type 0
Kept s = IsStore s

bind_keeps : (p : ℕ) (r : Path) (v : S.Value) (s : Store) → AreNames r → IsValue v → IsStore s → All Kept (bind p r v s)
unfolding bind Kept Found
bind_keeps p [] v s hr hv hs = numbered 1≤
bind_keeps p (n ∷ []) v s hr hv hs = holds (put_keeps s n v hr.0 hv hs)
bind_keeps p (n ∷ m ∷ r) v s hr hv hs = go (lookup s n) refl (lookup_keeps s n hs) (λ c hc. bind_keeps p (m ∷ r) v c hr.1 hv hc)
  where
    go : (o : Option S.Value) → lookup s n ≡ o → Found o → ((c : Store) → IsStore c → All Kept (bind p (m ∷ r) v c)) → All Kept (bind p (n ∷ m ∷ r) v s)
    go none e h again = rw (e, bind) (numbered 1≤)
    go (some (S.basic b)) e h again = rw (e, bind) (numbered 1≤)
    go (some (component c)) e h again = rw (e, bind) (all_bind _ (again c h) (λ c' hc. holds (put_keeps s n (component c') hr.0 hc hs)))

bounded_keeps : (p : ℕ) (s : Store) → IsStore s → All Kept (bounded p s)
unfolding bounded Kept
bounded_keeps p s hs = all_demand _ 16 _ _ 1≤ (λ _. all_demand _ 17 _ _ 1≤ (λ _. all_demand _ 18 _ _ 1≤ (λ _. holds hs)))

assign_keeps : (p : ℕ) (r : Path) (v : S.Value) (s : Store) → AreNames r → IsValue v → IsStore s → All Kept (Bounds.assign p r v s)
unfolding Bounds.assign Kept
assign_keeps p r v s hr hv hs = all_bind _ (bind_keeps p r v s hr hv hs) (λ s' h. bounded_keeps p s' h)

names-++ : (a b : Path) → AreNames a → AreNames b → AreNames (a ++ b)
names-++ [] b ha hb = hb
names-++ (n ∷ a) b ha hb = (ha.0, names-++ a b ha.1 hb)

copy_keeps : (p : ℕ) (r : Path) (t s : Store) → AreNames r → IsStore t → IsStore s → All Kept (copy p r t s)
unfolding copy Kept
copy_keeps p r ∅ s hr ht hs = holds hs
copy_keeps p r (entry n v t) s hr ht hs =
    all_bind _ (assign_keeps p (r ++ (n ∷ [])) v s (names-++ r (n ∷ []) hr (ht.0, tt)) ht.2 hs) (λ s' h. copy_keeps p r t s' hr ht.3 h)

inherit_keeps : (p : ℕ) (r : Path) (o : Option S.Value) (s : Store) → AreNames r → Found o → IsStore s → All Kept (inherit p r o s)
unfolding inherit Found
inherit_keeps p r none s hr ho hs = numbered 1≤
inherit_keeps p r (some (S.basic b)) s hr ho hs = numbered 1≤
inherit_keeps p r (some (component t)) s hr ho hs = copy_keeps p r t s hr ho hs

linked_keeps : (p : ℕ) (r : Path) (o : Option S.Value) (s : Store) → AreNames r → Found o → IsStore s → All Kept (linked p r o s)
unfolding linked Found
linked_keeps p r none s hr ho hs = numbered 1≤
linked_keeps p r (some v) s hr ho hs = assign_keeps p r v s hr ho hs

-- ---- the valuation functions

mutual
  unfolding B⟦◌⟧ Kept resolve

  block_keeps : (b : Block) (ns : Path) (s : Store) → IsBlock b → AreNames ns → IsStore s → All Kept (B⟦ b ⟧ ns s)
  block_keeps εᴮ ns s hb hn hs = holds hs
  block_keeps (a ∷ᴮ b) ns s hb hn hs = all_bind _ (statement_keeps a ns s hb.0 hn hs) (λ s' h. block_keeps b ns s' hb.1 hn h)

  statement_keeps : (a : Statement) (ns : Path) (s : Store) → IsStatement a → AreNames ns → IsStore s → All Kept (A⟦ a ⟧ ns s)
  statement_keeps (assign r v) ns s ha hn hs = value_keeps v ns (ns ++ r) s ha.1 hn (names-++ ns r hn ha.0.names) hs

  value_keeps : (v : Value) (ns r : Path) (s : Store) → IsValueOf v → AreNames ns → AreNames r → IsStore s → All Kept (V⟦ v ⟧ ns r s)
  value_keeps (basic p b) ns r s hv hn hr hs = assign_keeps p r (S.basic b) s hr hv.1 hs
  value_keeps (Value.link p l) ns r s hv hn hr hs = linked_keeps p r (resolve ns l s) s hr (resolve_keeps (length ns) ns l s hs) hs
  value_keeps (extends p ps) ns r s hv hn hr hs = all_bind _ (assign_keeps p r (component ∅) s hr tt hs) (λ s' h. prototypes_keep ps ns r s' hv.2 hn hr h)

  prototypes_keep : (ps : Prototypes) (ns r : Path) (s : Store) → ArePrototypes ps → AreNames ns → AreNames r → IsStore s → All Kept (P⟦ ps ⟧ ns r s)
  prototypes_keep εᴾ ns r s hp hn hr hs = holds hs
  prototypes_keep (named p l ps) ns r s hp hn hr hs =
      all_bind _ (inherit_keeps p r (resolve ns l s) s hr (resolve_keeps (length ns) ns l s hs) hs) (λ s' h. prototypes_keep ps ns r s' hp.2 hn hr h)
  prototypes_keep (block b ps) ns r s hp hn hr hs =
      all_bind _ (block_keeps b r s hp.0 hr hs) (λ s' h. prototypes_keep ps ns r s' hp.1 hn hr h)

kept_ok : {m : Answer Store} {t : Store} → All Kept m → m ≡ ok t → IsStore t
unfolding Kept
kept_ok (holds {x = s} h) e = let q : s ≡ _ = inside e in subst (λ x. IsStore x) q h
  where
    inside : {a b : Store} → ok a ≡ ok b → a ≡ b
    inside e = cc
kept_ok (numbered a) e = let z : ◌≡◌ {A = ℕ} 0 1 = cc in absurd (omega arith)

-- the theorem: what a block gives is a store as it should be
pub keeps : (b : Block) (ns : Path) (s t : Store) → IsBlock b → AreNames ns → IsStore s → B⟦ b ⟧ ns s ≡ ok t → IsStore t
keeps b ns s t hb hn hs e = kept_ok (block_keeps b ns s hb hn hs) e

pub bind_kept : (p : ℕ) (r : Path) (v : S.Value) (s t : Store) → AreNames r → IsValue v → IsStore s → bind p r v s ≡ ok t → IsStore t
bind_kept p r v s t hr hv hs e = kept_ok (bind_keeps p r v s hr hv hs) e
