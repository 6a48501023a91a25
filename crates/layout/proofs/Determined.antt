-- Of each public function, any two results that its contract allows for the same arguments are one. Assumes nothing.
use Prim.Native.Nat.{ℕ, ◌≤◌}
use native.Mathlib.Omega.{arith}
use mathlib.Core.Path.{◌≡◌, sym, ap, ◌∙◌}
use mathlib.Core.List.{List}
use mathlib.Core.Option.{Option, some-injective}
use lib.ListN.{length, length-drop}
use Rattle.paper.specs.Decoder.{Cursor}
use Rattle.paper.specs.DecodeAt.{cursor}
use Rattle.paper.specs.Determines.{Determines, ◌&◌}
use Rattle.layout.specs.Walk.{WalkIs, Inside}
use Rattle.std.specs.Prelude.{Option as RustOption, Some, None}
use Rattle.layout.specs.declared.walk.Place.{Place}
use Rattle.layout.proofs.Steps.{place}
use Rattle.layout.proofs.walk.head.Reads as Head
use Rattle.layout.proofs.walk.basic.Reads as Basic

-- one reader stands at one place of the text, and of the records too, which it has not left
one_place : (recs recs' text text' : List ℕ) (i i' p p' : ℕ)
    → recs ≡ recs' → cursor recs text i p ≡ cursor recs' text' i' p' → i ≤ length recs → i' ≤ length recs'
    → place i p ≡ place i' p'
unfolding cursor
one_place recs recs' text text' i i' p p' g e l l' =
    let records : i ≡ i' = omega (arith, ap length g, simp length-drop at (ap (λ (c : Cursor). length c.recs) e)) in
    let place : p ≡ p' = ap (λ (c : Cursor). c.pos) e in
    cc

walk_one : {A : Type 0} (o o' : Option (A × Cursor)) (recs recs' text text' : List ℕ) (r r' : RustOption Place)
    → WalkIs o recs text r → WalkIs o' recs' text' r' → Inside recs r → Inside recs' r' → o ≡ o' → recs ≡ recs'
    → r ≡ r'
walk_one {A} o o' recs recs' text text' (Some at) (Some at') e f l l' h g =
    let s = some-injective _ _ (sym e.1 ∙ h ∙ f.1) in
    ap Some (one_place recs recs' text text' at.record at'.record at.text at'.text g (ap (λ (x : A × Cursor). x.1) s) l l')
walk_one o o' recs recs' text text' (Some at) None e f l l' h g = cc
walk_one o o' recs recs' text text' None (Some at') e f l l' h g = cc
walk_one o o' recs recs' text text' None None e f l l' h g = cc

pub record Determined : Type 0 where
  pub head : Determines Head.Post (λ _ (form, (recs, (i, (depth, (left, _))))). form & recs.now & i & depth & left)
      λ _ r _. r
  pub basic : Determines Basic.Post
      (λ _ (form, (body, (depth, (span, (at, _))))). form & body.records.now & body.text.now & depth & span & at)
      λ _ r _. r

pub determined : Determined
determined =
    record {
      head = λ _ _ _ _ _ _ _ _ g e f. cc;
      basic = λ _ _ _ _ r r' _ _ g e f. walk_one _ _ _ _ _ _ r r' e.0 f.0 e.1 f.1 (cc) (cc);
    }
