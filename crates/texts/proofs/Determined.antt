-- Of each public function, any two results that its contract allows for the same arguments are one. Assumes nothing.
use Prim.Native.Nat.{ℕ}
use mathlib.Core.Path.{◌≡◌, sym, ap, ◌∙◌}
use mathlib.Core.List.{List, []}
use mathlib.Core.Option.{Option, some-injective}
use Rattle.paper.specs.Decoder.{Cursor, leaf, field, name_of, path_of}
use Rattle.paper.specs.DecodeAt.{cursor}
use Rattle.paper.specs.Determines.{Determines, ◌&◌}
use Rattle.texts.specs.Text.{FoundIs}
use Rattle.std.specs.Prelude.{Option as RustOption}
use Rattle.std.specs.Prelude.{Some, None}
use Rattle.texts.proofs.byte.Reads as Byte
use Rattle.texts.proofs.leaf.Reads as Leaf
use Rattle.texts.proofs.name_here.Reads as NameHere
use Rattle.texts.proofs.path_here.Reads as PathHere

-- a reader that found something stands at one place of the text: take that there are no records
found_one : {A : Type 0} (read read' : Cursor → Option (A × Cursor)) (text text' : List ℕ) (p p' : ℕ) (r r' : RustOption ℕ)
    → FoundIs read text p r → FoundIs read' text' p' r' → read ≡ read' → text ≡ text' → p ≡ p' → r ≡ r'
unfolding cursor
found_one {A} read read' text text' p p' (Some q) (Some q') e f x y z =
    let s : read (cursor [] text 0 p) ≡ read' (cursor [] text' 0 p') = cc in
    ap Some (ap (λ (c : A × Cursor). c.1.pos) (some-injective _ _ (sym (e [] 0).1 ∙ s ∙ (f [] 0).1)))
found_one read read' text text' p p' (Some q) None e f x y z = cc ((e [] 0).1, f [] 0)
found_one read read' text text' p p' None (Some q') e f x y z = cc (e [] 0, (f [] 0).1)
found_one read read' text text' p p' None None e f x y z = cc

pub record Determined : Type 0 where
  pub byte : Determines Byte.Post (λ _ (s, (at, _)). s.now & at) λ _ r _. r
  pub leaf : Determines Leaf.Post (λ _ (text, (kind, (value, (p, _)))). text.now & kind & value & p) λ _ r _. r
  pub name_here : Determines NameHere.Post (λ _ (text, (place, (p, _))). text.now & place & p) λ _ r _. r
  pub path_here : Determines PathHere.Post (λ _ (text, (place, (p, _))). text.now & place & p) λ _ r _. r

pub determined : Determined
determined =
    record {
      byte = λ _ _ _ _ _ _ _ _ g e f. cc;
      leaf = λ _ _ a a' r r' _ _ g e f.
          found_one (leaf a.1.0 a.1.1.0) (leaf a'.1.0 a'.1.1.0) a.0.now a'.0.now a.1.1.1.0 a'.1.1.1.0 r r' e f (cc) (cc) (cc);
      name_here = λ _ _ a a' r r' _ _ g e f.
          found_one (field name_of a.1.0) (field name_of a'.1.0) a.0.now a'.0.now a.1.1.0 a'.1.1.0 r r' e f (cc) (cc) (cc);
      path_here = λ _ _ a a' r r' _ _ g e f.
          found_one (field path_of a.1.0) (field path_of a'.1.0) a.0.now a'.0.now a.1.1.0 a'.1.1.0 r r' e f (cc) (cc) (cc);
    }
