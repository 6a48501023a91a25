-- Basics that are no vectors: the paper's reader, one law for each way through the code. Assumes nothing.
use Prim.Native.Nat.{ℕ, ◌+◌, ◌-◌, ◌≤◌, ◌<◌}
use native.Mathlib.Omega.{arith}
use mathlib.Core.Path.{◌≡◌, refl}
use mathlib.Core.List.{List}
use mathlib.Core.Option.{Option, none, some}
use lib.ListN.{drop}
use mathlib.Core.Bool.{Bool, true, false}
use lib.Dec.{eqb}
use borrow.Author.Tests.{le-leb, lt-leb, eq-eqb, ne_eqb}
use Rattle.paper.specs.Bytes.{when◌then◌else◌}
use Rattle.paper.specs.Maybe.{◌>>=◌, require}
use Rattle.paper.specs.Syntax.{boolean, null, integer, decimal, string, reference}
use Rattle.paper.specs.Decoder.{decimal_of, string_of, path_of, field, signed, leaf}
use Rattle.theorems.proofs.Laws.DecodeAt.{field_here, field_none, field_misplaced}
use Rattle.paper.specs.DecodeAt.{cursor}
use Rattle.std.specs.Prelude.{Option as RustOption}
use Rattle.std.specs.Prelude.{Some, None}
use Rattle.texts.specs.Text.{Ends, EndIs, LeafIs, FieldIs}

-- ---- values that are numbers

module _ (text : List ℕ) (p v k : ℕ) where
  pub integer_leaf : k ≡ 3 → LeafIs text k v p (Some p)
  unfolding leaf when◌then◌else◌
  integer_leaf e recs i = rw e (integer (signed v), refl)

  pub zero_leaf : k ≡ 0 → LeafIs text k v p None
  unfolding leaf when◌then◌else◌
  zero_leaf e recs i = rw e

  pub vector_leaf : k ≡ 7 → LeafIs text k v p None
  unfolding leaf when◌then◌else◌
  vector_leaf e recs i = rw e

  pub boolean_leaf : k ≡ 1 → v ≤ 1 → LeafIs text k v p (Some p)
  unfolding leaf when◌then◌else◌ ◌>>=◌ require
  boolean_leaf e h recs i = rw e (boolean (eqb v 1), rw (le-leb v 1 h))

  pub boolean_no : k ≡ 1 → 1 < v → LeafIs text k v p None
  unfolding leaf when◌then◌else◌ ◌>>=◌ require
  boolean_no e h recs i = rw (e, lt-leb v 1 h)

  pub null_leaf : k ≡ 2 → v ≡ 0 → LeafIs text k v p (Some p)
  unfolding leaf when◌then◌else◌ ◌>>=◌ require
  null_leaf e h recs i = rw e (null, rw (eq-eqb v 0 h))

  pub null_no : k ≡ 2 → (v ≡ 0 → ⊥) → LeafIs text k v p None
  unfolding leaf when◌then◌else◌ ◌>>=◌ require
  null_no e h recs i = rw (e, ne_eqb v 0 h)

-- ---- values that are places of texts

module _ {A : Type 0} (r : List ℕ → Option (A × List ℕ)) (text : List ℕ) (p q : ℕ) (E : Ends (r (drop p text)) text p q) (recs : List ℕ) (i : ℕ) where
  pub field_ends : field r p (cursor recs text i p) ≡ some (E.what, cursor recs text i q)
  field_ends =
      let n : p + (q - p) ≡ q = omega (arith, E.on) in
      rw n at (field_here r recs text i p (q - p) E.what (rw n E.within) (rw n E.is))

-- ---- texts whose place a record says

module _ {A : Type 0} (r : List ℕ → Option (A × List ℕ)) (text : List ℕ) (place p : ℕ) where
  pub field_elsewhere : (place ≡ p → ⊥) → FieldIs r text place p None
  field_elsewhere h recs i = field_misplaced r recs text i p place h

  pub field_is : place ≡ p → (o : RustOption ℕ) → EndIs (r (drop p text)) text p o → FieldIs r text place p o
  field_is h (Some q) E = λ recs i. (E.what, rw h (field_ends r text p q E recs i))
  field_is h None E = λ recs i. field_none r recs text i p place E

module _ (text : List ℕ) (p k : ℕ) where
  pub decimal_leaf : (r : RustOption ℕ) → k ≡ 4 → EndIs (decimal_of (drop p text)) text p r → LeafIs text k p p r
  unfolding leaf when◌then◌else◌ ◌>>=◌
  decimal_leaf (Some q) e E = λ recs i. rw e (decimal E.what, rw (field_ends decimal_of text p q E recs i))
  decimal_leaf None e E = λ recs i. rw (e, field_none decimal_of recs text i p p E)

  pub string_leaf : (r : RustOption ℕ) → k ≡ 5 → EndIs (string_of (drop p text)) text p r → LeafIs text k p p r
  unfolding leaf when◌then◌else◌ ◌>>=◌
  string_leaf (Some q) e E = λ recs i. rw e (string E.what, rw (field_ends string_of text p q E recs i))
  string_leaf None e E = λ recs i. rw (e, field_none string_of recs text i p p E)

  pub path_leaf : (r : RustOption ℕ) → k ≡ 6 → EndIs (path_of (drop p text)) text p r → LeafIs text k p p r
  unfolding leaf when◌then◌else◌ ◌>>=◌
  path_leaf (Some q) e E = λ recs i. rw e (reference E.what, rw (field_ends path_of text p q E recs i))
  path_leaf None e E = λ recs i. rw (e, field_none path_of recs text i p p E)

  pub no_leaf : (v : ℕ) → 3 < k → (k ≡ 4 → ⊥) → (k ≡ 5 → ⊥) → (k ≡ 6 → ⊥) → LeafIs text k v p None
  unfolding leaf when◌then◌else◌
  no_leaf v h a b c recs i =
      rw (ne_eqb k 1 (λ e. omega arith), ne_eqb k 2 (λ e. omega arith), ne_eqb k 3 (λ e. omega arith), ne_eqb k 4 a, ne_eqb k 5 b, ne_eqb k 6 c)

  pub misplaced_leaf : (v : ℕ) → 3 < k → (v ≡ p → ⊥) → LeafIs text k v p None
  unfolding leaf when◌then◌else◌ ◌>>=◌
  misplaced_leaf v h m recs i =
      rw (ne_eqb k 1 (λ e. omega arith), ne_eqb k 2 (λ e. omega arith), ne_eqb k 3 (λ e. omega arith), field_misplaced decimal_of recs text i p v m, field_misplaced string_of recs text i p v m, field_misplaced path_of recs text i p v m)
      (none_all (eqb k 4) (eqb k 5) (eqb k 6))
    where
      none_all : {B : Type 0} (a b c : Bool) → ◌≡◌ {A = Option B} (when a then none else when b then none else when c then none else none) none
      none_all true b c = refl
      none_all false true c = refl
      none_all false false true = refl
      none_all false false false = refl
