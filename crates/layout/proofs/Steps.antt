-- The rules by which what each function over records answers follows from what its calls answered, one for each way through its code.
-- Assumes nothing.
use Prim.Native.Nat.{ℕ, ◌+◌, ◌-◌, ◌≤◌, ◌<◌}
use native.Mathlib.Omega.{arith}
use native.Mathlib.Numerals.{add-one}
use mathlib.Core.Path.{◌≡◌, sym, ◌∙◌, ap}
use mathlib.Core.Bool.{true}
use mathlib.Core.List.{List}
use mathlib.Core.Option.{Option, none, some}
use lib.ListN.{length}
use borrow.Author.Tests.{le-leb, lt-leb, eq-eqb, ne_eqb}
use Rattle.paper.specs.Bytes.{when◌then◌else◌}
use Rattle.paper.specs.Maybe.{◌>>=◌, require}
use Rattle.paper.specs.Syntax.{vector, εⱽ, ◌∷ⱽ◌}
use Rattle.paper.specs.Decoder.{Cursor}
use Rattle.theorems.proofs.Laws.DecodeAt.{Bytes}
use Rattle.paper.specs.DecodeAt.{word, raw_at, cursor}
use Rattle.theorems.proofs.Laws.DecodeFree.{basic_body, basic_is, elements_none}
use Rattle.paper.specs.DecodeFrom.{basic_from}
use Rattle.memory.specs.Memory.{word_at}
use Rattle.memory.proofs.Laws.{word_in}
use Rattle.forms.specs.declared.form.Form.{Form}
use Rattle.std.specs.Prelude.{Option as RustOption, Some, None}
use Rattle.layout.specs.declared.walk.Place.{Place}
use Rattle.forms.specs.Form.{form_of, size_of, top_of, kind_of, fits_in}
use Rattle.texts.specs.Text.{LeafIs}
use Rattle.layout.specs.Walk.{WalkIs, basic_here, elements_here}
use Rattle.forms.proofs.Forms.{fields_in}
use Rattle.layout.proofs.Heads.{Head, record_outside, basic_inside, elements_open, stop, sized}

abbrev pub place : ℕ → ℕ → Place
place i p = record { «record» = i; text = p }

module _ {A B : Type 0} (recs text : List ℕ) (o : Option (A × Cursor)) (f : A → B) where
  -- what was found is put into something
  pub onto : (r : RustOption Place) → WalkIs o recs text r → WalkIs (o >>= λ x. some (f x.0, x.1)) recs text r
  unfolding ◌>>=◌
  onto (Some at) w = (f w.0, rw w.1)
  onto None w = rw w

-- ---- basics

module _ (form : Form) (recs text : List ℕ) (d m i p : ℕ) (b : Bytes recs) where
  pub basic_outside : length recs < i + size_of form → basic_here form recs text d m i p ≡ none
  unfolding basic_here
  basic_outside h = stop _ (record_outside form recs text i p b h)

  module _ (h : i + size_of form ≤ length recs) (k v : ℕ) (e : k ≡ kind_of form recs i) (f : v ≡ word_at 8 recs (i + 8)) where
    kind_is : (form_of form).kind_in (raw_at (form_of form).width recs i) ≡ k
    unfolding kind_of size_of
    kind_is = ap (form_of form).kind_in (sym (fields_in (form_of form).width recs i h)) ∙ sym e

    value_is : word 8 recs (i + 8) ≡ v
    value_is = sym (f ∙ word_in 8 recs (i + 8) (omega (arith, sized form)))

    basic_open : basic_here form recs text d m i p ≡ basic_from (form_of form) d k m v (cursor recs text (i + size_of form) p)
    basic_open = basic_inside form recs text i p b d m h ∙ rw (kind_is, value_is)

    pub basic_valued : k ≡ 7 → (v ≡ 0 → ⊥) → basic_here form recs text d m i p ≡ none
    unfolding basic_body when◌then◌else◌ ◌>>=◌ require
    basic_valued a z = basic_open ∙ basic_is (form_of form) d k m v _ ∙ rw (a, ne_eqb v 0 z)

    pub basic_deep : k ≡ 7 → v ≡ 0 → top_of form < d → basic_here form recs text d m i p ≡ none
    unfolding basic_body when◌then◌else◌ ◌>>=◌ require top_of
    basic_deep a z l = basic_open ∙ basic_is (form_of form) d k m v _ ∙ rw (a, eq-eqb v 0 z, lt-leb d (form_of form).top l)

    pub basic_vector : (r : RustOption Place) → k ≡ 7 → v ≡ 0 → d ≤ top_of form → WalkIs (elements_here form recs text (d + 1) (m - 1) (i + size_of form) p) recs text r → WalkIs (basic_here form recs text d m i p) recs text r
    unfolding basic_body when◌then◌else◌ ◌>>=◌ require top_of elements_here
    basic_vector r a z l w =
        rw (basic_open, basic_is (form_of form) d k m v (cursor recs text (i + size_of form) p), a, eq-eqb v 0 z, le-leb d (form_of form).top l)
        (onto recs text _ vector r (rw (add-one d) at w))

    pub basic_wide : (k ≡ 7 → ⊥) → (m ≡ 1 → ⊥) → basic_here form recs text d m i p ≡ none
    unfolding basic_body when◌then◌else◌ ◌>>=◌ require
    basic_wide a z = basic_open ∙ basic_is (form_of form) d k m v _ ∙ rw (ne_eqb k 7 a, ne_eqb m 1 z)

    pub basic_leaf : (q : ℕ) → (k ≡ 7 → ⊥) → m ≡ 1 → LeafIs text k v p (Some q) → WalkIs (basic_here form recs text d m i p) recs text (Some (place (i + size_of form) q))
    unfolding basic_body when◌then◌else◌ ◌>>=◌ require
    basic_leaf q a z w =
        let t = w recs (i + size_of form) in
        (t.0, basic_open ∙ basic_is (form_of form) d k m v _ ∙ rw (ne_eqb k 7 a, eq-eqb m 1 z) t.1)

    pub basic_no : (k ≡ 7 → ⊥) → m ≡ 1 → LeafIs text k v p None → basic_here form recs text d m i p ≡ none
    unfolding basic_body when◌then◌else◌ ◌>>=◌ require
    basic_no a z w = basic_open ∙ basic_is (form_of form) d k m v _ ∙ rw (ne_eqb k 7 a, eq-eqb m 1 z) (w recs (i + size_of form))

-- ---- elements

pub elements_end : (form : Form) (recs text : List ℕ) (d n i p : ℕ) → n ≡ 0 → WalkIs (elements_here form recs text d n i p) recs text (Some (place i p))
unfolding elements_here
elements_end form recs text d n i p z = (εⱽ, rw z (elements_none (form_of form) d (cursor recs text i p)))

module _ (form : Form) (recs text : List ℕ) (d n i p : ℕ) (b : Bytes recs) (H : Head form recs i d n) (l : fits_in form recs i d ≡ true) (s : ℕ) (f : s ≡ word 2 recs (i + 6)) where
  pub elements_no : basic_here form recs text d s i p ≡ none → elements_here form recs text d n i p ≡ none
  unfolding ◌>>=◌
  elements_no w = elements_open form recs text i p d b n H l ∙ rw (← f, w)

  pub elements_more : (j q : ℕ) (r : RustOption Place) → WalkIs (basic_here form recs text d s i p) recs text (Some (place j q)) → WalkIs (elements_here form recs text d (n - s) j q) recs text r → WalkIs (elements_here form recs text d n i p) recs text r
  unfolding elements_here ◌>>=◌
  elements_more j q r w t =
      let o : elements_here form recs text d n i p ≡ _ = elements_open form recs text i p d b n H l in
      rw (o, ← f, w.1) (onto recs text _ (w.0 ∷ⱽ◌) r t)
