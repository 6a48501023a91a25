-- The values of statements and the prototypes that are references: the paper's readers, one law for each way through the code.
-- Assumes nothing.
use Rattle.std.specs.Prelude.{Option as RustOption, Some, None}
use Rattle.layout.specs.declared.walk.Place.{Place}
use Rattle.layout.proofs.Steps.{place}
use Prim.Native.Nat.{ℕ, suc, ◌+◌, ◌≤◌, ◌<◌}
use native.Mathlib.Omega.{arith}
use native.Mathlib.Nat.{le_refl}
use mathlib.Core.Path.{◌≡◌, refl, sym, ◌∙◌, ap}
use mathlib.Core.Bool.{Bool, true, false}
use mathlib.Core.List.{List, [], ◌∷◌}
use mathlib.Core.Logic.{◌⊎◌, inl, inr, ⊎_elim}
use mathlib.Core.Option.{Option, none, some}
use lib.ListN.{length, get_or}
use lib.Dec.{eqb}
use borrow.Author.Tests.{le-leb, lt-leb, eq-eqb, ne_eqb}
use Rattle.paper.specs.Bytes.{when◌then◌else◌}
use Rattle.paper.specs.Maybe.{◌>>=◌, require}
use Rattle.paper.specs.Syntax.{basic, link, extends, Prototypes, εᴾ, named}
use Rattle.paper.specs.Decoder.{Cursor, Raw, record_at, field, path_of}
use Rattle.paper.specs.StepDecoder.{in_steps, plain, bare, some_prototype}
use Rattle.theorems.proofs.Laws.Answers.{if_case}
use Rattle.theorems.proofs.Laws.Found.{Found, nothing, found, found_some}
use Rattle.theorems.proofs.Laws.DecodeAt.{Bytes, record_here, record_short}
use Rattle.paper.specs.DecodeAt.{word, raw_at, cursor}
use Rattle.theorems.proofs.Laws.DecodeFree.{value_body, value_is, prototype_body, prototypes_is}
use Rattle.paper.specs.DecodeFrom.{statements_from, prototypes_from}
use Rattle.memory.specs.Memory.{word_at}
use Rattle.memory.proofs.Laws.{fit, word_in}
use Rattle.forms.specs.declared.form.Form.TheVariants.{Steps}
use Rattle.forms.specs.Form.{form_of, size_of, fields}
use Rattle.texts.specs.Text.{FieldIs}
use Rattle.layout.specs.Walk.{WalkIs, basic_here}
use Rattle.forms.proofs.Forms.{fields_in}
use Rattle.layout.proofs.Heads.{basic_inside}
use Rattle.layout.proofs.Steps.{onto}
use Rattle.kinds.specs.declared.Step.{Step}
use Rattle.kinds.specs.declared.Step.TheVariants.{Make, Take, Enter, Leave, Done, Set, Item, Link}
use Rattle.kinds.specs.Numbers.{step_number}
use Rattle.kinds.proofs.One.{step_one}
use Rattle.steplist.proofs.Records.{plain_step}
use Rattle.steplist.specs.Walk.{WalkOn, value_here, prototypes_here, take_at, take_here}

-- ---- whether the first of prototypes is a done

any : {X Y : Type 0} {Q : Y → Type 0} (m : Option X) (f : X → Option Y) → ((x : X) → Found Q (f x)) → Found Q (m >>= f)
unfolding ◌>>=◌
any none f h = nothing
any (some x) f h = h x

abbrev Begins : Prototypes × Cursor → Type 0
Begins y = some_prototype y.0 ≡ true

module _ (recs text : List ℕ) (d j p : ℕ) (b : Bytes recs) (t : ℕ) (e : t ≡ word_at 2 recs j) where
  -- a done: no prototype is found, or none at all
  pub none_first : t ≡ 5 → (prototypes_from d (cursor recs text j p) ≡ none) ⊎ ((c : Cursor) × (prototypes_from d (cursor recs text j p) ≡ some (εᴾ, c)))
  unfolding prototype_body when◌then◌else◌ raw_at ◌>>=◌
  none_first f =
      ⊎_elim
      (λ w.
      let g : word 2 recs j ≡ 5 = sym (e ∙ word_in 2 recs j (omega arith)) ∙ f in
      let q : prototypes_from d (cursor recs text j p) ≡ bare 5 (raw_at 4 recs j) >>= λ _. some (εᴾ, cursor recs text (j + 20) p) = prototypes_is d (cursor recs text j p) ∙ rw (record_here 4 recs text j p b w, g) in
      either (bare 5 (raw_at 4 recs j)) q)
      (λ w. inl (prototypes_is d (cursor recs text j p) ∙ rw (record_short 4 recs text j p b w)))
      (fit (j + 20) (length recs))
    where
      either : (m : Option (Unit {0})) → prototypes_from d (cursor recs text j p) ≡ m >>= (λ _. some (εᴾ, cursor recs text (j + 20) p))
          → (prototypes_from d (cursor recs text j p) ≡ none) ⊎ ((c : Cursor) × (prototypes_from d (cursor recs text j p) ≡ some (εᴾ, c)))
      either none q = inl q
      either (some u) q = inr (cursor recs text (j + 20) p, q)

  module _ (f : t ≡ 5 → ⊥) where
    outside : length recs < j + 20 → Found Begins (prototype_body statements_from prototypes_from d (cursor recs text j p))
    unfolding prototype_body ◌>>=◌
    outside w = rw (record_short 4 recs text j p b w) nothing

    no_done : (x : Raw) → (x.first ≡ 5 → ⊥) → bare 5 x ≡ none
    unfolding bare plain ◌>>=◌ require
    no_done x h = rw (ne_eqb x.first 5 h)

    first_is : j + 20 ≤ length recs → (raw_at 4 recs j).first ≡ t
    unfolding raw_at
    first_is w = sym (e ∙ word_in 2 recs j (omega arith))

    body : (x : Raw) (at : Cursor) → (x.first ≡ 5 → ⊥) → record_at 4 (cursor recs text j p) ≡ some (x, at) → Found Begins (prototype_body statements_from prototypes_from d (cursor recs text j p))
    unfolding prototype_body ◌>>=◌ some_prototype
    body x at h q =
        rw q (if_case (Found Begins) _ _ _
        (λ _. any (plain 2 x) _ (λ _. any (require _) _ (λ _. any (field path_of x.label at) _ (λ l. any (prototypes_from d l.1) _ (λ ps. found refl)))))
        (λ _. if_case (Found Begins) _ _ _
        (λ _. any (bare 3 x) _ (λ _. any (require _) _ (λ _. any (statements_from (suc d) at) _ (λ b. any (record_at 4 b.1) _ (λ y. any (bare 4 y.0) _ (λ _. any (prototypes_from d y.1) _ (λ ps. found refl)))))))
        (λ _. rw (no_done x h) nothing)))

    inside : j + 20 ≤ length recs → Found Begins (prototypes_from d (cursor recs text j p))
    inside w = rw (prototypes_is d (cursor recs text j p)) (body (raw_at 4 recs j) (cursor recs text (j + 20) p) (λ z. f (sym (first_is w) ∙ z)) (record_here 4 recs text j p b w))

    -- no done: what is found begins with a prototype
    pub some_first : Found Begins (prototypes_from d (cursor recs text j p))
    some_first = ⊎_elim inside (λ w. rw (prototypes_is d (cursor recs text j p)) (outside w)) (fit (j + 20) (length recs))

-- ---- values

module _ (recs text : List ℕ) (d i p : ℕ) (h : i + 20 ≤ length recs) where
  pub plain_is : (step : ℕ) (r : Bool) → plain step (fields 4 recs i) ≡ require r → plain step (raw_at 4 recs i) ≡ require r
  plain_is step r e = ap (plain step) (sym (fields_in 4 recs i h)) ∙ e

  -- ---- a set

  module _ (b : Bytes recs) (e : word 2 recs i ≡ 6) (s : ℕ) (f : s ≡ word_at 2 recs (i + 6)) where
    span_is : word 2 recs (i + 6) ≡ s
    span_is = sym (f ∙ word_in 2 recs (i + 6) (omega arith))

    pub set_none : s < 1 → value_here recs text d i p ≡ none
    unfolding value_body raw_at when◌then◌else◌ ◌>>=◌ require
    set_none l = value_is d (raw_at 4 recs i) (cursor recs text (i + 20) p) ∙ rw (e, span_is, lt-leb 1 s l)

    pub set_basic : (r : RustOption Place) → 1 ≤ s → WalkIs (basic_here Steps recs text d s i p) recs text r → WalkIs (value_here recs text d i p) recs text r
    unfolding value_body raw_at size_of form_of in_steps when◌then◌else◌ ◌>>=◌ require
    set_basic r l w =
        let q = basic_inside Steps recs text i p b d s h in
        rw (value_is d (raw_at 4 recs i) (cursor recs text (i + 20) p), e, span_is, le-leb 1 s l) (onto recs text _ (basic (word 4 recs (i + 16))) r (rw q at w))

  -- ---- a link

  module _ (e : word 2 recs i ≡ 8) where
    not_set : eqb (raw_at 4 recs i).first 6 ≡ false
    unfolding raw_at
    not_set = ne_eqb (word 2 recs i) 6 (λ z. omega arith)

    is_link : eqb (raw_at 4 recs i).first 8 ≡ true
    unfolding raw_at
    is_link = eq-eqb (word 2 recs i) 8 e

    pub link_marred : plain 8 (fields 4 recs i) ≡ require false → value_here recs text d i p ≡ none
    unfolding value_body when◌then◌else◌ ◌>>=◌ require
    link_marred g =
        value_is d (raw_at 4 recs i) (cursor recs text (i + 20) p) ∙ rw (not_set, is_link, plain_is 8 false g)

    module _ (g : plain 8 (fields 4 recs i) ≡ require true) (v : ℕ) (f : v ≡ word_at 8 recs (i + 8)) where
      value_v : (raw_at 4 recs i).value ≡ v
      unfolding raw_at
      value_v = sym (f ∙ word_in 8 recs (i + 8) (omega arith))

      pub link_no : FieldIs path_of text v p None → value_here recs text d i p ≡ none
      unfolding value_body when◌then◌else◌ ◌>>=◌ require
      link_no F = value_is d (raw_at 4 recs i) (cursor recs text (i + 20) p) ∙ rw (not_set, is_link, plain_is 8 true g, value_v, F recs (i + 20))

      pub link_path : (q : ℕ) → FieldIs path_of text v p (Some q) → WalkIs (value_here recs text d i p) recs text (Some (place (i + 20) q))
      unfolding value_body when◌then◌else◌ ◌>>=◌ require
      link_path q F =
          let P = F recs (i + 20) in
          (link (raw_at 4 recs i).place P.0, value_is d (raw_at 4 recs i) (cursor recs text (i + 20) p) ∙ rw (not_set, is_link, plain_is 8 true g, value_v, P.1))

  -- ---- a prototype that is a reference

  pub take_marred : plain 2 (fields 4 recs i) ≡ require false → take_here recs text i p ≡ none
  unfolding take_at ◌>>=◌ require
  take_marred g = rw (plain_is 2 false g)

  module _ (g : plain 2 (fields 4 recs i) ≡ require true) (v : ℕ) (f : v ≡ word_at 8 recs (i + 8)) where
    value_t : (raw_at 4 recs i).value ≡ v
    unfolding raw_at
    value_t = sym (f ∙ word_in 8 recs (i + 8) (omega arith))

    pub take_valued : (v ≡ 0 → ⊥) → take_here recs text i p ≡ none
    unfolding take_at ◌>>=◌ require
    take_valued z = rw (plain_is 2 true g, value_t, ne_eqb v 0 z)

    module _ (z : v ≡ 0) (l : ℕ) (k : l ≡ word_at 2 recs (i + 4)) where
      label_l : (raw_at 4 recs i).label ≡ l
      unfolding raw_at
      label_l = sym (k ∙ word_in 2 recs (i + 4) (omega arith))

      pub take_no : FieldIs path_of text l p None → take_here recs text i p ≡ none
      unfolding take_at ◌>>=◌ require
      take_no F = rw (plain_is 2 true g, value_t, eq-eqb v 0 z, label_l, F recs (i + 20))

      pub take_path : (q : ℕ) → FieldIs path_of text l p (Some q) → WalkOn (take_here recs text i p) recs text i (Some (place (i + 20) q))
      unfolding take_at ◌>>=◌ require
      take_path q F =
          let P = F recs (i + 20) in
          ((named (raw_at 4 recs i).place P.0, rw (plain_is 2 true g, value_t, eq-eqb v 0 z, label_l, P.1)), le_refl (i + 20))

  -- ---- a make

  module _ (s : ℕ) (es : s ≡ word_at 2 recs i) (n₆ : s ≡ 6 → ⊥) (n₈ : s ≡ 8 → ⊥) where
    first_s : word 2 recs i ≡ s
    first_s = sym (es ∙ word_in 2 recs i (omega arith))

    no_set : eqb (raw_at 4 recs i).first 6 ≡ false
    unfolding raw_at
    no_set = ne_eqb (word 2 recs i) 6 (λ z. n₆ (sym first_s ∙ z))

    no_link : eqb (raw_at 4 recs i).first 8 ≡ false
    unfolding raw_at
    no_link = ne_eqb (word 2 recs i) 8 (λ z. n₈ (sym first_s ∙ z))

    pub make_marred : plain 1 (fields 4 recs i) ≡ require false → value_here recs text d i p ≡ none
    unfolding value_body when◌then◌else◌ ◌>>=◌ require
    make_marred g = value_is d (raw_at 4 recs i) (cursor recs text (i + 20) p) ∙ rw (no_set, no_link, plain_is 1 false g)

    pub no_value : (s ≡ 1 → ⊥) → value_here recs text d i p ≡ none
    no_value n₁ = make_marred (plain_step recs i 1 s es n₁)

    module _ (g : plain 1 (fields 4 recs i) ≡ require true) (v : ℕ) (f : v ≡ word_at 8 recs (i + 8)) where
      value_m : (raw_at 4 recs i).value ≡ v
      unfolding raw_at
      value_m = sym (f ∙ word_in 8 recs (i + 8) (omega arith))

      pub make_valued : (v ≡ 0 → ⊥) → value_here recs text d i p ≡ none
      unfolding value_body when◌then◌else◌ ◌>>=◌ require
      make_valued z = value_is d (raw_at 4 recs i) (cursor recs text (i + 20) p) ∙ rw (no_set, no_link, plain_is 1 true g, value_m, ne_eqb v 0 z)

      module _ (z : v ≡ 0) where
        make_open : value_here recs text d i p ≡ prototypes_here recs text d (i + 20) p >>= λ y. require (some_prototype y.0) >>= λ _. some (extends (raw_at 4 recs i).place y.0, y.1)
        unfolding value_body when◌then◌else◌ ◌>>=◌ require
        make_open = value_is d (raw_at 4 recs i) (cursor recs text (i + 20) p) ∙ rw (no_set, no_link, plain_is 1 true g, value_m, eq-eqb v 0 z)

        pub make_done : Bytes recs → (t : ℕ) → t ≡ word_at 2 recs (i + 20) → t ≡ 5 → value_here recs text d i p ≡ none
        unfolding ◌>>=◌ require some_prototype
        make_done b t e f = make_open ∙ ⊎_elim (λ q. rw q) (λ q. rw q.1) (none_first recs text d (i + 20) p b t e f)

        pub make_prototypes : Bytes recs → (t : ℕ) → t ≡ word_at 2 recs (i + 20) → (t ≡ 5 → ⊥) → (r : RustOption Place) → WalkIs (prototypes_here recs text d (i + 20) p) recs text r → WalkIs (value_here recs text d i p) recs text r
        unfolding ◌>>=◌ require
        make_prototypes b t e f (Some at) w =
            let o : some_prototype w.0 ≡ true = found_some (some_first recs text d (i + 20) p b t e f) w.1 in
            (extends (raw_at 4 recs i).place w.0, make_open ∙ rw (w.1, o))
        make_prototypes b t e f None w = make_open ∙ rw w
