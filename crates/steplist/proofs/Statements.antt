-- The rules by which what each function over statements answers follows from what its calls answered, one for each way through its code.
-- Assumes nothing.
use Rattle.std.specs.Prelude.{Option as RustOption, Some, None}
use Rattle.layout.specs.declared.walk.Place.{Place}
use Rattle.layout.proofs.Steps.{place}
use Prim.Native.Nat.{ℕ, suc, ◌+◌, ◌≤◌, ◌<◌}
use native.Mathlib.Omega.{arith}
use native.Mathlib.Numerals.{add-one}
use mathlib.Core.Path.{◌≡◌, refl, sym, ◌∙◌, ap}
use mathlib.Core.Bool.{Bool, true, false, ◌||◌}
use mathlib.Core.List.{List}
use mathlib.Core.Logic.{◌⊎◌, inl, inr, ⊎_elim}
use mathlib.Core.Option.{Option, none, some}
use lib.ListN.{length, length-drop}
use lib.Dec.{leb, ltb, eqb}
use borrow.Author.Tests.{leb-true, lt-ltb, le-ltb, le-leb, ne_eqb}
use Rattle.paper.specs.Bytes.{when◌then◌else◌}
use Rattle.paper.specs.Maybe.{◌>>=◌, require}
use Rattle.paper.specs.Syntax.{Block, εᴮ, ◌∷ᴮ◌, assign, Prototypes, εᴾ, block}
use Rattle.paper.specs.Decoder.{Cursor, record_at, field, path_of}
use Rattle.paper.specs.StepDecoder.{plain, bare, stops}
use Rattle.theorems.proofs.Laws.DecodeAt.{Bytes, record_here, record_short}
use Rattle.paper.specs.DecodeAt.{word, raw_at, cursor}
use Rattle.theorems.proofs.Laws.DecodeFree.{statement_body, statements_is, prototype_body, prototypes_is, statements_left, value_left}
use Rattle.paper.specs.DecodeFrom.{statements_from, value_from, prototypes_from}
use Rattle.memory.specs.Memory.{word_at}
use Rattle.memory.proofs.Laws.{fit, word_in}
use Rattle.forms.specs.Form.{fields}
use Rattle.texts.specs.Text.{FieldIs}
use Rattle.layout.specs.Walk.{WalkIs}
use Rattle.layout.proofs.Ends.{empty_yes}
use Rattle.forms.proofs.Forms.{fields_in}
use Rattle.layout.proofs.Heads.{and_true}
use Rattle.layout.proofs.Steps.{onto}
use Rattle.steplist.specs.Record.{StopsIs, opens_at, ClosesIs, ClosedIs}
use Rattle.steplist.specs.Walk.{WalkOn, statement_at, take_at, block_at, statements_here, statement_here, value_here, prototypes_here, take_here, prototype_here}

assoc : {A B C : Type 0} (m : Option A) (f : A → Option B) (g : B → Option C) → (m >>= f) >>= g ≡ m >>= λ x. f x >>= g
unfolding ◌>>=◌
assoc none f g = refl
assoc (some x) f g = refl

under : {A B : Type 0} (m : Option A) {f g : A → Option B} → ((x : A) → f x ≡ g x) → m >>= f ≡ m >>= g
unfolding ◌>>=◌
under none h = refl
under (some x) h = h x

-- a reader that stood inside stands no further back
further : (recs text : List ℕ) (i j p q : ℕ) → i ≤ length recs → length (cursor recs text j q).recs ≤ length (cursor recs text i p).recs → i ≤ j
unfolding cursor
further recs text i j p q h l = omega (arith, length-drop i recs, length-drop j recs)

-- ---- one statement

module _ (recs text : List ℕ) (d i p : ℕ) (b : Bytes recs) where
  pub statement_cut : length recs < i + 20 → statement_here recs text d i p ≡ none
  unfolding statement_at ◌>>=◌
  statement_cut h = rw (record_short 4 recs text i p b h)

  module _ (h : i + 20 ≤ length recs) (s : ℕ) (es : s ≡ word_at 4 recs (i + 16)) where
    place_is : (raw_at 4 recs i).place ≡ s
    unfolding raw_at
    place_is = sym (es ∙ word_in 4 recs (i + 16) (omega arith))

    pub statement_late : 32767 < s → statement_here recs text d i p ≡ none
    unfolding statement_at ◌>>=◌ require
    statement_late l = rw (record_here 4 recs text i p b h, place_is, le-ltb s 32768 (omega arith))

    module _ (l : s ≤ 32767) (m : ℕ) (em : m ≡ word_at 2 recs (i + 4)) where
      label_is : (raw_at 4 recs i).label ≡ m
      unfolding raw_at
      label_is = sym (em ∙ word_in 2 recs (i + 4) (omega arith))

      statement_open : statement_here recs text d i p ≡ field path_of m (cursor recs text (i + 20) p) >>= λ r. value_from d (raw_at 4 recs i) r.1 >>= λ v. some (assign r.0 v.0, v.1)
      unfolding statement_at ◌>>=◌ require
      statement_open = rw (record_here 4 recs text i p b h, place_is, lt-ltb s 32768 (omega arith), label_is)

      pub statement_no : FieldIs path_of text m p None → statement_here recs text d i p ≡ none
      unfolding ◌>>=◌
      statement_no F = statement_open ∙ rw (F recs (i + 20))

      pub statement_value : (q : ℕ) → FieldIs path_of text m p (Some q) → (r : RustOption Place) → WalkIs (value_here recs text d i q) recs text r → WalkOn (statement_here recs text d i p) recs text i r
      unfolding ◌>>=◌
      statement_value q F (Some at) w =
          let P = F recs (i + 20) in (
            (assign P.0 w.0, statement_open ∙ rw (P.1, w.1)),
            further recs text (i + 20) at.record q at.text h (value_left d (raw_at 4 recs i) (cursor recs text (i + 20) q) w.0 (cursor recs text at.record at.text) w.1),
          )
      statement_value q F None w = let P = F recs (i + 20) in statement_open ∙ rw (P.1, w)

-- ---- statements

abbrev rest : ℕ → Cursor → Option (Block × Cursor)
rest d at = record_at 4 at >>= λ x. require (ltb x.0.place 32768) >>= λ _. field path_of x.0.label x.1 >>= λ r. value_from d x.0 r.1 >>= λ v. statements_from d v.1 >>= λ t. some (assign r.0 v.0 ∷ᴮ t.0, t.1)

body_is : (d : ℕ) (at : Cursor) → stops at ≡ false → statement_body value_from statements_from d at ≡ rest d at
unfolding statement_body when◌then◌else◌
body_is d at e = rw e

chain : (d : ℕ) (at : Cursor) → (statement_at d at >>= λ s. statements_from d s.1 >>= λ t. some (s.0 ∷ᴮ t.0, t.1)) ≡ rest d at
unfolding statement_at ◌>>=◌
chain d at =
    assoc (record_at 4 at) _ _ ∙ under (record_at 4 at) (λ x. assoc (require (ltb x.0.place 32768)) _ _ ∙ under (require (ltb x.0.place 32768)) (λ u.
    assoc (field path_of x.0.label x.1) _ _ ∙ under (field path_of x.0.label x.1) (λ r. assoc (value_from d x.0 r.1) _ _)))

module _ (recs text : List ℕ) (d i p : ℕ) where
  pub statements_stop : StopsIs recs i true → WalkIs (statements_here recs text d i p) recs text (Some (place i p))
  unfolding statement_body when◌then◌else◌
  statements_stop S = let e = S text p in (εᴮ, statements_is d (cursor recs text i p) ∙ rw (← e))

  module _ (S : StopsIs recs i false) where
    statements_open : statements_here recs text d i p ≡ statement_here recs text d i p >>= λ s. statements_from d s.1 >>= λ t. some (s.0 ∷ᴮ t.0, t.1)
    statements_open = statements_is d (cursor recs text i p) ∙ body_is d (cursor recs text i p) (sym (S text p)) ∙ sym (chain d (cursor recs text i p))

    pub statements_no : statement_here recs text d i p ≡ none → statements_here recs text d i p ≡ none
    unfolding ◌>>=◌
    statements_no e = statements_open ∙ rw e

    pub statements_more : (j q : ℕ) (r : RustOption Place) → WalkOn (statement_here recs text d i p) recs text i (Some (place j q)) → WalkIs (statements_here recs text d j q) recs text r → WalkIs (statements_here recs text d i p) recs text r
    unfolding ◌>>=◌
    statements_more j q r w t = rw (statements_open, w.0.1) (onto recs text _ (w.0.0 ∷ᴮ◌) r t)

-- ---- the step that closes

pub closed_inside : (recs : List ℕ) (i step : ℕ) → Bytes recs → ClosesIs recs i step true → i + 20 ≤ length recs
unfolding ◌>>=◌ require
closed_inside recs i step b C = ⊎_elim (λ h. h) cut (fit (i + 20) (length recs))
  where
    cut : length recs < i + 20 → i + 20 ≤ length recs
    cut h =
        let s = record_short 4 recs recs i 0 b h in
        let c = rw s at (C recs 0) in
        let z : ◌≡◌ {A = ℕ} 0 1 = cc in absurd (omega arith)

-- ---- one prototype

module _ (recs text : List ℕ) (d i p : ℕ) (b : Bytes recs) (h : i + 20 ≤ length recs) (s : ℕ) (es : s ≡ word_at 2 recs i) where
  step_is : word 2 recs i ≡ s
  step_is = sym (es ∙ word_in 2 recs i (omega arith))

  pub prototype_take : s ≡ 2 → (r : RustOption Place) → WalkOn (take_here recs text i p) recs text i r → WalkOn (prototype_here recs text d i p) recs text i r
  unfolding prototype_here when◌then◌else◌
  prototype_take e r w = rw (step_is, e) w

  module _ (n : s ≡ 2 → ⊥) where
    prototype_block : prototype_here recs text d i p ≡ block_at d (raw_at 4 recs i) (cursor recs text (i + 20) p)
    unfolding prototype_here when◌then◌else◌
    prototype_block = rw (step_is, ne_eqb s 2 n)

    bare_is : (r : Bool) → bare 3 (fields 4 recs i) ≡ require r → bare 3 (raw_at 4 recs i) ≡ require r
    bare_is r e = ap (bare 3) (sym (fields_in 4 recs i h)) ∙ e

    pub block_marred : bare 3 (fields 4 recs i) ≡ require false → prototype_here recs text d i p ≡ none
    unfolding block_at ◌>>=◌ require
    block_marred g = prototype_block ∙ rw (bare_is false g)

    module _ (g : bare 3 (fields 4 recs i) ≡ require true) where
      pub block_deep : 31 < d → prototype_here recs text d i p ≡ none
      unfolding block_at ◌>>=◌ require
      block_deep l = prototype_block ∙ rw (bare_is true g, le-ltb d 32 (omega arith))

      module _ (l : d ≤ 31) where
        block_open : prototype_here recs text d i p ≡ statements_here recs text (d + 1) (i + 20) p >>= λ y. record_at 4 y.1 >>= (λ z. bare 4 z.0 >>= λ _. some z.1) >>= λ at. some (block y.0, at)
        unfolding block_at ◌>>=◌ require
        block_open = prototype_block ∙ rw (bare_is true g, lt-ltb d 32 (omega arith), add-one d)

        pub block_no : statements_here recs text (d + 1) (i + 20) p ≡ none → prototype_here recs text d i p ≡ none
        unfolding ◌>>=◌
        block_no e = block_open ∙ rw e

        module _ (j q : ℕ) (w : WalkIs (statements_here recs text (d + 1) (i + 20) p) recs text (Some (place j q))) where
          block_unclosed : ClosesIs recs j 4 false → prototype_here recs text d i p ≡ none
          unfolding ◌>>=◌ require
          block_unclosed C = let c = C text q in block_open ∙ rw (w.1, c)

          block_closed : ClosesIs recs j 4 true → WalkOn (prototype_here recs text d i p) recs text i (Some (place (j + 20) q))
          unfolding ◌>>=◌ require
          block_closed C =
              let c = C text q in
              let m = further recs text (i + 20) j p q h (statements_left (d + 1) (cursor recs text (i + 20) p) w.0 (cursor recs text j q) w.1) in
              ((block w.0, block_open ∙ rw (w.1, c)), omega arith)

          pub block_end : (r : RustOption Place) → ClosedIs recs (place j q) 4 r → WalkOn (prototype_here recs text d i p) recs text i r
          block_end (Some past) C = rw (C.1, C.2) (block_closed C.0)
          block_end None C = block_unclosed C

-- ---- prototypes

module _ (recs text : List ℕ) (d i p : ℕ) (b : Bytes recs) where
  abbrev at : Cursor
  at = cursor recs text i p

  module _ (O : opens_at recs i ≡ true) where
    pub opens_inside : i + 20 ≤ length recs
    unfolding opens_at
    opens_inside = leb-true _ _ (and_true (leb (i + 20) (length recs)) _ O).0

    either : (a c : Bool) → (a || c) ≡ true → (a ≡ true) ⊎ ((a ≡ false) × (c ≡ true))
    either true c e = inl refl
    either false c e = inr (refl, e)

    opens_step : (eqb (word 2 recs i) 2 ≡ true) ⊎ ((eqb (word 2 recs i) 2 ≡ false) × (eqb (word 2 recs i) 3 ≡ true))
    unfolding opens_at
    opens_step = either _ _ (and_true (leb (i + 20) (length recs)) _ O).1

    abbrev k : (Prototypes → Prototypes) × Cursor → Option (Prototypes × Cursor)
    k y = prototypes_from d y.1 >>= λ ps. some (y.0 ps.0, ps.1)

    taken : eqb (word 2 recs i) 2 ≡ true → prototype_body statements_from prototypes_from d at ≡ prototype_here recs text d i p >>= k
    unfolding prototype_body prototype_here take_at raw_at when◌then◌else◌ ◌>>=◌
    taken e =
        rw (record_here 4 recs text i p b opens_inside, e)
        (sym (assoc (plain 2 (raw_at 4 recs i)) _ k ∙ under (plain 2 (raw_at 4 recs i)) (λ _. assoc (require (eqb (raw_at 4 recs i).value 0)) _ k ∙ under (require (eqb (raw_at 4 recs i).value 0)) (λ _.
        assoc (field path_of (raw_at 4 recs i).label (cursor recs text (i + 20) p)) _ k))))

    entered : (eqb (word 2 recs i) 2 ≡ false) × (eqb (word 2 recs i) 3 ≡ true) → prototype_body statements_from prototypes_from d at ≡ prototype_here recs text d i p >>= k
    unfolding prototype_body prototype_here block_at raw_at when◌then◌else◌ ◌>>=◌
    entered e =
        rw (record_here 4 recs text i p b opens_inside, e.0, e.1)
        (sym (assoc (bare 3 (raw_at 4 recs i)) _ k ∙ under (bare 3 (raw_at 4 recs i)) (λ _. assoc (require (ltb d 32)) _ k ∙ under (require (ltb d 32)) (λ _.
        assoc (statements_from (suc d) (cursor recs text (i + 20) p)) _ k ∙ under (statements_from (suc d) (cursor recs text (i + 20) p)) (λ y.
        ap (λ o. o >>= k) (assoc (record_at 4 y.1) _ _) ∙ assoc (record_at 4 y.1) _ k ∙ under (record_at 4 y.1) (λ z.
        ap (λ o. o >>= k) (assoc (bare 4 z.0) _ _) ∙ assoc (bare 4 z.0) _ k))))))

    prototypes_open : prototypes_here recs text d i p ≡ prototype_here recs text d i p >>= k
    prototypes_open = prototypes_is d at ∙ ⊎_elim taken entered opens_step

    pub prototypes_no : prototype_here recs text d i p ≡ none → prototypes_here recs text d i p ≡ none
    unfolding ◌>>=◌
    prototypes_no e = prototypes_open ∙ rw e

    pub prototypes_more : (j q : ℕ) (r : RustOption Place) → WalkOn (prototype_here recs text d i p) recs text i (Some (place j q)) → WalkIs (prototypes_here recs text d j q) recs text r → WalkIs (prototypes_here recs text d i p) recs text r
    unfolding ◌>>=◌
    prototypes_more j q r w t = rw (prototypes_open, w.0.1) (onto recs text _ w.0.0 r t)

  module _ (O : opens_at recs i ≡ false) where
    abbrev closing : Option (Prototypes × Cursor)
    closing = record_at 4 at >>= (λ y. bare 5 y.0 >>= λ _. some y.1) >>= λ c. some (εᴾ, c)

    outside : length recs < i + 20 → prototype_body statements_from prototypes_from d at ≡ closing
    unfolding prototype_body ◌>>=◌
    outside w = rw (record_short 4 recs text i p b w)

    neither : (a c : Bool) → (a || c) ≡ false → (a ≡ false) × (c ≡ false)
    neither true c e = let z : ◌≡◌ {A = ℕ} 0 1 = cc in absurd (omega arith)
    neither false c e = (refl, e)

    steps : i + 20 ≤ length recs → (eqb (word 2 recs i) 2 ≡ false) × (eqb (word 2 recs i) 3 ≡ false)
    unfolding opens_at
    steps w = neither _ _ (rw (le-leb (i + 20) (length recs) w) at O)

    inside : i + 20 ≤ length recs → prototype_body statements_from prototypes_from d at ≡ closing
    unfolding prototype_body raw_at when◌then◌else◌ ◌>>=◌
    inside w = let e = steps w in rw (record_here 4 recs text i p b w, e.0, e.1) (sym (assoc (bare 5 (raw_at 4 recs i)) _ _))

    shut : prototypes_here recs text d i p ≡ closing
    shut = prototypes_is d at ∙ ⊎_elim inside outside (fit (i + 20) (length recs))

    prototypes_unclosed : ClosesIs recs i 5 false → prototypes_here recs text d i p ≡ none
    unfolding ◌>>=◌ require
    prototypes_unclosed C = let c = C text p in shut ∙ rw c

    prototypes_done : ClosesIs recs i 5 true → WalkIs (prototypes_here recs text d i p) recs text (Some (place (i + 20) p))
    unfolding ◌>>=◌ require
    prototypes_done C = let c = C text p in (εᴾ, shut ∙ rw c)

    pub prototypes_end : (r : RustOption Place) → ClosedIs recs (place i p) 5 r → WalkIs (prototypes_here recs text d i p) recs text r
    prototypes_end (Some past) C = rw (C.1, C.2) (prototypes_done C.0)
    prototypes_end None C = prototypes_unclosed C

-- where statements go on, records are left
pub stopped : (recs : List ℕ) (i : ℕ) → StopsIs recs i false → i < length recs
unfolding stops cursor
stopped recs i S = ⊎_elim ended (λ h. h) (fit (length recs) i)
  where
    ended : length recs ≤ i → i < length recs
    ended h =
        let s = empty_yes recs i h in
        let c = rw s at (S recs 0) in
        let z : ◌≡◌ {A = ℕ} 0 1 = cc in absurd (omega arith)
