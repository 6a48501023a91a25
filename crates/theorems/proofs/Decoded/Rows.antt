-- What stands before a reader: rows, and the text of one row. And what the two readers of basics do. Assumes nothing.
use Prim.Native.Nat.{ℕ, zero, suc, ◌+◌, ◌*◌, ◌-◌, ◌^◌, ◌≤◌, ◌<◌}
use native.Mathlib.Omega.{arith}
use native.Mathlib.Nat.{add-zero, add_assoc}
use mathlib.Core.Path.{◌≡◌, refl, sym, ◌∙◌, ap, subst}
use mathlib.Core.Bool.{Bool, true, false, false≢true}
use mathlib.Core.List.{List, [], ◌∷◌, ◌++◌, append_assoc, append-nil}
use mathlib.Core.Option.{Option, some}
use lib.ListN.{length, length-append}
use lib.Dec.{T, eqb}
use borrow.Author.Tests.{leb-true, eqb-true, eqb-false, le-leb, eq-eqb, ne_eqb}
use Rattle.paper.specs.Bytes.{when◌then◌else◌}
use Rattle.paper.specs.Maybe.{◌>>=◌, require}
use Rattle.paper.specs.Syntax.{Basic, boolean, null, integer, decimal, string, reference, vector, Basics, εⱽ, ◌∷ⱽ◌}
use Rattle.paper.specs.Layout.{Field, Row, kind, content, elements, each, text_of, figure, row_text, row_bytes, texts, records}
use Rattle.paper.specs.WellFormed.{IsBasic, AreBasic}
use Rattle.paper.specs.Decoder.{Cursor, Raw, record_at, field, leaf, Form, basic_at, elements_at}
use Rattle.theorems.proofs.Decoded.Parts.{Exact, exact_path, exact_decimal, exact_string, exact_raw, raw_bytes, Narrow, signed_range, signed_complement, complement_signed, complement_below}
use Rattle.theorems.proofs.Laws.Answers.{if_case}
use Rattle.theorems.proofs.Laws.Found.{Found, nothing, found, found_bind, found_require}

-- ---- what stands before a reader

-- the text t, and then what is after it
pub record Took (t : List ℕ) (at after : Cursor) : Type 0 where
  pub recs : at.recs ≡ after.recs
  pub text : at.text ≡ t ++ after.text
  pub pos : after.pos ≡ at.pos + length t

-- the record x, and then what is after it
pub record Record (w : ℕ) (x : Raw) (at after : Cursor) : Type 0 where
  pub recs : at.recs ≡ raw_bytes w x ++ after.recs
  pub text : at.text ≡ after.text
  pub pos : after.pos ≡ at.pos
  pub narrow : Narrow w x

-- the rows xs with their text, and then what is after them
pub record Front (xs : List Row) (at after : Cursor) : Type 0 where
  pub recs : at.recs ≡ records at.pos xs ++ after.recs
  pub text : at.text ≡ texts xs ++ after.text
  pub pos : after.pos ≡ at.pos + length (texts xs)

abbrev make : List ℕ → List ℕ → ℕ → Cursor
make r t p = record { recs = r; text = t; pos = p }

same_cursor : {a b : Cursor} → a.recs ≡ b.recs → a.text ≡ b.text → a.pos ≡ b.pos → a ≡ b
same_cursor {a} {b} e f g = ap (λ r. make r a.text a.pos) e ∙ ap (λ t. make b.recs t a.pos) f ∙ ap (λ p. make b.recs b.text p) g

pub took_nil : (at : Cursor) → Took [] at at
took_nil at = record { recs = refl; text = refl; pos = omega arith }

pub front_nil : (at : Cursor) → Front [] at at
unfolding records texts
front_nil at = record { recs = refl; text = refl; pos = omega arith }

texts-++ : (xs ys : List Row) → texts (xs ++ ys) ≡ texts xs ++ texts ys
unfolding texts
texts-++ [] ys = refl
texts-++ (x ∷ xs) ys = rw (texts-++ xs ys) (sym (append_assoc (row_text x) (texts xs) (texts ys)))

records-++ : (t : ℕ) (xs ys : List Row) → records t (xs ++ ys) ≡ records t xs ++ records (t + length (texts xs)) ys
unfolding records texts
records-++ t [] ys = rw add-zero
records-++ t (x ∷ xs) ys =
    rw (records-++ (t + length (row_text x)) xs ys, length-append (row_text x) (texts xs), ← (add_assoc t (length (row_text x)) (length (texts xs))))
    (sym (append_assoc (row_bytes t x) (records (t + length (row_text x)) xs) _))

pub front-++ : {xs ys : List Row} {a b c : Cursor} → Front xs a b → Front ys b c → Front (xs ++ ys) a c
front-++ {xs} {ys} {a} {b} {c} f g =
    record {
      recs = rw (records-++ a.pos xs ys, append_assoc (records a.pos xs) (records (a.pos + length (texts xs)) ys) c.recs, ← f.pos, f.recs, g.recs);
      text = rw (texts-++ xs ys, append_assoc (texts xs) (texts ys) c.text, f.text, g.text);
      pos = rw (texts-++ xs ys, length-append (texts xs) (texts ys)) (omega (arith, f.pos, g.pos));
    }

-- the other way round: where two lists of rows stand, a reader of the first comes to the second
pub record Between (xs ys : List Row) (a c : Cursor) : Type 0 where
  pub mid : Cursor
  pub left : Front xs a mid
  pub right : Front ys mid c

pub split : {xs ys : List Row} {a c : Cursor} → Front (xs ++ ys) a c → Between xs ys a c
split {xs} {ys} {a} {c} f =
    record {
      mid = record { recs = records (a.pos + length (texts xs)) ys ++ c.recs; text = texts ys ++ c.text; pos = a.pos + length (texts xs) };
      left = record { recs = f.recs ∙ rw (records-++ a.pos xs ys) (append_assoc (records a.pos xs) _ c.recs); text = f.text ∙ rw (texts-++ xs ys) (append_assoc (texts xs) (texts ys) c.text); pos = refl };
      right = record { recs = refl; text = refl; pos = f.pos ∙ rw (texts-++ xs ys, length-append (texts xs) (texts ys)) (omega arith) };
    }

pub front_stays : {at after : Cursor} → Front [] at after → at ≡ after
unfolding records texts
front_stays t = same_cursor t.recs t.text (omega (arith, t.pos))

pub took_on : {t : List ℕ} {a b c : Cursor} → Took t a b → Front [] b c → Took t a c
took_on {t} {a} h f = subst (λ c. Took t a c) (front_stays f) h

-- one row: its record, its label's text and its value's
pub front_one : {w : ℕ} {x : Raw} {r : Row} {a b c d : Cursor} → Record w x a b → Took (text_of r.label) b c → Took (text_of r.value) c d → row_bytes a.pos r ≡ raw_bytes w x → Front (r ∷ []) a d
unfolding records texts row_text
front_one {w} {x} {r} {a} {b} {c} {d} f g h e =
    record {
      recs = rw (e, append-nil (raw_bytes w x), f.recs, g.recs, h.recs);
      text = rw (append-nil (text_of r.label ++ text_of r.value), append_assoc (text_of r.label) (text_of r.value) d.text, f.text, g.text, h.text);
      pos = rw (append-nil (text_of r.label ++ text_of r.value), length-append (text_of r.label) (text_of r.value)) (omega (arith, f.pos, g.pos, h.pos));
    }

pub front_end : {r : Row} {a b : Cursor} → Front (r ∷ []) a b → b.pos < 65536 → a.pos + length (text_of r.label) + length (text_of r.value) < 65536
unfolding texts row_text
front_end {r} {a} {b} f l =
    let e = length-append (text_of r.label ++ text_of r.value) [] in
    let g = length-append (text_of r.label) (text_of r.value) in
    omega (arith, f.pos)

pub record Parts (w : ℕ) (x : Raw) (r : Row) (a d : Cursor) : Type 0 where
  pub after_record : Cursor
  pub after_label : Cursor
  pub own : Record w x a after_record
  pub label : Took (text_of r.label) after_record after_label
  pub value : Took (text_of r.value) after_label d

pub split_one : {w : ℕ} {x : Raw} {r : Row} {a d : Cursor} → Front (r ∷ []) a d → row_bytes a.pos r ≡ raw_bytes w x → Narrow w x → Parts w x r a d
unfolding records texts row_text
split_one {w} {x} {r} {a} {d} f e n =
    let l = text_of r.label in
    let v = text_of r.value in
    record {
      after_record = record { recs = d.recs; text = a.text; pos = a.pos };
      after_label = record { recs = d.recs; text = v ++ d.text; pos = a.pos + length l };
      own = record { recs = f.recs ∙ rw (e, append-nil (raw_bytes w x)); text = refl; pos = refl; narrow = n };
      label = record { recs = refl; text = f.text ∙ rw (append-nil (l ++ v), append_assoc l v d.text); pos = refl };
      value = record { recs = refl; text = refl; pos = f.pos ∙ rw (append-nil (l ++ v), length-append l v) (omega arith) };
    }

pub stays : {at after : Cursor} → Took [] at after → at ≡ after
stays t = same_cursor t.recs t.text (omega (arith, t.pos))

-- ---- single records and texts

pub record_sound : (w : ℕ) (at : Cursor) → Found (λ r. Record w r.0 at r.1) (record_at w at)
unfolding record_at
record_sound w at = found_bind _ ((exact_raw w).sound at.recs) (λ x h. found (record { recs = h.front; text = refl; pos = refl; narrow = h.good }))

pub record_complete : {w : ℕ} {x : Raw} {a b : Cursor} → Record w x a b → record_at w a ≡ some (x, b)
unfolding record_at ◌>>=◌
record_complete {w} {x} {a} {b} h =
    let c : record { recs = b.recs; text = a.text; pos = a.pos } ≡ b = same_cursor refl h.text (sym h.pos) in
    rw (h.recs, (exact_raw w).complete x b.recs h.narrow, c)

-- what a reader of a field found: x, written by enc at the place that was said
pub record Fielded {A : Type 0} (enc : A → List ℕ) (P : A → Type 0) (place : ℕ) (at : Cursor) (r : A × Cursor) : Type 0 where
  pub took : Took (enc r.0) at r.1
  pub good : P r.0
  pub placed : place ≡ at.pos

pub field_sound : {A : Type 0} {p : List ℕ → Option (A × List ℕ)} {enc : A → List ℕ} {P : A → Type 0} → Exact p enc P → (place : ℕ) (at : Cursor) → Found (Fielded enc P place at) (field p place at)
unfolding field
field_sound {enc = enc} x place at =
    found_require _ _ (λ e.
    found_bind _ (x.sound at.text) (λ y h.
    let l : length at.text ≡ length (enc y.0) + length y.1 = ap length h.front ∙ length-append (enc y.0) y.1 in
    found (record { took = record { recs = refl; text = h.front; pos = omega arith }; good = h.good; placed = eqb-true place at.pos e })))

pub field_complete : {A : Type 0} {p : List ℕ → Option (A × List ℕ)} {enc : A → List ℕ} {P : A → Type 0} → Exact p enc P → (x : A) (place : ℕ) {at after : Cursor} → P x → Took (enc x) at after → place ≡ at.pos → field p place at ≡ some (x, after)
unfolding field ◌>>=◌ require
field_complete {enc = enc} ex x place {at} {after} good t e =
    let l : length at.text ≡ length (enc x) + length after.text = ap length t.text ∙ length-append (enc x) after.text in
    let c : make at.recs after.text (at.pos + (length (enc x ++ after.text) - length after.text)) ≡ after = same_cursor t.recs refl (simp length-append (omega (arith, t.pos))) in
    rw (eq-eqb place at.pos e, t.text, ex.complete x after.text good, c)

-- ---- basics that are no vectors

-- what `leaf` found for the kind k and the value v
pub record Leaf (k v : ℕ) (at : Cursor) (r : Basic × Cursor) : Type 0 where
  pub kinded : kind r.0 ≡ k
  pub figured : figure at.pos (content r.0) ≡ v
  pub took : Took (text_of (content r.0)) at r.1
  pub good : IsBasic r.0
  pub flat : kind r.0 < 7

T_of : (b : Bool) → b ≡ true → T b
T_of true e = tt
T_of false e = absurd (false≢true e)

of_T : (b : Bool) → T b → b ≡ true
of_T true e = refl
of_T false e = absurd e

leaf_sound : (k v : ℕ) (at : Cursor) → v < 2 ^ 64 → Found (Leaf k v at) (leaf k v at)
unfolding leaf kind content figure text_of
leaf_sound k v at l =
    if_case (Found (Leaf k v at)) _ _ _
    (λ e. found_require _ _ (λ b. truth (eqb v 1) refl (eqb-true k 1 e) (leb-true v 1 b))) (λ _.
    if_case (Found (Leaf k v at)) _ _ _
    (λ e. found_require _ _ (λ b. found (record { kinded = sym (eqb-true k 2 e); figured = sym (eqb-true v 0 b); took = took_nil at; good = tt; flat = omega arith }))) (λ _.
    if_case (Found (Leaf k v at)) _ _ _
    (λ e. found (record { kinded = sym (eqb-true k 3 e); figured = signed_complement v l; took = took_nil at; good = T_of _ (signed_range v l); flat = omega arith })) (λ _.
    if_case (Found (Leaf k v at)) _ _ _
    (λ e. found_bind _ (field_sound exact_decimal v at) (λ x h. found (record { kinded = sym (eqb-true k 4 e); figured = sym h.placed; took = h.took; good = h.good; flat = omega arith }))) (λ _.
    if_case (Found (Leaf k v at)) _ _ _
    (λ e. found_bind _ (field_sound exact_string v at) (λ x h. found (record { kinded = sym (eqb-true k 5 e); figured = sym h.placed; took = h.took; good = h.good; flat = omega arith }))) (λ _.
    if_case (Found (Leaf k v at)) _ _ _
    (λ e. found_bind _ (field_sound exact_path v at) (λ x h. found (record { kinded = sym (eqb-true k 6 e); figured = sym h.placed; took = h.took; good = h.good; flat = omega arith }))) (λ _.
    nothing))))))
  where
    truth : (c : Bool) → eqb v 1 ≡ c → k ≡ 1 → v ≤ 1 → Found (Leaf k v at) (some (boolean c, at))
    truth true e q b = found {x = (boolean true, at)} (record { kinded = sym q; figured = sym (eqb-true v 1 e); took = took_nil at; good = tt; flat = omega arith })
    truth false e q b = let z : v ≡ 0 = small v b (eqb-false v 1 e) in found {x = (boolean false, at)} (record { kinded = sym q; figured = sym z; took = took_nil at; good = tt; flat = omega arith })
      where
        small : (v : ℕ) → v ≤ 1 → (v ≡ 1 → ⊥) → v ≡ 0
        small zero b h = refl
        small (suc zero) b h = absurd (h refl)
        small (suc (suc v)) b h = absurd (omega arith)

-- a basic's value fits 64 bits, where the text ends before 65,536
pub figure_below : (b : Basic) (p : ℕ) → IsBasic b → p < 65536 → figure p (content b) < 2 ^ 64
unfolding figure content
figure_below (boolean true) p h l = omega arith
figure_below (boolean false) p h l = omega arith
figure_below null p h l = omega arith
figure_below (integer z) p h l = complement_below z (of_T _ h)
figure_below (decimal t) p h l = omega arith
figure_below (string t) p h l = omega arith
figure_below (reference r) p h l = omega arith
figure_below (vector bs) p h l = omega arith

leaf_complete : (b : Basic) {at after : Cursor} → kind b < 7 → IsBasic b → Took (text_of (content b)) at after → leaf (kind b) (figure at.pos (content b)) at ≡ some (b, after)
unfolding leaf kind content figure text_of when◌then◌else◌ ◌>>=◌ require
leaf_complete (boolean true) f h t = ap (λ c. some (boolean true, c)) (stays t)
leaf_complete (boolean false) f h t = ap (λ c. some (boolean false, c)) (stays t)
leaf_complete null f h t = ap (λ c. some (null, c)) (stays t)
leaf_complete (integer z) f h t = rw (complement_signed z (of_T _ h)) (ap (λ c. some (integer z, c)) (stays t))
leaf_complete (decimal s) f h t = rw (field_complete exact_decimal s _ h t refl)
leaf_complete (string s) f h t = rw (field_complete exact_string s _ h t refl)
leaf_complete (reference r) f h t = rw (field_complete exact_path r _ h t refl)
leaf_complete (vector bs) f h t = absurd (omega arith)

-- ---- vectors

pub kind_below : (b : Basic) → kind b < 65536
unfolding kind
kind_below (boolean b) = omega arith
kind_below null = omega arith
kind_below (integer z) = omega arith
kind_below (decimal t) = omega arith
kind_below (string t) = omega arith
kind_below (reference r) = omega arith
kind_below (vector bs) = omega arith

-- no vector stands deeper than top, and no element deeper than 32, where the basic stands at d
abbrev mutual
  pub Within : ℕ → ℕ → Basic → Type 0
  Within top d (boolean b) = Unit
  Within top d null = Unit
  Within top d (integer z) = Unit
  Within top d (decimal t) = Unit
  Within top d (string t) = Unit
  Within top d (reference r) = Unit
  Within top d (vector bs) = (d ≤ top) × WithinAll top (suc d) bs

  pub WithinAll : ℕ → ℕ → Basics → Type 0
  WithinAll top d εⱽ = Unit
  WithinAll top d (b ∷ⱽ bs) = (d ≤ 32) × Within top d b × WithinAll top d bs

-- a form reads what `row` writes
pub record Lawful (form : Form) (row : ℕ → ℕ → ℕ → Field → Row) : Type 0 where
  pub raw : ℕ → ℕ → ℕ → ℕ → Raw
  pub bytes : (k d m : ℕ) (v : Field) (t : ℕ) → row_bytes t (row k d m v) ≡ raw_bytes form.width (raw k d m (figure t v))
  pub label : (k d m : ℕ) (v : Field) → text_of (row k d m v).label ≡ []
  pub value : (k d m : ℕ) (v : Field) → (row k d m v).value ≡ v
  pub fitting : (d : ℕ) (x : Raw) → form.fits d x ≡ true → x.place < 256 ^ form.width → x ≡ raw (form.kind_in x) d x.span x.value
  pub fits : (k d m v : ℕ) → form.fits d (raw k d m v) ≡ true
  pub kinded : (k d m v : ℕ) → form.kind_in (raw k d m v) ≡ k
  pub spanned : (k d m v : ℕ) → (raw k d m v).span ≡ m
  pub valued : (k d m v : ℕ) → (raw k d m v).value ≡ v
  pub narrow : (k d m v : ℕ) → k < 65536 → d < 65536 → m < 65536 → v < 2 ^ 64 → Narrow form.width (raw k d m v)

module _ (form : Form) (row : ℕ → ℕ → ℕ → Field → Row) (law : Lawful form row) where
  -- what was found for a basic at d, of kind k, span m and value v
  pub record BasicRead (d k m v : ℕ) (at : Cursor) (r : Basic × Cursor) : Type 0 where
    pub kinded : kind r.0 ≡ k
    pub figured : figure at.pos (content r.0) ≡ v
    pub spanned : suc (length (elements row d r.0)) ≡ m
    pub mid : Cursor
    pub took : Took (text_of (content r.0)) at mid
    pub below : Front (elements row d r.0) mid r.1
    pub good : IsBasic r.0
    pub within : Within form.top d r.0

  pub record ElementsRead (d n : ℕ) (at : Cursor) (r : Basics × Cursor) : Type 0 where
    pub front : Front (each row d r.0) at r.1
    pub sized : length (each row d r.0) ≡ n
    pub good : AreBasic r.0
    pub within : WithinAll form.top d r.0

  flat_read : (d k v : ℕ) (at : Cursor) (b : Basic) (after : Cursor) → Leaf k v at (b, after) → BasicRead d k 1 v at (b, after)
  unfolding kind elements
  flat_read d k v at (boolean b) after h = record { kinded = h.kinded; figured = h.figured; spanned = refl; mid = after; took = h.took; below = front_nil after; good = h.good; within = tt }
  flat_read d k v at null after h = record { kinded = h.kinded; figured = h.figured; spanned = refl; mid = after; took = h.took; below = front_nil after; good = h.good; within = tt }
  flat_read d k v at (integer b) after h = record { kinded = h.kinded; figured = h.figured; spanned = refl; mid = after; took = h.took; below = front_nil after; good = h.good; within = tt }
  flat_read d k v at (decimal b) after h = record { kinded = h.kinded; figured = h.figured; spanned = refl; mid = after; took = h.took; below = front_nil after; good = h.good; within = tt }
  flat_read d k v at (string b) after h = record { kinded = h.kinded; figured = h.figured; spanned = refl; mid = after; took = h.took; below = front_nil after; good = h.good; within = tt }
  flat_read d k v at (reference b) after h = record { kinded = h.kinded; figured = h.figured; spanned = refl; mid = after; took = h.took; below = front_nil after; good = h.good; within = tt }
  flat_read d k v at (vector b) after h = absurd (omega (arith, h.flat))

  leaf_read : (d k m v : ℕ) (at : Cursor) (o : Option (Basic × Cursor)) → Found (Leaf k v at) o → m ≡ 1 → Found (BasicRead d k m v at) o
  leaf_read d k m v at o nothing q = nothing
  leaf_read d k m v at o (found {x = x} h) q = found {x = x} (rw q (flat_read d k v at x.0 x.1 h))

  -- a basic's own row, and those below it
  pub own_front : (d : ℕ) {at at₁ : Cursor} (x : Raw) (b : Basic) (at₂ : Cursor) → Record form.width x at at₁ → x ≡ law.raw (form.kind_in x) d x.span x.value
      → BasicRead d (form.kind_in x) x.span x.value at₁ (b, at₂)
      → Front (row (kind b) d (suc (length (elements row d b))) (content b) ∷ elements row d b) at at₂
  own_front d {at} {at₁} x b at₂ g e h =
      let m = suc (length (elements row d b)) in
      let same-pos : at₁.pos ≡ at.pos = g.pos in
      let q : law.raw (kind b) d m (figure at.pos (content b)) ≡ x = rw (h.kinded, h.spanned, ← same-pos, h.figured) (sym e) in
      let bytes : row_bytes at.pos (row (kind b) d m (content b)) ≡ raw_bytes form.width x = law.bytes (kind b) d m (content b) at.pos ∙ ap (raw_bytes form.width) q in
      let label : Took (text_of (row (kind b) d m (content b)).label) at₁ at₁ = rw (law.label (kind b) d m (content b)) (took_nil at₁) in
      let value : Took (text_of (row (kind b) d m (content b)).value) at₁ h.mid = rw (law.value (kind b) d m (content b)) h.took in
      front-++ (front_one g label value bytes) h.below

  element_read : (d k : ℕ) (at : Cursor) (x : Raw) (at₁ : Cursor) (b : Basic) (at₂ : Cursor) (bs : Basics) (at₃ : Cursor) → Record form.width x at at₁ → d ≤ 32
      → x ≡ law.raw (form.kind_in x) d x.span x.value → x.span ≤ suc k
      → BasicRead d (form.kind_in x) x.span x.value at₁ (b, at₂) → ElementsRead d (suc k - x.span) at₂ (bs, at₃)
      → ElementsRead d (suc k) at (b ∷ⱽ bs, at₃)
  unfolding elements
  element_read d k at x at₁ b at₂ bs at₃ g l e s h i =
      record {
        front = front-++ (own_front d x b at₂ g e h) i.front;
        sized = simp length-append (omega (arith, h.spanned, i.sized));
        good = (h.good, i.good);
        within = (l, h.within, i.within);
      }

  mutual
    unfolding basic_at kind content figure text_of elements

    pub basic_sound : (f d k m v : ℕ) (at : Cursor) → v < 2 ^ 64 → 1 ≤ m → Found (BasicRead d k m v at) (basic_at f form d k m v at)
    basic_sound zero d k m v at l one = nothing
    basic_sound (suc f) d k m v at l one =
        if_case (Found (BasicRead d k m v at)) _ _ _
        (λ e.
        found_require _ _ (λ e₁.
        found_require _ _ (λ e₂.
        found_bind _ (elements_sound f (suc d) (m - 1) at) (λ x h.
        found {x = (vector x.0, x.1)} (record {
          kinded = sym (eqb-true k 7 e);
          figured = sym (eqb-true v 0 e₁);
          spanned = omega (arith, h.sized);
          mid = at;
          took = took_nil at;
          below = h.front;
          good = h.good;
          within = (leb-true d form.top e₂, h.within);
        })))))
        (λ _. found_require _ _ (λ e. leaf_read d k m v at _ (leaf_sound k v at l) (eqb-true m 1 e)))

    pub elements_sound : (f d n : ℕ) (at : Cursor) → Found (ElementsRead d n at) (elements_at f form d n at)
    elements_sound zero d n at = nothing
    elements_sound (suc f) d zero at = found {x = (εⱽ, at)} (record { front = front_nil at; sized = refl; good = tt; within = tt })
    elements_sound (suc f) d (suc k) at =
        found_bind _ (record_sound form.width at) (λ x g.
        found_require _ _ (λ e₁.
        found_require _ _ (λ e₂.
        found_require _ _ (λ e₀.
        found_require _ _ (λ e₃.
        found_bind _ (basic_sound f d (form.kind_in x.0) x.0.span x.0.value x.1 g.narrow.value (leb-true 1 _ e₀)) (λ y h.
        found_bind _ (elements_sound f d (suc k - x.0.span) y.1) (λ z i.
        found {x = (y.0 ∷ⱽ z.0, z.1)} (element_read d k at x.0 x.1 y.0 y.1 z.0 z.1 g (leb-true d 32 e₁) (law.fitting d x.0 e₂ g.narrow.place) (leb-true _ (suc k) e₃) h i))))))))

  -- ---- the other way round

  flat_complete : (f d m : ℕ) (b : Basic) {at after : Cursor} → kind b < 7 → m ≡ 1 → IsBasic b → Took (text_of (content b)) at after
      → basic_at (suc f) form d (kind b) m (figure at.pos (content b)) at ≡ some (b, after)
  unfolding basic_at when◌then◌else◌ ◌>>=◌ require
  flat_complete f d m b {at} {after} l q h t = rw (ne_eqb (kind b) 7 (λ z. omega arith), q) (leaf_complete b l h t)

  -- the parts of a basic's own row with those below
  pub record Own (d : ℕ) (b : Basic) (at after : Cursor) : Type 0 where
    pub at₁ : Cursor
    pub at₂ : Cursor
    pub own : Record form.width (law.raw (kind b) d (suc (length (elements row d b))) (figure at.pos (content b))) at at₁
    pub took : Took (text_of (content b)) at₁ at₂
    pub below : Front (elements row d b) at₂ after

  own_parts : (d : ℕ) (b : Basic) {at after : Cursor} → Front (row (kind b) d (suc (length (elements row d b))) (content b) ∷ elements row d b) at after
      → after.pos < 65536 → d < 65536 → suc (length (elements row d b)) < 65536 → IsBasic b → Own d b at after
  own_parts d b {at} {after} f l ld lm h =
      let m = suc (length (elements row d b)) in
      let r = row (kind b) d m (content b) in
      let s : Between (r ∷ []) (elements row d b) at after = split f in
      let low : at.pos < 65536 = omega (arith, s.left.pos, s.right.pos) in
      let p = split_one s.left (law.bytes (kind b) d m (content b) at.pos) (law.narrow (kind b) d m _ (kind_below b) ld lm (figure_below b at.pos h low)) in
      let lab : Took [] p.after_record p.after_label = subst (λ l. Took l p.after_record p.after_label) (law.label (kind b) d m (content b)) p.label in
      let val : Took (text_of (content b)) p.after_label s.mid = subst (λ v. Took (text_of v) p.after_label s.mid) (law.value (kind b) d m (content b)) p.value in
      record {
        at₁ = p.after_record;
        at₂ = s.mid;
        own = p.own;
        took = subst (λ c. Took (text_of (content b)) c s.mid) (sym (stays lab)) val;
        below = s.right;
      }

  mutual
    unfolding basic_at kind content figure text_of elements when◌then◌else◌ ◌>>=◌ require

    pub basic_complete : (b : Basic) (f d : ℕ) {at mid after : Cursor} → Took (text_of (content b)) at mid → Front (elements row d b) mid after → after.pos < 65536
        → length (elements row d b) < 65535 → IsBasic b → Within form.top d b → 2 * length (elements row d b) + 2 ≤ f
        → basic_at f form d (kind b) (suc (length (elements row d b))) (figure at.pos (content b)) at ≡ some (b, after)
    basic_complete b zero d t r l n h w le = absurd (omega arith)
    basic_complete (boolean b) (suc f) d t r l n h w le = flat_complete f d 1 (boolean b) (omega arith) refl h (took_on t r)
    basic_complete null (suc f) d t r l n h w le = flat_complete f d 1 null (omega arith) refl h (took_on t r)
    basic_complete (integer z) (suc f) d t r l n h w le = flat_complete f d 1 (integer z) (omega arith) refl h (took_on t r)
    basic_complete (decimal u) (suc f) d t r l n h w le = flat_complete f d 1 (decimal u) (omega arith) refl h (took_on t r)
    basic_complete (string u) (suc f) d t r l n h w le = flat_complete f d 1 (string u) (omega arith) refl h (took_on t r)
    basic_complete (reference u) (suc f) d t r l n h w le = flat_complete f d 1 (reference u) (omega arith) refl h (took_on t r)
    basic_complete (vector bs) (suc f) d {at} {mid} {after} t r l n h w le =
        let k = length (each row (suc d) bs) in
        let r' : Front (each row (suc d) bs) at after = subst (λ c. Front (each row (suc d) bs) c after) (sym (stays t)) r in
        let q : suc k - 1 ≡ k = omega arith in
        rw (le-leb d form.top w.0, q, elements_complete bs f (suc d) r' l (omega arith) h w.1 (omega arith))

    pub elements_complete : (bs : Basics) (f d : ℕ) {at after : Cursor} → Front (each row d bs) at after → after.pos < 65536
        → length (each row d bs) < 65536 → AreBasic bs → WithinAll form.top d bs → 2 * length (each row d bs) + 1 ≤ f
        → elements_at f form d (length (each row d bs)) at ≡ some (bs, after)
    elements_complete bs zero d r l n h w le = absurd (omega arith)
    elements_complete εⱽ (suc f) d r l n h w le = ap (λ c. some (εⱽ, c)) (front_stays r)
    elements_complete (b ∷ⱽ bs) (suc f) d {at} {after} r l n h w le =
        let m = suc (length (elements row d b)) in
        let s : Between (row (kind b) d m (content b) ∷ elements row d b) (each row d bs) at after = split r in
        let k : length (elements row d b ++ each row d bs) ≡ length (elements row d b) + length (each row d bs) = length-append (elements row d b) (each row d bs) in
        let o = own_parts d b s.left (omega (arith, s.right.pos)) (omega (arith, w.0)) (omega arith) h.0 in
        let v = figure at.pos (content b) in
        let q : suc (length (elements row d b ++ each row d bs)) - m ≡ length (each row d bs) = omega arith in
        let eb : basic_at f form d (kind b) m v o.at₁ ≡ some (b, s.mid) =
        subst (λ p. basic_at f form d (kind b) m (figure p (content b)) o.at₁ ≡ some (b, s.mid)) o.own.pos
        (basic_complete b f d o.took o.below (omega (arith, s.right.pos)) (omega arith) h.0 w.1 (omega arith)) in
        let es : elements_at f form d (length (each row d bs)) s.mid ≡ some (bs, after) = elements_complete bs f d s.right l (omega arith) h.1 w.2 (omega arith) in
        rw (record_complete o.own, le-leb d 32 w.0, law.fits (kind b) d m v, law.kinded (kind b) d m v, law.spanned (kind b) d m v, le-leb 1 m (omega arith), le-leb m (suc (length (elements row d b ++ each row d bs))) (omega arith), law.valued (kind b) d m v, eb, q, es)
