-- A row is laid: its record, and its two texts. Assumes nothing.
use Prim.Native.Nat.{ℕ, zero, suc, ◌+◌, ◌*◌, ◌-◌, ◌≤◌, ◌<◌}
use native.Mathlib.Omega.{arith}
use mathlib.Core.Path.{◌≡◌, refl, sym, ap, ap₂, subst, ◌∙◌}
use mathlib.Core.Bool.{Bool, true, false, ◌||◌}
use mathlib.Core.List.{List, [], ◌∷◌, ◌++◌, append_assoc}
use lib.ListN.{length, length-append}
use lib.Dec.{eqb}
use borrow.Author.Tests.{eq-eqb, ne_eqb}
use Rattle.paper.specs.Bytes.{when◌then◌else◌}
use Rattle.paper.specs.Layout.{number, text, Row, little, path_text, long_text, text_of, row_text, row_bytes, figure, texts}
use Rattle.theorems.proofs.Decoded.Parts.{length_little}
use Rattle.theorems.proofs.Decoded.Header.{Lasts}
use Rattle.memory.specs.Memory.{stored}
use Rattle.memory.proofs.Laws.{length_stored, then_stored, stored_none, stored_apart}
use Rattle.grammar.specs.Ties.{has_path, is_path}
use Rattle.translate.specs.Lay.{lay_row, lay}
use Rattle.translate.proofs.Laid.{head}
use Rattle.translate.specs.Settled.{path_at, said_at, is_long, label_at, value_at, figure_of, fields_at, field_bytes, settled, rows_at}
use Rattle.translate.specs.Puts.{Put, Room, PathFits, DecimalFits, StringFits, LabelFits, ValueFits, RowFits, Laid, ListFits, written_list}
use Rattle.translate.specs.declared.record.Fields.{Fields}
use Rattle.translate.proofs.Laid.{laid_length, laid}

-- ---- tests

pub figure_text : {b : Bool} (v t : ℕ) → b ≡ true → t ≡ figure_of b v t
unfolding figure_of when◌then◌else◌
figure_text v t e = rw e

pub figure_number : {b : Bool} (v t : ℕ) → b ≡ false → v ≡ figure_of b v t
unfolding figure_of when◌then◌else◌
figure_number v t e = rw e

pub long_decimal : (b : Bool) (k : ℕ) → k ≡ 4 → (b || is_long k) ≡ true
unfolding is_long
long_decimal true k e = refl
long_decimal false k e = rw e

pub long_string : (b : Bool) (k : ℕ) → k ≡ 5 → (b || is_long k) ≡ true
unfolding is_long
long_string true k e = refl
long_string false k e = rw e

pub is_text : (b : Bool) (k : ℕ) → b ≡ true → (b || is_long k) ≡ true
is_text b k e = rw e

no_long : (k : ℕ) → (k ≡ 4 → ⊥) → (k ≡ 5 → ⊥) → is_long k ≡ false
unfolding is_long
no_long k f g = rw (ne_eqb k 4 f, ne_eqb k 5 g)

pub no_text : (b : Bool) (k : ℕ) → b ≡ false → (k ≡ 4 → ⊥) → (k ≡ 5 → ⊥) → (b || is_long k) ≡ false
no_text b k e f g = rw e (no_long k f g)

-- ---- steps and kinds by their numbers

pub is_link : (i k n : ℕ) → n ≡ 8 → i ≡ n → eqb i n ≡ is_path i k
unfolding is_path
is_link i k n z e = let f : i ≡ 8 = e ∙ z in rw (z, f)

pub is_reference : (i k m n : ℕ) → m ≡ 8 → (i ≡ m → ⊥) → n ≡ 6 → eqb k n ≡ is_path i k
unfolding is_path
is_reference i k m n z f e = rw (e, ne_eqb i 8 (λ (q : i ≡ 8). f (q ∙ sym z)))

pub is_decimal : (k n : ℕ) → n ≡ 4 → k ≡ n → eqb k n ≡ is_long k
unfolding is_long
is_decimal k n z e = let f : k ≡ 4 = e ∙ z in rw (z, f)

pub is_string : (k m n : ℕ) → m ≡ 4 → (k ≡ m → ⊥) → n ≡ 5 → eqb k n ≡ is_long k
unfolding is_long
is_string k m n z f e = rw (e, ne_eqb k 4 (λ (q : k ≡ 4). f (q ∙ sym z)))

-- ---- labels and values

module _ (s : List ℕ) (i p : ℕ) where
  label_text : has_path i ≡ true → text_of (label_at s i p) ≡ path_text (path_at s p)
  unfolding label_at text_of when◌then◌else◌
  label_text e = rw e

  label_none : has_path i ≡ false → text_of (label_at s i p) ≡ []
  unfolding label_at text_of when◌then◌else◌
  label_none e = rw e

module _ (s : List ℕ) (i k v : ℕ) where
  value_path : is_path i k ≡ true → text_of (value_at s i k v) ≡ path_text (path_at s v)
  unfolding value_at text_of when◌then◌else◌
  value_path e = rw e

  value_decimal : is_path i k ≡ false → k ≡ 4 → text_of (value_at s i k v) ≡ long_text (said_at s v)
  unfolding value_at text_of when◌then◌else◌
  value_decimal e f = let g : is_long k ≡ true = long_decimal false k f in rw (e, g)

  value_string : is_path i k ≡ false → k ≡ 5 → text_of (value_at s i k v) ≡ long_text (said_at s v)
  unfolding value_at text_of when◌then◌else◌
  value_string e f = let g : is_long k ≡ true = long_string false k f in rw (e, g)

  value_none : is_path i k ≡ false → (k ≡ 4 → ⊥) → (k ≡ 5 → ⊥) → text_of (value_at s i k v) ≡ []
  unfolding value_at text_of when◌then◌else◌
  value_none e f g = let h : is_long k ≡ false = no_long k f g in rw (e, h)

put_none : (o : List ℕ) (to : ℕ) → Put o o to [] to
put_none o to = record { is = sym (stored_none o to); end = omega arith }

-- a put of the same text
again : {o o' : List ℕ} {to r : ℕ} {t u : List ℕ} → t ≡ u → Put o o' to u r → Put o o' to t r
again {o} {o'} {to} {r} e P = subst (λ (t : List ℕ). Put o o' to t r) (sym e) P

room : {o : List ℕ} {to : ℕ} {t u : List ℕ} → t ≡ u → Room o to t → Room o to u
room {o} {to} e R = subst (Room o to) e R

module _ {s : List ℕ} {i p : ℕ} {o : List ℕ} {to : ℕ} (F : LabelFits s i p o to) {b : Bool} (is : b ≡ has_path i) where
  pub label_fits : b ≡ true → PathFits s p o to
  label_fits e = record { there = F.there.path (sym is ∙ e); room = room (label_text s i p (sym is ∙ e)) F.room }

  pub label_put : b ≡ true → {o' : List ℕ} {r : ℕ} → Put o o' to (path_text (path_at s p)) r → Put o o' to (text_of (label_at s i p)) r
  label_put e P = again (label_text s i p (sym is ∙ e)) P

  pub label_empty : b ≡ false → Put o o to (text_of (label_at s i p)) to
  label_empty e = again (label_none s i p (sym is ∙ e)) (put_none o to)

module _ {s : List ℕ} {i k v : ℕ} {o : List ℕ} {to : ℕ} (F : ValueFits s i k v o to) {b : Bool} (is : b ≡ is_path i k) where
  pub value_fits : b ≡ true → PathFits s v o to
  value_fits e = record { there = F.there.path (sym is ∙ e); room = room (value_path s i k v (sym is ∙ e)) F.room }

  pub value_put : b ≡ true → {o' : List ℕ} {r : ℕ} → Put o o' to (path_text (path_at s v)) r → Put o o' to (text_of (value_at s i k v)) r
  value_put e P = again (value_path s i k v (sym is ∙ e)) P

  module _ (e : b ≡ false) where
    pub decimal_fits : k ≡ 4 → DecimalFits s v o to
    decimal_fits f = record { there = F.there.decimal (sym is ∙ e) (eq-eqb k 4 f); room = room (value_decimal s i k v (sym is ∙ e) f) F.room }

    pub decimal_put : k ≡ 4 → {o' : List ℕ} {r : ℕ} → Put o o' to (long_text (said_at s v)) r → Put o o' to (text_of (value_at s i k v)) r
    decimal_put f P = again (value_decimal s i k v (sym is ∙ e) f) P

    pub string_fits : (k ≡ 4 → ⊥) → k ≡ 5 → StringFits s v o to
    string_fits f g = record { there = F.there.string (sym is ∙ e) (ne_eqb k 4 f) (eq-eqb k 5 g); room = room (value_string s i k v (sym is ∙ e) g) F.room }

    pub string_put : k ≡ 5 → {o' : List ℕ} {r : ℕ} → Put o o' to (long_text (said_at s v)) r → Put o o' to (text_of (value_at s i k v)) r
    string_put g P = again (value_string s i k v (sym is ∙ e) g) P

    pub value_empty : (k ≡ 4 → ⊥) → (k ≡ 5 → ⊥) → Put o o to (text_of (value_at s i k v)) to
    value_empty f g = again (value_none s i k v (sym is ∙ e) f g) (put_none o to)

-- ---- numbers one behind another

behind : (o : List ℕ) (to p : ℕ) (a b : List ℕ) {x y : List ℕ} → x ≡ stored o to a → y ≡ stored x p b → p ≡ to + length a → p + length b ≤ length o → y ≡ stored o to (a ++ b)
behind o to p a b {x} {y} e f g h = f ∙ ap (λ (z : List ℕ). stored z p b) e ∙ then_stored o to p a b g h

module _ (o : List ℕ) (at : ℕ) (f : Fields) (l : at + 20 ≤ length o) {o₁ o₂ o₃ o₄ o₅ o₆ : List ℕ} where
  pub fields_put : o₁ ≡ stored o at (little 2 f.step) → o₂ ≡ stored o₁ (at + 2) (little 2 f.kind) → o₃ ≡ stored o₂ (at + 4) (little 2 f.path) → o₄ ≡ stored o₃ (at + 6) (little 2 f.span)
      → o₅ ≡ stored o₄ (at + 8) (little 8 f.value) → o₆ ≡ stored o₅ (at + 16) (little 4 f.place) → o₆ ≡ stored o at (field_bytes f)
  unfolding field_bytes
  fields_put e₁ e₂ e₃ e₄ e₅ e₆ =
      let z₁ = length_little 2 f.step in
      let z₂ = length_little 2 f.kind in
      let z₃ = length_little 2 f.path in
      let z₄ = length_little 2 f.span in
      let z₅ = length_little 8 f.value in
      let z₆ = length_little 4 f.place in
      let t₂ = behind o at (at + 2) (little 2 f.step) (little 2 f.kind) e₁ e₂ (omega arith) (omega arith) in
      let t₃ = behind o at (at + 4) _ (little 2 f.path) t₂ e₃ (simp length-append (omega arith)) (omega arith) in
      let t₄ = behind o at (at + 6) _ (little 2 f.span) t₃ e₄ (simp length-append (omega arith)) (omega arith) in
      let t₅ = behind o at (at + 8) _ (little 8 f.value) t₄ e₅ (simp length-append (omega arith)) (omega arith) in
      let t₆ = behind o at (at + 16) _ (little 4 f.place) t₅ e₆ (simp length-append (omega arith)) (omega arith) in
      t₆ ∙ ap (stored o at) (simp append_assoc)

-- ---- a row

label_figured : (s : List ℕ) (i p t : ℕ) → figure_of (has_path i) 0 t ≡ figure t (label_at s i p)
unfolding label_at figure_of figure when◌then◌else◌
label_figured s i p t = go (has_path i)
  where
    go : (b : Bool) → figure_of b 0 t ≡ figure t (when b then text (path_text (path_at s p)) else number 0)
    go true = refl
    go false = refl

value_figured : (s : List ℕ) (i k v t : ℕ) → figure_of (is_path i k || is_long k) v t ≡ figure t (value_at s i k v)
unfolding value_at figure_of figure when◌then◌else◌
value_figured s i k v t = go (is_path i k) (is_long k)
  where
    go : (b c : Bool) → figure_of (b || c) v t ≡ figure t (when b then text (path_text (path_at s v)) else when c then text (long_text (said_at s v)) else number v)
    go true c = refl
    go false true = refl
    go false false = refl

-- the same but for the places of texts
abbrev with_texts : Fields → ℕ → ℕ → Fields
with_texts f p v = record { step = f.step; kind = f.kind; path = p; span = f.span; value = v; place = f.place }

row_size : (s : List ℕ) (f : Fields) (t : ℕ) → length (row_bytes t (settled s f)) ≡ 20
unfolding row_bytes settled
row_size s f t = simp (length-append, length_little) (omega arith)

pub fits_as : {s : List ℕ} {f g : Fields} {b : ℕ} {o : List ℕ} {i t : ℕ} → g ≡ f → RowFits s f b o i t → RowFits s g b o i t
fits_as {s} {f} {g} {b} {o} {i} {t} e F = subst (λ (f : Fields). RowFits s f b o i t) (sym e) F

pub laid_as : {s : List ℕ} {f g : Fields} {b : ℕ} {o o' : List ℕ} {i t r : ℕ} → g ≡ f → Laid s g b o o' i t r → Laid s f b o o' i t r
laid_as {s} {f} {g} {b} {o} {o'} {i} {t} {r} e F = subst (λ (f : Fields). Laid s f b o o' i t r) e F

module _ {s : List ℕ} {f : Fields} {b : ℕ} {o : List ℕ} {i t : ℕ} (F : RowFits s f b o i t) where
  sizes : length (row_text (settled s f)) ≡ length (text_of (label_at s f.step f.path)) + length (text_of (value_at s f.step f.kind f.value))
  unfolding row_text settled
  sizes = length-append (text_of (label_at s f.step f.path)) (text_of (value_at s f.step f.kind f.value))

  pub row_label : LabelFits s f.step f.path o (b + t)
  row_label = record { there = F.there.label; room = record { room = omega (arith, F.room, sizes) } }

  module _ {o₁ : List ℕ} {mid : ℕ} (P : Put o o₁ (b + t) (text_of (label_at s f.step f.path)) mid) where
    pub row_value : ValueFits s f.step f.kind f.value o₁ mid
    row_value =
        let l = ap length P.is ∙ length_stored o (b + t) (text_of (label_at s f.step f.path)) in
        record { there = F.there.value; room = record { room = omega (arith, F.room, sizes, P.end) } }

    module _ {o₂ : List ℕ} {end : ℕ} (Q : Put o₁ o₂ mid (text_of (value_at s f.step f.kind f.value)) end) where
      row_record : {q v : ℕ} → q ≡ figure_of (has_path f.step) 0 t → v ≡ figure_of (is_path f.step f.kind || is_long f.kind) f.value (mid - b)
          → field_bytes (with_texts f q v) ≡ row_bytes t (settled s f)
      unfolding field_bytes row_bytes settled
      row_record {q} {v} e g =
          let m : mid - b ≡ t + length (text_of (label_at s f.step f.path)) = omega (arith, P.end) in
          let w : v ≡ figure (t + length (text_of (label_at s f.step f.path))) (value_at s f.step f.kind f.value) = g ∙ value_figured s f.step f.kind f.value (mid - b) ∙ ap (λ (n : ℕ). figure n (value_at s f.step f.kind f.value)) m in
          ap₂ (λ (x y : ℕ). little 2 f.step ++ (little 2 f.kind ++ (little 2 x ++ (little 2 f.span ++ (little 8 y ++ little 4 f.place)))))
          (e ∙ label_figured s f.step f.path t) w

      pub row_laid : {q v : ℕ} {o₃ : List ℕ} → q ≡ figure_of (has_path f.step) 0 t → v ≡ figure_of (is_path f.step f.kind || is_long f.kind) f.value (mid - b)
          → {d : Fields} → d ≡ with_texts f q v → o₃ ≡ stored o₂ (24 + 20 * i) (field_bytes d)
          → Laid s f b o o₃ i t (end - b)
      unfolding lay_row row_text settled
      row_laid {q} {v} {o₃} e g {d} k h =
          let L = text_of (label_at s f.step f.path) in
          let W = text_of (value_at s f.step f.kind f.value) in
          let R = row_bytes t (settled s f) in
          let A = 24 + 20 * i in
          let z = length-append L W in
          let both : o₂ ≡ stored o (b + t) (L ++ W) = behind o (b + t) mid L W P.is Q.is P.end (omega (arith, F.room, sizes, P.end)) in
          let short : length R ≡ 20 = row_size s f t in
          record {
            is =
                h ∙ ap₂ (λ (x : List ℕ) (y : List ℕ). stored x A y) both (ap field_bytes k ∙ row_record e g)
                ∙ stored_apart o A R (b + t) (L ++ W) (omega (arith, F.before)) (omega (arith, F.room, sizes));
            end = omega (arith, P.end, Q.end, sizes);
          }

-- ---- the list

module _ (s w : List ℕ) where
  rows_length : (i n : ℕ) → length (rows_at s w i n) ≡ n
  unfolding rows_at
  rows_length i zero = refl
  rows_length i (suc n) = ap suc (rows_length (suc i) n)

  rows_lasts : (i n : ℕ) → Lasts 4 (rows_at s w i n)
  unfolding rows_at settled
  rows_lasts i zero = tt
  rows_lasts i (suc n) = (length_little 4 (fields_at w (20 * i)).place, rows_lasts (suc i) n)

  rows_step : (i n : ℕ) → i < n → rows_at s w i (n - i) ≡ settled s (fields_at w (20 * i)) ∷ rows_at s w (i + 1) (n - (i + 1))
  unfolding rows_at
  rows_step i n h =
      let e : n - i ≡ suc (n - (i + 1)) = omega arith in
      let j : suc i ≡ i + 1 = omega arith in
      ap (rows_at s w i) e ∙ ap (λ (k : ℕ). settled s (fields_at w (20 * i)) ∷ rows_at s w k (n - (i + 1))) j

  rows_done : (i n : ℕ) → n ≤ i → rows_at s w i (n - i) ≡ []
  unfolding rows_at
  rows_done i n h = let e : n - i ≡ 0 = omega arith in ap (rows_at s w i) e

  -- whatever the rows that are left make of the slice, all of them make of it as it was
  pub record ListLoop (n size base : ℕ) (o₀ o : List ℕ) (i t : ℕ) : Type 0 where
    pub begins : base ≡ 24 + 20 * n
    pub upto : i ≤ n
    pub long : length o ≡ length o₀
    pub sized : t + length (texts (rows_at s w i (n - i))) ≡ size
    pub onward : lay base o i t (rows_at s w i (n - i)) ≡ lay base o₀ 0 0 (rows_at s w 0 n)

  pub list_begin : {n size : ℕ} {o o₀ : List ℕ} → ListFits s w n size o → ListLoop n size (24 + 20 * n) o₀ o₀ 0 0
  list_begin {n} F =
      let e : n - 0 ≡ n = omega arith in
      record {
        begins = refl;
        upto = omega arith;
        long = refl;
        sized = rw e (omega (arith, F.sized));
        onward = rw e refl;
      }

  module _ {n size base : ℕ} {e o₀ o : List ℕ} {i t : ℕ} (F : ListFits s w n size e) (same : length o₀ ≡ length e) (L : ListLoop n size base o₀ o i t) where
    module _ (h : i < n) where
      text_step : length (texts (rows_at s w i (n - i))) ≡ length (row_text (settled s (fields_at w (20 * i)))) + length (texts (rows_at s w (i + 1) (n - (i + 1))))
      unfolding texts
      text_step = ap (λ (xs : List Row). length (texts xs)) (rows_step i n h) ∙ length-append (row_text (settled s (fields_at w (20 * i)))) (texts (rows_at s w (i + 1) (n - (i + 1))))

      pub list_row : RowFits s (fields_at w (20 * i)) base o i t
      list_row =
          record {
            there = F.there i h;
            few = omega (arith, F.few);
            before = omega (arith, L.begins);
            room = omega (arith, L.begins, L.sized, L.long, F.few, F.light, F.room, text_step);
            short = omega (arith, L.sized, F.light, text_step);
          }

      pub list_more : {o' : List ℕ} {t' : ℕ} → Laid s (fields_at w (20 * i)) base o o' i t t' → ListLoop n size base o₀ o' (i + 1) t'
      unfolding lay lay_row
      list_more {o'} {t'} P =
          let x = settled s (fields_at w (20 * i)) in
          let xs = rows_at s w (i + 1) (n - (i + 1)) in
          let j : i + 1 ≡ suc i = omega arith in
          record {
            begins = L.begins;
            upto = omega arith;
            long = ap length P.is ∙ row_long base o i t x ∙ L.long;
            sized = omega (arith, L.sized, text_step, P.end);
            onward =
                ap₂ (λ (a : List ℕ) (b : ℕ). lay base a (i + 1) b xs) P.is P.end
                ∙ ap (λ (k : ℕ). lay base (lay_row base o i t x) k (t + length (row_text x)) xs) j
                ∙ ap (lay base o i t) (sym (rows_step i n h))
                ∙ L.onward;
          }
        where
          row_long : (b : ℕ) (o : List ℕ) (i t : ℕ) (x : Row) → length (lay_row b o i t x) ≡ length o
          row_long b o i t x = length_stored (stored o (24 + 20 * i) (row_bytes t x)) (b + t) (row_text x) ∙ length_stored o (24 + 20 * i) (row_bytes t x)

    pub list_end : n ≤ i → o₀ ≡ stored e 0 (head n size) → o ≡ written_list s w n e
    unfolding lay
    list_end h q =
        let xs = rows_at s w 0 n in
        let l : length xs ≡ n = rows_length 0 n in
        let z : length (texts xs) ≡ size = F.sized in
        let d : lay base o i t [] ≡ lay base o₀ 0 0 xs = rw (rows_done i n h) at L.onward in
        let b : lay base o₀ 0 0 xs ≡ lay (24 + 20 * length xs) (stored e 0 (head (length xs) (length (texts xs)))) 0 0 xs =
        ap₂ (λ (p : ℕ) (a : List ℕ). lay p a 0 0 xs) (L.begins ∙ ap (λ (m : ℕ). 24 + 20 * m) (sym l)) (q ∙ ap₂ (λ (m k : ℕ). stored e 0 (head m k)) (sym l) (sym z)) in
        d ∙ b ∙ laid e xs (rows_lasts 0 n) (omega (arith, laid_length xs (rows_lasts 0 n), F.few, F.light, F.room))
