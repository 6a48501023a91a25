-- Tables are read exactly: `table_of b` is the store that b is the table of, and nothing where there is none. Assumes nothing.
use Prim.Native.Nat.{ℕ, zero, suc, ◌+◌, ◌*◌, ◌-◌, ◌^◌, ◌≤◌, ◌<◌, max}
use native.Mathlib.Omega.{arith}
use native.Mathlib.Nat.{add-zero}
use mathlib.Core.Path.{◌≡◌, refl, sym, ◌∙◌, ap, subst}
use mathlib.Core.Bool.{Bool, true, false, false≢true, ◌&&◌}
use mathlib.Core.List.{List, [], ◌∷◌, ◌++◌, append-nil}
use mathlib.Core.Option.{Option, none, some}
use mathlib.Core.Logic.{◌↔◌}
use lib.ListN.{length, length-append}
use lib.Dec.{eqb}
use borrow.Author.Tests.{leb-true, eqb-true, le-leb, eq-eqb, ne_eqb}
use Rattle.paper.specs.Bytes.{when◌then◌else◌}
use Rattle.paper.specs.Maybe.{◌>>=◌, require}
use Rattle.paper.specs.Syntax.{Name, Basic, boolean, null, integer, decimal, string, reference, vector, Basics, εⱽ, ◌∷ⱽ◌}
use Rattle.paper.specs.Store.{Store, ∅, entry, Value, basic, component, lookup}
use Rattle.paper.specs.Layout.{little, name_text, Field, number, text, Row, kind, content, elements, each, table_row, rows, value_rows, text_of, figure, row_bytes, texts, records, table, deepest}
use Rattle.paper.specs.WellFormed.{IsName, IsBasic, IsStore, IsValue, IsTable}
use Rattle.paper.specs.Decoder.{Cursor, Raw, basic_at}
use Rattle.paper.specs.TableDecoder.{in_table, entries_at, absent, distinct, distinct_in, table_of}
use Rattle.theorems.proofs.Decoded.Header.{header_sound, header_complete, Lasts, lasts-++, records_length, laid_out_headed, ended_sound, ended_complete}
use Rattle.paper.specs.DecodeAt.{headed}
use Rattle.theorems.proofs.Decoded.Parts.{exact_name, raw_bytes, Narrow, make_raw, same_raw, length_little}
use Rattle.theorems.proofs.Decoded.Rows.{Took, Record, Front, Fielded, Between, Parts, took_nil, front_nil, front-++, split, front_one, split_one, front_stays, stays, front_end, record_sound, record_complete, field_sound, field_complete, figure_below, kind_below, Within, WithinAll, Lawful, BasicRead, basic_sound, basic_complete}
use Rattle.theorems.proofs.Laws.Answers.{if_case}
use Rattle.theorems.proofs.Laws.Found.{Found, nothing, found, found_bind, found_require, found_some}

-- ---- elements in a table

abbrev bare_row : ℕ → ℕ → ℕ → Field → Row
bare_row = table_row (number 65535)

and_true : (a b : Bool) → (a && b) ≡ true → (a ≡ true) × (b ≡ true)
and_true true b e = (refl, e)
and_true false b e = absurd (false≢true e)

pub table_lawful : Lawful in_table bare_row
unfolding in_table table_row row_bytes raw_bytes figure text_of little
table_lawful = record {
  raw = λ k d m v. record { first = k; second = d; label = 65535; span = m; value = v; place = 0 };
  bytes = λ k d m v t. rw (add-zero t);
  label = λ k d m v. refl;
  value = λ k d m v. refl;
  fitting = λ d x e l.
      let h = and_true (eqb x.second d) (eqb x.label 65535) e in
      let z : x.place ≡ 0 = omega arith in
      same_raw refl (eqb-true _ _ h.0) (eqb-true _ _ h.1) refl refl z;
  fits = λ k d m v. rw (eq-eqb d d refl);
  kinded = λ k d m v. refl;
  spanned = λ k d m v. refl;
  valued = λ k d m v. refl;
  narrow = λ k d m v lk ld lm lv. record { first = lk; second = ld; label = omega arith; span = lm; value = lv; place = omega arith };
}

-- ---- depth

deepest-++ : (xs ys : List Row) → deepest (xs ++ ys) ≡ max (deepest xs) (deepest ys)
unfolding deepest
deepest-++ [] ys = omega arith
deepest-++ (x ∷ xs) ys = rw (deepest-++ xs ys) (omega arith)

mutual
  unfolding deepest elements table_row

  within_deep : (b : Basic) (d : ℕ) → Within 32 d b → deepest (elements bare_row d b) ≤ 32
  within_deep (boolean b) d w = omega arith
  within_deep null d w = omega arith
  within_deep (integer z) d w = omega arith
  within_deep (decimal t) d w = omega arith
  within_deep (string t) d w = omega arith
  within_deep (reference r) d w = omega arith
  within_deep (vector bs) d w = within_deep_all bs (suc d) w.1

  within_deep_all : (bs : Basics) (d : ℕ) → WithinAll 32 d bs → deepest (each bare_row d bs) ≤ 32
  within_deep_all εⱽ d w = omega arith
  within_deep_all (b ∷ⱽ bs) d w = rw (deepest-++ (elements bare_row d b) (each bare_row d bs)) (omega (arith, w.0, within_deep b d w.1, within_deep_all bs d w.2))

mutual
  unfolding deepest elements table_row

  deep_within : (b : Basic) (d : ℕ) → d ≤ 32 → deepest (elements bare_row d b) ≤ 32 → Within 32 d b
  deep_within (boolean b) d l h = tt
  deep_within null d l h = tt
  deep_within (integer z) d l h = tt
  deep_within (decimal t) d l h = tt
  deep_within (string t) d l h = tt
  deep_within (reference r) d l h = tt
  deep_within (vector bs) d l h = (l, deep_within_all bs (suc d) h)

  deep_within_all : (bs : Basics) (d : ℕ) → deepest (each bare_row d bs) ≤ 32 → WithinAll 32 d bs
  deep_within_all εⱽ d h = tt
  deep_within_all (b ∷ⱽ bs) d h =
      let q = deepest-++ (elements bare_row d b) (each bare_row d bs) in
      let l : d ≤ 32 = omega arith in
      (l, deep_within b d l (omega arith), deep_within_all bs d (omega arith))

-- ---- the row of a value

abbrev value_kind : Value → ℕ
value_kind (basic b) = kind b
value_kind (component s) = 0

abbrev value_content : Value → Field
value_content (basic b) = content b
value_content (component s) = number 0

abbrev value_below : ℕ → Value → List Row
value_below d (basic b) = elements bare_row d b
value_below d (component s) = rows (suc d) s

abbrev value_row : ℕ → Name → Value → Row
value_row d n v = table_row (text (name_text n)) (value_kind v) d (suc (length (value_below d v))) (value_content v)

value_rows_is : (d : ℕ) (n : Name) (v : Value) → value_rows d (text (name_text n)) v ≡ value_row d n v ∷ value_below d v
unfolding rows
value_rows_is d n (basic b) = refl
value_rows_is d n (component s) = refl

-- names and basics as they should be, but for names twice
abbrev mutual
  pub Named : Store → Type 0
  Named ∅ = Unit
  Named (entry n v s) = IsName n × NamedIn v × Named s

  pub NamedIn : Value → Type 0
  NamedIn (basic b) = IsBasic b
  NamedIn (component s) = Named s

record ValueRead (d k m v : ℕ) (at : Cursor) (r : Value × Cursor) : Type 0 where
  kinded : value_kind r.0 ≡ k
  figured : figure at.pos (value_content r.0) ≡ v
  spanned : suc (length (value_below d r.0)) ≡ m
  mid : Cursor
  took : Took (text_of (value_content r.0)) at mid
  below : Front (value_below d r.0) mid r.1
  good : NamedIn r.0
  deep : deepest (value_below d r.0) ≤ 32

pub record EntriesRead (d n : ℕ) (at : Cursor) (r : Store × Cursor) : Type 0 where
  pub front : Front (rows d r.0) at r.1
  pub sized : length (rows d r.0) ≡ n
  pub good : Named r.0
  pub deep : deepest (rows d r.0) ≤ 32

entry_read : (d k : ℕ) (at : Cursor) (x : Raw) (at₁ : Cursor) (n : Name) (at₂ : Cursor) (v : Value) (at₃ : Cursor) (s : Store) (at₄ : Cursor)
    → Record 0 x at at₁ → d ≤ 32 → x.second ≡ d → x.span ≤ suc k → Fielded name_text IsName x.label at₁ (n, at₂) → ValueRead d x.first x.span x.value at₂ (v, at₃)
    → EntriesRead d (suc k - x.span) at₃ (s, at₄) → EntriesRead d (suc k) at (entry n v s, at₄)
unfolding rows row_bytes raw_bytes figure text_of little table_row deepest
entry_read d k at x at₁ n at₂ v at₃ s at₄ g l e₁ e₂ h i j =
    let m = suc (length (value_below d v)) in
    let p₁ : at₁.pos ≡ at.pos = g.pos in
    let p₂ : at₂.pos ≡ at.pos + length (name_text n) = h.took.pos ∙ ap (λ t. t + length (name_text n)) p₁ in
    let z : x.place ≡ 0 = omega (arith, g.narrow.place) in
    let f₃ : at.pos ≡ x.label = sym p₁ ∙ sym h.placed in
    let f₅ : figure (at.pos + length (name_text n)) (value_content v) ≡ x.value = ap (λ p. figure p (value_content v)) (sym p₂) ∙ i.figured in
    let bytes : row_bytes at.pos (value_row d n v) ≡ raw_bytes 0 x =
    ap (raw_bytes 0) (same_raw {x = make_raw (value_kind v) d at.pos m (figure (at.pos + length (name_text n)) (value_content v)) 0} {y = x} i.kinded (sym e₁) f₃ i.spanned f₅ (sym z)) in
    record {
      front = rw (value_rows_is d n v) (front-++ (front-++ (front_one g h.took i.took bytes) i.below) j.front);
      sized = rw (value_rows_is d n v) (simp length-append (omega (arith, i.spanned, j.sized)));
      good = (h.good, i.good, j.good);
      deep = rw (value_rows_is d n v, deepest-++ (value_row d n v ∷ value_below d v) (rows d s)) (omega (arith, i.deep, j.deep));
    }

value_read : (d k m v : ℕ) (at : Cursor) (b : Basic) (after : Cursor) → BasicRead in_table bare_row table_lawful d k m v at (b, after) → ValueRead d k m v at (basic b, after)
unfolding in_table
value_read d k m v at b after h =
    record { kinded = h.kinded; figured = h.figured; spanned = h.spanned; mid = h.mid; took = h.took; below = h.below; good = h.good; deep = within_deep b d h.within }

pub entries_sound : (f d n : ℕ) (at : Cursor) → Found (EntriesRead d n at) (entries_at f d n at)
unfolding entries_at rows deepest content figure text_of
entries_sound zero d n at = nothing
entries_sound (suc f) d zero at = found {x = (∅, at)} (record { front = front_nil at; sized = refl; good = tt; deep = omega arith })
entries_sound (suc f) d (suc k) at =
    found_bind _ (record_sound 0 at) (λ x g.
    found_require _ _ (λ e₁.
    found_require _ _ (λ e₂.
    found_require _ _ (λ e₅.
    found_require _ _ (λ e₃.
    let one = leb-true 1 x.0.span e₅ in
    found_bind _ (field_sound exact_name x.0.label x.1) (λ y h.
    found_bind {P = ValueRead d x.0.first x.0.span x.0.value y.1} _
    (if_case (Found (ValueRead d x.0.first x.0.span x.0.value y.1)) _ _ _
    (λ z.
    found_require _ _ (λ e₄.
    found_bind _ (entries_sound f (suc d) (x.0.span - 1) y.1) (λ c i.
    found {x = (component c.0, c.1)} (record {
      kinded = sym (eqb-true x.0.first 0 z);
      figured = sym (eqb-true x.0.value 0 e₄);
      spanned = omega (arith, i.sized);
      mid = y.1;
      took = took_nil y.1;
      below = i.front;
      good = i.good;
      deep = i.deep;
    }))))
    (λ _.
    found_bind _ (basic_sound in_table bare_row table_lawful f d x.0.first x.0.span x.0.value y.1 g.narrow.value one) (λ b i.
    found {x = (basic b.0, b.1)} (value_read d _ _ _ y.1 b.0 b.1 i))))
    (λ v i.
    found_bind _ (entries_sound f d (suc k - x.0.span) v.1) (λ s j.
    found {x = (entry y.0 v.0 s.0, s.1)} (entry_read d k at x.0 x.1 y.0 y.1 v.0 v.1 s.0 s.1 g (leb-true d 32 e₁) (eqb-true _ d e₂) (leb-true _ (suc k) e₃) h i j)))))))))

-- ---- names twice

absent_none : {A : Type 0} (o : Option A) → absent o ≡ true → o ≡ none
unfolding absent
absent_none none e = refl
absent_none (some a) e = absurd (false≢true e)

mutual
  unfolding distinct

  distinct_store : (s : Store) → Named s → distinct s ≡ true → IsStore s
  distinct_store ∅ h e = tt
  distinct_store (entry n v s) h e =
      let p = and_true (absent (lookup s n)) (distinct_in v && distinct s) e in
      let q = and_true (distinct_in v) (distinct s) p.1 in
      (h.0, absent_none (lookup s n) p.0, distinct_value v h.1 q.0, distinct_store s h.2 q.1)

  distinct_value : (v : Value) → NamedIn v → distinct_in v ≡ true → IsValue v
  distinct_value (basic b) h e = h
  distinct_value (component s) h e = distinct_store s h e

mutual
  unfolding distinct absent

  store_distinct : (s : Store) → IsStore s → distinct s ≡ true
  store_distinct ∅ h = refl
  store_distinct (entry n v s) h = rw (h.1, value_distinct v h.2, store_distinct s h.3)

  value_distinct : (v : Value) → IsValue v → distinct_in v ≡ true
  value_distinct (basic b) h = refl
  value_distinct (component s) h = store_distinct s h

mutual
  store_named : (s : Store) → IsStore s → Named s
  store_named ∅ h = tt
  store_named (entry n v s) h = (h.0, value_named v h.2, store_named s h.3)

  value_named : (v : Value) → IsValue v → NamedIn v
  value_named (basic b) h = h
  value_named (component s) h = store_named s h

-- ---- from bytes to a table

pub table_sound : (b : List ℕ) → Found (IsTable b) (table_of b)
unfolding table_of table
table_sound b =
    found_bind _ (header_sound 2 16 1024 16384 b) (λ x h.
    found_bind _ (entries_sound (2 * length x.1.recs + 2) 1 x.0 x.1) (λ y g.
    found_bind _ (ended_sound y.1) (λ _ e.
    found_require _ _ (λ u.
    let xs = rows 1 y.0 in
    let n : length xs ≡ x.0 = g.sized in
    let r₁ : x.1.recs ≡ records 0 xs = g.front.recs ∙ rw (h.start, e.recs) (append-nil (records 0 xs)) in
    let t₁ : x.1.text ≡ texts xs = g.front.text ∙ rw e.text (append-nil (texts xs)) in
    let k : length (records 0 xs) ≡ 16 * length xs = sym (ap length r₁) ∙ h.recs ∙ ap (λ i. 16 * i) (sym n) in
    found (record {
      laid_out = h.bytes ∙ rw (r₁, t₁, ← n) (sym (laid_out_headed 2 16 xs k));
      held = record {
        store = distinct_store y.0 g.good u;
        bounds = record { depth = g.deep; nodes = omega (arith, h.few); text = rw (← t₁) h.short };
      };
    })))))

-- ---- from a table to bytes

-- what `entries_at` does for an entry's value
abbrev value_reader : ℕ → ℕ → Raw → Cursor → Option (Value × Cursor)
value_reader f d x at =
    when eqb x.first 0
    then (do
      _ ← require (eqb x.value 0)
      (c, at) ← entries_at f (suc d) (x.span - 1) at
      some (component c, at))
    else (do
      (b, at) ← basic_at f in_table d x.first x.span x.value at
      some (basic b, at))

entry_complete : (f d k : ℕ) (n : Name) (v : Value) (s : Store) {at at₁ at₂ at₃ after : Cursor} (x : Raw) → Record 0 x at at₁ → x.second ≡ d → d ≤ 32 → 1 ≤ x.span → x.span ≤ suc k
    → Took (name_text n) at₁ at₂ → x.label ≡ at₁.pos → IsName n → value_reader f d x at₂ ≡ some (v, at₃) → entries_at f d (suc k - x.span) at₃ ≡ some (s, after)
    → entries_at (suc f) d (suc k) at ≡ some (entry n v s, after)
unfolding entries_at ◌>>=◌ require
entry_complete f d k n v s x r e l one m t p h ev es =
    rw (record_complete r, le-leb d 32 l, eq-eqb x.second d e, le-leb 1 x.span one, le-leb x.span (suc k) m, field_complete exact_name n x.label h t p, ev, es)

-- the parts of an entry's rows
record EntryParts (d : ℕ) (n : Name) (v : Value) (s : Store) (at after : Cursor) : Type 0 where
  at₁ : Cursor
  at₂ : Cursor
  mid : Cursor
  at₃ : Cursor
  own : Record 0 (make_raw (value_kind v) d at.pos (suc (length (value_below d v))) (figure at₂.pos (value_content v)) 0) at at₁
  label : Took (name_text n) at₁ at₂
  value : Took (text_of (value_content v)) at₂ mid
  below : Front (value_below d v) mid at₃
  rest : Front (rows d s) at₃ after

value_narrow : (v : Value) (p : ℕ) → NamedIn v → p < 65536 → (value_kind v < 65536) × (figure p (value_content v) < 2 ^ 64)
unfolding kind content figure
value_narrow (component s) p h l = (omega arith, omega arith)
value_narrow (basic b) p h l = (kind_below b, figure_below b p h l)

entry_parts : (d : ℕ) (n : Name) (v : Value) (s : Store) {at after : Cursor} → Front (rows d (entry n v s)) at after → after.pos < 65536 → d < 65536 → suc (length (value_below d v)) < 65536 → NamedIn v
    → EntryParts d n v s at after
unfolding rows row_bytes raw_bytes figure text_of little table_row
entry_parts d n v s {at} {after} f l ld lm h =
    let r = value_row d n v in
    let m = suc (length (value_below d v)) in
    let f' : Front ((r ∷ value_below d v) ++ rows d s) at after = subst (λ xs. Front (xs ++ rows d s) at after) (value_rows_is d n v) f in
    let s₁ : Between (r ∷ value_below d v) (rows d s) at after = split f' in
    let s₂ : Between (r ∷ []) (value_below d v) at s₁.mid = split s₁.left in
    let low : at.pos + length (text_of r.label) + length (text_of r.value) < 65536 = front_end s₂.left (omega (arith, s₁.right.pos, s₂.right.pos)) in
    let w = value_narrow v (at.pos + length (name_text n)) h (omega arith) in
    let x = make_raw (value_kind v) d at.pos m (figure (at.pos + length (name_text n)) (value_content v)) 0 in
    let narrow : Narrow 0 x = record { first = w.0; second = ld; label = omega arith; span = lm; value = w.1; place = omega arith } in
    let p : Parts 0 x r at s₂.mid = split_one s₂.left refl narrow in
    let e : p.after_label.pos ≡ at.pos + length (name_text n) = p.label.pos ∙ ap (λ i. i + length (name_text n)) p.own.pos in
    record {
      at₁ = p.after_record;
      at₂ = p.after_label;
      mid = s₂.mid;
      at₃ = s₁.mid;
      own = rw e p.own;
      label = p.label;
      value = p.value;
      below = s₂.right;
      rest = s₁.right;
    }

kind_some : (b : Basic) → kind b ≡ 0 → ⊥
unfolding kind
kind_some (boolean b) e = omega arith
kind_some null e = omega arith
kind_some (integer z) e = omega arith
kind_some (decimal t) e = omega arith
kind_some (string t) e = omega arith
kind_some (reference r) e = omega arith
kind_some (vector bs) e = omega arith

-- that the entries of c at depth d are read back, with the count f
abbrev Back : ℕ → ℕ → Store → Type 0
Back f d c = (at after : Cursor) → Front (rows d c) at after → after.pos < 65536 → length (rows d c) < 65536 → Named c → deepest (rows d c) ≤ 32 → 2 * length (rows d c) + 1 ≤ f
    → entries_at f d (length (rows d c)) at ≡ some (c, after)

value_complete : (v : Value) (f d place : ℕ) {at mid after : Cursor} → Took (text_of (value_content v)) at mid → Front (value_below d v) mid after → after.pos < 65536 → length (value_below d v) < 65535
    → NamedIn v → d ≤ 32 → deepest (value_below d v) ≤ 32 → 2 * length (value_below d v) + 2 ≤ f → ((c : Store) → Back f (suc d) c)
    → value_reader f d (make_raw (value_kind v) d place (suc (length (value_below d v))) (figure at.pos (value_content v)) 0) at ≡ some (v, after)
unfolding when◌then◌else◌ ◌>>=◌ require figure text_of in_table
value_complete (basic b) f d place t fr l n h ld w le again =
    rw (ne_eqb (kind b) 0 (kind_some b), basic_complete in_table bare_row table_lawful b f d t fr l n h (deep_within b d ld w) le)
value_complete (component c) f d place {at} {mid} {after} t fr l n h ld w le again =
    let k = length (rows (suc d) c) in
    let q : suc k - 1 ≡ k = omega arith in
    let fr' : Front (rows (suc d) c) at after = subst (λ a. Front (rows (suc d) c) a after) (sym (stays t)) fr in
    rw (q, again c at after fr' l (omega arith) h w (omega arith))

pub entries_complete : (f d : ℕ) (s : Store) → Back f d s
unfolding rows entries_at when◌then◌else◌ ◌>>=◌ require deepest table_row
entries_complete zero d s at after fr l n h w le = absurd (omega arith)
entries_complete (suc f) d ∅ at after fr l n h w le = ap (λ c. some (∅, c)) (front_stays fr)
entries_complete (suc f) d (entry k v s) at after fr l n h w le =
    let len : length (rows d (entry k v s)) ≡ suc (length (value_below d v ++ rows d s)) = ap (λ xs. length (xs ++ rows d s)) (value_rows_is d k v) in
    let len₂ = length-append (value_below d v) (rows d s) in
    let m = suc (length (value_below d v)) in
    let w₁ = deepest-++ (value_row d k v ∷ value_below d v) (rows d s) in
    let w₂ : deepest (rows d (entry k v s)) ≡ deepest ((value_row d k v ∷ value_below d v) ++ rows d s) = ap (λ xs. deepest (xs ++ rows d s)) (value_rows_is d k v) in
    let ld : d ≤ 32 = omega arith in
    let p = entry_parts d k v s fr l (omega arith) (omega arith) h.1 in
    let es : entries_at f d (length (rows d s)) p.at₃ ≡ some (s, after) = entries_complete f d s p.at₃ after p.rest l (omega arith) h.2 (omega arith) (omega arith) in
    let q : suc (length (value_below d v ++ rows d s)) - m ≡ length (rows d s) = omega arith in
    let ev = value_complete v f d at.pos p.value p.below (omega (arith, p.rest.pos)) (omega arith) h.1 ld (omega arith) (omega arith) (λ c. entries_complete f (suc d) c) in
    rw len (entry_complete f d (length (value_below d v ++ rows d s)) k v s _ p.own refl ld (omega arith) (omega arith) p.label (sym p.own.pos) h.0 ev (rw q es))

-- rows of tables have no last field
mutual
  unfolding elements table_row

  elements_lasts : (b : Basic) (d : ℕ) → Lasts 0 (elements bare_row d b)
  elements_lasts (boolean b) d = tt
  elements_lasts null d = tt
  elements_lasts (integer z) d = tt
  elements_lasts (decimal t) d = tt
  elements_lasts (string t) d = tt
  elements_lasts (reference r) d = tt
  elements_lasts (vector bs) d = each_lasts bs (suc d)

  each_lasts : (bs : Basics) (d : ℕ) → Lasts 0 (each bare_row d bs)
  each_lasts εⱽ d = tt
  each_lasts (b ∷ⱽ bs) d = (refl, lasts-++ 0 (elements bare_row d b) (each bare_row d bs) (elements_lasts b d) (each_lasts bs d))

mutual
  unfolding rows table_row

  rows_lasts : (s : Store) (d : ℕ) → Lasts 0 (rows d s)
  rows_lasts ∅ d = tt
  rows_lasts (entry n v s) d = lasts-++ 0 (value_rows d (text (name_text n)) v) (rows d s) (value_lasts v (text (name_text n)) d) (rows_lasts s d)

  value_lasts : (v : Value) (n : Field) (d : ℕ) → Lasts 0 (value_rows d n v)
  value_lasts (basic b) n d = (refl, elements_lasts b d)
  value_lasts (component s) n d = (refl, rows_lasts s (suc d))

-- how long a table is
pub table_length : {b : List ℕ} {s : Store} → IsTable b s → length b ≡ 24 + 16 * length (rows 1 s) + length (texts (rows 1 s))
unfolding table headed
table_length {b} {s} h =
    let xs = rows 1 s in
    let k : length (records 0 xs) ≡ 16 * length xs = records_length 0 xs 0 (rows_lasts s 1) in
    ap length (h.laid_out ∙ laid_out_headed 2 16 xs k) ∙ simp (length-append, length_little, k) (omega arith)

pub table_complete : (b : List ℕ) (s : Store) → IsTable b s → table_of b ≡ some s
unfolding table_of table ◌>>=◌ require
table_complete b s h =
    let xs = rows 1 s in
    let k : length (records 0 xs) ≡ 16 * length xs = records_length 0 xs 0 (rows_lasts s 1) in
    let e : b ≡ headed 2 (length xs) (24 + 16 * length xs) (records 0 xs) (texts xs) = h.laid_out ∙ laid_out_headed 2 16 xs k in
    let start : Cursor = record { recs = records 0 xs; text = texts xs; pos = 0 } in
    let stop : Cursor = record { recs = []; text = []; pos = 0 + length (texts xs) } in
    let fr : Front xs start stop = record { recs = sym (append-nil (records 0 xs)); text = sym (append-nil (texts xs)); pos = refl } in
    rw (
      e,
      header_complete 2 16 1024 16384 (length xs) (records 0 xs) (texts xs) (omega arith) k h.held.bounds.nodes (omega arith) h.held.bounds.text (omega (arith, h.held.bounds.nodes, h.held.bounds.text)),
      entries_complete (2 * length (records 0 xs) + 2) 1 s start stop fr (omega (arith, h.held.bounds.text)) (omega (arith, h.held.bounds.nodes)) (store_named s h.held.store) h.held.bounds.depth (omega arith),
      ended_complete stop refl refl,
      store_distinct s h.held.store,
    )

-- ---- the theorems

-- `table_of b` is s exactly when b is the table of s
pub table_exact : (b : List ℕ) (s : Store) → (table_of b ≡ some s) ↔ IsTable b s
table_exact b s = (λ e. found_some (table_sound b) e, table_complete b s)

-- two stores that are as they should be, with one table, are one
pub table_injective : (s t : Store) (b : List ℕ) → IsTable b s → IsTable b t → s ≡ t
table_injective s t b h g = let p = table_complete b s h in let q = table_complete b t g in cc
