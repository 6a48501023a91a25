-- A table's records, loaded, are the rows of its store. Assumes nothing.
use Prim.Native.Nat.{ℕ, suc, ◌+◌, ◌*◌, ◌-◌, ◌/◌, ◌%◌, ◌^◌, ◌≤◌, ◌<◌}
use native.Mathlib.Omega.{arith}
use mathlib.Core.Path.{◌≡◌, refl, sym, ◌∙◌, ap}
use mathlib.Core.Bool.{Bool, true, false}
use mathlib.Core.List.{List, [], ◌∷◌, ◌++◌, append_assoc, map}
use mathlib.Core.Logic.{◌⊎◌, inl, inr}
use lib.ListN.{length, take, drop, get_or, length-append}
use lib.Seq.{take_at, drop_at, drop-drop}
use lib.Dec.{T}
use borrow.Author.Tests.{le-leb, lt-leb, eq-eqb, ne_eqb}
use Rattle.paper.specs.Bytes.{when◌then◌else◌}
use Rattle.paper.specs.Syntax.{Name, Basic, boolean, null, integer, decimal, string, reference, vector, Basics, εⱽ, ◌∷ⱽ◌}
use Rattle.paper.specs.Tokens.{in_range}
use Rattle.paper.specs.Store.{Store, ∅, entry, Value, basic, component}
use Rattle.paper.specs.Layout.{Field, number, text, Row, table_row, little, name_text, kind, content, elements, each, rows, value_rows, text_of, row_text, texts, figure, records, deepest}
use Rattle.paper.specs.Layout as Layout
use Rattle.paper.specs.WellFormed.{IsBasic, AreBasic, IsStore, IsValue}
use Rattle.theorems.proofs.Decoded.Parts.{length_little, complement_below}
use Rattle.theorems.proofs.Decoded.Header.{Lasts, records_length}
use Rattle.memory.specs.Memory.{part_at, stored}
use Rattle.memory.proofs.Laws.{stored_front}
use Rattle.rows.specs.View.{byte_of, label_text, label_of, value_of, seen, groups, view}
use Rattle.rows.specs.Change.{field_at, row_bytes}
use Rattle.rows.specs.Flat.{sized, flat}
use Rattle.rows.proofs.Fields.{field_in}
use Rattle.rows.proofs.Texts.{byte_second, part_second}
use Rattle.rows.proofs.Views.{seen_row, seen_bytes}
use Rattle.load.specs.Load.{name_size, value_size, placed_label, placed_value, size_of, loaded_row, loaded, loads, load_stored}
use Rattle.load.proofs.Sizes.{name_none, value_none, label_none, label_some, value_low, value_high, value_text, loads_all}
use Rattle.load.proofs.Loads.{loaded_row_length, loaded_length}
use Rattle.load.proofs.Values.{word_there, part_there, byte_there, name_size_text, value_size_content}

-- ---- rows that can be read back

-- a name's text, or no name
abbrev pub LabelFits : Field → Type 0
LabelFits (number k) = k ≡ 65535
LabelFits (text s) = (n : Name) × (s ≡ name_text n)

-- a value of kind k: a number, or a text that says how long it is
abbrev pub ValueFits : ℕ → Field → Type 0
ValueFits k (number v) = ((k < 4) ⊎ (6 < k)) × (v < 18446744073709551616)
ValueFits k (text s) = (4 ≤ k) × (k ≤ 6) × ((u : List ℕ) (p : ℕ) (more : List ℕ) → drop p u ≡ s ++ more → value_size u k p ≡ length s)

pub record RowFits (x : Row) : Type 0 where
  pub kind : x.first < 65536
  pub label : LabelFits x.label
  pub value : ValueFits x.first x.value
  pub last : x.last ≡ []

abbrev pub AllFit : List Row → Type 0
AllFit [] = Unit {0}
AllFit (x ∷ xs) = RowFits x × AllFit xs

all-++ : (xs ys : List Row) → AllFit xs → AllFit ys → AllFit (xs ++ ys)
all-++ [] ys h g = g
all-++ (x ∷ xs) ys h g = (h.0, all-++ xs ys h.1 g)

all_lasts : (xs : List Row) → AllFit xs → Lasts 0 xs
all_lasts [] h = tt
all_lasts (x ∷ xs) h = (ap length h.0.last, all_lasts xs h.1)

-- ---- a label, and a value, where their texts stand at p

placed_here : (p : ℕ) → p ≤ 16384 → p % 32768 + 32768 ≡ p + 32768
placed_here p h = omega arith

no_name : (t u : List ℕ) (k : ℕ) → k ≡ 65535 → label_of t u k ≡ number k
unfolding label_of when◌then◌else◌
no_name t u k e = rw (eq-eqb k 65535 e) (ap number (sym e))

a_name : (t u : List ℕ) (p : ℕ) (n : Name) (more : List ℕ) → p ≤ length u → p ≤ 16384 → drop p u ≡ name_text n ++ more → label_of t u (p + 32768) ≡ text (name_text n)
unfolding label_of label_text name_text when◌then◌else◌
a_name t u p n more l h e =
    let q : p + 32768 - 32768 ≡ p = omega arith in
    let b : byte_of t u (p + 32768) ≡ length n = byte_second t u (p + 32768) (omega arith) ∙ ap (λ j. get_or u j 0) q ∙ byte_there u (n ++ more) p (length n) e in
    rw (ne_eqb (p + 32768) 65535 (λ z. omega arith), b)
    (ap text (part_second t u (p + 32768) (1 + length n) (omega arith) ∙ ap (λ j. part_at u j (1 + length n)) q ∙ part_there u (name_text n) more p (1 + length n) l (omega arith) e))

pub record LabelBack (t u : List ℕ) (p : ℕ) (f : Field) : Type 0 where
  pub is : label_of t u (placed_label (figure p f)) ≡ f
  pub size : name_size u (figure p f) ≡ length (text_of f)
  pub low : figure p f < 65536
  pub moved : placed_label (figure p f) < 65536

label_back : (t u : List ℕ) (p : ℕ) (f : Field) (more : List ℕ) → LabelFits f → drop p u ≡ text_of f ++ more → p ≤ length u → p ≤ 16384 → LabelBack t u p f
unfolding figure text_of
label_back t u p (number k) more e d l h =
    record {
      is = ap (label_of t u) (sym (label_none k e)) ∙ no_name t u k e;
      size = sym (name_none u k e);
      low = omega arith;
      moved = rw (← label_none k e) (omega arith);
    }
label_back t u p (text s) more (n, e) d l h =
    let f : drop p u ≡ name_text n ++ more = d ∙ ap (λ a. a ++ more) e in
    let not_none : p ≡ 65535 → ⊥ = λ q. omega arith in
    let q : placed_label p ≡ p + 32768 = sym (label_some p not_none) ∙ placed_here p h in
    record {
      is = ap (label_of t u) q ∙ a_name t u p n more l h f ∙ ap text (sym e);
      size = name_size_text u p n more not_none f ∙ ap length (sym e);
      low = omega arith;
      moved = rw q (omega arith);
    }

no_text : (t u : List ℕ) (k v m : ℕ) → (k < 4) ⊎ (6 < k) → value_of t u k v m ≡ number v
unfolding value_of when◌then◌else◌
no_text t u k v m (inl h) = rw (lt-leb 4 k h)
no_text t u k v m (inr h) = rw (le-leb 4 k (omega arith), lt-leb k 6 h)

a_text : (t u : List ℕ) (k p : ℕ) (s more : List ℕ) → 4 ≤ k → k ≤ 6 → p ≤ length u → drop p u ≡ s ++ more → value_of t u k (p + 32768) (length s) ≡ text s
unfolding value_of when◌then◌else◌
a_text t u k p s more a b l e =
    let q : p + 32768 - 32768 ≡ p = omega arith in
    rw (le-leb 4 k a, le-leb k 6 b) (ap text (part_second t u (p + 32768) (length s) (omega arith) ∙ ap (λ j. part_at u j (length s)) q ∙ part_there u s more p (length s) l refl e))

stays : (k v : ℕ) → (k < 4) ⊎ (6 < k) → placed_value k v ≡ v
stays k v (inl h) = sym (value_low k v h)
stays k v (inr h) = sym (value_high k v (omega arith) h)

pub record ValueBack (t u : List ℕ) (k p : ℕ) (f : Field) : Type 0 where
  pub is : value_of t u k (placed_value k (figure p f)) (length (text_of f)) ≡ f
  pub size : value_size u k (figure p f) ≡ length (text_of f)
  pub low : figure p f < 18446744073709551616
  pub moved : placed_value k (figure p f) < 18446744073709551616

value_back : (t u : List ℕ) (k p : ℕ) (f : Field) (more : List ℕ) → ValueFits k f → drop p u ≡ text_of f ++ more → p ≤ length u → p ≤ 16384 → ValueBack t u k p f
unfolding figure text_of
value_back t u k p (number v) more h d l m =
    let q : placed_value k v ≡ v = stays k v h.0 in
    record {
      is = ap (λ w. value_of t u k w 0) q ∙ no_text t u k v 0 h.0;
      size = sym (value_none u k v (λ e. off h.0 (omega arith) (omega arith)) (λ e. off h.0 (omega arith) (omega arith)) (λ e. off h.0 (omega arith) (omega arith)));
      low = h.1;
      moved = rw q h.1;
    }
  where
    off : (k < 4) ⊎ (6 < k) → 4 ≤ k → k ≤ 6 → ⊥
    off (inl a) b c = omega arith
    off (inr a) b c = omega arith
value_back t u k p (text s) more h d l m =
    let q : placed_value k p ≡ p + 32768 = sym (value_text k p h.0 h.1) ∙ placed_here p m in
    record {
      is = ap (λ w. value_of t u k w (length s)) q ∙ a_text t u k p s more h.0 h.1 l d;
      size = h.2 u p more d;
      low = omega arith;
      moved = rw q (omega arith);
    }

-- ---- a record's numbers

field_there : (n y f i : ℕ) (recs a b : List ℕ) → 0 < n → y < 256 ^ n → i ≤ 4095 → length a ≡ f → drop (i * 16) recs ≡ a ++ (little n y ++ b) → field_at n recs i f ≡ y
field_there n y f i recs a b h l m k e =
    field_in n recs i f m
    ∙ word_there n y recs b (i * 16 + f) h l (sym (drop-drop f (i * 16) recs) ∙ ap (drop f) e ∙ drop_at a (little n y ++ b) f k)

module _ (recs : List ℕ) (i p : ℕ) (x : Row) (more : List ℕ) (few : i ≤ 4095) (e : drop (i * 16) recs ≡ Layout.row_bytes p x ++ more) where
  abbrev value_place : ℕ
  value_place = p + length (text_of x.label)

  abbrev k₂ : List ℕ
  k₂ = little 2 x.first

  abbrev d₂ : List ℕ
  d₂ = little 2 x.second

  abbrev p₂ : List ℕ
  p₂ = little 2 (figure p x.label)

  abbrev m₂ : List ℕ
  m₂ = little 2 x.span

  abbrev v₈ : List ℕ
  v₈ = little 8 (figure value_place x.value)

  whole : drop (i * 16) recs ≡ k₂ ++ (d₂ ++ (p₂ ++ (m₂ ++ (v₈ ++ (x.last ++ more)))))
  unfolding Layout.row_bytes
  whole = e ∙ simp append_assoc

  field_kind : x.first < 65536 → field_at 2 recs i 0 ≡ x.first
  field_kind h = field_there 2 x.first 0 i recs [] (d₂ ++ (p₂ ++ (m₂ ++ (v₈ ++ (x.last ++ more))))) (omega arith) h few refl whole

  field_depth : x.second < 65536 → field_at 2 recs i 2 ≡ x.second
  field_depth h = field_there 2 x.second 2 i recs k₂ (p₂ ++ (m₂ ++ (v₈ ++ (x.last ++ more)))) (omega arith) h few (length_little 2 x.first) whole

  field_label : figure p x.label < 65536 → field_at 2 recs i 4 ≡ figure p x.label
  field_label h =
      field_there 2 (figure p x.label) 4 i recs (k₂ ++ d₂) (m₂ ++ (v₈ ++ (x.last ++ more))) (omega arith) h few (simp (length-append, length_little)) (whole ∙ sym (append_assoc k₂ d₂ (p₂ ++ (m₂ ++ (v₈ ++ (x.last ++ more))))))

  field_value : figure value_place x.value < 18446744073709551616 → field_at 8 recs i 8 ≡ figure value_place x.value
  field_value h =
      field_there 8 (figure value_place x.value) 8 i recs (k₂ ++ (d₂ ++ (p₂ ++ m₂))) (x.last ++ more) (omega arith) h few (simp (length-append, length_little)) (whole ∙ simp append_assoc)

-- ---- one record, loaded

loaded_as : (recs u : List ℕ) (i k d p v : ℕ) → field_at 2 recs i 0 ≡ k → field_at 2 recs i 2 ≡ d → field_at 2 recs i 4 ≡ p → field_at 8 recs i 8 ≡ v
    → loaded_row recs u i ≡ row_bytes k d (placed_label p) (size_of u p k v) (placed_value k v)
unfolding loaded_row
loaded_as recs u i k d p v ek ed ep ev = rw (ek, ed, ep, ev)

size_is : (u : List ℕ) (p k v a b : ℕ) → name_size u p ≡ a → value_size u k v ≡ b → a + b < 65536 → size_of u p k v ≡ a + b
unfolding size_of
size_is u p k v a b e f h = rw (e, f) (omega arith)

row_back : (t recs u : List ℕ) (i p : ℕ) (x : Row) (more rest : List ℕ) → i ≤ 4095 → drop (i * 16) recs ≡ Layout.row_bytes p x ++ more → drop p u ≡ row_text x ++ rest → RowFits x → x.second < 65536
    → p + length (row_text x) ≤ length u → length u ≤ 16384 → seen t u (loaded_row recs u i) ≡ sized x
unfolding row_text sized seen_row
row_back t recs u i p x more rest few e d F deep within short =
    let a = text_of x.label in
    let b = text_of x.value in
    let lab : length (a ++ b) ≡ length a + length b = length-append a b in
    let d₁ : drop p u ≡ a ++ (b ++ rest) = d ∙ append_assoc a b rest in
    let d₂ : drop (p + length a) u ≡ b ++ rest = sym (drop-drop (length a) p u) ∙ ap (drop (length a)) d₁ ∙ drop_at a (b ++ rest) (length a) refl in
    let L = label_back t u p x.label (b ++ rest) F.label d₁ (omega arith) (omega arith) in
    let W = value_back t u x.first (p + length a) x.value rest F.value d₂ (omega arith) (omega arith) in
    let pl = figure p x.label in
    let vl = figure (p + length a) x.value in
    let m : size_of u pl x.first vl ≡ length a + length b = size_is u pl x.first vl (length a) (length b) L.size W.size (omega arith) in
    let back : length a + length b - length a ≡ length b = omega arith in
    let val : value_of t u x.first (placed_value x.first vl) (size_of u pl x.first vl - length (text_of (label_of t u (placed_label pl)))) ≡ x.value =
    ap (λ f. value_of t u x.first (placed_value x.first vl) (size_of u pl x.first vl - length (text_of f))) L.is
    ∙ ap (λ j. value_of t u x.first (placed_value x.first vl) (j - length a)) m
    ∙ ap (value_of t u x.first (placed_value x.first vl)) back
    ∙ W.is in
    ap (seen t u) (loaded_as recs u i x.first x.second pl vl (field_kind recs i p x more few e F.kind) (field_depth recs i p x more few e deep) (field_label recs i p x more few e L.low) (field_value recs i p x more few e W.low))
    ∙ seen_bytes t u x.first x.second (placed_label pl) (size_of u pl x.first vl) (placed_value x.first vl) F.kind deep L.moved (omega (arith, m)) W.moved
    ∙ (λ j. record { first = x.first; second = x.second; label = L.is j; span = (m ∙ sym lab) j; value = val j; last = sym F.last j })

-- ---- all records

row_length : (p : ℕ) (x : Row) → x.last ≡ [] → length (Layout.row_bytes p x) ≡ 16
unfolding Layout.row_bytes
row_length p x e = simp (length-append, length_little) (omega (arith, ap length e))

pub all_back : (t recs u : List ℕ) (xs : List Row) (i p : ℕ) (y : List ℕ) → i + length xs ≤ 4096 → drop (i * 16) recs ≡ records p xs → drop p u ≡ texts xs → p + length (texts xs) ≡ length u → length u ≤ 16384 → AllFit xs → deepest xs < 65536
    → groups 16 (seen t u) (loaded recs u i (length xs) ++ y) (length xs) ≡ map sized xs
unfolding groups loaded records texts deepest
all_back t recs u [] i p y few e d within short F deep = refl
all_back t recs u (x ∷ xs) i p y few e d within short F deep =
    let R = Layout.row_bytes p x in
    let T = row_text x in
    let p' = p + length T in
    let r = loaded_row recs u i in
    let rs = loaded recs u (suc i) (length xs) in
    let lr : length r ≡ 16 = loaded_row_length recs u i in
    let lR : length R ≡ 16 = row_length p x F.0.last in
    let lt : length (T ++ texts xs) ≡ length T + length (texts xs) = length-append T (texts xs) in
    let j : i * 16 + 16 ≡ suc i * 16 = omega arith in
    let e' : drop (suc i * 16) recs ≡ records p' xs = ap (λ k. drop k recs) (sym j) ∙ sym (drop-drop 16 (i * 16) recs) ∙ ap (drop 16) e ∙ drop_at R (records p' xs) 16 lR in
    let d' : drop p' u ≡ texts xs = sym (drop-drop (length T) p u) ∙ ap (drop (length T)) d ∙ drop_at T (texts xs) (length T) refl in
    let q : (r ++ rs) ++ y ≡ r ++ (rs ++ y) = append_assoc r rs y in
    let one : seen t u (take 16 ((r ++ rs) ++ y)) ≡ sized x =
    ap (λ s. seen t u (take 16 s)) q ∙ ap (seen t u) (take_at r (rs ++ y) 16 lr) ∙ row_back t recs u i p x (records p' xs) (texts xs) (omega arith) e d F.0 (omega arith) (omega arith) short in
    let others : groups 16 (seen t u) (drop 16 ((r ++ rs) ++ y)) (length xs) ≡ map sized xs =
    ap (λ s. groups 16 (seen t u) s (length xs)) (ap (drop 16) q ∙ drop_at r (rs ++ y) 16 lr) ∙ all_back t recs u xs (suc i) p' y (omega arith) e' d' (omega arith) short F.1 (omega arith) in
    (λ k. one k ∷ others k)

-- ---- the rows of a store

is_true : (b : Bool) → T b → b ≡ true
is_true true h = refl
is_true false h = absurd h

kind_small : (b : Basic) → kind b ≤ 7
unfolding kind
kind_small (boolean b) = omega arith
kind_small null = omega arith
kind_small (integer z) = omega arith
kind_small (decimal x) = omega arith
kind_small (string x) = omega arith
kind_small (reference r) = omega arith
kind_small (vector bs) = omega arith

pub content_fits : (b : Basic) → IsBasic b → ValueFits (kind b) (content b)
unfolding kind content text_of
content_fits (boolean false) h = (inl (omega arith), omega arith)
content_fits (boolean true) h = (inl (omega arith), omega arith)
content_fits null h = (inl (omega arith), omega arith)
content_fits (integer z) h = (inl (omega arith), complement_below z (is_true (in_range z) h))
content_fits (decimal x) h = (omega arith, omega arith, λ u p more e. value_size_content (decimal x) u p more h e)
content_fits (string x) h = (omega arith, omega arith, λ u p more e. value_size_content (string x) u p more h e)
content_fits (reference r) h = (omega arith, omega arith, λ u p more e. value_size_content (reference r) u p more h e)
content_fits (vector bs) h = (inr (omega arith), omega arith)

basic_fits : (f : Field) (d m : ℕ) (b : Basic) → LabelFits f → IsBasic b → RowFits (table_row f (kind b) d m (content b))
unfolding table_row
basic_fits f d m b l h = record { kind = omega (arith, kind_small b); label = l; value = content_fits b h; last = refl }

mutual
  unfolding elements each

  fit_elements : (d : ℕ) (b : Basic) → IsBasic b → AllFit (elements (table_row (number 65535)) d b)
  fit_elements d (boolean b) h = tt
  fit_elements d null h = tt
  fit_elements d (integer z) h = tt
  fit_elements d (decimal x) h = tt
  fit_elements d (string x) h = tt
  fit_elements d (reference r) h = tt
  fit_elements d (vector bs) h = fit_each (suc d) bs h

  fit_each : (d : ℕ) (bs : Basics) → AreBasic bs → AllFit (each (table_row (number 65535)) d bs)
  fit_each d εⱽ h = tt
  fit_each d (b ∷ⱽ bs) h =
      let below : List Row = elements (table_row (number 65535)) d b in
      (basic_fits (number 65535) d (suc (length below)) b refl h.0, all-++ below (each (table_row (number 65535)) d bs) (fit_elements d b h.0) (fit_each d bs h.1))

component_fits : (n : Name) (d m : ℕ) → RowFits (table_row (text (name_text n)) 0 d m (number 0))
unfolding table_row
component_fits n d m = record { kind = omega arith; label = (n, refl); value = (inl (omega arith), omega arith); last = refl }

mutual
  unfolding rows value_rows

  pub fit_rows : (d : ℕ) (s : Store) → IsStore s → AllFit (rows d s)
  fit_rows d ∅ h = tt
  fit_rows d (entry n v s) h = all-++ (value_rows d (text (name_text n)) v) (rows d s) (fit_value d n v h.2) (fit_rows d s h.3)

  fit_value : (d : ℕ) (n : Name) (v : Value) → IsValue v → AllFit (value_rows d (text (name_text n)) v)
  fit_value d n (basic b) h =
      let below : List Row = elements (table_row (number 65535)) d b in
      (basic_fits (text (name_text n)) d (suc (length below)) b (n, refl) h, fit_elements d b h)
  fit_value d n (component c) h =
      let below : List Row = rows (suc d) c in
      (component_fits n d (suc (length below)), fit_rows (suc d) c h)

-- ---- the table of a store, loaded

module _ (s : Store) (recs u w : List ℕ) (h : IsStore s) (deep : deepest (rows 1 s) ≤ 32) (few : length (rows 1 s) ≤ 1024) (light : length (texts (rows 1 s)) ≤ 16384) (er : recs ≡ records 0 (rows 1 s)) (eu : u ≡ texts (rows 1 s)) (room : length recs ≤ length w) where
  records_many : length recs ≡ 16 * length (rows 1 s)
  records_many = ap length er ∙ records_length 0 (rows 1 s) 0 (all_lasts (rows 1 s) (fit_rows 1 s h))

  pub load_count : loads recs w ≡ length (rows 1 s)
  load_count =
      let q : length recs / 16 ≡ length (rows 1 s) = omega (arith, records_many) in
      sym (loads_all recs w (omega arith) (omega (arith, records_many))) ∙ q

  -- whatever the first text is
  pub load_view : (t : List ℕ) → view t u (load_stored recs u w) (length (rows 1 s)) ≡ flat 1 s
  unfolding view flat load_stored
  load_view t =
      let n = length (rows 1 s) in
      let b = loaded recs u 0 n in
      let lb : length b ≡ n * 16 = loaded_length recs u n 0 in
      let lu : 0 + length (texts (rows 1 s)) ≡ length u = omega (arith, ap length eu) in
      ap (λ k. groups 16 (seen t u) (stored w 0 (loaded recs u 0 k)) n) load_count
      ∙ ap (λ x. groups 16 (seen t u) x n) (stored_front w b (omega (arith, records_many)))
      ∙ all_back t recs u (rows 1 s) 0 0 (drop (length b) w) (omega arith) er eu lu (omega (arith, ap length eu)) (fit_rows 1 s h) (omega arith)
