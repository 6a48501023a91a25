-- The rows of a set's value, from the records of a step list. Assumes nothing.
use Prim.Native.Nat.{ℕ, suc, ◌+◌, ◌*◌, ◌-◌, ◌%◌, ◌≤◌, ◌<◌}
use native.Mathlib.Omega.{arith}
use native.Mathlib.Nat.{add-zero}
use native.Mathlib.Numerals.{add-one}
use mathlib.Core.Path.{◌≡◌, refl, sym, ◌∙◌, ap, ap₂, subst}
use mathlib.Core.List.{List, [], ◌∷◌, ◌++◌, append_assoc, append-nil, map}
use mathlib.Core.Logic.{◌⊎◌, inl, inr, ⊎_elim}
use lib.ListN.{length, take, drop, get_or, length-append, length-drop}
use lib.Seq.{drop_at, drop-drop, length-take-le}
use borrow.Author.Tests.{le-leb, lt-leb, ne_eqb}
use Rattle.paper.specs.Bytes.{when◌then◌else◌}
use Rattle.paper.specs.Syntax.{Name, Path, Basic, boolean, null, integer, decimal, string, reference, vector, Basics, εⱽ, ◌∷ⱽ◌}
use Rattle.paper.specs.Store.{basic}
use Rattle.paper.specs.Layout.{Field, number, text, Row, table_row, name_text, path_text, kind, content, elements, each, text_of, row_text, texts, figure, records}
use Rattle.paper.specs.Layout as Layout
use Rattle.paper.specs.Steps.{set}
use Rattle.paper.specs.StepLayout.{step_row, item, step_rows}
use Rattle.paper.specs.WellFormed.{IsBasic, AreBasic}
use Rattle.theorems.proofs.Decoded.Header.{Lasts, lasts-++}
use Rattle.theorems.proofs.Decoded.Parts.{length_little}
use Rattle.theorems.proofs.Decoded.Rows.{kind_below}
use Rattle.memory.specs.Memory.{part_at, stored}
use Rattle.memory.proofs.Laws.{fit, length_part, part_out, stored_in, stored_out}
use Rattle.rows.specs.View.{text_part, label_text, label_of, value_of, groups, view}
use Rattle.rows.specs.Change.{row_bytes, row_stored}
use Rattle.rows.specs.Flat.{sized, flat_value, below, all_below}
use Rattle.rows.proofs.Fields.{length_row, row_in}
use Rattle.rows.proofs.Texts.{byte_first, part_first}
use Rattle.rows.proofs.Trees.{line, head, beneath, flat_head, all_below_more}
use Rattle.rows.proofs.Views.{seen_row, view_row}
use Rattle.load.specs.Load.{name_size, value_size, size_of}
use Rattle.load.proofs.Sizes.{name_none, name_some, value_none}
use Rattle.load.proofs.Values.{part_there}
use Rattle.load.proofs.Stores.{ValueFits, content_fits}
use Rattle.run.specs.Listed.{step_field, Lies, SetIn}
use Rattle.run.specs.Items.{row_of, ItemsIn}
use Rattle.run.proofs.Lying.{Small, lies_first, lies_next, lies_skip, lies_value, small_item, small_elements, small_set_head, content_below, Below}

-- ---- what a row is written from

pub row_made : (list t s s' : List ℕ) (i q label d k v a b m : ℕ) → k ≡ step_field 2 list i 2 → v ≡ step_field 8 list i 8 → a ≡ name_size t label → b ≡ value_size t k v → m ≡ (a + b) % 65536
    → s' ≡ row_stored s q (row_bytes k d label m v) → s' ≡ row_stored s q (row_of list t i label d)
unfolding row_of size_of
row_made list t s s' i q label d k v a b m ek ev ea eb em e =
    e ∙ ap (λ x. row_stored s q (row_bytes k d label x v)) (em ∙ ap₂ (λ x y. (x + y) % 65536) ea eb)
    ∙ ap₂ (λ x y. row_stored s q (row_bytes x d label ((name_size t label + value_size t x y) % 65536) y)) ek ev

-- ---- what lies behind a store

pub drop_further : (a b : ℕ) (x y : List ℕ) → a ≤ b → drop a x ≡ drop a y → drop b x ≡ drop b y
drop_further a b x y h e =
    let q : a + (b - a) ≡ b = omega arith in
    ap (λ k. drop k x) (sym q) ∙ sym (drop-drop (b - a) a x) ∙ ap (drop (b - a)) e ∙ drop-drop (b - a) a y ∙ ap (λ k. drop k y) q

stored_behind : (s : List ℕ) (at : ℕ) (b : List ℕ) → drop (at + length b) (stored s at b) ≡ drop (at + length b) s
stored_behind s at b = ⊎_elim fits (λ o. ap (drop (at + length b)) (stored_out s at b o)) (fit (at + length b) (length s))
  where
    fits : at + length b ≤ length s → drop (at + length b) (stored s at b) ≡ drop (at + length b) s
    fits h =
        ap (drop (at + length b)) (stored_in s at b h)
        ∙ drop_at (take at s ++ b) (drop (at + length b) s) (at + length b) (length-append (take at s) b ∙ ap (λ k. k + length b) (length-take-le at s (omega arith)))

length_of : (list t : List ℕ) (i label d : ℕ) → length (row_of list t i label d) ≡ 16
unfolding row_of
length_of list t i label d = length_row (step_field 2 list i 2) d label (size_of t label (step_field 2 list i 2) (step_field 8 list i 8)) (step_field 8 list i 8)

pub row_behind : (list t s s' : List ℕ) (i q label d : ℕ) → q ≤ 4095 → s' ≡ row_stored s q (row_of list t i label d) → drop ((q + 1) * 16) s' ≡ drop ((q + 1) * 16) s
row_behind list t s s' i q label d h e =
    let b = row_of list t i label d in
    let j : q * 16 + length b ≡ (q + 1) * 16 = omega (arith, length_of list t i label d) in
    ap (drop ((q + 1) * 16)) (e ∙ row_in s q b h) ∙ subst (λ k. drop k (stored s (q * 16) b) ≡ drop k s) j (stored_behind s (q * 16) b)

-- ---- a row as it is seen

no_name : (t u : List ℕ) → label_of t u 65535 ≡ number 65535
unfolding label_of when◌then◌else◌
no_name t u = refl

a_name : (t u : List ℕ) (p : ℕ) (n : Name) → p < 32768 → label_text t u p ≡ name_text n → label_of t u p ≡ text (name_text n)
unfolding label_of when◌then◌else◌
a_name t u p n h e = rw (ne_eqb p 65535 (λ z. omega arith)) (ap text e)

name_long : (t u : List ℕ) (p : ℕ) (n : Name) → p < 32768 → label_text t u p ≡ name_text n → name_size t p ≡ length (name_text n)
unfolding label_text name_text
name_long t u p n h e =
    let b = get_or t p 0 in
    let w : part_at t p (1 + b) ≡ name_text n = sym (ap (λ k. text_part t u p (1 + k)) (byte_first t u p h) ∙ part_first t u p (1 + b) h) ∙ e in
    sym (name_some t p b (λ z. omega arith) refl)
    ∙ ⊎_elim (λ f. sym (length_part t p (1 + b) f) ∙ ap length w) (λ o. absurd (omega (arith, sym (ap length (part_out t p (1 + b) o)) ∙ ap length w))) (fit (p + (1 + b)) (length t))

no_text : (t u : List ℕ) (k v m : ℕ) → (k < 4) ⊎ (6 < k) → value_of t u k v m ≡ number v
unfolding value_of when◌then◌else◌
no_text t u k v m (inl h) = rw (lt-leb 4 k h)
no_text t u k v m (inr h) = rw (le-leb 4 k (omega arith), lt-leb k 6 h)

a_text : (t u : List ℕ) (k p : ℕ) (s more : List ℕ) → 4 ≤ k → k ≤ 6 → p < 32768 → p ≤ length t → drop p t ≡ s ++ more → value_of t u k p (length s) ≡ text s
unfolding value_of when◌then◌else◌
a_text t u k p s more a b h l e = rw (le-leb 4 k a, le-leb k 6 b) (ap text (part_first t u p (length s) h ∙ part_there t s more p (length s) l refl e))

value_seen : (t u : List ℕ) (k p : ℕ) (f : Field) (more : List ℕ) → ValueFits k f → Below 18446744073709551616 f → drop p t ≡ text_of f ++ more → length t ≤ 32768
    → (value_of t u k (figure p f) (length (text_of f)) ≡ f) × (value_size t k (figure p f) ≡ length (text_of f)) × (figure p f < 18446744073709551616)
unfolding figure text_of
value_seen t u k p (number v) more h z d l = (no_text t u k v 0 h.0, sym (off h.0), z)
  where
    off : (k < 4) ⊎ (6 < k) → 0 ≡ value_size t k v
    off (inl a) = value_none t k v (λ e. omega arith) (λ e. omega arith) (λ e. omega arith)
    off (inr a) = value_none t k v (λ e. omega arith) (λ e. omega arith) (λ e. omega arith)
value_seen t u k p (text s) more h z d l =
    let m : length t - p ≡ length s + length more = sym (length-drop p t) ∙ ap length d ∙ length-append s more in
    let c = a_text t u k p s more h.0 h.1 (omega arith) (omega arith) d in
    (c, h.2 t p more d, omega arith)

-- a row, whose name is at l and whose value's text at p
module _ (t u : List ℕ) (f : Field) (l : ℕ) (b : Basic) (d p : ℕ) (more : List ℕ) (B : IsBasic b) (few : length t ≤ 32768) (there : drop p t ≡ text_of (content b) ++ more) (name : label_of t u l ≡ f) (long : name_size t l ≡ length (text_of f)) (short : name_size t l ≤ 256) where
  abbrev at : ℕ
  at = figure p (content b)

  seen_parts : (value_of t u (kind b) at (length (text_of (content b))) ≡ content b) × (value_size t (kind b) at ≡ length (text_of (content b))) × (at < 18446744073709551616)
  seen_parts = value_seen t u (kind b) p (content b) more (content_fits b B) (content_below b B) there few

  -- its text lies in t
  light : length (text_of (content b)) ≤ 32768
  light = omega (arith, sym (length-drop p t) ∙ ap length there ∙ length-append (text_of (content b)) more)

  size_is : size_of t l (kind b) at ≡ length (text_of f) + length (text_of (content b))
  unfolding size_of
  size_is = omega (arith, light, long, short, seen_parts.1)

  seen_line : seen_row t u (kind b) d l (size_of t l (kind b) at) at ≡ line f (kind b) d (content b)
  unfolding seen_row line sized table_row row_text
  seen_line =
      let a = text_of f in
      let c = text_of (content b) in
      let m = size_of t l (kind b) at in
      let back : length a + length c - length a ≡ length c = omega arith in
      let val : value_of t u (kind b) at (m - length (text_of (label_of t u l))) ≡ content b =
      ap (λ g. value_of t u (kind b) at (m - length (text_of g))) name ∙ ap (λ j. value_of t u (kind b) at (j - length a)) size_is ∙ ap (value_of t u (kind b) at) back ∙ seen_parts.0 in
      (λ j. record { first = kind b; second = d; label = name j; span = (size_is ∙ sym (length-append a c)) j; value = val j; last = [] })

  -- and as it is written behind q others
  pub view_of : (list s s' : List ℕ) (i q : ℕ) → d < 65536 → l < 65536 → q ≤ 4095 → (q + 1) * 16 ≤ length s → step_field 2 list i 2 ≡ kind b → step_field 8 list i 8 ≡ at → s' ≡ row_stored s q (row_of list t i l d)
      → view t u s' (q + 1) ≡ view t u s q ++ (line f (kind b) d (content b) ∷ [])
  unfolding row_of
  view_of list s s' i q hd hl few' room ek ev e =
      let m = size_of t l (kind b) at in
      let low : m < 65536 = omega (arith, size_is, light, long, short) in
      ap (λ x. view t u x (q + 1)) (e ∙ ap₂ (λ x y. row_stored s q (row_bytes x d l (size_of t l x y) y)) ek ev)
      ∙ view_row t u (kind b) d l m at (kind_below b) hd hl low seen_parts.2 s q few' room
      ∙ ap (λ x. view t u s q ++ (x ∷ [])) seen_line

-- ---- the elements of a value

unfoldable pub inner : Basic → Basics
inner (boolean b) = εⱽ
inner null = εⱽ
inner (integer z) = εⱽ
inner (decimal x) = εⱽ
inner (string x) = εⱽ
inner (reference r) = εⱽ
inner (vector bs) = bs

inner_elements : (row : ℕ → ℕ → ℕ → Field → Row) (d : ℕ) (b : Basic) → elements row d b ≡ each row (suc d) (inner b)
unfolding inner elements each
inner_elements row d (boolean b) = refl
inner_elements row d null = refl
inner_elements row d (integer z) = refl
inner_elements row d (decimal x) = refl
inner_elements row d (string x) = refl
inner_elements row d (reference r) = refl
inner_elements row d (vector bs) = refl

inner_good : (b : Basic) → IsBasic b → AreBasic (inner b)
unfolding inner
inner_good (boolean b) h = tt
inner_good null h = tt
inner_good (integer z) h = tt
inner_good (decimal x) h = tt
inner_good (string x) h = tt
inner_good (reference r) h = tt
inner_good (vector bs) h = h

inner_below : (d : ℕ) (b : Basic) → all_below (suc d) (inner b) ≡ below d b
inner_below d b = ap (map sized) (sym (inner_elements (table_row (number 65535)) d b))

-- ---- items in turn

-- k of the n items' records have their rows in s
pub record Passed (list t : List ℕ) (i n q d : ℕ) (s₀ s : List ℕ) (k e : ℕ) (bs : Basics) (rest : List Row) (u : List ℕ) : Type 0 where
  pub left : Basics
  pub place : ℕ
  pub here : Lies list t (i + k) place (each item e left ++ rest)
  pub good : AreBasic left
  pub many : length (each item e left) + k ≡ n
  pub rows : view t u s (q + k) ++ all_below d left ≡ view t u s₀ q ++ all_below d bs

pub record Goes (list t : List ℕ) (i n q d : ℕ) (s₀ s : List ℕ) (k : ℕ) : Type 0 where
  pub behind : drop ((q + n) * 16) s ≡ drop ((q + n) * 16) s₀
  pub passed : (p e : ℕ) (bs : Basics) (rest : List Row) (u : List ℕ) → Lies list t i p (each item e bs ++ rest) → AreBasic bs → length (each item e bs) ≡ n → length t ≤ 32768 → Passed list t i n q d s₀ s k e bs rest u

pub goes_start : (list t : List ℕ) (i n q d : ℕ) (s : List ℕ) → Goes list t i n q d s s 0
goes_start list t i n q d s = record {
  behind = refl;
  passed = λ p e bs rest u L A m l. record {
    left = bs;
    place = p;
    here = subst (λ j. Lies list t j p (each item e bs ++ rest)) (sym (add-zero i)) L;
    good = A;
    many = omega arith;
    rows = ap (λ j. view t u s j ++ all_below d bs) (add-zero q);
  };
}

none_left : (e : ℕ) (bs : Basics) (d : ℕ) → length (each item e bs) ≡ 0 → all_below d bs ≡ []
unfolding each
none_left e εⱽ d h = refl
none_left e (b ∷ⱽ bs) d h = absurd (omega arith)

pub goes_end : (list t : List ℕ) (i n q d : ℕ) (s₀ s : List ℕ) (k : ℕ) → k ≤ n → (k < n → ⊥) → Goes list t i n q d s₀ s k → ItemsIn list t i n q d s₀ s
goes_end list t i n q d s₀ s k l h G = record {
  behind = G.behind;
  rows = λ p e bs rest u L A m f.
      let P = G.passed p e bs rest u L A m f in
      let c : length (each item e P.left) ≡ 0 = omega (arith, P.many) in
      let j : q + k ≡ q + n = omega arith in
      ap (λ x. view t u s x) (sym j) ∙ sym (append-nil (view t u s (q + k))) ∙ ap (λ x. view t u s (q + k) ++ x) (sym (none_left e P.left d c)) ∙ P.rows;
}

-- the first of the items that are left
each_more : (e : ℕ) (b : Basic) (bs : Basics) (rest : List Row)
    → each item e (b ∷ⱽ bs) ++ rest ≡ item (kind b) e (suc (length (elements item e b))) (content b) ∷ (elements item e b ++ (each item e bs ++ rest))
unfolding each
each_more e b bs rest = ap (λ r. item (kind b) e (suc (length (elements item e b))) (content b) ∷ r) (append_assoc (elements item e b) (each item e bs) rest)

each_long : (e : ℕ) (b : Basic) (bs : Basics) → length (each item e (b ∷ⱽ bs)) ≡ suc (length (elements item e b) + length (each item e bs))
unfolding each
each_long e b bs = ap suc (length-append (elements item e b) (each item e bs))

item_value : (k e m : ℕ) (v : Field) → (item k e m v).value ≡ v
unfolding item step_row
item_value k e m v = refl

item_label : (k e m : ℕ) (v : Field) → text_of (item k e m v).label ≡ []
unfolding item step_row text_of
item_label k e m v = refl

item_kind : (k e m : ℕ) (v : Field) → (item k e m v).second ≡ k
unfolding item step_row
item_kind k e m v = refl

item_span : (k e m : ℕ) (v : Field) → (item k e m v).span ≡ m
unfolding item step_row
item_span k e m v = refl

-- what its record says
pub record First (list t : List ℕ) (i p : ℕ) (b : Basic) (e : ℕ) (rest : List Row) : Type 0 where
  pub kind : step_field 2 list i 2 ≡ kind b
  pub span : step_field 2 list i 6 ≡ suc (length (elements item e b))
  pub value : step_field 8 list i 8 ≡ figure p (content b)
  pub more : List ℕ
  pub there : drop p t ≡ text_of (content b) ++ more
  pub next_place : ℕ
  pub next : Lies list t (i + 1) next_place (elements item e b ++ rest)

first_item : (list t : List ℕ) (i p : ℕ) (b : Basic) (e : ℕ) (rest : List Row) → IsBasic b → length (elements item e b) ≤ 1024 → length t ≤ 32768
    → Lies list t i p (item (kind b) e (suc (length (elements item e b))) (content b) ∷ (elements item e b ++ rest)) → First list t i p b e rest
first_item list t i p b e rest B few l L =
    let m = suc (length (elements item e b)) in
    let x = item (kind b) e m (content b) in
    let S : Small x = small_item b e m B (omega arith) in
    let N = lies_first L S l in
    let z : p + length (text_of x.label) ≡ p = ap (λ a. p + length a) (item_label (kind b) e m (content b)) ∙ add-zero p in
    record {
      kind = N.kind ∙ item_kind (kind b) e m (content b);
      span = N.span ∙ item_span (kind b) e m (content b);
      value = N.value ∙ ap₂ figure z (item_value (kind b) e m (content b));
      more = texts (elements item e b ++ rest);
      there = ap (λ j. drop j t) (sym z) ∙ lies_value L ∙ ap (λ f. text_of f ++ texts (elements item e b ++ rest)) (item_value (kind b) e m (content b));
      next_place = p + length (row_text x);
      next = lies_next L S;
    }

stuck : (list t : List ℕ) (i n k m e : ℕ) (rest : List Row) (left : Basics) (p : ℕ) → k < n → i + n ≤ 1024 → m ≡ step_field 2 list (i + k) 6 → (m < 1) ⊎ (n - k < m)
    → Lies list t (i + k) p (each item e left ++ rest) → AreBasic left → length (each item e left) + k ≡ n → length t ≤ 32768 → ⊥
unfolding each
stuck list t i n k m e rest εⱽ p h room em wrong L A c f = omega arith
stuck list t i n k m e rest (b ∷ⱽ cs) p h room em wrong L A c f =
    let j = each_long e b cs in
    let F = first_item list t (i + k) p b e (each item e cs ++ rest) A.0 (omega arith) f (subst (Lies list t (i + k) p) (each_more e b cs rest) L) in
    let z : m ≡ suc (length (elements item e b)) = em ∙ F.span in
    ⊎_elim (λ y. omega arith) (λ y. omega arith) wrong

-- its span is none, or more than are left: there are no such items
pub goes_stuck : (list t : List ℕ) (i n q d : ℕ) (s₀ s : List ℕ) (k m : ℕ) → k < n → i + n ≤ 1024 → m ≡ step_field 2 list (i + k) 6 → (m < 1) ⊎ (n - k < m) → Goes list t i n q d s₀ s k → ItemsIn list t i n q d s₀ s
goes_stuck list t i n q d s₀ s k m h room em wrong G = record {
  behind = G.behind;
  rows = λ p e bs rest u L A c f. let P = G.passed p e bs rest u L A c f in absurd (stuck list t i n k m e rest P.left P.place h room em wrong P.here P.good P.many f);
}

none_named : (t : List ℕ) → name_size t 65535 ≡ length (text_of (number 65535))
unfolding text_of
none_named t = sym (name_none t 65535 refl)

none_short : (t : List ℕ) → name_size t 65535 ≤ 256
none_short t = omega (arith, name_none t 65535 refl)

-- one more item, and its elements
module _ (list t : List ℕ) (i n q d : ℕ) (s s₁ s₂ : List ℕ) (k m : ℕ) (h : k < n) (recs : i + n ≤ 1024) (few : q + n ≤ 1024) (low : d + n ≤ 2048) (room : 32768 ≤ length s) (em : m ≡ step_field 2 list (i + k) 6)
    (put : s₁ ≡ row_stored s (q + k) (row_of list t (i + k) 65535 d)) (within : ItemsIn list t (i + k + 1) (m - 1) (q + k + 1) (d + 1) s₁ s₂) where
  turn : (s₀ : List ℕ) (e : ℕ) (bs : Basics) (rest : List Row) (u : List ℕ) (left : Basics) (p : ℕ) → length t ≤ 32768 → Lies list t (i + k) p (each item e left ++ rest) → AreBasic left → length (each item e left) + k ≡ n
      → view t u s (q + k) ++ all_below d left ≡ view t u s₀ q ++ all_below d bs → Passed list t i n q d s₀ s₂ (k + m) e bs rest u
  unfolding each
  turn s₀ e bs rest u εⱽ p l L A c rows = absurd (omega arith)
  turn s₀ e bs rest u (b ∷ⱽ cs) p l L A c rows =
      let es = elements item e b in
      let y = each item (suc e) (inner b) in
      let xs = each item e cs ++ rest in
      let ey : es ≡ y = inner_elements item e b in
      let j = each_long e b cs in
      let F = first_item list t (i + k) p b e xs A.0 (omega arith) l (subst (Lies list t (i + k) p) (each_more e b cs rest) L) in
      let z : m ≡ suc (length es) = em ∙ F.span in
      let v : view t u s₂ (q + k + 1 + (m - 1)) ≡ view t u s₁ (q + k + 1) ++ all_below (d + 1) (inner b) =
      within.rows F.next_place (suc e) (inner b) xs u (subst (λ x. Lies list t (i + k + 1) F.next_place (x ++ xs)) ey F.next) (inner_good b A.0) (sym (ap length ey) ∙ omega arith) l in
      let w : view t u s₁ (q + k + 1) ≡ view t u s (q + k) ++ (line (number 65535) (kind b) d (content b) ∷ []) =
      view_of t u (number 65535) 65535 b d p F.more A.0 l F.there (no_name t u) (none_named t) (none_short t) list s s₁ (i + k) (q + k) (omega arith) (omega arith) (omega arith) (omega arith) F.kind F.value put in
      let a : all_below (d + 1) (inner b) ≡ below d b = ap (λ x. all_below x (inner b)) (add-one d) ∙ inner_below d b in
      let g : q + (k + m) ≡ q + k + 1 + (m - 1) = omega arith in
      let g' : i + k + 1 + length es ≡ i + (k + m) = omega arith in
      let front = view t u s (q + k) in
      let one = line (number 65535) (kind b) d (content b) in
      record {
        left = cs;
        place = F.next_place + length (texts es);
        here = subst (λ x. Lies list t x (F.next_place + length (texts es)) xs) g' (lies_skip es xs F.next (small_elements e b A.0 (omega arith)));
        good = A.1;
        many = omega arith;
        rows =
            ap (λ x. view t u s₂ x ++ all_below d cs) g ∙ ap (λ x. x ++ all_below d cs) (v ∙ ap₂ ◌++◌ w a)
            ∙ append_assoc (front ++ (one ∷ [])) (below d b) (all_below d cs) ∙ append_assoc front (one ∷ []) (below d b ++ all_below d cs)
            ∙ ap (λ x. front ++ x) (sym (all_below_more d b cs)) ∙ rows;
      }

  pub goes_turn : (s₀ : List ℕ) → 1 ≤ m → m ≤ n - k → Goes list t i n q d s₀ s k → Goes list t i n q d s₀ s₂ (k + m)
  goes_turn s₀ some most G = record {
    behind =
        drop_further ((q + k + 1 + (m - 1)) * 16) ((q + n) * 16) s₂ s₁ (omega arith) within.behind
        ∙ drop_further ((q + k + 1) * 16) ((q + n) * 16) s₁ s (omega arith) (row_behind list t s s₁ (i + k) (q + k) 65535 d (omega arith) put)
        ∙ G.behind;
    passed = λ p e bs rest u L A c l. let P = G.passed p e bs rest u L A c l in turn s₀ e bs rest u P.left P.place l P.here P.good P.many P.rows;
  }

-- ---- the set

long_row : (p : ℕ) (x : Row) → length x.last ≡ 4 → length (Layout.row_bytes p x) ≡ 20
unfolding Layout.row_bytes
long_row p x e = simp (length-append, length_little) (omega arith)

records_least : (xs ys : List Row) (p : ℕ) → Lasts 4 xs → 20 * length xs ≤ length (records p (xs ++ ys))
unfolding records
records_least [] ys p h = omega arith
records_least (x ∷ xs) ys p h =
    let a = Layout.row_bytes p x in
    let b = records (p + length (row_text x)) (xs ++ ys) in
    omega (arith, length-append a b, long_row p x h.0, records_least xs ys (p + length (row_text x)) h.1)

item_last : (k e m : ℕ) (v : Field) → length (item k e m v).last ≡ 4
unfolding item step_row
item_last k e m v = length_little 4 0

mutual
  unfolding elements each

  lasts_elements : (e : ℕ) (b : Basic) → Lasts 4 (elements item e b)
  lasts_elements e (boolean b) = tt
  lasts_elements e null = tt
  lasts_elements e (integer z) = tt
  lasts_elements e (decimal x) = tt
  lasts_elements e (string x) = tt
  lasts_elements e (reference r) = tt
  lasts_elements e (vector bs) = lasts_each (suc e) bs

  lasts_each : (e : ℕ) (bs : Basics) → Lasts 4 (each item e bs)
  lasts_each e εⱽ = tt
  lasts_each e (b ∷ⱽ bs) =
      let x : List Row = elements item e b in
      (item_last (kind b) e (suc (length x)) (content b), lasts-++ 4 x (each item e bs) (lasts_elements e b) (lasts_each e bs))

set_lasts : (p : ℕ) (r : Path) (b : Basic) → Lasts 4 (step_rows (set p r b))
unfolding step_rows step_row
set_lasts p r b = (length_little 4 p, lasts_elements 0 b)

set_long : (p : ℕ) (r : Path) (b : Basic) → length (step_rows (set p r b)) ≡ suc (length (elements item 0 b))
unfolding step_rows
set_long p r b = refl

-- as many records as a list has
set_few : (list t : List ℕ) (i q p : ℕ) (r : Path) (b : Basic) (rest : List Row) → length list ≤ 20480 → Lies list t i q (step_rows (set p r b) ++ rest) → i + suc (length (elements item 0 b)) ≤ 1024
set_few list t i q p r b rest h L =
    omega (arith, sym (length-drop (i * 20) list) ∙ ap length L.rows, records_least (step_rows (set p r b)) rest q (set_lasts p r b), set_long p r b)

first_set : (list t : List ℕ) (i q p : ℕ) (r : Path) (b : Basic) (rest : List Row) → IsBasic b → length (elements item 0 b) ≤ 1024 → length t ≤ 32768
    → Lies list t i q (step_rows (set p r b) ++ rest) → First list t i (q + length (path_text r)) b 0 rest
unfolding step_rows step_row text_of
first_set list t i q p r b rest B few l L =
    let m = suc (length (elements item 0 b)) in
    let x = step_row 6 (kind b) (text (path_text r)) m (content b) p in
    let S : Small x = small_set_head p r (kind b) m (content b) (kind_below b) (omega arith) (content_below b B) in
    let N = lies_first L S l in
    record {
      kind = N.kind;
      span = N.span;
      value = N.value;
      more = texts (elements item 0 b ++ rest);
      there = lies_value L;
      next_place = q + length (row_text x);
      next = lies_next L S;
    }

view_none : (t u s : List ℕ) → view t u s 0 ≡ []
unfolding view groups
view_none t u s = refl

value_rows : (d : ℕ) (n : Name) (b : Basic) → flat_value d n (basic b) ≡ line (text (name_text n)) (kind b) d (content b) ∷ below d b
unfolding head beneath
value_rows d n b = flat_head d n (basic b)

-- its span is none, or more than a list has: there is no such set
pub set_stuck : (list t : List ℕ) (i label d m : ℕ) (s s' : List ℕ) → i < 1024 → length list ≤ 20480 → m ≡ step_field 2 list i 6 → (m < 1) ⊎ (1024 - i < m) → SetIn list t i label d s s' 0
set_stuck list t i label d m s s' h short em wrong p q r b rest u n L P B l e =
    let few = set_few list t i q p r b rest short L in
    let F = first_set list t i q p r b rest B (omega arith) l L in
    let z : m ≡ suc (length (elements item 0 b)) = em ∙ F.span in
    absurd (⊎_elim (λ y. omega arith) (λ y. omega arith) wrong)

label_short : (t : List ℕ) (p : ℕ) → p < 32768 → get_or t p 0 < 256 → name_size t p ≤ 256
label_short t p h l = omega (arith, name_some t p (get_or t p 0) (λ z. omega arith) refl)

pub set_made : (list t : List ℕ) (i label d m : ℕ) (s s₁ s₂ : List ℕ) → i < 1024 → d ≤ 100 → label < 32768 → 32768 ≤ length s → length list ≤ 20480 → get_or t label 0 < 256 → m ≡ step_field 2 list i 6
    → s₁ ≡ row_stored s 0 (row_of list t i label d) → ItemsIn list t (i + 1) (m - 1) 1 (d + 1) s₁ s₂ → SetIn list t i label d s s₂ m
unfolding text_of
set_made list t i label d m s s₁ s₂ h low hl room short byte em put within p q r b rest u n L P B l e =
    let es = elements item 0 b in
    let ey : es ≡ each item 1 (inner b) = inner_elements item 0 b in
    let few = set_few list t i q p r b rest short L in
    let F = first_set list t i q p r b rest B (omega arith) l L in
    let z : m ≡ suc (length es) = em ∙ F.span in
    let v : view t u s₂ (1 + (m - 1)) ≡ view t u s₁ 1 ++ all_below (d + 1) (inner b) =
    within.rows F.next_place 1 (inner b) rest u (subst (λ x. Lies list t (i + 1) F.next_place (x ++ rest)) ey F.next) (inner_good b B) (sym (ap length ey) ∙ omega arith) l in
    let w : view t u s₁ 1 ≡ view t u s 0 ++ (line (text (name_text n)) (kind b) d (content b) ∷ []) =
    view_of t u (text (name_text n)) label b d (q + length (path_text r)) F.more B l F.there (a_name t u label n hl e) (name_long t u label n hl e) (label_short t label hl byte) list s s₁ i 0 (omega arith) (omega arith) (omega arith) (omega arith) F.kind F.value put in
    let a : all_below (d + 1) (inner b) ≡ below d b = ap (λ x. all_below x (inner b)) (add-one d) ∙ inner_below d b in
    let g : m ≡ 1 + (m - 1) = omega arith in (
      z ∙ sym (set_long p r b),
      ap (view t u s₂) g ∙ v ∙ ap₂ ◌++◌ (w ∙ ap (λ x. x ++ (line (text (name_text n)) (kind b) d (content b) ∷ [])) (view_none t u s)) a ∙ sym (value_rows d n b),
    )

pub set_behind : (list t : List ℕ) (i label d m : ℕ) (s s₁ s₂ : List ℕ) → 1 ≤ m → m ≤ 1024 → s₁ ≡ row_stored s 0 (row_of list t i label d) → ItemsIn list t (i + 1) (m - 1) 1 (d + 1) s₁ s₂ → drop 32768 s₂ ≡ drop 32768 s
set_behind list t i label d m s s₁ s₂ some most put within =
    drop_further ((1 + (m - 1)) * 16) 32768 s₂ s₁ (omega arith) within.behind ∙ drop_further 16 32768 s₁ s (omega arith) (row_behind list t s s₁ i 0 label d (omega arith) put)
