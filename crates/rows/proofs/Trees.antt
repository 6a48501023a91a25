-- Stores as rows: what a look, an end and a put among rows come to in the store. Assumes nothing.
use Prim.Native.Nat.{ℕ, suc, ◌+◌, ◌-◌, ◌%◌, ◌≤◌, ◌<◌, max}
use native.Mathlib.Omega.{arith}
use native.Mathlib.Nat.{le_refl, zero-add, add-zero}
use mathlib.Core.Path.{◌≡◌, refl, sym, ap, ap₂, ◌∙◌, subst}
use mathlib.Core.Bool.{Bool, true, false, ◌&&◌, false≢true}
use mathlib.Core.List.{List, [], ◌∷◌, ◌++◌, append_assoc, append-nil, map, map-append}
use mathlib.Core.Option.{none, some}
use lib.ListN.{length, drop, length-append}
use lib.Dec.{eqb}
use borrow.Author.Tests.{lt-ltb, le-ltb, eq-eqb, ne_eqb, eqb-true}
use Rattle.paper.specs.Bytes.{same, when◌then◌else◌}
use Rattle.paper.specs.Syntax.{Name, Basic, boolean, null, integer, decimal, string, reference, vector, Basics, εⱽ, ◌∷ⱽ◌}
use Rattle.paper.specs.Store.{Store, ∅, entry, Value, basic, component, put, lookup}
use Rattle.paper.specs.Layout.{Field, number, text, Row, table_row, name_text, kind, content, elements, each, rows, value_rows, text_of, row_text, texts, deepest}
use Rattle.rows.specs.Search.{calls, seek, deeper, text_bytes}
use Rattle.rows.specs.Change.{moved}
use Rattle.rows.specs.Flat.{sized, flat, flat_value, below, all_below, Low}

-- ---- rows of a store

-- a row with its text bytes
unfoldable pub line : Field → ℕ → ℕ → Field → Row
line n k d v = sized (table_row n k d 0 v)

pub flat_entry : (d : ℕ) (n : Name) (v : Value) (s : Store) → flat d (entry n v s) ≡ flat_value d n v ++ flat d s
unfolding flat flat_value rows
flat_entry d n v s = map-append sized (value_rows d (text (name_text n)) v) (rows d s)

pub flat_none : (d : ℕ) → flat d ∅ ≡ []
unfolding flat rows
flat_none d = refl

-- a value's own row, and the rows beneath it
unfoldable pub head : ℕ → Name → Value → Row
head d n (basic b) = line (text (name_text n)) (kind b) d (content b)
head d n (component c) = line (text (name_text n)) 0 d (number 0)

unfoldable pub beneath : ℕ → Value → List Row
beneath d (basic b) = map sized (elements (table_row (number 65535)) d b)
beneath d (component c) = flat (suc d) c

pub flat_head : (d : ℕ) (n : Name) (v : Value) → flat_value d n v ≡ head d n v ∷ beneath d v
unfolding flat flat_value value_rows head beneath line sized table_row row_text
flat_head d n (basic b) = refl
flat_head d n (component c) = refl

pub head_depth : (d : ℕ) (n : Name) (v : Value) → (head d n v).second ≡ d
unfolding head line sized table_row
head_depth d n (basic b) = refl
head_depth d n (component c) = refl

pub head_label : (d : ℕ) (n : Name) (v : Value) → (head d n v).label ≡ text (name_text n)
unfolding head line sized table_row
head_label d n (basic b) = refl
head_label d n (component c) = refl

pub flat_component : (d : ℕ) (n : Name) (c : Store) → flat_value d n (component c) ≡ head d n (component c) ∷ flat (suc d) c
unfolding beneath
flat_component d n c = flat_head d n (component c)

-- ---- all rows at least so deep
abbrev pub Deep : ℕ → List Row → Type 0
Deep d [] = Unit {0}
Deep d (x ∷ xs) = (d ≤ x.second) × Deep d xs

deep-++ : (d : ℕ) (xs ys : List Row) → Deep d xs → Deep d ys → Deep d (xs ++ ys)
deep-++ d [] ys h g = g
deep-++ d (x ∷ xs) ys h g = (h.0, deep-++ d xs ys h.1 g)

deep_less : (d e : ℕ) (xs : List Row) → d ≤ e → Deep e xs → Deep d xs
deep_less d e [] l h = tt
deep_less d e (x ∷ xs) l h = (omega (arith, h.0), deep_less d e xs l h.1)

pub all_below_more : (d : ℕ) (b : Basic) (bs : Basics) → all_below d (b ∷ⱽ bs) ≡ line (number 65535) (kind b) d (content b) ∷ (below d b ++ all_below d bs)
unfolding each line sized table_row row_text
all_below_more d b bs = ap (λ r. line (number 65535) (kind b) d (content b) ∷ r) (map-append sized (elements (table_row (number 65535)) d b) (each (table_row (number 65535)) d bs))

line_deep : (n : Field) (k d : ℕ) (v : Field) → (line n k d v).second ≡ d
unfolding line sized table_row
line_deep n k d v = refl

mutual
  unfolding elements each

  deep_elements : (d : ℕ) (b : Basic) → Deep (suc d) (below d b)
  deep_elements d (boolean b) = tt
  deep_elements d null = tt
  deep_elements d (integer z) = tt
  deep_elements d (decimal t) = tt
  deep_elements d (string t) = tt
  deep_elements d (reference r) = tt
  deep_elements d (vector bs) = deep_each (suc d) bs

  deep_each : (d : ℕ) (bs : Basics) → Deep d (all_below d bs)
  deep_each d εⱽ = tt
  deep_each d (b ∷ⱽ bs) =
      let l : d ≤ (line (number 65535) (kind b) d (content b)).second = rw (line_deep (number 65535) (kind b) d (content b)) (le_refl d) in
      subst (Deep d) (sym (all_below_more d b bs)) (l, deep-++ d (below d b) (all_below d bs) (deep_less d (suc d) (below d b) (omega arith) (deep_elements d b)) (deep_each d bs))

mutual
  unfolding beneath

  pub deep_flat : (d : ℕ) (s : Store) → Deep d (flat d s)
  deep_flat d ∅ = subst (Deep d) (sym (flat_none d)) tt
  deep_flat d (entry n v s) =
      let l : d ≤ (head d n v).second = rw (head_depth d n v) (le_refl d) in
      let e : flat d (entry n v s) ≡ (head d n v ∷ beneath d v) ++ flat d s = flat_entry d n v s ∙ ap (λ r. r ++ flat d s) (flat_head d n v) in
      subst (Deep d) (sym e) (deep-++ d (head d n v ∷ beneath d v) (flat d s) (l, deep_less d (suc d) (beneath d v) (omega arith) (deep_beneath d v)) (deep_flat d s))

  pub deep_beneath : (d : ℕ) (v : Value) → Deep (suc d) (beneath d v)
  deep_beneath d (basic b) = deep_elements d b
  deep_beneath d (component c) = deep_flat (suc d) c

-- ---- a look, and an end, among rows

-- a look passes what is deeper
pub seek_under : (n : Name) (d : ℕ) (xs q : List Row) (i : ℕ) → Deep (suc d) xs → seek n d (xs ++ q) i ≡ seek n d q (length xs + i)
unfolding seek when◌then◌else◌
seek_under n d [] q i h = ap (seek n d q) (sym (zero-add i))
seek_under n d (x ∷ xs) q i h =
    let e : length xs + suc i ≡ suc (length xs) + i = omega arith in
    rw (le-ltb x.second d (omega (arith, h.0)), ne_eqb x.second d (omega (arith, h.0))) (seek_under n d xs q (suc i) h.1 ∙ ap (seek n d q) e)

pub seek_low : (n : Name) (d : ℕ) (q : List Row) (i : ℕ) → Low d q → seek n d q i ≡ none
unfolding seek when◌then◌else◌
seek_low n d [] i h = refl
seek_low n d (x ∷ xs) i h = rw (lt-ltb x.second d h)

pub deeper_deep : (d : ℕ) (xs q : List Row) → Deep d xs → deeper d (xs ++ q) ≡ length xs + deeper d q
unfolding deeper when◌then◌else◌
deeper_deep d [] q h = sym (zero-add (deeper d q))
deeper_deep d (x ∷ xs) q h =
    let e : suc (length xs + deeper d q) ≡ suc (length xs) + deeper d q = omega arith in
    rw (le-ltb x.second d h.0) (ap suc (deeper_deep d xs q h.1) ∙ e)

pub deeper_flat : (d e : ℕ) (s : Store) (q : List Row) → d ≤ e → deeper d (flat e s ++ q) ≡ length (flat e s) + deeper d q
deeper_flat d e s q h = deeper_deep d (flat e s) q (deep_less d e (flat e s) h (deep_flat e s))

pub deeper_low : (d : ℕ) (q : List Row) → Low d q → deeper d q ≡ 0
unfolding deeper when◌then◌else◌
deeper_low d [] h = refl
deeper_low d (x ∷ xs) h = rw (lt-ltb x.second d h)

-- what follows an attribute's rows is no deeper than it
pub low_rest : (d : ℕ) (s : Store) (q : List Row) → Low d q → Low (suc d) (flat d s ++ q)
low_rest d ∅ q h = subst (λ xs. Low (suc d) (xs ++ q)) (sym (flat_none d)) (low_more q h)
  where
    low_more : (q : List Row) → Low d q → Low (suc d) q
    low_more [] h = tt
    low_more (x ∷ xs) h = omega arith
low_rest d (entry n v s) q h =
    let l : (head d n v).second < suc d = rw (head_depth d n v) (omega arith) in
    subst (λ xs. Low (suc d) (xs ++ q)) (sym (flat_entry d n v s ∙ ap (λ r. r ++ flat d s) (flat_head d n v))) l

-- how many rows a value has, when what follows is no deeper
pub deeper_value : (d : ℕ) (v : Value) (q : List Row) → Low (suc d) q → deeper (suc d) (beneath d v ++ q) ≡ length (beneath d v)
deeper_value d v q h = deeper_deep (suc d) (beneath d v) q (deep_beneath d v) ∙ ap (λ k. length (beneath d v) + k) (deeper_low (suc d) q h) ∙ omega arith

pub deeper_rest : (d : ℕ) (n : Name) (v : Value) (q : List Row) → Low (suc d) q → deeper (suc d) (drop 1 (flat_value d n v) ++ q) + 1 ≡ length (flat_value d n v)
deeper_rest d n v q h = rw (flat_head d n v) (omega (arith, deeper_value d v q h))

-- ---- the one look: what it comes to in the store, and what a put does there

pub data Spot (n : Name) (d : ℕ) (s : Store) (q : List Row) (i : ℕ) : Type 0 where
  absent : lookup s n ≡ none → seek n d (flat d s ++ q) i ≡ none
      → ((v : Value) → flat d (put s n v) ≡ flat d s ++ flat_value d n v) → Spot n d s q i
  present : (v : Value) (before after : List Row) → lookup s n ≡ some v → seek n d (flat d s ++ q) i ≡ some (length before + i)
      → flat d s ≡ before ++ (flat_value d n v ++ after) → Low (suc d) (after ++ q)
      → ((w : Value) → flat d (put s n w) ≡ before ++ (flat_value d n w ++ after)) → Spot n d s q i

same_true : (s t : List ℕ) → same s t ≡ true → s ≡ t
same_true [] [] e = refl
same_true [] (y ∷ t) e = absurd (false≢true e)
same_true (x ∷ s) [] e = absurd (false≢true e)
same_true (x ∷ s) (y ∷ t) e = go (eqb x y) refl e (same_true s t)
  where
    go : (c : Bool) → eqb x y ≡ c → (c && same s t) ≡ true → (same s t ≡ true → s ≡ t) → (x ∷ s) ≡ (y ∷ t)
    go true q e again = ap₂ ◌∷◌ (eqb-true x y q) (again e)
    go false q e again = absurd (false≢true e)

calls_head : (d : ℕ) (m : Name) (v : Value) (n : Name) → calls (head d m v).label n ≡ same m n
unfolding calls name_text
calls_head d m v n = rw (head_label d m v)

module _ (n : Name) (d : ℕ) (q : List Row) (h : Low d q) where
  -- the rows of a store that begins with the attribute m
  entry_rows : (m : Name) (v : Value) (s : Store) → flat d (entry m v s) ++ q ≡ head d m v ∷ (beneath d v ++ (flat d s ++ q))
  entry_rows m v s =
      ap (λ r. r ++ q) (flat_entry d m v s ∙ ap (λ r. r ++ flat d s) (flat_head d m v)) ∙ ap (λ r. head d m v ∷ r) (append_assoc (beneath d v) (flat d s) q)

  passed : (m : Name) (v : Value) (s : Store) (i : ℕ) → same m n ≡ false → seek n d (flat d (entry m v s) ++ q) i ≡ seek n d (flat d s ++ q) (length (beneath d v) + suc i)
  unfolding seek when◌then◌else◌
  passed m v s i e =
      rw (entry_rows m v s, head_depth d m v, calls_head d m v n, le-ltb d d (le_refl d), eq-eqb d d refl, e)
      (seek_under n d (beneath d v) (flat d s ++ q) (suc i) (deep_beneath d v))

  hit : (m : Name) (v : Value) (s : Store) (i : ℕ) → same m n ≡ true → seek n d (flat d (entry m v s) ++ q) i ≡ some i
  unfolding seek when◌then◌else◌
  hit m v s i e = rw (entry_rows m v s, head_depth d m v, calls_head d m v n, le-ltb d d (le_refl d), eq-eqb d d refl, e)

  more : (m : Name) (v : Value) (s : Store) (i : ℕ) → same m n ≡ false → Spot n d s q (length (beneath d v) + suc i) → Spot n d (entry m v s) q i
  unfolding lookup put
  more m v s i e (absent f k g) =
      absent (rw (e, lookup) f) (passed m v s i e ∙ k)
      (λ w. rw (e, put) (flat_entry d m v (put s n w) ∙ ap (λ r. flat_value d m v ++ r) (g w) ∙ sym (append_assoc (flat_value d m v) (flat d s) (flat_value d n w)) ∙ ap (λ r. r ++ flat_value d n w) (sym (flat_entry d m v s))))
  more m v s i e (present u a z f k t l g) =
      let a' : List Row = flat_value d m v ++ a in
      let j : length a + (length (beneath d v) + suc i) ≡ length a' + i = rw (flat_head d m v) (simp length-append (omega arith)) in
      present u a' z (rw (e, lookup) f) (passed m v s i e ∙ k ∙ ap some j)
      (flat_entry d m v s ∙ ap (λ r. flat_value d m v ++ r) t ∙ sym (append_assoc (flat_value d m v) a (flat_value d n u ++ z))) l
      (λ w. rw (e, put) (flat_entry d m v (put s n w) ∙ ap (λ r. flat_value d m v ++ r) (g w) ∙ sym (append_assoc (flat_value d m v) a (flat_value d n w ++ z))))

  here : (m : Name) (v : Value) (s : Store) (i : ℕ) → same m n ≡ true → Spot n d (entry m v s) q i
  unfolding lookup put
  here m v s i e =
      let p : m ≡ n = same_true m n e in
      present v [] (flat d s) (rw (e, lookup)) (hit m v s i e ∙ ap some (sym (zero-add i))) (flat_entry d m v s ∙ ap (λ r. flat_value d r v ++ flat d s) p) (low_rest d s q h)
      (λ w. rw (e, put) (flat_entry d n w s))

  spot_of : (m : Name) (v : Value) (s : Store) (i : ℕ) (t : Bool) → same m n ≡ t → Spot n d s q (length (beneath d v) + suc i) → Spot n d (entry m v s) q i
  spot_of m v s i true e r = here m v s i e
  spot_of m v s i false e r = more m v s i e r

  pub spot : (s : Store) (i : ℕ) → Spot n d s q i
  unfolding lookup put
  spot ∅ i = absent refl (ap (λ r. seek n d (r ++ q) i) (flat_none d) ∙ seek_low n d q i h)
      (λ v. flat_entry d n v ∅ ∙ ap (λ r. flat_value d n v ++ r) (flat_none d) ∙ append-nil (flat_value d n v) ∙ ap (λ r. r ++ flat_value d n v) (sym (flat_none d)))
  spot (entry m v s) i = spot_of m v s i (same m n) refl (spot s (length (beneath d v) + suc i))

-- ---- measures

pub text_bytes-++ : (xs ys : List Row) → text_bytes (xs ++ ys) ≡ text_bytes xs + text_bytes ys
unfolding text_bytes
text_bytes-++ [] ys = omega arith
text_bytes-++ (x ∷ xs) ys = rw (text_bytes-++ xs ys) (omega arith)

pub deepest-++ : (xs ys : List Row) → deepest (xs ++ ys) ≡ max (deepest xs) (deepest ys)
unfolding deepest
deepest-++ [] ys = omega arith
deepest-++ (x ∷ xs) ys = rw (deepest-++ xs ys) (omega arith)

sized_text : (xs : List Row) → text_bytes (map sized xs) ≡ length (texts xs)
unfolding text_bytes sized texts
sized_text [] = refl
sized_text (x ∷ xs) = rw (sized_text xs) (sym (length-append (row_text x) (texts xs)))

sized_deepest : (xs : List Row) → deepest (map sized xs) ≡ deepest xs
unfolding deepest sized
sized_deepest [] = refl
sized_deepest (x ∷ xs) = ap (max x.second) (sized_deepest xs)

sized_length : (xs : List Row) → length (map sized xs) ≡ length xs
sized_length [] = refl
sized_length (x ∷ xs) = ap suc (sized_length xs)

pub text_bytes_flat : (d : ℕ) (s : Store) → text_bytes (flat d s) ≡ length (texts (rows d s))
unfolding flat
text_bytes_flat d s = sized_text (rows d s)

pub deepest_flat : (d : ℕ) (s : Store) → deepest (flat d s) ≡ deepest (rows d s)
unfolding flat
deepest_flat d s = sized_deepest (rows d s)

pub length_flat : (d : ℕ) (s : Store) → length (flat d s) ≡ length (rows d s)
unfolding flat
length_flat d s = sized_length (rows d s)

-- the same of one attribute
module _ (d : ℕ) (n : Name) (v : Value) where
  pub text_bytes_value : text_bytes (flat_value d n v) ≡ length (texts (value_rows d (text (name_text n)) v))
  unfolding flat_value
  text_bytes_value = sized_text (value_rows d (text (name_text n)) v)

  pub deepest_value : deepest (flat_value d n v) ≡ deepest (value_rows d (text (name_text n)) v)
  unfolding flat_value
  deepest_value = sized_deepest (value_rows d (text (name_text n)) v)

  pub length_value : length (flat_value d n v) ≡ length (value_rows d (text (name_text n)) v)
  unfolding flat_value
  length_value = sized_length (value_rows d (text (name_text n)) v)

-- ---- rows moved to another depth

unfoldable pub row_moved : ℕ → ℕ → Row → Row
row_moved from to x = record { first = x.first; second = moved from to x.second; label = x.label; span = x.span; value = x.value; last = x.last }

module _ (from to : ℕ) where
  abbrev all_moved : List Row → List Row
  all_moved xs = map (row_moved from to) xs

  -- no row goes beyond what a depth's field holds
  abbrev Room : List Row → Type 0
  Room xs = deepest xs + to < 65536

  room_left : (xs ys : List Row) → Room (xs ++ ys) → Room xs
  room_left xs ys h = omega (arith, h, deepest-++ xs ys)

  room_right : (xs ys : List Row) → Room (xs ++ ys) → Room ys
  room_right xs ys h = omega (arith, h, deepest-++ xs ys)

  line_moved : (n : Field) (k d : ℕ) (v : Field) (xs : List Row) → Room (line n k (from + d) v ∷ xs) → row_moved from to (line n k (from + d) v) ≡ line n k (to + d) v
  unfolding line sized table_row row_moved moved row_text deepest
  line_moved n k d v xs h =
      let e : (from + d + to - from) % 65536 ≡ to + d = omega arith in
      ap (λ j. record { first = k; second = j; label = n; span = length (text_of n ++ text_of v); value = v; last = [] }) e

  room_rest : (x : Row) (xs : List Row) → Room (x ∷ xs) → Room xs
  unfolding deepest
  room_rest x xs h = omega arith

  mutual
    unfolding elements each

    moved_below : (d : ℕ) (b : Basic) → Room (below (from + d) b) → all_moved (below (from + d) b) ≡ below (to + d) b
    moved_below d (boolean b) h = refl
    moved_below d null h = refl
    moved_below d (integer z) h = refl
    moved_below d (decimal t) h = refl
    moved_below d (string t) h = refl
    moved_below d (reference r) h = refl
    moved_below d (vector bs) h =
        let e : suc (from + d) ≡ from + suc d = omega arith in
        let f : to + suc d ≡ suc (to + d) = omega arith in
        let g : Room (all_below (from + suc d) bs) = subst (λ k. Room (all_below k bs)) e h in
        ap (λ k. all_moved (all_below k bs)) e ∙ moved_each (suc d) bs g ∙ ap (λ k. all_below k bs) f

    moved_each : (d : ℕ) (bs : Basics) → Room (all_below (from + d) bs) → all_moved (all_below (from + d) bs) ≡ all_below (to + d) bs
    moved_each d εⱽ h = refl
    moved_each d (b ∷ⱽ bs) h =
        let x : Row = line (number 65535) (kind b) (from + d) (content b) in
        let xs : List Row = below (from + d) b in
        let ys : List Row = all_below (from + d) bs in
        let g : Room (x ∷ (xs ++ ys)) = subst Room (all_below_more (from + d) b bs) h in
        let k : Room (xs ++ ys) = room_rest x (xs ++ ys) g in
        ap all_moved (all_below_more (from + d) b bs)
        ∙ (λ i. line_moved (number 65535) (kind b) d (content b) (xs ++ ys) g i ∷ (map-append (row_moved from to) xs ys ∙ ap₂ ◌++◌ (moved_below d b (room_left xs ys k)) (moved_each d bs (room_right xs ys k))) i)
        ∙ sym (all_below_more (to + d) b bs)

  head_moved : (d : ℕ) (n : Name) (v : Value) (xs : List Row) → Room (head (from + d) n v ∷ xs) → row_moved from to (head (from + d) n v) ≡ head (to + d) n v
  unfolding head
  head_moved d n (basic b) xs h = line_moved (text (name_text n)) (kind b) d (content b) xs h
  head_moved d n (component c) xs h = line_moved (text (name_text n)) 0 d (number 0) xs h

  -- a value's rows, when those beneath it are moved as they should be
  value_of_beneath : (d : ℕ) (n : Name) (v : Value) → Room (flat_value (from + d) n v) → (Room (beneath (from + d) v) → all_moved (beneath (from + d) v) ≡ beneath (to + d) v)
      → all_moved (flat_value (from + d) n v) ≡ flat_value (to + d) n v
  value_of_beneath d n v h again =
      let g : Room (head (from + d) n v ∷ beneath (from + d) v) = subst Room (flat_head (from + d) n v) h in
      ap all_moved (flat_head (from + d) n v)
      ∙ (λ i. head_moved d n v (beneath (from + d) v) g i ∷ again (room_rest (head (from + d) n v) (beneath (from + d) v) g) i)
      ∙ sym (flat_head (to + d) n v)

  mutual
    unfolding beneath

    pub moved_flat : (d : ℕ) (s : Store) → Room (flat (from + d) s) → map (row_moved from to) (flat (from + d) s) ≡ flat (to + d) s
    moved_flat d ∅ h = ap all_moved (flat_none (from + d)) ∙ sym (flat_none (to + d))
    moved_flat d (entry n v s) h =
        let g : Room (flat_value (from + d) n v ++ flat (from + d) s) = subst Room (flat_entry (from + d) n v s) h in
        ap all_moved (flat_entry (from + d) n v s)
        ∙ map-append (row_moved from to) (flat_value (from + d) n v) (flat (from + d) s)
        ∙ ap₂ ◌++◌ (value_of_beneath d n v (room_left (flat_value (from + d) n v) (flat (from + d) s) g) (λ k. moved_beneath d v k)) (moved_flat d s (room_right (flat_value (from + d) n v) (flat (from + d) s) g))
        ∙ sym (flat_entry (to + d) n v s)

    pub moved_beneath : (d : ℕ) (v : Value) → Room (beneath (from + d) v) → map (row_moved from to) (beneath (from + d) v) ≡ beneath (to + d) v
    moved_beneath d (basic b) h = moved_below d b h
    moved_beneath d (component c) h =
        let e : suc (from + d) ≡ from + suc d = omega arith in
        let f : to + suc d ≡ suc (to + d) = omega arith in
        let g : Room (flat (from + suc d) c) = subst (λ k. Room (flat k c)) e h in
        ap (λ k. all_moved (flat k c)) e ∙ moved_flat (suc d) c g ∙ ap (λ k. flat k c) f

  pub moved_value : (d : ℕ) (n : Name) (v : Value) → Room (flat_value (from + d) n v) → map (row_moved from to) (flat_value (from + d) n v) ≡ flat_value (to + d) n v
  moved_value d n v h = value_of_beneath d n v h (λ k. moved_beneath d v k)

  -- from the depth itself
  pub value_moved : (n : Name) (v : Value) → deepest (flat_value from n v) + to < 65536 → map (row_moved from to) (flat_value from n v) ≡ flat_value to n v
  value_moved n v h = rw (add-zero from, add-zero to) at (moved_value 0 n v (rw (add-zero from) h))

  pub flat_moved : (s : Store) → deepest (flat from s) + to < 65536 → map (row_moved from to) (flat from s) ≡ flat to s
  flat_moved s h = rw (add-zero from, add-zero to) at (moved_flat 0 s (rw (add-zero from) h))
