-- The rows of a store in lent bytes, as a table has them, are the rows of the store's table. Assumes nothing.
use Prim.Native.Nat.{ℕ, suc, ◌+◌, ◌*◌, ◌-◌, ◌≤◌}
use native.Mathlib.Omega.{arith}
use native.Mathlib.Nat.{zero-add}
use mathlib.Core.Path.{◌≡◌, refl, sym, ◌∙◌, ap, ap₂, subst}
use mathlib.Core.List.{List, [], ◌∷◌, ◌++◌, append_assoc, append-nil, map}
use lib.ListN.{length, take, drop, length-append}
use lib.Seq.{take_all, take_at, drop_at}
use borrow.Author.Tests.{le-leb}
use Rattle.paper.specs.Bytes.{when◌then◌else◌}
use Rattle.paper.specs.Syntax.{Name, Basic, boolean, null, integer, decimal, string, reference, vector, Basics, εⱽ, ◌∷ⱽ◌}
use Rattle.paper.specs.Store.{Store, ∅, entry, Value, basic, component}
use Rattle.paper.specs.Layout.{Field, number, text, Row, table_row, name_text, kind, content, elements, each, rows, value_rows, row_text, texts, laid_out, table}
use Rattle.memory.specs.Memory.{stored}
use Rattle.memory.proofs.Laws.{stored_front}
use Rattle.rows.specs.View.{view, kept, rows_in}
use Rattle.rows.specs.Search.{deeper}
use Rattle.rows.specs.Flat.{sized, flat, flat_value, Low, below, all_below}
use Rattle.rows.proofs.Trees.{line, all_below_more, flat_entry, flat_none, flat_head, head, beneath, Deep, deep_flat, deep_beneath, deeper_deep, deeper_low, low_rest, length_flat}
use Rattle.rows.proofs.Views.{kept_is, length_view}
use Rattle.write.specs.Tabled.{spanned_row, spanned, tabled, chosen, fitted}
use Rattle.write.proofs.Lays.{spanned_length, tabled_length}

-- ---- one row, with those beneath it

counted : (up : ℕ) (xs ys q : List Row) → spanned up (xs ++ q) ≡ ys ++ spanned up q → length xs ≡ length ys
counted up xs ys q e =
    let f : length (xs ++ q) ≡ length (ys ++ spanned up q) = sym (spanned_length up (xs ++ q)) ∙ ap length e in
    let g = spanned_length up q in
    omega (arith, simp length-append at f)

lined : (up d : ℕ) (n : Field) (k : ℕ) (v : Field) (ys q : List Row) (m : ℕ) → Deep (suc (up + d)) ys → Low (suc (up + d)) q → length ys ≡ m
    → spanned_row up (line n k (up + d) v) (ys ++ q) ≡ table_row n k d (suc m) v
unfolding spanned_row line sized table_row
lined up d n k v ys q m h l e =
    let a : up + d - up ≡ d = omega arith in
    let b : suc (deeper (suc (up + d)) (ys ++ q)) ≡ suc m = ap suc (deeper_deep (suc (up + d)) ys q h ∙ omega (arith, deeper_low (suc (up + d)) q l)) in
    ap₂ (λ i j. record { first = k; second = i; label = n; span = j; value = v; last = [] }) a b

one : (up d : ℕ) (n : Field) (k : ℕ) (v : Field) (ys zs q : List Row) → Deep (suc (up + d)) ys → Low (suc (up + d)) q → spanned up (ys ++ q) ≡ zs ++ spanned up q
    → spanned up (line n k (up + d) v ∷ (ys ++ q)) ≡ table_row n k d (suc (length zs)) v ∷ (zs ++ spanned up q)
unfolding spanned
one up d n k v ys zs q h l e = ap₂ ◌∷◌ (lined up d n k v ys q (length zs) h l (counted up ys zs q e)) e

-- ---- a vector's elements

low_more : (d : ℕ) (q : List Row) → Low d q → Low (suc d) q
low_more d [] h = tt
low_more d (x ∷ xs) h = omega arith

low_all : (d : ℕ) (bs : Basics) (q : List Row) → Low d q → Low (suc d) (all_below d bs ++ q)
unfolding each sized table_row
low_all d εⱽ q h = low_more d q h
low_all d (b ∷ⱽ bs) q h = omega arith

deep_below : (d : ℕ) (b : Basic) → Deep (suc d) (below d b)
unfolding beneath
deep_below d b = deep_beneath d (basic b)

mutual
  unfolding elements each spanned

  spanned_below : (up d : ℕ) (b : Basic) (q : List Row) → Low (suc (up + d)) q → spanned up (below (up + d) b ++ q) ≡ elements (table_row (number 65535)) d b ++ spanned up q
  spanned_below up d (boolean b) q h = refl
  spanned_below up d null q h = refl
  spanned_below up d (integer z) q h = refl
  spanned_below up d (decimal t) q h = refl
  spanned_below up d (string t) q h = refl
  spanned_below up d (reference r) q h = refl
  spanned_below up d (vector bs) q h =
      let e : suc (up + d) ≡ up + suc d = omega arith in
      ap (λ k. spanned up (all_below k bs ++ q)) e ∙ spanned_all up (suc d) bs q (subst (λ k. Low k q) e h)

  spanned_all : (up d : ℕ) (bs : Basics) (q : List Row) → Low (up + d) q → spanned up (all_below (up + d) bs ++ q) ≡ each (table_row (number 65535)) d bs ++ spanned up q
  spanned_all up d εⱽ q h = refl
  spanned_all up d (b ∷ⱽ bs) q h =
      let D = up + d in
      let x : Row = line (number 65535) (kind b) D (content b) in
      let zs : List Row = elements (table_row (number 65535)) d b in
      let ws : List Row = each (table_row (number 65535)) d bs in
      let r : List Row = all_below D bs ++ q in
      let l : Low (suc D) r = low_all D bs q h in
      let f : all_below D (b ∷ⱽ bs) ++ q ≡ x ∷ (below D b ++ r) = ap (λ xs. xs ++ q) (all_below_more D b bs) ∙ ap (λ xs. x ∷ xs) (append_assoc (below D b) (all_below D bs) q) in
      let y : Row = table_row (number 65535) (kind b) d (suc (length zs)) (content b) in
      ap (spanned up) f
      ∙ one up d (number 65535) (kind b) (content b) (below D b) zs r (deep_below D b) l (spanned_below up d b r l)
      ∙ ap (λ xs. y ∷ (zs ++ xs)) (spanned_all up d bs q h)
      ∙ ap (λ xs. y ∷ xs) (sym (append_assoc zs ws (spanned up q)))

-- ---- a store's attributes

mutual
  unfolding head beneath rows value_rows

  spanned_rest : (up d : ℕ) (s : Store) (q : List Row) → Low (up + d) q → spanned up (flat (up + d) s ++ q) ≡ rows d s ++ spanned up q
  spanned_rest up d ∅ q h = ap (λ xs. spanned up (xs ++ q)) (flat_none (up + d))
  spanned_rest up d (entry n v s) q h =
      let D = up + d in
      ap (λ xs. spanned up (xs ++ q)) (flat_entry D n v s)
      ∙ ap (spanned up) (append_assoc (flat_value D n v) (flat D s) q)
      ∙ spanned_value up d n v (flat D s ++ q) (low_rest D s q h)
      ∙ ap (λ xs. value_rows d (text (name_text n)) v ++ xs) (spanned_rest up d s q h)
      ∙ sym (append_assoc (value_rows d (text (name_text n)) v) (rows d s) (spanned up q))

  pub spanned_value : (up d : ℕ) (n : Name) (v : Value) (q : List Row) → Low (suc (up + d)) q → spanned up (flat_value (up + d) n v ++ q) ≡ value_rows d (text (name_text n)) v ++ spanned up q
  spanned_value up d n (basic b) q h =
      let D = up + d in
      ap (λ xs. spanned up (xs ++ q)) (flat_head D n (basic b))
      ∙ one up d (text (name_text n)) (kind b) (content b) (below D b) (elements (table_row (number 65535)) d b) q (deep_below D b) h (spanned_below up d b q h)
  spanned_value up d n (component c) q h =
      let D = up + d in
      let e : suc D ≡ up + suc d = omega arith in
      let f : spanned up (flat (suc D) c ++ q) ≡ rows (suc d) c ++ spanned up q = ap (λ k. spanned up (flat k c ++ q)) e ∙ spanned_rest up (suc d) c q (subst (λ k. Low k q) e h) in
      ap (λ xs. spanned up (xs ++ q)) (flat_head D n (component c))
      ∙ one up d (text (name_text n)) 0 (number 0) (flat (suc D) c) (rows (suc d) c) q (deep_flat (suc D) c) h f

pub spanned_flat : (up d : ℕ) (s : Store) → spanned up (flat (up + d) s) ≡ rows d s
unfolding spanned
spanned_flat up d s =
    ap (spanned up) (sym (append-nil (flat (up + d) s))) ∙ spanned_rest up d s [] tt ∙ append-nil (rows d s)

-- ---- tables

-- of a whole store
pub tabled_flat : (s : Store) → tabled 0 (flat 1 s) ≡ table s
unfolding tabled table
tabled_flat s = ap (laid_out 2) (ap (λ d. spanned 0 (flat d s)) (sym (zero-add 1)) ∙ spanned_flat 0 1 s)

-- of a component's attributes, where they stand in the whole store
pub tabled_component : (c : Store) → tabled 1 (flat 2 c) ≡ table c
unfolding tabled table
tabled_component c = ap (laid_out 2) (spanned_flat 1 1 c)

-- ---- the rows that are chosen

-- all the rows of a slice that holds a store
pub chosen_store : (t u w : List ℕ) (n : ℕ) (s : Store) → n ≤ 4096 → n * 16 ≤ length w → view t u w n ≡ flat 1 s → tabled 0 (chosen t u w n 0 n) ≡ table s
unfolding chosen rows_in
chosen_store t u w n s h l e =
    let k : length (view t u w (kept w n)) ≤ n - 0 = rw (kept_is w n h l) (omega (arith, length_view t u w n)) in
    ap (tabled 0) (take_all (n - 0) (view t u w (kept w n)) k ∙ ap (view t u w) (kept_is w n h l) ∙ e) ∙ tabled_flat s

-- those beneath a component of the root
pub chosen_component : (t u w : List ℕ) (n : ℕ) (before : List Row) (c : Store) (after : List Row) (lo hi : ℕ) → lo ≡ length before → hi ≡ lo + length (flat 2 c) → rows_in t u w n ≡ before ++ (flat 2 c ++ after)
    → tabled 1 (chosen t u w n lo hi) ≡ table c
unfolding chosen
chosen_component t u w n before c after lo hi a b e =
    let q : hi - lo ≡ length (flat 2 c) = omega arith in
    ap (tabled 1) (ap (λ r. take (hi - lo) (drop lo r)) e ∙ ap (take (hi - lo)) (drop_at before (flat 2 c ++ after) lo (sym a)) ∙ take_at (flat 2 c) after (hi - lo) (sym q)) ∙ tabled_component c

-- ---- a table within the limits fits into the smallest output

pub table_length : (s : Store) → length (table s) ≡ 24 + 16 * length (rows 1 s) + length (texts (rows 1 s))
unfolding flat sized texts row_text
table_length s = ap length (sym (tabled_flat s)) ∙ tabled_length 0 (flat 1 s) [] ∙ ap (λ k. 24 + 16 * k + length (texts (flat 1 s))) (length_flat 1 s) ∙ ap (λ x. 24 + 16 * length (rows 1 s) + length x) (flat_texts (rows 1 s))
  where
    flat_texts : (xs : List Row) → texts (map sized xs) ≡ texts xs
    flat_texts [] = refl
    flat_texts (x ∷ xs) = ap (λ y. row_text x ++ y) (flat_texts xs)

pub table_written : (s : Store) (o : List ℕ) → length (rows 1 s) ≤ 1024 → length (texts (rows 1 s)) ≤ 16384 → 32792 ≤ length o → (stored o 0 (table s) ≡ table s ++ drop (length (table s)) o) × (fitted (table s) o ≡ length (table s))
unfolding fitted when◌then◌else◌
table_written s o h l m =
    let k : length (table s) ≤ length o = omega (arith, table_length s) in
    (stored_front o (table s) k, rw (le-leb (length (table s)) (length o) k))
