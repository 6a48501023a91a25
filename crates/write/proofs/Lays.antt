-- Records and text written one by one are the table written whole. Assumes nothing.
use Prim.Native.Nat.{ℕ, zero, suc, ◌+◌, ◌*◌, ◌-◌, ◌≤◌, ◌<◌, min}
use native.Mathlib.Omega.{arith}
use native.Mathlib.Numerals.{add-one}
use mathlib.Core.Path.{◌≡◌, refl, sym, ◌∙◌, ap}
use mathlib.Core.List.{List, [], ◌∷◌, ◌++◌, append_assoc}
use mathlib.Core.Logic.{⊎_elim}
use lib.ListN.{length, take, drop, length-append, length-drop}
use lib.Seq.{take_all, take-nil}
use borrow.Author.Tests.{le-leb, lt-leb}
use Rattle.paper.specs.Bytes.{when◌then◌else◌}
use Rattle.paper.specs.Layout.{Row, little, row_bytes, row_text, records, texts, laid_out}
use Rattle.theorems.proofs.Decoded.Parts.{length_little}
use Rattle.theorems.proofs.Decoded.Header.{Lasts, records_length}
use Rattle.memory.specs.Memory.{stored}
use Rattle.memory.proofs.Laws.{fit, length_stored, then_stored, stored_none, stored_apart, stored_out}
use Rattle.rows.specs.View.{seen, groups, view, kept, rows_in}
use Rattle.rows.proofs.Views.{length_view, view_cons, view_end}
use Rattle.rows.specs.Change.{row_here}
use Rattle.rows.specs.Row.{row_of, row_seen}
use Rattle.rows.specs.declared.row.Row as Numbers
use Rattle.write.proofs.Records.{seen_is}
use Rattle.write.specs.Tabled.{spanned_row, spanned, tabled, chosen, fitted}
use Rattle.forms.specs.declared.form.Form.TheVariants.{Table}
use Rattle.forms.specs.Header.{header_of}
use Rattle.forms.proofs.Puts.{table_header}
use Rattle.write.specs.Lay.{lay_row, lay}
use Rattle.write.specs.declared.chosen.Chosen.{Chosen}

-- ---- rows as a table has them

pub spanned_lasts : (up : ℕ) (xs : List Row) → Lasts 0 (spanned up xs)
unfolding spanned spanned_row
spanned_lasts up [] = tt
spanned_lasts up (x ∷ xs) = (refl, spanned_lasts up xs)

pub spanned_length : (up : ℕ) (xs : List Row) → length (spanned up xs) ≡ length xs
unfolding spanned
spanned_length up [] = refl
spanned_length up (x ∷ xs) = ap suc (spanned_length up xs)

pub spanned_texts : (up : ℕ) (xs : List Row) → texts (spanned up xs) ≡ texts xs
unfolding spanned spanned_row texts row_text
spanned_texts up [] = refl
spanned_texts up (x ∷ xs) = ap (λ s. row_text x ++ s) (spanned_texts up xs)

-- ---- all rows are two stores: of their records, and of their text

row_length : (t : ℕ) (x : Row) → length x.last ≡ 0 → length (row_bytes t x) ≡ 16
unfolding row_bytes
row_length t x e = simp (length-append, length_little) (omega arith)

lay_all : (b : ℕ) (o : List ℕ) (a t : ℕ) (xs : List Row) → Lasts 0 xs → a + 16 * length xs ≤ b → b + t + length (texts xs) ≤ length o
    → lay b o a t xs ≡ stored (stored o a (records t xs)) (b + t) (texts xs)
unfolding lay lay_row records texts
lay_all b o a t [] h l m = sym (stored_none (stored o a []) (b + t) ∙ stored_none o a)
lay_all b o a t (x ∷ xs) h l m =
    let R = row_bytes t x in
    let T = row_text x in
    let rs = records (t + length T) xs in
    let ts = texts xs in
    let B = b + t in
    let rl = row_length t x h.0 in
    let rsl = records_length 0 xs (t + length T) h.1 in
    let ml : B + (length T + length ts) ≤ length o = omega (arith, length-append T ts) in
    let q : b + (t + length T) ≡ B + length T = omega arith in
    lay_all b (stored (stored o a R) B T) (a + 16) (t + length T) xs h.1 (omega arith) (rw (length_stored (stored o a R) B T, length_stored o a R) (omega arith))
    ∙ ap (λ s. stored s (b + (t + length T)) ts) (stored_apart (stored o a R) (a + 16) rs B T (omega arith) (rw (length_stored o a R) (omega arith)))
    ∙ ap (λ s. stored (stored s B T) (b + (t + length T)) ts) (then_stored o a (a + 16) R rs (omega arith) (omega arith))
    ∙ then_stored (stored o a (R ++ rs)) B (b + (t + length T)) T ts q (rw (length_stored o a (R ++ rs)) (omega arith))

-- ---- the header

-- of a table
abbrev pub head : ℕ → ℕ → List ℕ
head = header_of Table

head_length : (n m : ℕ) → length (head n m) ≡ 24
head_length n m = rw table_header (simp (length-append, length_little) (omega arith))

-- header, records and text, one behind the other
whole : (xs : List Row) → Lasts 0 xs → laid_out 2 xs ≡ (head (length xs) (length (texts xs)) ++ records 0 xs) ++ texts xs
unfolding laid_out
whole xs h =
    let l : length (records 0 xs) ≡ 16 * length xs = records_length 0 xs 0 h in
    rw (table_header, l) (simp append_assoc)

laid_length : (xs : List Row) → Lasts 0 xs → length (laid_out 2 xs) ≡ 24 + 16 * length xs + length (texts xs)
laid_length xs h =
    let n = length xs in
    let hl : length (head n (length (texts xs))) ≡ 24 = head_length n (length (texts xs)) in
    let rl : length (records 0 xs) ≡ 16 * n = records_length 0 xs 0 h in
    ap length (whole xs h) ∙ simp length-append (omega arith)

laid : (o : List ℕ) (xs : List Row) → Lasts 0 xs → 24 + 16 * length xs + length (texts xs) ≤ length o
    → lay (24 + 16 * length xs) (stored o 0 (head (length xs) (length (texts xs)))) 24 0 xs ≡ stored o 0 (laid_out 2 xs)
laid o xs h l =
    let n = length xs in
    let H = head n (length (texts xs)) in
    let R = records 0 xs in
    let T = texts xs in
    let hl : length H ≡ 24 = head_length n (length T) in
    let rl : length R ≡ 16 * n = records_length 0 xs 0 h in
    let z : 24 + 16 * n + 0 ≡ 24 + 16 * n = omega arith in
    lay_all (24 + 16 * n) (stored o 0 H) 24 0 xs h (omega arith) (rw (length_stored o 0 H) (omega arith))
    ∙ ap (λ p. stored (stored (stored o 0 H) 24 R) p T) z
    ∙ ap (λ s. stored s (24 + 16 * n) T) (then_stored o 0 24 H R (omega arith) (omega arith))
    ∙ then_stored o 0 (24 + 16 * n) (H ++ R) T (simp length-append (omega arith)) (omega arith)
    ∙ ap (stored o 0) (sym (whole xs h))

-- ---- row by row

module _ (t u : List ℕ) (s : Chosen) (i : ℕ) where
  abbrev all : List Row
  all = view t u s.bytes.now s.last

  pub row_next : i < s.last → drop i all ≡ row_here t u s.bytes.now i ∷ drop (suc i) all
  row_next h = view_cons t u s.bytes.now s.last i h s.few s.within

  pub size_more : (sum k m : ℕ) (r : Numbers.Row) → r ≡ row_of s.bytes.now i → i < s.last → k ≡ length (row_text (row_seen t u r)) → sum + length (texts (drop i all)) ≡ m → sum + k + length (texts (drop (i + 1) all)) ≡ m
  unfolding texts
  size_more sum k m r is h e₀ f =
      let e = rw (seen_is t u s.bytes.now i r is) at e₀ in
      let g : length (texts (drop i all)) ≡ length (row_text (row_here t u s.bytes.now i)) + length (texts (drop (i + 1) all)) =
      ap (λ xs. length (texts xs)) (row_next h) ∙ length-append (row_text (row_here t u s.bytes.now i)) (texts (drop (suc i) all)) ∙ ap (λ j. length (row_text (row_here t u s.bytes.now i)) + length (texts (drop j all))) (sym (add-one i)) in
      omega arith

  pub size_end : (sum m : ℕ) → s.last ≤ i → sum + length (texts (drop i all)) ≡ m → sum ≡ m
  unfolding texts
  size_end sum m h f =
      let g : length (texts (drop i all)) ≡ 0 = ap (λ xs. length (texts xs)) (view_end t u s.bytes.now s.last i h) in
      omega arith

pub record RowsLoop (t u : List ℕ) (s : Chosen) (up base : ℕ) (o₀ o : List ℕ) (i at pos : ℕ) : Type 0 where
  pub on : s.first ≤ i
  pub place : at ≡ 24 + 16 * (i - s.first)
  pub past : base ≤ pos
  pub long : length o ≡ length o₀
  pub room : pos + length (texts (drop i (view t u s.bytes.now s.last))) ≤ length o₀
  pub is : lay base o at (pos - base) (spanned up (drop i (view t u s.bytes.now s.last))) ≡ lay base o₀ 24 0 (spanned up (drop s.first (view t u s.bytes.now s.last)))

module _ (t u : List ℕ) (s : Chosen) (up : ℕ) (o₀ : List ℕ) (room : 24 + 16 * (s.last - s.first) + length (texts (drop s.first (view t u s.bytes.now s.last))) ≤ length o₀) where
  abbrev base : ℕ
  base = 24 + 16 * (s.last - s.first)

  abbrev rest : ℕ → List Row
  rest i = drop i (view t u s.bytes.now s.last)

  pub rows_begin : RowsLoop t u s up (24 + 16 * (s.last - s.first)) o₀ o₀ s.first 24 (24 + 16 * (s.last - s.first))
  rows_begin =
      let z : base - base ≡ 0 = omega arith in
      record { on = omega arith; place = omega arith; past = omega arith; long = refl; room = room; is = ap (λ q. lay base o₀ 24 q (spanned up (rest s.first))) z }

  module _ (o : List ℕ) (i at pos : ℕ) (L : RowsLoop t u s up (24 + 16 * (s.last - s.first)) o₀ o i at pos) where
    module _ (h : i < s.last) where
      size_left : length (texts (rest i)) ≡ length (row_text (row_here t u s.bytes.now i)) + length (texts (rest (suc i)))
      unfolding texts
      size_left = ap (λ xs. length (texts xs)) (row_next t u s i h) ∙ length-append (row_text (row_here t u s.bytes.now i)) (texts (rest (suc i)))

      pub rows_texts : (m : ℕ) (r : Numbers.Row) → r ≡ row_of s.bytes.now i → m ≡ length o → pos + length (row_text (row_seen t u r)) ≤ m
      rows_texts m r is e = rw (seen_is t u s.bytes.now i r is) (omega (arith, L.room, L.long, size_left))

      pub rows_more : (o₁ o₂ : List ℕ) (pos₁ : ℕ) (r : Numbers.Row) → r ≡ row_of s.bytes.now i → o₁ ≡ stored o at (row_bytes (pos - (24 + 16 * (s.last - s.first))) (spanned_row up (row_here t u s.bytes.now i) (drop (suc i) (view t u s.bytes.now s.last))))
          → o₂ ≡ stored o₁ pos (row_text (row_seen t u r)) → pos₁ ≡ pos + length (row_text (row_seen t u r)) → RowsLoop t u s up (24 + 16 * (s.last - s.first)) o₀ o₂ (i + 1) (at + 16) pos₁
      unfolding lay lay_row spanned spanned_row row_text
      rows_more o₁ o₂ pos₁ r is e f₀ g₀ =
          let f = rw (seen_is t u s.bytes.now i r is) at f₀ in
          let g = rw (seen_is t u s.bytes.now i r is) at g₀ in
          let x = row_here t u s.bytes.now i in
          let T = row_text x in
          let sx = spanned_row up x (rest (suc i)) in
          let l₁ : length o₁ ≡ length o = ap length e ∙ length_stored o at (row_bytes (pos - base) sx) in
          let l₂ : length o₂ ≡ length o₁ = ap length f ∙ length_stored o₁ pos T in
          let b : base + (pos - base) ≡ pos = omega (arith, L.past) in
          let q : pos - base + length T ≡ pos₁ - base = omega (arith, L.past) in
          let q₁ : lay_row base o at (pos - base) sx ≡ o₂ = ap (λ p. stored (stored o at (row_bytes (pos - base) sx)) p T) b ∙ ap (λ y. stored y pos T) (sym e) ∙ sym f in
          let k : lay base o at (pos - base) (spanned up (rest i)) ≡ lay base o₂ (at + 16) (pos₁ - base) (spanned up (rest (suc i))) =
          ap (λ xs. lay base o at (pos - base) (spanned up xs)) (row_next t u s i h)
          ∙ ap (λ y. lay base y (at + 16) (pos - base + length T) (spanned up (rest (suc i)))) q₁
          ∙ ap (λ p. lay base o₂ (at + 16) p (spanned up (rest (suc i)))) q in
          let j : rest (i + 1) ≡ rest (suc i) = ap rest (add-one i) in
          record {
            on = omega (arith, L.on);
            place = omega (arith, L.place, L.on);
            past = omega (arith, L.past);
            long = l₂ ∙ l₁ ∙ L.long;
            room = rw j (omega (arith, L.room, size_left));
            is = rw j (sym k ∙ L.is);
          }

    pub rows_end : s.last ≤ i → o ≡ lay (24 + 16 * (s.last - s.first)) o₀ 24 0 (spanned up (drop s.first (view t u s.bytes.now s.last)))
    unfolding lay spanned
    rows_end h = sym (ap (λ xs. lay base o at (pos - base) (spanned up xs)) (view_end t u s.bytes.now s.last i h)) ∙ L.is

-- ---- the rows that are chosen

drop_take : (a b : ℕ) (l : List Row) → drop a (take b l) ≡ take (b - a) (drop a l)
drop_take zero b l = let q : b - 0 ≡ b = omega arith in rw q
drop_take (suc a) zero l = let q : 0 - suc a ≡ 0 = omega arith in rw q
drop_take (suc a) (suc b) [] = sym (take-nil (suc b - suc a))
drop_take (suc a) (suc b) (x ∷ l) = let q : suc b - suc a ≡ b - a = omega arith in rw q (drop_take a b l)

groups_take : {A : Type 0} (k : ℕ) (f : List ℕ → A) (m n : ℕ) (w : List ℕ) → m ≤ n → take m (groups k f w n) ≡ groups k f w m
unfolding groups
groups_take k f zero n w h = refl
groups_take k f (suc m) zero w h = absurd (omega arith)
groups_take k f (suc m) (suc n) w h = ap (λ r. f (take k w) ∷ r) (groups_take k f m n (drop k w) (omega arith))

module _ (t u w : List ℕ) (n lo hi last first : ℕ) (el : last ≡ min (kept w n) hi) (ef : first ≡ min lo last) where
  abbrev there : ℕ
  there = kept w n

  up_to : take hi (view t u w there) ≡ view t u w last
  unfolding view
  up_to =
      ⊎_elim (λ h. let q : there ≡ last = omega arith in take_all hi (view t u w there) (omega (arith, length_view t u w there)) ∙ ap (view t u w) q)
      (λ h. let q : hi ≡ last = omega arith in groups_take 16 (seen t u) hi there w (omega arith) ∙ ap (view t u w) q) (fit there hi)

  from : drop lo (view t u w last) ≡ drop first (view t u w last)
  from =
      ⊎_elim (λ h. let q : lo ≡ first = omega arith in ap (λ j. drop j (view t u w last)) q)
      (λ h. view_end t u w last lo (omega arith) ∙ sym (view_end t u w last first (omega arith))) (fit lo last)

  pub chosen_is : chosen t u w n lo hi ≡ drop first (view t u w last)
  unfolding chosen rows_in
  chosen_is = sym (drop_take lo hi (view t u w there)) ∙ ap (drop lo) up_to ∙ from

-- ---- the whole table

module _ (up : ℕ) (ys : List Row) (o : List ℕ) where
  pub tabled_length : length (tabled up ys) ≡ 24 + 16 * length ys + length (texts ys)
  unfolding tabled
  tabled_length =
      laid_length (spanned up ys) (spanned_lasts up ys)
      ∙ ap (λ k. 24 + 16 * k + length (texts (spanned up ys))) (spanned_length up ys)
      ∙ ap (λ s. 24 + 16 * length ys + length s) (spanned_texts up ys)

  pub table_short : length o < 24 + 16 * length ys + length (texts ys) → (o ≡ stored o 0 (tabled up ys)) × (0 ≡ fitted (tabled up ys) o)
  unfolding fitted when◌then◌else◌
  table_short h =
      let l : length o < length (tabled up ys) = rw tabled_length h in
      (sym (stored_out o 0 (tabled up ys) (omega arith)), rw (lt-leb (length (tabled up ys)) (length o) l))

  pub table_put : (o₁ o₂ : List ℕ) → 24 + 16 * length ys + length (texts ys) ≤ length o → o₁ ≡ stored o 0 (head (length ys) (length (texts ys))) → o₂ ≡ lay (24 + 16 * length ys) o₁ 24 0 (spanned up ys)
      → (o₂ ≡ stored o 0 (tabled up ys)) × (24 + 16 * length ys + length (texts ys) ≡ fitted (tabled up ys) o)
  unfolding fitted tabled when◌then◌else◌
  table_put o₁ o₂ h e f =
      let xs = spanned up ys in
      let sl = spanned_length up ys in
      let st = spanned_texts up ys in
      let l : length (laid_out 2 xs) ≤ length o = rw tabled_length h in
      let g : o₂ ≡ lay (24 + 16 * length xs) (stored o 0 (head (length xs) (length (texts xs)))) 24 0 xs = rw (sl, st) (f ∙ ap (λ y. lay (24 + 16 * length ys) y 24 0 xs) e) in
      (g ∙ laid o xs (spanned_lasts up ys) (rw (sl, st) h), sym tabled_length ∙ rw (le-leb (length (laid_out 2 xs)) (length o) l))

-- ---- the rows that are chosen, as a table

module _ (t u : List ℕ) (s : Chosen) (w : List ℕ) (n lo hi up size : ℕ) (o : List ℕ) (eb : s.bytes.now ≡ w) (el : s.last ≡ min (kept w n) hi) (ef : s.first ≡ min lo s.last) (es : size ≡ length (texts (drop s.first (view t u s.bytes.now s.last)))) where
  abbrev ys : List Row
  ys = drop s.first (view t u s.bytes.now s.last)

  many : length ys ≡ s.last - s.first
  many = length-drop s.first (view t u s.bytes.now s.last) ∙ ap (λ k. k - s.first) (length_view t u s.bytes.now s.last)

  these : chosen t u w n lo hi ≡ ys
  these = chosen_is t u w n lo hi s.last s.first el ef ∙ ap (λ x. drop s.first (view t u x s.last)) (sym eb)

  pub write_short : length o < 24 + 16 * (s.last - s.first) + size → (o ≡ stored o 0 (tabled up (chosen t u w n lo hi))) × (0 ≡ fitted (tabled up (chosen t u w n lo hi)) o)
  write_short h = rw these (table_short up ys o (rw (many, ← es) h))

  pub write_put : (o₁ o₂ : List ℕ) → 24 + 16 * (s.last - s.first) + size ≤ length o → o₁ ≡ stored o 0 (head (s.last - s.first) size) → o₂ ≡ lay (24 + 16 * (s.last - s.first)) o₁ 24 0 (spanned up (drop s.first (view t u s.bytes.now s.last)))
      → (o₂ ≡ stored o 0 (tabled up (chosen t u w n lo hi))) × (24 + 16 * (s.last - s.first) + size ≡ fitted (tabled up (chosen t u w n lo hi)) o)
  write_put o₁ o₂ h e f = rw (these, ← many, es) (table_put up ys o o₁ o₂ (rw (many, ← es) h) (rw (many, ← es) e) (rw many f))
