-- A record of a table, from the numbers of a row. Assumes nothing.
use Prim.Native.Nat.{ℕ, suc, ◌+◌, ◌*◌, ◌-◌, ◌/◌, ◌%◌, ◌≤◌, ◌<◌}
use native.Mathlib.Omega.{arith}
use native.Mathlib.Numerals.{add-one}
use mathlib.Core.Path.{◌≡◌, ◌∙◌, sym, ap}
use mathlib.Core.List.{List, append-nil}
use lib.ListN.{length, drop, length-drop}
use lib.Dec.{leb}
use mathlib.Core.Bool.{Bool, true, false, ◌&&◌}
use borrow.Author.Tests.{eq-eqb, ne_eqb}
use Rattle.paper.specs.Bytes.{when◌then◌else◌}
use Rattle.paper.specs.Layout.{Row, little, text_of, figure}
use Rattle.paper.specs.Layout as Layout
use Rattle.rows.specs.View.{label_of, value_of, view, rows_in}
use Rattle.rows.specs.Search.{deeper}
use Rattle.rows.specs.Change.{field_at, row_bytes, row_here}
use Rattle.rows.specs.Row.{row_of, row_seen}
use Rattle.rows.specs.declared.row.Row as Numbers
use Rattle.rows.proofs.Views.{kept_is, length_view}
use Rattle.rows.proofs.Searches.{deeper_in}
use Rattle.write.specs.Tabled.{spanned_row}
use Rattle.write.specs.declared.chosen.Chosen.{Chosen}

-- ---- figures

pub label_none : (t u : List ℕ) (p pos : ℕ) → p ≡ 65535 → p ≡ figure pos (label_of t u p) % 65536
unfolding figure label_of when◌then◌else◌
label_none t u p pos h = rw (eq-eqb p 65535 h) h

pub label_some : (t u : List ℕ) (p pos : ℕ) → (p ≡ 65535 → ⊥) → pos % 65536 ≡ figure pos (label_of t u p) % 65536
unfolding figure label_of when◌then◌else◌
label_some t u p pos h = rw (ne_eqb p 65535 h)

module _ (t u : List ℕ) (x : Numbers.Row) (pos : ℕ) {b : Bool} (e : b ≡ (leb 4 x.kind && leb x.kind 6)) where
  pub value_none : b ≡ false → x.value ≡ figure pos (row_seen t u x).value
  unfolding figure row_seen value_of when◌then◌else◌
  value_none h = let no : (leb 4 x.kind && leb x.kind 6) ≡ false = sym e ∙ h in rw no

  pub value_some : b ≡ true → pos ≡ figure pos (row_seen t u x).value
  unfolding figure row_seen value_of when◌then◌else◌
  value_some h = let yes : (leb 4 x.kind && leb x.kind 6) ≡ true = sym e ∙ h in rw yes

-- ---- the span

module _ (t u : List ℕ) (s : Chosen) (i d e : ℕ) (h : i < s.last) (ed : d ≡ field_at 2 s.bytes.now i 2) (ee : e ≡ i + 1 + deeper (d + 1) (drop (i + 1) (rows_in t u s.bytes.now s.last))) where
  abbrev behind : List Row
  behind = drop (suc i) (view t u s.bytes.now s.last)

  end_is : e ≡ suc i + deeper (suc (field_at 2 s.bytes.now i 2)) behind
  unfolding rows_in
  end_is = rw (kept_is s.bytes.now s.last s.few s.within, add-one i, add-one d, ed) at ee

  pub span_few : (i ≤ e) × (e - i ≤ 4096)
  span_few =
      let m = deeper_in (suc (field_at 2 s.bytes.now i 2)) behind in
      let l : length behind ≡ s.last - suc i = length-drop (suc i) (view t u s.bytes.now s.last) ∙ ap (λ k. k - suc i) (length_view t u s.bytes.now s.last) in
      (omega (arith, end_is), omega (arith, end_is, s.few))

  pub span_is : e - i ≡ (spanned_row 0 (row_here t u s.bytes.now i) behind).span
  unfolding spanned_row row_here
  span_is = omega (arith, end_is)

-- ---- the record

-- two bytes hold no more
little_cut : (x : ℕ) → little 2 (x % 65536) ≡ little 2 x
unfolding little
little_cut x =
    let a : x % 65536 % 256 ≡ x % 256 = omega arith in
    let q : x / 256 ≡ 256 * (x / 65536) + x % 65536 / 256 = omega arith in
    rw (a, q, more (x / 65536) (x % 65536 / 256))
  where
    more : (m n : ℕ) → (256 * m + n) % 256 ≡ n % 256
    more m n = omega arith

pub seen_is : (t u w : List ℕ) (i : ℕ) (r : Numbers.Row) → r ≡ row_of w i → row_seen t u r ≡ row_here t u w i
unfolding row_seen row_here
seen_is t u w i r is = ap (row_seen t u) is

module _ (t u w : List ℕ) (i up pos : ℕ) (xs : List Row) (r : Numbers.Row) (is : r ≡ row_of w i) where
  pub record_is : (d l m y : ℕ) (a : List ℕ) → d ≡ r.depth - up → l ≡ figure pos (label_of t u r.label) % 65536 → m ≡ (spanned_row 0 (row_here t u w i) xs).span
      → a ≡ text_of (row_seen t u r).label → y ≡ figure (pos + length a) (row_seen t u r).value → row_bytes r.kind d l m y ≡ Layout.row_bytes pos (spanned_row up (row_here t u w i) xs)
  unfolding row_bytes Layout.row_bytes spanned_row row_seen row_here
  record_is d l m y a ed el em ea ey =
      rw (ey, em, el, little_cut (figure pos (label_of t u r.label)), ed, ea, is, append-nil)
