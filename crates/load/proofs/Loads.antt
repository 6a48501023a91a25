-- Rows stored one by one, record by record. Assumes nothing.
use Prim.Native.Nat.{ℕ, zero, suc, ◌+◌, ◌*◌, ◌%◌, ◌≤◌, ◌<◌}
use native.Mathlib.Omega.{arith}
use native.Mathlib.Nat.{add-zero, zero-add}
use native.Mathlib.Numerals.{add-one}
use mathlib.Core.Path.{◌≡◌, refl, sym, ◌∙◌, ap}
use mathlib.Core.List.{List, ◌++◌, append_assoc, append-nil}
use lib.ListN.{length, length-append}
use Rattle.memory.specs.Memory.{stored}
use Rattle.memory.proofs.Laws.{stored_none, then_stored}
use Rattle.rows.specs.Row.{row_of}
use Rattle.rows.specs.declared.row.Row.{Row}
use Rattle.rows.specs.Change.{field_at, row_bytes, row_stored}
use Rattle.rows.proofs.Fields.{length_row, row_in}
use Rattle.load.specs.Load.{name_size, value_size, placed_label, placed_value, size_of, loaded_row, loaded, loads, load_stored}

pub sized : (text : List ℕ) (p k v a b : ℕ) → a ≡ name_size text p → b ≡ value_size text k v → (a + b) % 65536 ≡ size_of text p k v
unfolding size_of
sized text p k v a b e f = rw (e, f)

-- ---- one row

pub row_is : (recs text : List ℕ) (i : ℕ) (r : Row) (l m y : ℕ) → r ≡ row_of recs i → l ≡ placed_label r.label → m ≡ size_of text r.label r.kind r.value → y ≡ placed_value r.kind r.value
    → row_bytes r.kind r.depth l m y ≡ loaded_row recs text i
unfolding loaded_row
row_is recs text i r l m y e el em ey = rw (ey, em, el, e)

pub loaded_row_length : (recs text : List ℕ) (i : ℕ) → length (loaded_row recs text i) ≡ 16
unfolding loaded_row
loaded_row_length recs text i =
    length_row (field_at 2 recs i 0) (field_at 2 recs i 2) (placed_label (field_at 2 recs i 4)) (size_of text (field_at 2 recs i 4) (field_at 2 recs i 0) (field_at 8 recs i 8)) (placed_value (field_at 2 recs i 0) (field_at 8 recs i 8))

-- ---- all rows

pub loaded_length : (recs text : List ℕ) (n i : ℕ) → length (loaded recs text i n) ≡ n * 16
unfolding loaded
loaded_length recs text zero i = refl
loaded_length recs text (suc n) i = simp length-append (omega (arith, loaded_row_length recs text i, loaded_length recs text n (suc i)))

loaded_more : (recs text : List ℕ) (n i : ℕ) → loaded recs text i (n + 1) ≡ loaded recs text i n ++ loaded_row recs text (i + n)
unfolding loaded
loaded_more recs text zero i = append-nil (loaded_row recs text i) ∙ ap (loaded_row recs text) (sym (add-zero i))
loaded_more recs text (suc n) i =
    let q : suc i + n ≡ i + suc n = omega arith in
    ap (loaded recs text i) (add-one (suc n))
    ∙ ap (λ x. loaded_row recs text i ++ x) (ap (loaded recs text (suc i)) (sym (add-one n)) ∙ loaded_more recs text n (suc i) ∙ ap (λ j. loaded recs text (suc i) n ++ loaded_row recs text j) q)
    ∙ sym (append_assoc (loaded_row recs text i) (loaded recs text (suc i) n) (loaded_row recs text (i + suc n)))

pub load_none : (recs text w : List ℕ) → w ≡ stored w 0 (loaded recs text 0 0)
unfolding loaded
load_none recs text w = sym (stored_none w 0)

pub load_turn : (recs text w v v' : List ℕ) (i : ℕ) → i < 4096 → (i + 1) * 16 ≤ length w → v ≡ stored w 0 (loaded recs text 0 i) → v' ≡ row_stored v i (loaded_row recs text i) → v' ≡ stored w 0 (loaded recs text 0 (i + 1))
load_turn recs text w v v' i few h e f =
    f ∙ row_in v i (loaded_row recs text i) (omega arith) ∙ ap (λ x. stored x (i * 16) (loaded_row recs text i)) e
    ∙ then_stored w 0 (i * 16) (loaded recs text 0 i) (loaded_row recs text i) (omega (arith, loaded_length recs text i 0)) (omega (arith, loaded_row_length recs text i))
    ∙ ap (stored w 0) (sym (loaded_more recs text i 0 ∙ ap (λ j. loaded recs text 0 i ++ loaded_row recs text j) (zero-add i)))

pub load_end : (recs text w v : List ℕ) (i n : ℕ) → n ≤ i → i ≤ n → n ≡ loads recs w → v ≡ stored w 0 (loaded recs text 0 i) → v ≡ load_stored recs text w
unfolding load_stored
load_end recs text w v i n h l e f = let q : i ≡ loads recs w = omega arith in f ∙ ap (λ j. stored w 0 (loaded recs text 0 j)) q
