-- The texts of a row, cut out of the two texts. Assumes nothing.
use Prim.Native.Nat.{ℕ, suc, ◌+◌, ◌-◌, ◌≤◌, ◌<◌}
use native.Mathlib.Omega.{arith}
use native.Mathlib.Nat.{le_of_eq}
use mathlib.Core.Path.{◌≡◌, sym, ◌∙◌, ap, ap₂}
use mathlib.Core.Bool.{Bool, true, false, ◌&&◌}
use mathlib.Core.List.{List, [], ◌++◌}
use lib.Dec.{leb}
use mathlib.Core.Logic.{⊎_elim}
use lib.ListN.{length, length-append}
use borrow.Author.Tests.{eq-eqb, ne_eqb}
use Rattle.paper.specs.Bytes.{when◌then◌else◌}
use Rattle.paper.specs.Layout.{text_of, row_text}
use Rattle.memory.specs.Memory.{part_at, stored}
use Rattle.memory.proofs.Laws.{fit, part_out, length_part, then_stored}
use Rattle.rows.specs.View.{byte_of, text_part, label_text, label_of, value_of}
use Rattle.rows.specs.Row.{row_seen}
use Rattle.rows.specs.declared.row.Row.{Row}
use Rattle.rows.proofs.Texts.{part_first, part_second}

-- ---- a part is no longer than it should be

part_short : (s : List ℕ) (at n : ℕ) → length (part_at s at n) ≤ n
part_short s at n = ⊎_elim (λ h. le_of_eq (length_part s at n h)) (λ o. rw (part_out s at n o) (omega arith)) (fit (at + n) (length s))

text_short : (t u : List ℕ) (p n : ℕ) → length (text_part t u p n) ≤ n
text_short t u p n =
    ⊎_elim (λ h. rw (part_first t u p n h) (part_short t p n)) (λ h. rw (part_second t u p n (omega arith)) (part_short u (p - 32768) n)) (fit (suc p) 32768)

-- ---- a row's, by its numbers

module _ (t u : List ℕ) (x : Row) (r : List ℕ) where
  pub label_none : x.label ≡ 65535 → r ≡ [] → (r ≡ text_of (row_seen t u x).label) × (length r ≤ 256)
  unfolding row_seen label_of text_of when◌then◌else◌
  label_none h f = (f ∙ rw (eq-eqb x.label 65535 h), rw f (omega arith))

  pub label_some : (b : ℕ) → (x.label ≡ 65535 → ⊥) → b ≡ byte_of t u x.label → b < 256 → r ≡ text_part t u x.label (1 + b) → (r ≡ text_of (row_seen t u x).label) × (length r ≤ 256)
  unfolding row_seen label_of label_text text_of when◌then◌else◌
  label_some b h g l f =
      (f ∙ rw (ne_eqb x.label 65535 h, ← g), rw f (omega (arith, text_short t u x.label (1 + b))))

  pub value_none : {b : Bool} → b ≡ (leb 4 x.kind && leb x.kind 6) → b ≡ false → r ≡ [] → (r ≡ text_of (row_seen t u x).value) × (length r ≤ 65535)
  unfolding row_seen value_of text_of when◌then◌else◌
  value_none e h f =
      let no : (leb 4 x.kind && leb x.kind 6) ≡ false = sym e ∙ h in
      (f ∙ rw no, rw f (omega arith))

  pub value_some : {b : Bool} (a : List ℕ) (m : ℕ) → b ≡ (leb 4 x.kind && leb x.kind 6) → b ≡ true → x.size ≤ 65535 → a ≡ text_of (row_seen t u x).label → m ≡ x.size - length a → r ≡ text_part t u x.value m
      → (r ≡ text_of (row_seen t u x).value) × (length r ≤ 65535)
  unfolding row_seen value_of text_of when◌then◌else◌
  value_some a m e h ls q em f =
      let yes : (leb 4 x.kind && leb x.kind 6) ≡ true = sym e ∙ h in
      (f ∙ rw (yes, em, q), rw f (omega (arith, text_short t u x.value m)))

module _ (t u : List ℕ) (x : Row) (a b : List ℕ) (ea : a ≡ text_of (row_seen t u x).label) (eb : b ≡ text_of (row_seen t u x).value) where
  both : a ++ b ≡ row_text (row_seen t u x)
  unfolding row_text
  both = ap₂ ◌++◌ ea eb

  pub row_sized : length a ≤ 256 → length b ≤ 65535 → (length a + length b ≡ length (row_text (row_seen t u x))) × (length a + length b ≤ 65791)
  row_sized h l = (sym (length-append a b) ∙ ap length both, omega arith)

  pub texts_put : (o o₁ o₂ : List ℕ) (at : ℕ) → at + length (row_text (row_seen t u x)) ≤ length o → o₁ ≡ stored o at a → o₂ ≡ stored o₁ (at + length a) b
      → (o₂ ≡ stored o at (row_text (row_seen t u x))) × (at + length a + length b ≡ at + length (row_text (row_seen t u x)))
  texts_put o o₁ o₂ at h e f =
      let l : length (row_text (row_seen t u x)) ≡ length a + length b = ap length (sym both) ∙ length-append a b in
      (f ∙ ap (λ s. stored s (at + length a) b) e ∙ then_stored o at (at + length a) a b (omega arith) (omega arith) ∙ ap (stored o at) both, omega arith)
