-- One row's numbers, and a row as it is written. Assumes nothing.
use Prim.Native.Nat.{ℕ, ◌+◌, ◌*◌, ◌≤◌, ◌<◌}
use native.Mathlib.Numerals.{add-one}
use native.Mathlib.Omega.{arith}
use mathlib.Core.Path.{◌≡◌, ap, ◌∙◌}
use mathlib.Core.List.{List, ◌++◌, append_assoc}
use lib.ListN.{length, get_or, length-append}
use borrow.Author.Tests.{le-leb, lt-leb}
use Rattle.paper.specs.Bytes.{when◌then◌else◌}
use Rattle.paper.specs.Layout.{little}
use Rattle.paper.specs.DecodeAt.{word}
use Rattle.theorems.proofs.Decoded.Parts.{length_little}
use Rattle.memory.specs.Memory.{word_at, stored}
use Rattle.memory.proofs.Laws.{word_in, stored_out, then_stored}
use Rattle.rows.specs.Change.{field_at, row_bytes, row_stored}

-- ---- by cases: a row that a work slice has, and one that it has not

pub field_in : (n : ℕ) (w : List ℕ) (i f : ℕ) → i ≤ 4095 → field_at n w i f ≡ word_at n w (i * 16 + f)
unfolding field_at when◌then◌else◌
field_in n w i f h = rw (le-leb i 4095 h)

pub field_out : (n : ℕ) (w : List ℕ) (i f : ℕ) → 4095 < i → field_at n w i f ≡ 0
unfolding field_at when◌then◌else◌
field_out n w i f h = rw (lt-leb i 4095 h)

pub row_in : (w : List ℕ) (i : ℕ) (b : List ℕ) → i ≤ 4095 → row_stored w i b ≡ stored w (i * 16) b
unfolding row_stored when◌then◌else◌
row_in w i b h = rw (le-leb i 4095 h)

pub row_out : (w : List ℕ) (i : ℕ) (b : List ℕ) → 4095 < i → row_stored w i b ≡ w
unfolding row_stored when◌then◌else◌
row_out w i b h = rw (lt-leb i 4095 h)

-- a number of a row that is there
pub field_word : (n : ℕ) (w : List ℕ) (i f : ℕ) → i ≤ 4095 → i * 16 + (f + n) ≤ length w → field_at n w i f ≡ word n w (i * 16 + f)
field_word n w i f h l = field_in n w i f h ∙ word_in n w (i * 16 + f) (omega arith)

-- a number of two bytes
pub word_two : (w : List ℕ) (at : ℕ) → word 2 w at ≡ get_or w at 0 + 256 * get_or w (at + 1) 0
unfolding word
word_two w at = rw (add-one at) (omega arith)

-- ---- a row as it is written

pub length_row : (k d p m v : ℕ) → length (row_bytes k d p m v) ≡ 16
unfolding row_bytes
length_row k d p m v = simp (length-append, length_little)

-- the next number goes right behind
next : (w u v : List ℕ) (at p : ℕ) (a : List ℕ) (n x : ℕ) → u ≡ stored w at a → v ≡ stored u p (little n x) → p ≡ at + length a → p + n ≤ length w → v ≡ stored w at (a ++ little n x)
next w u v at p a n x e f q h = f ∙ ap (λ s. stored s p (little n x)) e ∙ then_stored w at p a (little n x) q (rw (length_little n x) h)

module _ (w : List ℕ) (at k d p m v : ℕ) where
  pub row_written : (a b c e o : List ℕ) → at + 16 ≤ length w → a ≡ stored w at (little 2 k) → b ≡ stored a (at + 2) (little 2 d) → c ≡ stored b (at + 4) (little 2 p)
      → e ≡ stored c (at + 6) (little 2 m) → o ≡ stored e (at + 8) (little 8 v) → o ≡ stored w at (row_bytes k d p m v)
  unfolding row_bytes
  row_written a b c e o h q₁ q₂ q₃ q₄ q₅ =
      let k₂ = little 2 k in
      let d₂ = little 2 d in
      let p₂ = little 2 p in
      let m₂ = little 2 m in
      let l₁ : length k₂ ≡ 2 = length_little 2 k in
      let l₂ : length (k₂ ++ d₂) ≡ 4 = simp (length-append, length_little) in
      let l₃ : length ((k₂ ++ d₂) ++ p₂) ≡ 6 = simp (length-append, length_little) in
      let l₄ : length (((k₂ ++ d₂) ++ p₂) ++ m₂) ≡ 8 = simp (length-append, length_little) in
      let s₂ = next w a b at (at + 2) k₂ 2 d q₁ q₂ (omega arith) (omega arith) in
      let s₃ = next w b c at (at + 4) (k₂ ++ d₂) 2 p s₂ q₃ (omega arith) (omega arith) in
      let s₄ = next w c e at (at + 6) ((k₂ ++ d₂) ++ p₂) 2 m s₃ q₄ (omega arith) (omega arith) in
      let s₅ = next w e o at (at + 8) (((k₂ ++ d₂) ++ p₂) ++ m₂) 8 v s₄ q₅ (omega arith) (omega arith) in
      s₅ ∙ ap (stored w at) (simp append_assoc)

  pub row_short : length w < at + 16 → stored w at (row_bytes k d p m v) ≡ w
  row_short h = stored_out w at (row_bytes k d p m v) (rw (length_row k d p m v) h)
