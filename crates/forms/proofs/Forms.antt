-- A record that lies inside: what the code reads of it is the paper's record. Assumes nothing.
use Prim.Native.Nat.{ℕ, ◌+◌, ◌≤◌}
use native.Mathlib.Omega.{arith}
use mathlib.Core.Path.{◌≡◌}
use mathlib.Core.Bool.{Bool, true, false}
use mathlib.Core.List.{List}
use lib.ListN.{length}
use lib.Dec.{eqb}
use borrow.Author.Tests.{eq-eqb, ne_eqb}
use Rattle.paper.specs.TableDecoder.{in_table}
use Rattle.paper.specs.StepDecoder.{in_steps}
use Rattle.paper.specs.DecodeAt.{raw_at}
use Rattle.memory.specs.Memory.{word_at}
use Rattle.memory.proofs.Laws.{word_in}
use Rattle.forms.specs.Form.{fields}

pub fields_in : (w : ℕ) (recs : List ℕ) (i : ℕ) → i + (16 + w) ≤ length recs → fields w recs i ≡ raw_at w recs i
unfolding fields raw_at
fields_in w recs i h =
    rw (word_in 2 recs i (omega arith), word_in 2 recs (i + 2) (omega arith), word_in 2 recs (i + 4) (omega arith), word_in 2 recs (i + 6) (omega arith), word_in 8 recs (i + 8) (omega arith), word_in w recs (i + 16) (omega arith))

-- no test came out both ways
pub no_both : {A : Type 0} {b : Bool} → b ≡ true → b ≡ false → A
no_both e f = let z : ◌≡◌ {A = ℕ} 0 1 = cc in absurd (omega arith)

-- ---- an element's record, one law for each way through the code

module _ (recs : List ℕ) (i d : ℕ) (m : ℕ) (em : m ≡ word_at 2 recs (i + 2)) where
  pub element_elsewhere : (m ≡ d → ⊥) → false ≡ in_table.fits d (fields 0 recs i)
  unfolding in_table fields
  element_elsewhere h = rw (← em, ne_eqb m d h)

  pub element_named : (l : ℕ) → l ≡ word_at 2 recs (i + 4) → m ≡ d → eqb l 65535 ≡ in_table.fits d (fields 0 recs i)
  unfolding in_table fields
  element_named l el h = rw (← em, ← el, eq-eqb m d h)

module _ (recs : List ℕ) (i d : ℕ) (s : ℕ) (es : s ≡ word_at 2 recs i) where
  pub item_other : (s ≡ 7 → ⊥) → false ≡ in_steps.fits d (fields 4 recs i)
  unfolding in_steps fields
  item_other h = rw (← es, ne_eqb s 7 h)

  module _ (h : s ≡ 7) (l : ℕ) (el : l ≡ word_at 2 recs (i + 4)) where
    pub item_named : (l ≡ 0 → ⊥) → false ≡ in_steps.fits d (fields 4 recs i)
    unfolding in_steps fields
    item_named g = rw (← es, ← el, eq-eqb s 7 h, ne_eqb l 0 g)

    pub item_placed : (p : ℕ) → p ≡ word_at 4 recs (i + 16) → l ≡ 0 → eqb p 0 ≡ in_steps.fits d (fields 4 recs i)
    unfolding in_steps fields
    item_placed p ep g = rw (← es, ← el, ← ep, eq-eqb s 7 h, eq-eqb l 0 g)
