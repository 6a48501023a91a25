-- Places in the two texts. Assumes nothing.
use Prim.Native.Nat.{ℕ, ◌+◌, ◌-◌, ◌≤◌, ◌<◌}
use native.Mathlib.Nat.{le_of_eq}
use native.Mathlib.Omega.{arith}
use mathlib.Core.Path.{◌≡◌, refl, ap, ◌∙◌}
use mathlib.Core.Bool.{Bool, true, false, ◌&&◌}
use mathlib.Core.List.{List, [], ◌∷◌}
use lib.ListN.{length, take, drop, get_or, length-drop}
use lib.Seq.{take_all}
use lib.Dec.{ltb, eqb}
use borrow.Author.Tests.{lt-ltb, le-ltb, eq-eqb, ne_eqb}
use Rattle.std.specs.Cmp.Lexicographic.{pointwise}
use Rattle.std.specs.Prelude.{nat_eq}
use Rattle.paper.specs.Bytes.{same, when◌then◌else◌}
use Rattle.memory.specs.Memory.{part_at}
use Rattle.rows.specs.View.{PointsInto, byte_of, text_part, label_text, name_of, label_of}
use Rattle.rows.specs.Search.{calls}

-- ---- by cases: a place in the first text, and in the second

byte_either : (t u : List ℕ) (i j : ℕ) (b : Bool) → get_or (when b then t else u) (when b then i else j) 0 ≡ (when b then get_or t i 0 else get_or u j 0)
unfolding when◌then◌else◌
byte_either t u i j true = refl
byte_either t u i j false = refl

part_either : (t u : List ℕ) (i j n : ℕ) (b : Bool) → part_at (when b then t else u) (when b then i else j) n ≡ (when b then part_at t i n else part_at u j n)
unfolding when◌then◌else◌
part_either t u i j n true = refl
part_either t u i j n false = refl

module _ (t u : List ℕ) (p : ℕ) where
  pub points_first : p < 32768 → PointsInto t u p t p
  unfolding when◌then◌else◌
  points_first h = rw (lt-ltb p 32768 h) (refl, refl)

  pub points_second : 32768 ≤ p → PointsInto t u p u (p - 32768)
  unfolding when◌then◌else◌
  points_second h = rw (le-ltb p 32768 h) (refl, refl)

  module _ (s : List ℕ) (i : ℕ) (h : PointsInto t u p s i) where
    pub byte_there : get_or s i 0 ≡ byte_of t u p
    unfolding byte_of
    byte_there = rw (h.0, h.1) (byte_either t u p (p - 32768) (ltb p 32768))

    pub part_there : (n : ℕ) → part_at s i n ≡ text_part t u p n
    unfolding text_part
    part_there n = rw (h.0, h.1) (part_either t u p (p - 32768) n (ltb p 32768))

  pub byte_first : p < 32768 → byte_of t u p ≡ get_or t p 0
  unfolding byte_of when◌then◌else◌
  byte_first h = rw (lt-ltb p 32768 h)

  pub byte_second : 32768 ≤ p → byte_of t u p ≡ get_or u (p - 32768) 0
  unfolding byte_of when◌then◌else◌
  byte_second h = rw (le-ltb p 32768 h)

  pub part_first : (n : ℕ) → p < 32768 → text_part t u p n ≡ part_at t p n
  unfolding text_part when◌then◌else◌
  part_first n h = rw (lt-ltb p 32768 h)

  pub part_second : (n : ℕ) → 32768 ≤ p → text_part t u p n ≡ part_at u (p - 32768) n
  unfolding text_part when◌then◌else◌
  part_second n h = rw (le-ltb p 32768 h)

  pub no_label : (name : List ℕ) → p ≡ 65535 → calls (label_of t u p) name ≡ false
  unfolding calls label_of when◌then◌else◌
  no_label name h = rw (eq-eqb p 65535 h)

  pub a_label : (name : List ℕ) → (p ≡ 65535 → ⊥) → calls (label_of t u p) name ≡ same (name_of t u p) name
  unfolding calls label_of name_of when◌then◌else◌
  a_label name h = rw (ne_eqb p 65535 h)

-- `==` of slices compares as paper does
pub same_pointwise : (a b : List ℕ) → pointwise nat_eq a b ≡ same a b
same_pointwise [] [] = refl
same_pointwise [] (y ∷ b) = refl
same_pointwise (x ∷ a) [] = refl
same_pointwise (x ∷ a) (y ∷ b) = ap (λ r. eqb x y && r) (same_pointwise a b)

-- ---- the name behind its length byte

pub name_empty : (s : List ℕ) → length s < 1 → s ≡ drop 1 s
name_empty [] h = refl
name_empty (x ∷ s) h = absurd (omega arith)

pub name_rest : (s : List ℕ) → take (length s - 1) (drop 1 s) ≡ drop 1 s
name_rest s = take_all (length s - 1) (drop 1 s) (le_of_eq (length-drop 1 s))

pub name_is : (t u s : List ℕ) (p b : ℕ) → s ≡ text_part t u p (1 + b) → b ≡ byte_of t u p → drop 1 s ≡ name_of t u p
unfolding name_of label_text
name_is t u s p b e f = ap (drop 1) (e ∙ ap (λ (n : ℕ). text_part t u p (1 + n)) f)
