-- Text bytes as the code counts them. Assumes nothing.
use Prim.Native.Nat.{ℕ, zero, suc, ◌+◌, ◌*◌, ◌/◌, ◌%◌, ◌≤◌, ◌<◌}
use native.Mathlib.Omega.{arith}
use mathlib.Core.Path.{◌≡◌, refl, sym, ap, ◌∙◌}
use mathlib.Core.Bool.{Bool, true, false, ◌&&◌}
use lib.Dec.{leb}
use mathlib.Core.List.{List, [], ◌∷◌}
use lib.ListN.{length, drop, get_or}
use borrow.Author.Tests.{le-leb, lt-leb, eq-eqb, ne_eqb}
use Rattle.paper.specs.Bytes.{when◌then◌else◌}
use Rattle.memory.specs.Memory.{word_at}
use Rattle.rows.specs.View.{kept}
use Rattle.load.specs.Load.{name_size, names_size, path_size, value_size, placed, placed_label, placed_value, loads}

-- ---- names

pub name_none : (text : List ℕ) (p : ℕ) → p ≡ 65535 → 0 ≡ name_size text p
unfolding name_size when◌then◌else◌
name_none text p e = rw (eq-eqb p 65535 e)

pub name_some : (text : List ℕ) (p b : ℕ) → (p ≡ 65535 → ⊥) → b ≡ get_or text p 0 → 1 + b ≡ name_size text p
unfolding name_size when◌then◌else◌
name_some text p b h e = rw (ne_eqb p 65535 h) (ap (λ x. 1 + x) e)

pub names_none : (n : ℕ) (s : List ℕ) → length s ≡ 0 → names_size n s ≡ 0
unfolding names_size
names_none zero s h = refl
names_none (suc n) [] h = refl
names_none (suc n) (b ∷ s) h = absurd (omega arith)

pub names_zero : (s : List ℕ) → names_size 0 s ≡ 0
unfolding names_size
names_zero s = refl

-- a name, and what is behind it
pub names_more : (n m b : ℕ) (s names rest : List ℕ) → n ≡ suc m → s ≡ b ∷ names → rest ≡ drop b names → names_size n s ≡ 1 + b + names_size m rest
unfolding names_size
names_more n m b s names rest h e f = rw (h, e, f)

-- ---- paths and values

pub path_none : (s : List ℕ) → length s ≡ 0 → 0 ≡ path_size s
unfolding path_size
path_none [] h = refl
path_none (n ∷ s) h = absurd (omega arith)

pub path_some : (s names : List ℕ) (n m : ℕ) → s ≡ n ∷ names → m ≡ names_size n names → 1 + m ≡ path_size s
unfolding path_size
path_some s names n m e f = rw (e, f)

module _ (text : List ℕ) (k p : ℕ) where
  pub value_long : (m : ℕ) → k ≡ 4 → m ≡ word_at 2 text p → 2 + m ≡ value_size text k p
  unfolding value_size when◌then◌else◌
  value_long m e f = rw (e, f)

  pub value_string : (m : ℕ) → k ≡ 5 → m ≡ word_at 2 text p → 2 + m ≡ value_size text k p
  unfolding value_size when◌then◌else◌
  value_string m e f = rw (e, f)

  pub value_path : (m : ℕ) → k ≡ 6 → m ≡ path_size (drop p text) → m ≡ value_size text k p
  unfolding value_size when◌then◌else◌
  value_path m e f = rw (e, f)

  pub value_none : (k ≡ 4 → ⊥) → (k ≡ 5 → ⊥) → (k ≡ 6 → ⊥) → 0 ≡ value_size text k p
  unfolding value_size when◌then◌else◌
  value_none e f g = rw (ne_eqb k 4 e, ne_eqb k 5 f, ne_eqb k 6 g)

-- ---- places

pub placed_is : (p : ℕ) → p % 32768 + 32768 ≡ placed p
unfolding placed
placed_is p = refl

pub label_none : (p : ℕ) → p ≡ 65535 → p ≡ placed_label p
unfolding placed_label when◌then◌else◌
label_none p e = rw (eq-eqb p 65535 e)

pub label_some : (p : ℕ) → (p ≡ 65535 → ⊥) → p % 32768 + 32768 ≡ placed_label p
unfolding placed_label placed when◌then◌else◌
label_some p h = rw (ne_eqb p 65535 h)

pub value_low : (k v : ℕ) → k < 4 → v ≡ placed_value k v
unfolding placed_value when◌then◌else◌
value_low k v h = rw (lt-leb 4 k h)

pub value_high : (k v : ℕ) → 4 ≤ k → 6 < k → v ≡ placed_value k v
unfolding placed_value when◌then◌else◌
value_high k v h l = rw (le-leb 4 k h, lt-leb k 6 l)

pub value_text : (k v : ℕ) → 4 ≤ k → k ≤ 6 → v % 32768 + 32768 ≡ placed_value k v
unfolding placed_value placed when◌then◌else◌
value_text k v h l = rw (le-leb 4 k h, le-leb k 6 l)

module _ (k v : ℕ) {b : Bool} (e : b ≡ (leb 4 k && leb k 6)) where
  pub value_moved : b ≡ true → placed v ≡ placed_value k v
  unfolding placed_value when◌then◌else◌
  value_moved h = let yes : (leb 4 k && leb k 6) ≡ true = sym e ∙ h in rw yes

  pub value_stays : b ≡ false → v ≡ placed_value k v
  unfolding placed_value when◌then◌else◌
  value_stays h = let no : (leb 4 k && leb k 6) ≡ false = sym e ∙ h in rw no

-- ---- how many rows

module _ (recs w : List ℕ) where
  pub loads_kept : kept w (length recs / 16) ≡ loads recs w
  unfolding loads kept
  loads_kept = refl

  pub loads_all : length recs / 16 ≤ 4096 → length recs / 16 * 16 ≤ length w → length recs / 16 ≡ loads recs w
  unfolding loads when◌then◌else◌
  loads_all h l = rw (le-leb (length recs / 16) 4096 h, le-leb (length recs / 16 * 16) (length w) l)
