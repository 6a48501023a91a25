-- Rows one after another: the turns of every loop that looks at them. Assumes nothing.
use Prim.Native.Nat.{ℕ, suc, ◌+◌, ◌-◌, ◌*◌, ◌≤◌, ◌<◌, max, min}
use native.Mathlib.Omega.{arith}
use native.Mathlib.Numerals.{add-one}
use mathlib.Core.Path.{◌≡◌, sym, ap, ◌∙◌}
use mathlib.Core.Bool.{Bool, true, false, ◌&&◌}
use mathlib.Core.List.{List, [], ◌∷◌}
use mathlib.Core.Logic.{⊎_elim}
use mathlib.Core.Option.{Option, none, some}
use lib.ListN.{length, take, drop}
use lib.Seq.{take-nil}
use lib.Dec.{ltb, eqb}
use borrow.Author.Tests.{lt-ltb, le-ltb, eq-eqb, ne_eqb}
use Rattle.paper.specs.Bytes.{when◌then◌else◌}
use Rattle.paper.specs.Syntax.{Name}
use Rattle.paper.specs.Layout.{Row, deepest}
use Rattle.paper.specs.DecodeAt.{word}
use Rattle.memory.proofs.Laws.{fit}
use Rattle.rows.specs.View.{label_of, kept, rows_in}
use Rattle.rows.specs.Search.{calls, seek, deeper, text_bytes}
use Rattle.rows.proofs.Fields.{field_word}
use Rattle.rows.proofs.Views.{view_cons, view_end}
use Rattle.rows.specs.Change.{row_here}

-- ---- the first of some rows

module _ (name : Name) (d : ℕ) (x : Row) (xs : List Row) (i : ℕ) where
  pub seek_above : x.second < d → seek name d (x ∷ xs) i ≡ none
  unfolding seek when◌then◌else◌
  seek_above h = rw (lt-ltb x.second d h)

  pub seek_hit : x.second ≡ d → calls x.label name ≡ true → seek name d (x ∷ xs) i ≡ some i
  unfolding seek when◌then◌else◌
  seek_hit h e = rw (le-ltb x.second d (omega arith), eq-eqb x.second d h, e)

  pub seek_other : x.second ≡ d → calls x.label name ≡ false → seek name d (x ∷ xs) i ≡ seek name d xs (suc i)
  unfolding seek when◌then◌else◌
  seek_other h e = rw (le-ltb x.second d (omega arith), eq-eqb x.second d h, e)

  pub seek_under : d < x.second → seek name d (x ∷ xs) i ≡ seek name d xs (suc i)
  unfolding seek when◌then◌else◌
  seek_under h = rw (le-ltb x.second d (omega arith), ne_eqb x.second d (λ e. omega arith))

pub deeper_stop : (d : ℕ) (x : Row) (xs : List Row) → x.second < d → deeper d (x ∷ xs) ≡ 0
unfolding deeper when◌then◌else◌
deeper_stop d x xs h = rw (lt-ltb x.second d h)

pub deeper_on : (d : ℕ) (x : Row) (xs : List Row) → d ≤ x.second → deeper d (x ∷ xs) ≡ suc (deeper d xs)
unfolding deeper when◌then◌else◌
deeper_on d x xs h = rw (le-ltb x.second d h)

-- ---- what is found, and an end, lie among the rows

module _ (n j i : ℕ) (later : Option ℕ) (h : later ≡ some i → (suc j ≤ i) × (i < suc j + n)) where
  found_in : (above hit : Bool) → (when above then none else when hit then some j else later) ≡ some i → (j ≤ i) × (i < j + suc n)
  unfolding when◌then◌else◌
  found_in true hit e = let z : ◌≡◌ {A = ℕ} 0 1 = cc in absurd (omega arith)
  found_in false true e = let z : j ≡ i = cc in (omega arith, omega arith)
  found_in false false e = let g = h e in (omega arith, omega arith)

pub seek_in : (name : Name) (d : ℕ) (xs : List Row) (j i : ℕ) → seek name d xs j ≡ some i → (j ≤ i) × (i < j + length xs)
unfolding seek
seek_in name d [] j i e = let z : ◌≡◌ {A = ℕ} 0 1 = cc in absurd (omega arith)
seek_in name d (x ∷ xs) j i e = found_in (length xs) j i (seek name d xs (suc j)) (seek_in name d xs (suc j) i) (ltb x.second d) (eqb x.second d && calls x.label name) e

at_most : (above : Bool) (k n : ℕ) → k ≤ n → (when above then 0 else suc k) ≤ suc n
unfolding when◌then◌else◌
at_most true k n h = omega arith
at_most false k n h = omega arith

pub deeper_in : (d : ℕ) (xs : List Row) → deeper d xs ≤ length xs
unfolding deeper
deeper_in d [] = omega arith
deeper_in d (x ∷ xs) = at_most (ltb x.second d) (deeper d xs) (length xs) (deeper_in d xs)

-- ---- the rows of a slice that is said to have n, of which k are taken

abbrev pub Counts : List ℕ → ℕ → ℕ → Type 0
Counts w n k = (k ≡ kept w n) × (k ≤ 4096) × (k * 16 ≤ length w)

module _ (t u w : List ℕ) (n k i : ℕ) (C : Counts w n k) where
  pub none_there : k ≤ i → drop i (rows_in t u w n) ≡ []
  unfolding rows_in
  none_there h = rw (← C.0) (view_end t u w k i h)

  module _ (h : i < k) where
    pub row_there : drop i (rows_in t u w n) ≡ row_here t u w i ∷ drop (i + 1) (rows_in t u w n)
    unfolding rows_in
    row_there = rw (← C.0, add-one i) (view_cons t u w k i h C.1 C.2)

    pub depth_there : (row_here t u w i).second ≡ word 2 w (i * 16 + 2)
    unfolding row_here
    depth_there = field_word 2 w i 2 (omega arith) (omega arith)

    pub label_there : (row_here t u w i).label ≡ label_of t u (word 2 w (i * 16 + 4))
    unfolding row_here
    label_there = ap (label_of t u) (field_word 2 w i 4 (omega arith) (omega arith))

    pub size_there : (row_here t u w i).span ≡ word 2 w (i * 16 + 6)
    unfolding row_here
    size_there = field_word 2 w i 6 (omega arith) (omega arith)

-- ---- the end of rows of depth d or more, from row j on

abbrev pub Ends : List ℕ → List ℕ → List ℕ → ℕ → ℕ → ℕ → ℕ
Ends t u w n d j = j + deeper d (drop j (rows_in t u w n))

module _ (t u w : List ℕ) (n k d i : ℕ) (C : Counts w n k) where
  pub ends_none : k ≤ i → Ends t u w n d i ≡ i
  unfolding deeper
  ends_none h = rw (none_there t u w n k i C h) (omega arith)

  module _ (h : i < k) where
    pub ends_here : word 2 w (i * 16 + 2) < d → Ends t u w n d i ≡ i
    ends_here l =
        let e = depth_there t u w n k i C h in
        rw (row_there t u w n k i C h, deeper_stop d (row_here t u w i) (drop (i + 1) (rows_in t u w n)) (omega arith)) (omega arith)

    pub ends_on : d ≤ word 2 w (i * 16 + 2) → Ends t u w n d i ≡ Ends t u w n d (i + 1)
    ends_on l =
        let e = depth_there t u w n k i C h in
        rw (row_there t u w n k i C h, deeper_on d (row_here t u w i) (drop (i + 1) (rows_in t u w n)) (omega arith)) (omega arith)

-- ---- a name among rows, from row j on

abbrev pub Seeks : List ℕ → List ℕ → List ℕ → ℕ → Name → ℕ → ℕ → Option ℕ
Seeks t u w n name d j = seek name d (drop j (rows_in t u w n)) j

module _ (t u w : List ℕ) (n k : ℕ) (name : Name) (d i : ℕ) (C : Counts w n k) where
  pub seeks_none : k ≤ i → Seeks t u w n name d i ≡ none
  unfolding seek
  seeks_none h = rw (none_there t u w n k i C h)

  module _ (h : i < k) where
    abbrev x : Row
    x = row_here t u w i

    abbrev xs : List Row
    xs = drop (i + 1) (rows_in t u w n)

    pub seeks_above : word 2 w (i * 16 + 2) < d → Seeks t u w n name d i ≡ none
    seeks_above l =
        let e = depth_there t u w n k i C h in
        rw (row_there t u w n k i C h) (seek_above name d x xs i (omega arith))

    pub seeks_hit : word 2 w (i * 16 + 2) ≡ d → true ≡ calls (label_of t u (word 2 w (i * 16 + 4))) name → Seeks t u w n name d i ≡ some i
    seeks_hit l f =
        rw (row_there t u w n k i C h) (seek_hit name d x xs i (depth_there t u w n k i C h ∙ l) (ap (λ y. calls y name) (label_there t u w n k i C h) ∙ sym f))

    pub seeks_other : word 2 w (i * 16 + 2) ≡ d → false ≡ calls (label_of t u (word 2 w (i * 16 + 4))) name → Seeks t u w n name d i ≡ Seeks t u w n name d (i + 1)
    seeks_other l f =
        rw (row_there t u w n k i C h) (seek_other name d x xs i (depth_there t u w n k i C h ∙ l) (ap (λ y. calls y name) (label_there t u w n k i C h) ∙ sym f) ∙ ap (seek name d xs) (sym (add-one i)))

    pub seeks_under : d < word 2 w (i * 16 + 2) → Seeks t u w n name d i ≡ Seeks t u w n name d (i + 1)
    seeks_under l =
        let e = depth_there t u w n k i C h in
        rw (row_there t u w n k i C h) (seek_under name d x xs i (omega arith) ∙ ap (seek name d xs) (sym (add-one i)))

-- ---- sums over the rows up to hi, from row j on

abbrev pub Upto : List ℕ → List ℕ → List ℕ → ℕ → ℕ → ℕ → List Row
Upto t u w n hi j = take (hi - j) (drop j (rows_in t u w n))

module _ (t u w : List ℕ) (n k hi i : ℕ) (C : Counts w n k) where
  upto_none : min k hi ≤ i → Upto t u w n hi i ≡ []
  upto_none h = ⊎_elim (λ l. let q : hi - i ≡ 0 = omega arith in rw q) (λ l. rw (none_there t u w n k i C (omega arith)) (take-nil (hi - i))) (fit hi i)

  pub text_none : min k hi ≤ i → text_bytes (Upto t u w n hi i) ≡ 0
  unfolding text_bytes
  text_none h = ap text_bytes (upto_none h)

  pub deepest_none : min k hi ≤ i → deepest (Upto t u w n hi i) ≡ 0
  unfolding deepest
  deepest_none h = ap deepest (upto_none h)

  module _ (h : i < k) (l : i < hi) where
    pub upto_one : Upto t u w n hi i ≡ row_here t u w i ∷ Upto t u w n hi (i + 1)
    upto_one = let q : hi - i ≡ suc (hi - (i + 1)) = omega arith in rw (row_there t u w n k i C h, q)

    pub text_one : text_bytes (Upto t u w n hi i) ≡ word 2 w (i * 16 + 6) + text_bytes (Upto t u w n hi (i + 1))
    unfolding text_bytes
    text_one = rw (upto_one, size_there t u w n k i C h)

    pub deepest_one : deepest (Upto t u w n hi i) ≡ max (word 2 w (i * 16 + 2)) (deepest (Upto t u w n hi (i + 1)))
    unfolding deepest
    deepest_one = rw (upto_one, depth_there t u w n k i C h)
