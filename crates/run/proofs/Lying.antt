-- The records of a step list, read back where they stand. Assumes nothing.
use Prim.Native.Nat.{ℕ, suc, ◌+◌, ◌*◌, ◌/◌, ◌%◌, ◌^◌, ◌≤◌, ◌<◌}
use native.Mathlib.Omega.{arith}
use native.Mathlib.Nat.{add-zero}
use mathlib.Core.Path.{◌≡◌, refl, sym, ◌∙◌, ap, subst}
use mathlib.Core.Bool.{Bool, true, false}
use mathlib.Core.List.{List, [], ◌∷◌, ◌++◌, append_assoc}
use lib.ListN.{length, drop, length-append, length-drop}
use lib.Seq.{drop_at, drop-drop}
use lib.Dec.{T}
use Rattle.paper.specs.Syntax.{Path, Basic, boolean, null, integer, decimal, string, reference, vector, Basics, εⱽ, ◌∷ⱽ◌}
use Rattle.paper.specs.Tokens.{in_range}
use Rattle.paper.specs.Layout.{Field, number, text, Row, little, path_text, long_text, kind, content, elements, each, text_of, row_text, texts, figure, row_bytes, records}
use Rattle.paper.specs.Steps.{make, take, enter, leave, done, set, link}
use Rattle.paper.specs.StepLayout.{step_row, item, step_rows}
use Rattle.paper.specs.WellFormed.{IsBasic, AreBasic}
use Rattle.theorems.proofs.Decoded.Parts.{length_little, complement_below}
use Rattle.theorems.proofs.Decoded.Rows.{kind_below}
use Rattle.memory.proofs.Laws.{word_out}
use Rattle.load.proofs.Values.{word_there}
use Rattle.run.specs.Listed.{step_field, Lies}

-- ---- rows whose numbers a record can hold

-- a number below n, or a text of at least a byte
abbrev pub Below : ℕ → Field → Type 0
Below n (number k) = k < n
Below n (text s) = 0 < length s

pub record Small (x : Row) : Type 0 where
  pub first : x.first < 65536
  pub second : x.second < 65536
  pub label : Below 65536 x.label
  pub span : x.span < 65536
  pub value : Below 18446744073709551616 x.value
  pub place : ℕ
  pub last : x.last ≡ little 4 place
  pub low : place < 4294967296

abbrev pub AllSmall : List Row → Type 0
AllSmall [] = Unit {0}
AllSmall (x ∷ xs) = Small x × AllSmall xs

pub all_small-++ : (xs ys : List Row) → AllSmall xs → AllSmall ys → AllSmall (xs ++ ys)
all_small-++ [] ys h g = g
all_small-++ (x ∷ xs) ys h g = (h.0, all_small-++ xs ys h.1 g)

-- its text begins in t
figure_low : (n p : ℕ) (f : Field) (t more : List ℕ) → Below n f → drop p t ≡ text_of f ++ more → length t ≤ 32768 → 32768 ≤ n → figure p f < n
unfolding figure text_of
figure_low n p (number k) t more h e l m = h
figure_low n p (text s) t more h e l m = omega (arith, sym (length-drop p t) ∙ ap length e, length-append s more)

-- ---- a record's numbers

-- bytes that are there, behind as many as f
there : (n y f i : ℕ) (list a b : List ℕ) → 0 < n → y < 256 ^ n → length a ≡ f → drop (i * 20) list ≡ a ++ (little n y ++ b) → step_field n list i f ≡ y
there n y f i list a b h l k e = word_there n y list b (i * 20 + f) h l (sym (drop-drop f (i * 20) list) ∙ ap (drop f) e ∙ drop_at a (little n y ++ b) f k)

-- the numbers of the record of x, whose texts begin at p
pub record Numbers (list : List ℕ) (i p : ℕ) (x : Row) (q : ℕ) : Type 0 where
  pub step : step_field 2 list i 0 ≡ x.first
  pub kind : step_field 2 list i 2 ≡ x.second
  pub path : step_field 2 list i 4 ≡ figure p x.label
  pub span : step_field 2 list i 6 ≡ x.span
  pub value : step_field 8 list i 8 ≡ figure (p + length (text_of x.label)) x.value
  pub place : step_field 4 list i 16 ≡ q

module _ (list : List ℕ) (i p : ℕ) (x : Row) (more : List ℕ) (S : Small x) (e : drop (i * 20) list ≡ row_bytes p x ++ more) where
  abbrev behind : ℕ
  behind = p + length (text_of x.label)

  abbrev s₂ : List ℕ
  s₂ = little 2 x.first

  abbrev k₂ : List ℕ
  k₂ = little 2 x.second

  abbrev p₂ : List ℕ
  p₂ = little 2 (figure p x.label)

  abbrev m₂ : List ℕ
  m₂ = little 2 x.span

  abbrev v₈ : List ℕ
  v₈ = little 8 (figure behind x.value)

  abbrev q₄ : List ℕ
  q₄ = little 4 S.place

  whole : drop (i * 20) list ≡ s₂ ++ (k₂ ++ (p₂ ++ (m₂ ++ (v₈ ++ (q₄ ++ more)))))
  unfolding row_bytes
  whole = e ∙ ap (λ a. (s₂ ++ (k₂ ++ (p₂ ++ (m₂ ++ (v₈ ++ a))))) ++ more) S.last ∙ simp append_assoc

  numbers : figure p x.label < 65536 → figure behind x.value < 18446744073709551616 → Numbers list i p x S.place
  numbers lp lv = record {
    step = there 2 x.first 0 i list [] (k₂ ++ (p₂ ++ (m₂ ++ (v₈ ++ (q₄ ++ more))))) (omega arith) S.first refl whole;
    kind = there 2 x.second 2 i list s₂ (p₂ ++ (m₂ ++ (v₈ ++ (q₄ ++ more)))) (omega arith) S.second (length_little 2 x.first) whole;
    path = there 2 (figure p x.label) 4 i list (s₂ ++ k₂) (m₂ ++ (v₈ ++ (q₄ ++ more))) (omega arith) lp (simp (length-append, length_little)) (whole ∙ simp append_assoc);
    span = there 2 x.span 6 i list (s₂ ++ (k₂ ++ p₂)) (v₈ ++ (q₄ ++ more)) (omega arith) S.span (simp (length-append, length_little)) (whole ∙ simp append_assoc);
    value = there 8 (figure behind x.value) 8 i list (s₂ ++ (k₂ ++ (p₂ ++ m₂))) (q₄ ++ more) (omega arith) lv (simp (length-append, length_little)) (whole ∙ simp append_assoc);
    place = there 4 S.place 16 i list (s₂ ++ (k₂ ++ (p₂ ++ (m₂ ++ v₈)))) more (omega arith) S.low (simp (length-append, length_little)) (whole ∙ simp append_assoc);
  }

  length_small : length (row_bytes p x) ≡ 20
  unfolding row_bytes
  length_small = simp (length-append, length_little) (omega (arith, ap length S.last, length_little 4 S.place))

-- ---- the first record, those behind it, and none

module _ {list t : List ℕ} {i p : ℕ} {x : Row} {xs : List Row} where
  lies_record : Lies list t i p (x ∷ xs) → drop (i * 20) list ≡ row_bytes p x ++ records (p + length (row_text x)) xs
  unfolding records
  lies_record L = L.rows

  lies_text : Lies list t i p (x ∷ xs) → drop p t ≡ row_text x ++ texts xs
  unfolding texts
  lies_text L = L.text_there

  -- the text of its label, and of its value
  pub lies_label : Lies list t i p (x ∷ xs) → drop p t ≡ text_of x.label ++ (text_of x.value ++ texts xs)
  unfolding row_text
  lies_label L = lies_text L ∙ append_assoc (text_of x.label) (text_of x.value) (texts xs)

  pub lies_value : Lies list t i p (x ∷ xs) → drop (p + length (text_of x.label)) t ≡ text_of x.value ++ texts xs
  lies_value L =
      let a = text_of x.label in
      sym (drop-drop (length a) p t) ∙ ap (drop (length a)) (lies_label L) ∙ drop_at a (text_of x.value ++ texts xs) (length a) refl

  pub lies_first : Lies list t i p (x ∷ xs) → (S : Small x) → length t ≤ 32768 → Numbers list i p x S.place
  lies_first L S h =
      numbers list i p x (records (p + length (row_text x)) xs) S (lies_record L)
      (figure_low 65536 p x.label t (text_of x.value ++ texts xs) S.label (lies_label L) h (omega arith))
      (figure_low 18446744073709551616 (p + length (text_of x.label)) x.value t (texts xs) S.value (lies_value L) h (omega arith))

  -- it lies in the list wholly
  pub lies_next : Lies list t i p (x ∷ xs) → Small x → Lies list t (i + 1) (p + length (row_text x)) xs
  lies_next L S =
      let m = records (p + length (row_text x)) xs in
      let j : (i + 1) * 20 ≡ i * 20 + 20 = omega arith in
      record {
        rows = ap (λ k. drop k list) j ∙ sym (drop-drop 20 (i * 20) list) ∙ ap (drop 20) (lies_record L) ∙ drop_at (row_bytes p x) m 20 (length_small list i p x m S (lies_record L));
        text_there = sym (drop-drop (length (row_text x)) p t) ∙ ap (drop (length (row_text x))) (lies_text L) ∙ drop_at (row_text x) (texts xs) (length (row_text x)) refl;
      }

pub lies_end : {list t : List ℕ} {i p : ℕ} → Lies list t i p [] → step_field 2 list i 0 ≡ 0
unfolding records
lies_end {list} {t} {i} {p} L = word_out 2 list (i * 20 + 0) (omega (arith, sym (length-drop (i * 20) list) ∙ ap length L.rows))

-- ---- behind several

pub texts-++ : (xs ys : List Row) → texts (xs ++ ys) ≡ texts xs ++ texts ys
unfolding texts
texts-++ [] ys = refl
texts-++ (x ∷ xs) ys = ap (λ r. row_text x ++ r) (texts-++ xs ys) ∙ sym (append_assoc (row_text x) (texts xs) (texts ys))

lies_at : {list t : List ℕ} {i j p q : ℕ} {xs : List Row} → i ≡ j → p ≡ q → Lies list t i p xs → Lies list t j q xs
lies_at {list} {t} {i} {j} {p} {q} {xs} e f L = subst (λ k. Lies list t k q xs) e (subst (λ k. Lies list t i k xs) f L)

pub lies_skip : {list t : List ℕ} {i p : ℕ} (xs ys : List Row) → Lies list t i p (xs ++ ys) → AllSmall xs → Lies list t (i + length xs) (p + length (texts xs)) ys
unfolding texts
lies_skip {list} {t} {i} {p} [] ys L h = lies_at (sym (add-zero i)) (sym (add-zero p)) L
lies_skip {list} {t} {i} {p} (x ∷ xs) ys L h =
    let e : i + 1 + length xs ≡ i + suc (length xs) = omega arith in
    let f : p + length (row_text x) + length (texts xs) ≡ p + length (row_text x ++ texts xs) = omega (arith, length-append (row_text x) (texts xs)) in
    lies_at e f (lies_skip {i = i + 1} {p = p + length (row_text x)} xs ys (lies_next L h.0) h.1)

-- ---- the rows of a step

path_some : (r : Path) → 0 < length (path_text r)
unfolding path_text
path_some r = omega arith

is_true : (b : Bool) → T b → b ≡ true
is_true true h = refl
is_true false h = absurd h

long_some : (x : List ℕ) → 0 < length (long_text x)
unfolding long_text
long_some x = omega (arith, length-append (little 2 (length x)) x, length_little 2 (length x))

pub content_below : (b : Basic) → IsBasic b → Below 18446744073709551616 (content b)
unfolding content
content_below (boolean true) h = omega arith
content_below (boolean false) h = omega arith
content_below null h = omega arith
content_below (integer z) h = complement_below z (is_true (in_range z) h)
content_below (decimal x) h = long_some x
content_below (string x) h = long_some x
content_below (reference r) h = path_some r
content_below (vector bs) h = omega arith

pub small_row : (i k : ℕ) (r : Field) (m : ℕ) (v : Field) (p : ℕ) → i < 65536 → k < 65536 → Below 65536 r → m < 65536 → Below 18446744073709551616 v → p < 32768 → Small (step_row i k r m v p)
unfolding step_row
small_row i k r m v p hi hk hr hm hv hp = record { first = hi; second = hk; label = hr; span = hm; value = hv; place = p; last = refl; low = omega arith }

pub small_make : (p : ℕ) (r : Path) → p < 32768 → AllSmall (step_rows (make p r))
unfolding step_rows
small_make p r h = (small_row 1 0 (text (path_text r)) 0 (number 0) p (omega arith) (omega arith) (path_some r) (omega arith) (omega arith) h, tt)

pub small_take : (p : ℕ) (r : Path) → p < 32768 → AllSmall (step_rows (take p r))
unfolding step_rows
small_take p r h = (small_row 2 0 (text (path_text r)) 0 (number 0) p (omega arith) (omega arith) (path_some r) (omega arith) (omega arith) h, tt)

bare : (i : ℕ) → i < 65536 → Small (step_row i 0 (number 0) 0 (number 0) 0)
bare i h = small_row i 0 (number 0) 0 (number 0) 0 h (omega arith) (omega arith) (omega arith) (omega arith) (omega arith)

pub small_enter : AllSmall (step_rows enter)
unfolding step_rows
small_enter = (bare 3 (omega arith), tt)

pub small_leave : AllSmall (step_rows leave)
unfolding step_rows
small_leave = (bare 4 (omega arith), tt)

pub small_done : AllSmall (step_rows done)
unfolding step_rows
small_done = (bare 5 (omega arith), tt)

pub small_link : (p : ℕ) (r l : Path) → p < 32768 → AllSmall (step_rows (link p r l))
unfolding step_rows
small_link p r l h = (small_row 8 0 (text (path_text r)) 0 (text (path_text l)) p (omega arith) (omega arith) (path_some r) (omega arith) (path_some l) h, tt)

pub small_item : (b : Basic) (d m : ℕ) → IsBasic b → m < 65536 → Small (item (kind b) d m (content b))
unfolding item
small_item b d m h l = small_row 7 (kind b) (number 0) m (content b) 0 (omega arith) (kind_below b) (omega arith) l (content_below b h) (omega arith)

mutual
  unfolding elements each

  pub small_elements : (d : ℕ) (b : Basic) → IsBasic b → length (elements item d b) ≤ 1024 → AllSmall (elements item d b)
  small_elements d (boolean b) h l = tt
  small_elements d null h l = tt
  small_elements d (integer z) h l = tt
  small_elements d (decimal x) h l = tt
  small_elements d (string x) h l = tt
  small_elements d (reference r) h l = tt
  small_elements d (vector bs) h l = small_each (suc d) bs h l

  pub small_each : (d : ℕ) (bs : Basics) → AreBasic bs → length (each item d bs) ≤ 1024 → AllSmall (each item d bs)
  small_each d εⱽ h l = tt
  small_each d (b ∷ⱽ bs) h l =
      let x : List Row = elements item d b in
      let y : List Row = each item d bs in
      let k = length-append x y in
      (small_item b d (suc (length x)) h.0 (omega arith), all_small-++ x y (small_elements d b h.0 (omega arith)) (small_each d bs h.1 (omega arith)))

pub small_set : (p : ℕ) (r : Path) (b : Basic) → p < 32768 → IsBasic b → length (step_rows (set p r b)) ≤ 1024 → AllSmall (step_rows (set p r b))
unfolding step_rows
small_set p r b h g l =
    let below : List Row = elements item 0 b in
    (small_row 6 (kind b) (text (path_text r)) (suc (length below)) (content b) p (omega arith) (kind_below b) (path_some r) (omega arith) (content_below b g) h, small_elements 0 b g (omega arith))

same_rest : (x y w : ℕ) → x ≡ y + 256 * w → x % 256 ≡ y % 256
same_rest x y w e = omega arith

-- a set whose place may be any number: a record holds its last four bytes
little_four : (p : ℕ) → little 4 p ≡ little 4 (p % 4294967296)
unfolding little
little_four p =
    let q = p % 4294967296 in
    let w = p / 4294967296 in
    let a₀ : p ≡ q + 4294967296 * w = omega arith in
    let a₁ : p / 256 ≡ q / 256 + 16777216 * w = omega arith in
    let a₂ : p / 256 / 256 ≡ q / 256 / 256 + 65536 * w = omega arith in
    let a₃ : p / 256 / 256 / 256 ≡ q / 256 / 256 / 256 + 256 * w = omega arith in
    let e₀ : p % 256 ≡ q % 256 = same_rest p q (16777216 * w) (omega arith) in
    let e₁ : p / 256 % 256 ≡ q / 256 % 256 = same_rest (p / 256) (q / 256) (65536 * w) (omega arith) in
    let e₂ : p / 256 / 256 % 256 ≡ q / 256 / 256 % 256 = same_rest (p / 256 / 256) (q / 256 / 256) (256 * w) (omega arith) in
    let e₃ : p / 256 / 256 / 256 % 256 ≡ q / 256 / 256 / 256 % 256 = same_rest (p / 256 / 256 / 256) (q / 256 / 256 / 256) w (omega arith) in
    (λ i. e₀ i ∷ (e₁ i ∷ (e₂ i ∷ (e₃ i ∷ []))))

pub small_set_head : (p : ℕ) (r : Path) (k m : ℕ) (v : Field) → k < 65536 → m < 65536 → Below 18446744073709551616 v → Small (step_row 6 k (text (path_text r)) m v p)
unfolding step_row
small_set_head p r k m v hk hm hv =
    record { first = omega arith; second = hk; label = path_some r; span = hm; value = hv; place = p % 4294967296; last = little_four p; low = omega arith }
