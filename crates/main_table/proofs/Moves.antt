-- A component's records in a whole table, moved, are the records of its own table: depths less by 1, and places less by where its text
-- begins. Assumes nothing.
use Prim.Native.Nat.{ℕ, zero, suc, ◌+◌, ◌*◌, ◌-◌, ◌/◌, ◌%◌, ◌≤◌, ◌<◌, max}
use native.Mathlib.Omega.{arith}
use native.Mathlib.Nat.{zero-add, suc-add}
use mathlib.Core.Path.{◌≡◌, refl, sym, ◌∙◌, ap}
use mathlib.Core.Bool.{true, false}
use mathlib.Core.List.{List, [], ◌∷◌, ◌++◌, append_assoc, append-nil}
use mathlib.Core.Logic.{◌⊎◌, inl, inr, ⊎_elim}
use lib.ListN.{length, drop, get_or, length-append, get_or-append}
use lib.Seq.{drop_at, drop-drop, get_or-drop}
use Rattle.paper.specs.Syntax.{Name, Basic, boolean, null, integer, decimal, string, reference, vector, Basics, εⱽ, ◌∷ⱽ◌}
use Rattle.paper.specs.Store.{Store, ∅, entry, Value, component}
use Rattle.paper.specs.Store as S
use Rattle.paper.specs.Layout.{little, Field, number, text, Row, kind, content, elements, each, table_row, rows, value_rows, name_text, deepest, text_of, row_text, texts, figure, row_bytes, records}
use Rattle.theorems.proofs.Decoded.Parts.{length_little}
use Rattle.paper.specs.DecodeAt.{word}
use Rattle.main_table.specs.Lower.{moved_label, moved_value, lowered, lowered_all}
use Rattle.main_table.proofs.Lowers.{label_none, label_some, value_low, value_high, value_text}
use Rattle.memory.proofs.Laws.{word_little, same_word}

-- ---- deeper rows

abbrev deeper : Row → Row
deeper x = record { first = x.first; second = suc x.second; label = x.label; span = x.span; value = x.value; last = x.last }

unfoldable pub deepen : List Row → List Row
deepen [] = []
deepen (x ∷ xs) = deeper x ∷ deepen xs

deepen-++ : (xs ys : List Row) → deepen (xs ++ ys) ≡ deepen xs ++ deepen ys
unfolding deepen
deepen-++ [] ys = refl
deepen-++ (x ∷ xs) ys = ap (λ zs. deeper x ∷ zs) (deepen-++ xs ys)

pub deepen_length : (xs : List Row) → length (deepen xs) ≡ length xs
unfolding deepen
deepen_length [] = refl
deepen_length (x ∷ xs) = ap suc (deepen_length xs)

pub deepen_texts : (xs : List Row) → texts (deepen xs) ≡ texts xs
unfolding deepen texts row_text
deepen_texts [] = refl
deepen_texts (x ∷ xs) = ap (λ t. (text_of x.label ++ text_of x.value) ++ t) (deepen_texts xs)

abbrev bare_row : ℕ → ℕ → ℕ → Field → Row
bare_row = table_row (number 65535)

mutual
  unfolding elements table_row deepen

  elements_deep : (b : Basic) (d : ℕ) → elements bare_row (suc d) b ≡ deepen (elements bare_row d b)
  elements_deep (boolean b) d = refl
  elements_deep null d = refl
  elements_deep (integer z) d = refl
  elements_deep (decimal t) d = refl
  elements_deep (string t) d = refl
  elements_deep (reference r) d = refl
  elements_deep (vector bs) d = each_deep bs (suc d)

  each_deep : (bs : Basics) (d : ℕ) → each bare_row (suc d) bs ≡ deepen (each bare_row d bs)
  each_deep εⱽ d = refl
  each_deep (b ∷ⱽ bs) d =
      rw (elements_deep b d, each_deep bs d, deepen_length (elements bare_row d b)) (ap (λ zs. bare_row (kind b) (suc d) (suc (length (elements bare_row d b))) (content b) ∷ zs) (sym (deepen-++ (elements bare_row d b) (each bare_row d bs))))

mutual
  unfolding rows table_row deepen

  pub rows_deep : (s : Store) (d : ℕ) → rows (suc d) s ≡ deepen (rows d s)
  rows_deep ∅ d = refl
  rows_deep (entry n v s) d = rw (value_deep v (text (name_text n)) d, rows_deep s d) (sym (deepen-++ (value_rows d (text (name_text n)) v) (rows d s)))

  value_deep : (v : Value) (n : Field) (d : ℕ) → value_rows (suc d) n v ≡ deepen (value_rows d n v)
  value_deep (S.basic b) n d = rw (elements_deep b d, deepen_length (elements bare_row d b))
  value_deep (component s) n d = rw (rows_deep s (suc d), deepen_length (rows (suc d) s))

-- ---- rows that can be moved

-- a label: none, or a text; a value: a text for kinds 4 to 6, else a number
abbrev Label : Field → Type 0
Label (number n) = n ≡ 65535
Label (text t) = Unit {0}

abbrev Content : ℕ → Field → Type 0
Content k (number n) = (k < 4) ⊎ (k ≡ 7)
Content k (text t) = (4 ≤ k) × (k ≤ 6)

pub record Movable (x : Row) : Type 0 where
  pub shallow : x.second ≤ 32
  pub label : Label x.label
  pub low : x.first ≤ 7
  pub value : Content x.first x.value
  pub last : x.last ≡ []

abbrev pub AllMovable : List Row → Type 0
AllMovable [] = Unit {0}
AllMovable (x ∷ xs) = Movable x × AllMovable xs

all-++ : (xs ys : List Row) → AllMovable xs → AllMovable ys → AllMovable (xs ++ ys)
all-++ [] ys f g = g
all-++ (x ∷ xs) ys f g = (f.0, all-++ xs ys f.1 g)

deepest-++ : (xs ys : List Row) → deepest (xs ++ ys) ≡ max (deepest xs) (deepest ys)
unfolding deepest
deepest-++ [] ys = omega arith
deepest-++ (x ∷ xs) ys = rw (deepest-++ xs ys) (omega arith)

pub deepen_deepest : (xs : List Row) → deepest xs ≤ deepest (deepen xs)
unfolding deepest deepen
deepen_deepest [] = omega arith
deepen_deepest (x ∷ xs) = let h = deepen_deepest xs in omega arith

kind_low : (b : Basic) → kind b ≤ 7
unfolding kind
kind_low (boolean b) = omega arith
kind_low null = omega arith
kind_low (integer z) = omega arith
kind_low (decimal t) = omega arith
kind_low (string t) = omega arith
kind_low (reference r) = omega arith
kind_low (vector bs) = omega arith

content_of : (b : Basic) → Content (kind b) (content b)
unfolding kind content
content_of (boolean true) = inl (omega arith)
content_of (boolean false) = inl (omega arith)
content_of null = inl (omega arith)
content_of (integer z) = inl (omega arith)
content_of (decimal t) = (omega arith, omega arith)
content_of (string t) = (omega arith, omega arith)
content_of (reference r) = (omega arith, omega arith)
content_of (vector bs) = inr refl

mutual
  unfolding elements table_row deepest

  elements_move : (b : Basic) (d : ℕ) → deepest (elements bare_row d b) ≤ 32 → AllMovable (elements bare_row d b)
  elements_move (boolean b) d h = tt
  elements_move null d h = tt
  elements_move (integer z) d h = tt
  elements_move (decimal t) d h = tt
  elements_move (string t) d h = tt
  elements_move (reference r) d h = tt
  elements_move (vector bs) d h = each_move bs (suc d) h

  each_move : (bs : Basics) (d : ℕ) → deepest (each bare_row d bs) ≤ 32 → AllMovable (each bare_row d bs)
  each_move εⱽ d h = tt
  each_move (b ∷ⱽ bs) d h =
      let q = deepest-++ (elements bare_row d b) (each bare_row d bs) in (
        record { shallow = omega arith; label = refl; low = kind_low b; value = content_of b; last = refl },
        all-++ (elements bare_row d b) (each bare_row d bs) (elements_move b d (omega arith)) (each_move bs d (omega arith)),
      )

mutual
  unfolding rows table_row deepest

  pub rows_move : (s : Store) (d : ℕ) → deepest (rows d s) ≤ 32 → AllMovable (rows d s)
  rows_move ∅ d h = tt
  rows_move (entry n v s) d h =
      let q = deepest-++ (value_rows d (text (name_text n)) v) (rows d s) in
      all-++ (value_rows d (text (name_text n)) v) (rows d s) (value_move v n d (omega arith)) (rows_move s d (omega arith))

  value_move : (v : Value) (n : Name) (d : ℕ) → deepest (value_rows d (text (name_text n)) v) ≤ 32 → AllMovable (value_rows d (text (name_text n)) v)
  value_move (S.basic b) n d h = (record { shallow = omega arith; label = tt; low = kind_low b; value = content_of b; last = refl }, elements_move b d (omega arith))
  value_move (component s) n d h = (record { shallow = omega arith; label = tt; low = omega arith; value = inl (omega arith); last = refl }, rows_move s (suc d) (omega arith))

-- ---- numbers that stand in bytes

front_word : (n x a : ℕ) (recs rest : List ℕ) → drop a recs ≡ little n x ++ rest → word n recs a ≡ word n (little n x) 0
front_word n x a recs rest e =
    same_word n recs (little n x) a 0
    (λ k l.
    let f : get_or recs (a + k) 0 ≡ get_or (little n x ++ rest) k 0 = sym (get_or-drop a recs k 0) ∙ ap (λ (s : List ℕ). get_or s k 0) e in
    rw (zero-add k) (f ∙ get_or-append (little n x) rest 0 k (rw (length_little n x) l)))

front_next : (n x a : ℕ) (recs rest : List ℕ) → drop a recs ≡ little n x ++ rest → drop (a + n) recs ≡ rest
front_next n x a recs rest e = sym (drop-drop n a recs) ∙ ap (drop n) e ∙ drop_at (little n x) rest n (length_little n x)

-- the bytes of the number that they are
little_word : (n x : ℕ) → little n (word n (little n x) 0) ≡ little n x
unfolding little word
little_word zero x = refl
little_word (suc n) x =
    let e : word n (x % 256 ∷ little n (x / 256)) 1 ≡ word n (little n (x / 256)) 0 = same_word n (x % 256 ∷ little n (x / 256)) (little n (x / 256)) 1 0 (λ k l. rw (suc-add 0 k)) in
    let y = word n (little n (x / 256)) 0 in
    let p : (x % 256 + 256 * y) % 256 ≡ x % 256 = omega arith in
    let q : (x % 256 + 256 * y) / 256 ≡ y = omega arith in
    rw (e, p, q) (ap (λ s. x % 256 ∷ s) (little_word n (x / 256)))

label_moves : (from u : ℕ) (l : Field) → Label l → from + u ≤ 16384 → moved_label from (word 2 (little 2 (figure (from + u) l)) 0) ≡ figure u l
unfolding figure
label_moves from u (number n) e h =
    let w : word 2 (little 2 n) 0 ≡ n = word_little 2 n (omega arith) in
    rw w (sym (label_none from n e))
label_moves from u (text t) e h =
    let w : word 2 (little 2 (from + u)) 0 ≡ from + u = word_little 2 (from + u) (omega arith) in
    rw w (sym (label_some from (from + u) u (λ q. omega arith) (omega arith)))

value_moves : (from u k : ℕ) (v : Field) → Content k v → from + u ≤ 16384 → little 8 (moved_value from k (word 8 (little 8 (figure (from + u) v)) 0)) ≡ little 8 (figure u v)
unfolding figure
value_moves from u k (number n) c h =
    ⊎_elim (λ l. rw (← (value_low from k (word 8 (little 8 n) 0) l)) (little_word 8 n)) (λ e. rw (← (value_high from k (word 8 (little 8 n) 0) (omega arith) (omega arith))) (little_word 8 n)) c
value_moves from u k (text t) c h =
    let w : word 8 (little 8 (from + u)) 0 ≡ from + u = word_little 8 (from + u) (omega arith) in
    rw w (ap (little 8) (sym (value_text from k (from + u) u c.0 c.1 (omega arith))))

-- ---- a row, and rows

module _ (recs : List ℕ) (a from u : ℕ) (x : Row) (M : Movable x) (rest : List ℕ) (F : drop a recs ≡ row_bytes (from + u) (deeper x) ++ rest) (h : from + u + length (text_of x.label) ≤ 16384) where
  pub row_moved : (lowered recs a from ≡ row_bytes u x) × (drop (a + 16) recs ≡ rest)
  unfolding row_bytes lowered
  row_moved =
      let l = length (text_of x.label) in
      let t = from + u in
      let F₀ : drop a recs ≡ little 2 x.first ++ (little 2 (suc x.second) ++ (little 2 (figure t x.label) ++ (little 2 x.span ++ (little 8 (figure (t + l) x.value) ++ rest)))) = F ∙ rw (M.last, append-nil (little 8 (figure (t + l) x.value))) (simp append_assoc) in
      let F₂ = front_next 2 x.first a recs _ F₀ in
      let F₄ = front_next 2 (suc x.second) (a + 2) recs _ F₂ in
      let q₄ : a + 2 + 2 ≡ a + 4 = omega arith in
      let G₄ = rw q₄ at F₄ in
      let F₆ = front_next 2 (figure t x.label) (a + 4) recs _ G₄ in
      let q₆ : a + 4 + 2 ≡ a + 6 = omega arith in
      let G₆ = rw q₆ at F₆ in
      let F₈ = front_next 2 x.span (a + 6) recs _ G₆ in
      let q₈ : a + 6 + 2 ≡ a + 8 = omega arith in
      let G₈ = rw q₈ at F₈ in
      let F₉ = front_next 8 (figure (t + l) x.value) (a + 8) recs rest G₈ in
      let q₉ : a + 8 + 8 ≡ a + 16 = omega arith in
      let k : word 2 recs a ≡ x.first = front_word 2 x.first a recs _ F₀ ∙ word_little 2 x.first (omega (arith, M.low)) in
      let d : word 2 recs (a + 2) - 1 ≡ x.second = ap (λ n. n - 1) (front_word 2 (suc x.second) (a + 2) recs _ F₂ ∙ word_little 2 (suc x.second) (omega (arith, M.shallow))) ∙ omega arith in
      let m : little 2 (word 2 recs (a + 6)) ≡ little 2 x.span = ap (little 2) (front_word 2 x.span (a + 6) recs _ G₆) ∙ little_word 2 x.span in
      let n : moved_label from (word 2 recs (a + 4)) ≡ figure u x.label = ap (moved_label from) (front_word 2 (figure t x.label) (a + 4) recs _ G₄) ∙ label_moves from u x.label M.label (omega arith) in
      let qt : t + l ≡ from + (u + l) = omega arith in
      let v : little 8 (moved_value from x.first (word 8 recs (a + 8))) ≡ little 8 (figure (u + l) x.value) =
      ap (λ w. little 8 (moved_value from x.first w)) (front_word 8 (figure (t + l) x.value) (a + 8) recs rest G₈ ∙ ap (λ p. word 8 (little 8 (figure p x.value)) 0) qt) ∙ value_moves from (u + l) x.first x.value M.value (omega arith) in
      (rw (k, d, n, m, v, M.last, append-nil (little 8 (figure (u + l) x.value))), rw q₉ at F₉)

pub rows_moved : (xs : List Row) (recs : List ℕ) (a from u : ℕ) (rest : List ℕ) → AllMovable xs → drop a recs ≡ records (from + u) (deepen xs) ++ rest → from + u + length (texts xs) ≤ 16384
    → lowered_all recs a from (length xs) ≡ records u xs
unfolding lowered_all records deepen texts row_text
rows_moved [] recs a from u rest M F h = refl
rows_moved (x ∷ xs) recs a from u rest M F h =
    let r = length (text_of x.label ++ text_of x.value) in
    let e = length-append (text_of x.label) (text_of x.value) in
    let g = length-append (text_of x.label ++ text_of x.value) (texts xs) in
    let q : from + u + r ≡ from + (u + r) = omega arith in
    let R = row_moved recs a from u x M.0 (records (from + u + r) (deepen xs) ++ rest) (F ∙ append_assoc (row_bytes (from + u) (deeper x)) (records (from + u + r) (deepen xs)) rest) (omega arith) in
    let I = rows_moved xs recs (a + 16) from (u + r) rest M.1 (R.1 ∙ ap (λ p. records p (deepen xs) ++ rest) q) (omega arith) in
    rw (R.0, I)
