-- Attributes seen from inside a table: what a store's attributes say of the records that they were read from. Assumes nothing.
use Prim.Native.Nat.{ℕ, suc, ◌+◌, ◌*◌, ◌-◌, ◌^◌, ◌≤◌, ◌<◌}
use native.Mathlib.Omega.{arith}
use native.Mathlib.Nat.{add-zero}
use mathlib.Core.Path.{◌≡◌, refl, sym, ◌∙◌, ap, subst}
use mathlib.Core.Bool.{Bool, true, false}
use mathlib.Core.List.{List, ◌++◌}
use mathlib.Core.Option.{Option, none, some}
use lib.ListN.{length, take, drop, get_or, length-append, length-drop}
use lib.Seq.{drop_at, drop-drop, take_at, get_or-drop}
use Rattle.paper.specs.Maybe.{◌>>=◌, require}
use Rattle.paper.specs.Syntax.{Name, Basic, boolean, null, integer, decimal, string, reference, vector, Basics, εⱽ, ◌∷ⱽ◌}
use Rattle.paper.specs.Store.{Store, ∅, entry, Value, component}
use Rattle.paper.specs.Store as S
use Rattle.paper.specs.Layout.{name_text, Field, number, text, Row, elements, each, table_row, rows, value_rows, texts, records}
use Rattle.paper.specs.WellFormed.{IsName}
use Rattle.paper.specs.Decoder.{Cursor, field, name_of}
use Rattle.paper.specs.TableDecoder.{in_table}
use Rattle.theorems.proofs.Decoded.Header.{Lasts, lasts-++, records_length}
use Rattle.theorems.proofs.Decoded.Parts.{exact_name}
use Rattle.theorems.proofs.Decoded.Rows.{Took, Front, Fielded, field_sound, basic_sound}
use Rattle.theorems.proofs.Decoded.Table.{table_lawful, EntriesRead, entries_sound}
use Rattle.theorems.proofs.Laws.Answers.{if_case}
use Rattle.theorems.proofs.Laws.Found.{found_some}
use Rattle.theorems.proofs.Laws.DecodeAt.{Bytes}
use Rattle.paper.specs.DecodeAt.{word, raw_at, cursor}
use Rattle.paper.specs.DecodeFrom.{basic_from, entries_from, entry_value}
use Rattle.memory.specs.Memory.{part_at}
use Rattle.memory.proofs.Laws.{word_below, word_in, part_in}
use Rattle.table.specs.Walk.{heads, value_here, entries_here}
use Rattle.table.specs.Child.{named_at, Spanned, Holds}
use Rattle.table.proofs.Heads.{Head, head_of, entries_headless, entries_open}

-- ---- rows of tables have no last field

abbrev bare_row : ℕ → ℕ → ℕ → Field → Row
bare_row = table_row (number 65535)

mutual
  unfolding elements table_row

  pub elements_lasts : (b : Basic) (d : ℕ) → Lasts 0 (elements bare_row d b)
  elements_lasts (boolean b) d = tt
  elements_lasts null d = tt
  elements_lasts (integer z) d = tt
  elements_lasts (decimal t) d = tt
  elements_lasts (string t) d = tt
  elements_lasts (reference r) d = tt
  elements_lasts (vector bs) d = each_lasts bs (suc d)

  pub each_lasts : (bs : Basics) (d : ℕ) → Lasts 0 (each bare_row d bs)
  each_lasts εⱽ d = tt
  each_lasts (b ∷ⱽ bs) d = (refl, lasts-++ 0 (elements bare_row d b) (each bare_row d bs) (elements_lasts b d) (each_lasts bs d))

mutual
  unfolding rows table_row

  pub rows_lasts : (s : Store) (d : ℕ) → Lasts 0 (rows d s)
  rows_lasts ∅ d = tt
  rows_lasts (entry n v s) d = lasts-++ 0 (value_rows d (text (name_text n)) v) (rows d s) (value_lasts v (text (name_text n)) d) (rows_lasts s d)

  pub value_lasts : (v : Value) (n : Field) (d : ℕ) → Lasts 0 (value_rows d n v)
  value_lasts (S.basic b) n d = (refl, elements_lasts b d)
  value_lasts (component s) n d = (refl, rows_lasts s (suc d))

-- ---- where a reader that stood at places then stands

abbrev make : List ℕ → List ℕ → ℕ → Cursor
make r t p = record { recs = r; text = t; pos = p }

same_cursor : {a b : Cursor} → a.recs ≡ b.recs → a.text ≡ b.text → a.pos ≡ b.pos → a ≡ b
same_cursor {a} {b} e f g = ap (λ r. make r a.text a.pos) e ∙ ap (λ t. make b.recs t a.pos) f ∙ ap (λ p. make b.recs b.text p) g

module _ (recs txt : List ℕ) (i p : ℕ) where
  pub took_cursor : (t : List ℕ) (at : Cursor) → Took t (cursor recs txt i p) at → at ≡ cursor recs txt i (p + length t)
  unfolding cursor
  took_cursor t at T =
      same_cursor (sym T.recs) (sym (drop_at t at.text (length t) refl) ∙ ap (drop (length t)) (sym T.text) ∙ drop-drop (length t) p txt) T.pos

  module _ (xs : List Row) (at : Cursor) (L : Lasts 0 xs) (F : Front xs (cursor recs txt i p) at) where
    long : length (records p xs) ≡ 16 * length xs
    long = records_length 0 xs p L

    pub front_cursor : at ≡ cursor recs txt (i + 16 * length xs) (p + length (texts xs))
    unfolding cursor
    front_cursor =
        same_cursor
        (sym (drop_at (records p xs) at.recs (16 * length xs) long) ∙ ap (drop (16 * length xs)) (sym F.recs) ∙ drop-drop (16 * length xs) i recs)
        (sym (drop_at (texts xs) at.text (length (texts xs)) refl) ∙ ap (drop (length (texts xs))) (sym F.text) ∙ drop-drop (length (texts xs)) p txt)
        F.pos

    pub front_within : i ≤ length recs → i + 16 * length xs ≤ length recs
    unfolding cursor
    front_within h =
        let e : length (drop i recs) ≡ length (records p xs) + length at.recs = ap length F.recs ∙ length-append (records p xs) at.recs in
        omega (arith, e, long, length-drop i recs)

-- ---- what was found

pub entries_read : (d n : ℕ) (at : Cursor) (r : Store × Cursor) → entries_from d n at ≡ some r → EntriesRead d n at r
unfolding entries_from
entries_read d n at r e = found_some (entries_sound (2 * length at.recs + 2) d n at) e

pub bind_some : {X Y : Type 0} (m : Option X) (f : X → Option Y) (y : Y) → m >>= f ≡ some y → (x : X) × (m ≡ some x) × (f x ≡ some y)
unfolding ◌>>=◌
bind_some none f y e = let z : ◌≡◌ {A = ℕ} 0 1 = cc in absurd (omega arith)
bind_some (some x) f y e = (x, refl, e)

abbrev unsome : {X : Type 0} → X → Option X → X
unsome x none = x
unsome x (some y) = y

pub some_is : {X : Type 0} (x y : X) → some x ≡ some y → x ≡ y
some_is x y e = ap (unsome x) e

-- where an attribute's value ends
pub record Beyond (recs txt : List ℕ) (i m : ℕ) (at : Cursor) : Type 0 where
  pub place : ℕ
  pub is : at ≡ cursor recs txt (i + 16 * m) place
  pub within : i + 16 * m ≤ length recs

module _ (recs txt : List ℕ) (d i q : ℕ) (w : i + 16 ≤ length recs) (one : 1 ≤ word 2 recs (i + 6)) where
  abbrev m : ℕ
  m = word 2 recs (i + 6)

  pub component_beyond : (c : Store) (at : Cursor) → entries_here recs txt (suc d) (m - 1) (i + 16) q ≡ some (c, at) → Beyond recs txt i m at
  component_beyond c at e =
      let R = entries_read (suc d) (m - 1) (cursor recs txt (i + 16) q) (c, at) e in
      let xs = rows (suc d) c in
      let k : i + 16 + 16 * length xs ≡ i + 16 * m = omega (arith, R.sized) in
      let f = front_cursor recs txt (i + 16) q xs at (rows_lasts c (suc d)) R.front in
      record { place = q + length (texts xs); is = rw k at f; within = rw k at (front_within recs txt (i + 16) q xs at (rows_lasts c (suc d)) R.front w) }

  basic_beyond : (k v : ℕ) (b : Basic) (at : Cursor) → v < 2 ^ 64 → basic_from in_table d k m v (cursor recs txt (i + 16) q) ≡ some (b, at) → Beyond recs txt i m at
  unfolding basic_from
  basic_beyond k v b at l e =
      let R = found_some (basic_sound in_table bare_row table_lawful (2 * length (cursor recs txt (i + 16) q).recs + 3) d k m v (cursor recs txt (i + 16) q) l one) e in
      let xs = elements bare_row d b in
      let t = took_cursor recs txt (i + 16) q _ R.mid R.took in
      let F = subst (λ c. Front xs c at) t R.below in
      let j : i + 16 + 16 * length xs ≡ i + 16 * m = omega (arith, R.spanned) in
      let f = front_cursor recs txt (i + 16) _ xs at (elements_lasts b d) F in
      record { place = _; is = rw j at f; within = rw j at (front_within recs txt (i + 16) _ xs at (elements_lasts b d) F w) }

  pub value_beyond : Bytes recs → (v : Value) (at : Cursor) → value_here recs txt d i q ≡ some (v, at) → Beyond recs txt i m at
  unfolding entry_value raw_at
  value_beyond b v at =
      if_case (λ o. o ≡ some (v, at) → Beyond recs txt i m at) _ _ _
      (λ z e.
      let r = bind_some (require _) _ _ e in
      let s = bind_some (entries_here recs txt (suc d) (m - 1) (i + 16) q) _ _ r.2 in
      let a : s.0.1 ≡ at = ap (λ x. x.1) (some_is _ _ s.2) in
      subst (Beyond recs txt i m) a (component_beyond s.0.0 s.0.1 s.1))
      (λ z e.
      let s = bind_some (basic_from in_table d (word 2 recs i) m (word 8 recs (i + 8)) (cursor recs txt (i + 16) q)) _ _ e in
      let a : s.0.1 ≡ at = ap (λ x. x.1) (some_is _ _ s.2) in
      subst (Beyond recs txt i m) a (basic_beyond _ _ s.0.0 s.0.1 (word_below 8 recs (i + 8) b) s.1))

-- ---- the first attribute

pub record Entry (recs txt : List ℕ) (i n d p : ℕ) (s : Store) (after : Cursor) : Type 0 where
  pub head : Head recs i d n
  pub span : Spanned recs i (word 2 recs (i + 6)) n
  pub name : Name
  pub value : Value
  pub others : Store
  pub is : s ≡ entry name value others
  pub named : named_at recs txt i ≡ name
  pub labelled : word 2 recs (i + 4) ≡ p
  pub sized : get_or txt p 0 ≡ length name
  pub inside : p + suc (length name) ≤ length txt
  pub next : ℕ
  pub valued : value_here recs txt d i (p + suc (length name)) ≡ some (value, cursor recs txt (i + 16 * word 2 recs (i + 6)) next)
  pub rest : Holds recs txt (i + 16 * word 2 recs (i + 6)) (n - word 2 recs (i + 6)) d next others after

-- where the name of a record stands
label_placed : (recs txt : List ℕ) (i j p : ℕ) (x : Name × Cursor) → Fielded name_text IsName j (cursor recs txt i p) x → j ≡ p
unfolding cursor
label_placed recs txt i j p x F = F.placed

label_text : (recs txt : List ℕ) (i j p : ℕ) (x : Name × Cursor) → Fielded name_text IsName j (cursor recs txt i p) x → drop p txt ≡ name_text x.0 ++ x.1.text
unfolding cursor
label_text recs txt i j p x F = F.took.text

-- a name's text at p
name_part : (txt : List ℕ) (p : ℕ) (n t : List ℕ) → drop p txt ≡ name_text n ++ t → (get_or txt p 0 ≡ length n) × (part_at txt (p + 1) (length n) ≡ n) × (p + suc (length n) ≤ length txt)
unfolding name_text
name_part txt p n t e =
    let k : length (drop p txt) ≡ suc (length n + length t) = ap length e ∙ ap suc (length-append n t) in
    let f : drop (p + 1) txt ≡ n ++ t = sym (drop-drop 1 p txt) ∙ ap (drop 1) e in (
      ap (λ (j : ℕ). get_or txt j 0) (sym (add-zero p)) ∙ sym (get_or-drop p txt 0 0) ∙ ap (λ (s : List ℕ). get_or s 0 0) e,
      part_in txt (p + 1) (length n) (omega (arith, length-drop p txt)) ∙ ap (take (length n)) f ∙ take_at n t (length n) refl,
      omega (arith, length-drop p txt),
    )

named_is : (recs txt : List ℕ) (i p : ℕ) (n : List ℕ) → i + 16 ≤ length recs → word 2 recs (i + 4) ≡ p → get_or txt p 0 ≡ length n → part_at txt (p + 1) (length n) ≡ n → named_at recs txt i ≡ n
unfolding named_at
named_is recs txt i p n w l e f = rw (word_in 2 recs (i + 4) (omega arith), l, e) f

module _ (recs txt : List ℕ) (i n d p : ℕ) (b : Bytes recs) (some_left : 0 < n) (s : Store) (after : Cursor) (H : Holds recs txt i n d p s after) where
  headed : heads recs i d n ≡ true
  headed = case (heads recs i d n) refl
    where
      case : (t : Bool) → heads recs i d n ≡ t → t ≡ true
      case true e = refl
      case false e = let q = entries_headless recs txt i p d b n some_left e in let h = H.is in let z : ◌≡◌ {A = ℕ} 0 1 = cc in absurd (omega arith)

  pub entry_of : Entry recs txt i n d p s after
  unfolding name_text
  entry_of =
      let h = head_of recs i d n headed in
      let m = word 2 recs (i + 6) in
      let b₁ = bind_some (field name_of (word 2 recs (i + 4)) (cursor recs txt (i + 16) p)) _ _ (sym (entries_open recs txt i p d b n h) ∙ H.is) in
      let F = found_some (field_sound exact_name (word 2 recs (i + 4)) (cursor recs txt (i + 16) p)) b₁.1 in
      let name = b₁.0.0 in
      let c₁ : b₁.0.1 ≡ cursor recs txt (i + 16) (p + suc (length name)) = took_cursor recs txt (i + 16) p (name_text name) b₁.0.1 F.took in
      let b₂ = bind_some (entry_value (basic_from in_table) entries_from d (raw_at 0 recs i) b₁.0.1) _ _ b₁.2 in
      let v₂ : value_here recs txt d i (p + suc (length name)) ≡ some b₂.0 = ap (entry_value (basic_from in_table) entries_from d (raw_at 0 recs i)) (sym c₁) ∙ b₂.1 in
      let B = value_beyond recs txt d i (p + suc (length name)) h.within h.some b b₂.0.0 b₂.0.1 v₂ in
      let b₃ = bind_some (entries_from d (n - m) b₂.0.1) _ _ b₂.2 in
      let l : word 2 recs (i + 4) ≡ p = label_placed recs txt (i + 16) (word 2 recs (i + 4)) p b₁.0 F in
      let N = name_part txt p name b₁.0.1.text (label_text recs txt (i + 16) (word 2 recs (i + 4)) p b₁.0 F) in
      record {
        head = h;
        span = record { head = h.within; some = h.some; few = h.few; within = B.within; is = refl };
        name = name;
        value = b₂.0.0;
        others = b₃.0.0;
        is = sym (ap (λ x. x.0) (some_is _ _ b₃.2));
        named = named_is recs txt i p name h.within l N.0 N.1;
        labelled = l;
        sized = N.0;
        inside = N.2;
        next = B.place;
        valued = v₂ ∙ ap (λ c. some (b₂.0.0, c)) B.is;
        rest = record { is = ap (entries_from d (n - m)) (sym B.is) ∙ b₃.1 ∙ ap (λ c. some (b₃.0.0, c)) (ap (λ x. x.1) (some_is _ _ b₃.2)) };
      }
