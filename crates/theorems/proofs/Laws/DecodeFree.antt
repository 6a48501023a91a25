-- The readers of tables and step lists without their counts: each reader equals its body, with the readers themselves for its calls.
-- These equations are what a proof about code uses; no count stands in them. Assumes nothing.
use Prim.Native.Nat.{ℕ, zero, suc, ◌+◌, ◌*◌, ◌-◌, ◌≤◌}
use native.Mathlib.Omega.{arith}
use native.Mathlib.Nat.{le_refl}
use mathlib.Core.Path.{◌≡◌, refl, sym, ◌∙◌, ap}
use mathlib.Core.Bool.{Bool, true, false}
use mathlib.Core.List.{List}
use mathlib.Core.Option.{Option, none, some}
use lib.ListN.{length, length-append}
use lib.Dec.{leb, ltb, eqb}
use borrow.Author.Tests.{ltb-true, ltb-false}
use Rattle.paper.specs.Bytes.{when◌then◌else◌}
use Rattle.paper.specs.Maybe.{◌>>=◌, require}
use Rattle.paper.specs.Syntax.{Basic, vector, Basics, εⱽ, ◌∷ⱽ◌, Block, εᴮ, ◌∷ᴮ◌, assign, Value, basic, link, extends, Prototypes, εᴾ, named, block}
use Rattle.paper.specs.Store.{Store, ∅, entry}
use Rattle.paper.specs.Decoder.{Cursor, Raw, record_at, field, name_of, path_of, decimal_of, string_of, leaf, Form, basic_at, elements_at, header, ended}
use Rattle.paper.specs.DecodeFrom.{basic_from, elements_from, entry_value, entries_from, statements_from, value_from, prototypes_from}
use Rattle.paper.specs.TableDecoder.{in_table, entries_at, distinct, table_of}
use Rattle.paper.specs.StepDecoder.{in_steps, plain, bare, some_prototype, stops, statements_at, value_at, prototypes_at, block_of}
use Rattle.theorems.proofs.Decoded.Parts.{raw_bytes, length_little}
use Rattle.theorems.proofs.Decoded.Rows.{Record, record_sound}
use Rattle.theorems.proofs.Laws.Answers.{if_case}
use Rattle.theorems.proofs.Laws.Found.{Found, nothing, found, found_bind, found_require, found_some}

-- ---- laws

found_under : {X Y : Type 0} {P : X → Type 0} {m : Option X} {f g : X → Option Y} → Found P m → ((x : X) → P x → f x ≡ g x) → m >>= f ≡ m >>= g
unfolding ◌>>=◌
found_under nothing h = refl
found_under (found {x = x} p) h = h x p

under : {X Y : Type 0} (m : Option X) {f g : X → Option Y} → ((x : X) → f x ≡ g x) → m >>= f ≡ m >>= g
unfolding ◌>>=◌
under none h = refl
under (some x) h = h x

if_under : {A : Type 0} (c : Bool) {a b a' b' : A} → a ≡ a' → b ≡ b' → (when c then a else b) ≡ (when c then a' else b')
unfolding when◌then◌else◌
if_under true p q = p
if_under false p q = q

settle : {A : Type 0} (F : ℕ → A) (t : ℕ) → ((f : ℕ) → t ≤ f → F f ≡ F (suc f)) → (f : ℕ) → t ≤ f → F f ≡ F t
settle F t h zero l = let q : zero ≡ t = omega arith in ap F q
settle F t h (suc f) l = go (ltb f t) refl (λ l. settle F t h f l)
  where
    go : (c : Bool) → ltb f t ≡ c → (t ≤ f → F f ≡ F t) → F (suc f) ≡ F t
    go true e again = let q : suc f ≡ t = omega (arith, ltb-true f t e) in ap F q
    go false e again = let k = ltb-false f t e in sym (h f k) ∙ again k

-- ---- no reader gives records back

abbrev left : Cursor → ℕ
left at = length at.recs

record Shrunk {A : Type 0} (n : ℕ) (r : A × Cursor) : Type 0 where
  shrunk : left r.1 ≤ n

found_any : {X Y : Type 0} {Q : Y → Type 0} (m : Option X) (f : X → Option Y) → ((x : X) → Found Q (f x)) → Found Q (m >>= f)
unfolding ◌>>=◌
found_any none f h = nothing
found_any (some x) f h = h x

raw_length : (w : ℕ) (y : Raw) → length (raw_bytes w y) ≡ 16 + w
unfolding raw_bytes
raw_length w y = simp (length-append, length_little) (omega arith)

record Past (at : Cursor) (r : Raw × Cursor) : Type 0 where
  past : left r.1 + 16 ≤ left at

record_shrinks : (w : ℕ) (at : Cursor) → Found (Past at) (record_at w at)
record_shrinks w at = go (record_at w at) (record_sound w at)
  where
    go : (o : Option (Raw × Cursor)) → Found (λ r. Record w r.0 at r.1) o → Found (Past at) o
    go none nothing = nothing
    go (some x) (found h) =
        let e : left at ≡ length (raw_bytes w x.0) + left x.1 = ap length h.recs ∙ length-append (raw_bytes w x.0) x.1.recs in
        let l = raw_length w x.0 in
        found {x = x} (record { past = omega arith })

field_shrinks : {A : Type 0} (p : List ℕ → Option (A × List ℕ)) (place : ℕ) (at : Cursor) → Found (Shrunk (left at)) (field p place at)
unfolding field
field_shrinks p place at = found_require _ _ (λ _. found_any (p at.text) _ (λ x. found (record { shrunk = le_refl (left at) })))

leaf_shrinks : (k v : ℕ) (at : Cursor) → Found (Shrunk (left at)) (leaf k v at)
unfolding leaf
leaf_shrinks k v at =
    if_case (Found (Shrunk (left at))) _ _ _ (λ _. found_require _ _ (λ _. stay)) (λ _.
    if_case (Found (Shrunk (left at))) _ _ _ (λ _. found_require _ _ (λ _. stay)) (λ _.
    if_case (Found (Shrunk (left at))) _ _ _ (λ _. stay) (λ _.
    if_case (Found (Shrunk (left at))) _ _ _ (λ _. found_bind _ (field_shrinks decimal_of v at) (λ x h. found (record { shrunk = h.shrunk }))) (λ _.
    if_case (Found (Shrunk (left at))) _ _ _ (λ _. found_bind _ (field_shrinks string_of v at) (λ x h. found (record { shrunk = h.shrunk }))) (λ _.
    if_case (Found (Shrunk (left at))) _ _ _ (λ _. found_bind _ (field_shrinks path_of v at) (λ x h. found (record { shrunk = h.shrunk }))) (λ _.
    nothing))))))
  where
    stay : {b : Basic} → Found (Shrunk (left at)) (some (b, at))
    stay = found (record { shrunk = le_refl (left at) })

mutual
  unfolding basic_at

  basic_shrinks : (f : ℕ) (form : Form) (d k m v : ℕ) (at : Cursor) → Found (Shrunk (left at)) (basic_at f form d k m v at)
  basic_shrinks zero form d k m v at = nothing
  basic_shrinks (suc f) form d k m v at =
      if_case (Found (Shrunk (left at))) _ _ _
      (λ _. found_require _ _ (λ _. found_require _ _ (λ _. found_bind _ (elements_shrink f form (suc d) (m - 1) at) (λ x h. found (record { shrunk = h.shrunk })))))
      (λ _. found_require _ _ (λ _. leaf_shrinks k v at))

  elements_shrink : (f : ℕ) (form : Form) (d n : ℕ) (at : Cursor) → Found (Shrunk (left at)) (elements_at f form d n at)
  elements_shrink zero form d n at = nothing
  elements_shrink (suc f) form d zero at = found (record { shrunk = le_refl (left at) })
  elements_shrink (suc f) form d (suc k) at =
      found_bind _ (record_shrinks form.width at) (λ x g.
      found_require _ _ (λ _. found_require _ _ (λ _. found_require _ _ (λ _. found_require _ _ (λ _.
      found_bind _ (basic_shrinks f form d (form.kind_in x.0) x.0.span x.0.value x.1) (λ y h.
      found_bind _ (elements_shrink f form d (suc k - x.0.span) y.1) (λ z i.
      found {x = (y.0 ∷ⱽ z.0, z.1)} (record { shrunk = omega (arith, g.past, h.shrunk, i.shrunk) }))))))))

-- ---- basics and their elements

unfoldable pub basic_body : Form → (ℕ → ℕ → Cursor → Option (Basics × Cursor)) → ℕ → ℕ → ℕ → ℕ → Cursor → Option (Basic × Cursor)
basic_body form E d k m v at =
    when eqb k 7
    then (do
      _ ← require (eqb v 0)
      _ ← require (leb d form.top)
      (bs, at) ← E (suc d) (m - 1) at
      some (vector bs, at))
    else (do
      _ ← require (eqb m 1)
      leaf k v at)

unfoldable pub element_body : Form → (ℕ → ℕ → ℕ → ℕ → Cursor → Option (Basic × Cursor)) → (ℕ → ℕ → Cursor → Option (Basics × Cursor)) → ℕ → ℕ → Cursor → Option (Basics × Cursor)
element_body form B E d k at = do
  (x, at) ← record_at form.width at
  _ ← require (leb d 32)
  _ ← require (form.fits d x)
  _ ← require (leb 1 x.span)
  _ ← require (leb x.span (suc k))
  (b, at) ← B d (form.kind_in x) x.span x.value at
  (bs, at) ← E d (suc k - x.span) at
  some (b ∷ⱽ bs, at)

basic_cong : (form : Form) (E E' : ℕ → ℕ → Cursor → Option (Basics × Cursor)) (d k m v : ℕ) (at : Cursor) → E (suc d) (m - 1) at ≡ E' (suc d) (m - 1) at → basic_body form E d k m v at ≡ basic_body form E' d k m v at
unfolding basic_body
basic_cong form E E' d k m v at e = rw e

element_cong : (form : Form) (B B' : ℕ → ℕ → ℕ → ℕ → Cursor → Option (Basic × Cursor)) (E E' : ℕ → ℕ → Cursor → Option (Basics × Cursor)) (d k : ℕ) (at : Cursor)
    → ((d k m v : ℕ) (c : Cursor) → left c + 16 ≤ left at → B d k m v c ≡ B' d k m v c)
    → ((d n : ℕ) (c : Cursor) → left c + 16 ≤ left at → E d n c ≡ E' d n c)
    → ((d k m v : ℕ) (c : Cursor) → Found (Shrunk (left c)) (B d k m v c))
    → element_body form B E d k at ≡ element_body form B' E' d k at
unfolding element_body
element_cong form B B' E E' d k at eb ee sb =
    found_under (record_shrinks form.width at) (λ x g.
    under (require _) (λ _. under (require _) (λ _. under (require _) (λ _. under (require _) (λ _.
    found_under (sb d (form.kind_in x.0) x.0.span x.0.value x.1) (λ y h. ap (λ o. o >>= λ z. some (y.0 ∷ⱽ z.0, z.1)) (ee d (suc k - x.0.span) y.1 (omega (arith, g.past, h.shrunk))))
    ∙ ap (λ o. o >>= λ y. E' d (suc k - x.0.span) y.1 >>= λ z. some (y.0 ∷ⱽ z.0, z.1)) (eb d (form.kind_in x.0) x.0.span x.0.value x.1 g.past))))))

mutual
  unfolding basic_at basic_body element_body

  basic_more : (f : ℕ) (form : Form) (d k m v : ℕ) (at : Cursor) → 2 * left at + 3 ≤ f → basic_at f form d k m v at ≡ basic_at (suc f) form d k m v at
  basic_more zero form d k m v at le = absurd (omega arith)
  basic_more (suc f) form d k m v at le = basic_cong form (elements_at f form) (elements_at (suc f) form) d k m v at (elements_more f form (suc d) (m - 1) at (omega arith))

  elements_more : (f : ℕ) (form : Form) (d n : ℕ) (at : Cursor) → 2 * left at + 2 ≤ f → elements_at f form d n at ≡ elements_at (suc f) form d n at
  elements_more zero form d n at le = absurd (omega arith)
  elements_more (suc f) form d zero at le = refl
  elements_more (suc f) form d (suc k) at le =
      element_cong form (basic_at f form) (basic_at (suc f) form) (elements_at f form) (elements_at (suc f) form) d k at
      (λ d k m v c l. basic_more f form d k m v c (omega arith)) (λ d n c l. elements_more f form d n c (omega arith)) (λ d k m v c. basic_shrinks f form d k m v c)

-- the readers
pub basic_any : (f : ℕ) (form : Form) (d k m v : ℕ) (at : Cursor) → 2 * length at.recs + 3 ≤ f → basic_at f form d k m v at ≡ basic_from form d k m v at
unfolding basic_from
basic_any f form d k m v at l = settle (λ f. basic_at f form d k m v at) (2 * left at + 3) (λ f l. basic_more f form d k m v at l) f l

pub elements_any : (f : ℕ) (form : Form) (d n : ℕ) (at : Cursor) → 2 * length at.recs + 2 ≤ f → elements_at f form d n at ≡ elements_from form d n at
unfolding elements_from
elements_any f form d n at l = settle (λ f. elements_at f form d n at) (2 * left at + 2) (λ f l. elements_more f form d n at l) f l

-- their equations
pub basic_is : (form : Form) (d k m v : ℕ) (at : Cursor) → basic_from form d k m v at ≡ basic_body form (elements_from form) d k m v at
unfolding basic_at basic_body
basic_is form d k m v at =
    sym (basic_any (suc (2 * left at + 2)) form d k m v at (omega arith))
    ∙ basic_cong form (elements_at (2 * left at + 2) form) (elements_from form) d k m v at (elements_any (2 * left at + 2) form (suc d) (m - 1) at (omega arith))

pub elements_none : (form : Form) (d : ℕ) (at : Cursor) → elements_from form d 0 at ≡ some (εⱽ, at)
unfolding basic_at
elements_none form d at = sym (elements_any (suc (2 * left at + 2)) form d 0 at (omega arith))

pub elements_some : (form : Form) (d k : ℕ) (at : Cursor) → elements_from form d (suc k) at ≡ element_body form (basic_from form) (elements_from form) d k at
unfolding basic_at element_body
elements_some form d k at =
    let f = 2 * left at + 1 in
    sym (elements_any (suc f) form d (suc k) at (omega arith))
    ∙ element_cong form (basic_at f form) (basic_from form) (elements_at f form) (elements_from form) d k at
    (λ d k m v c l. basic_any f form d k m v c (omega arith)) (λ d n c l. elements_any f form d n c (omega arith)) (λ d k m v c. basic_shrinks f form d k m v c)

-- ---- tables

-- the value of an entry whose record is x, and the entries that begin with it
unfoldable pub entry_body : (ℕ → ℕ → ℕ → ℕ → Cursor → Option (Basic × Cursor)) → (ℕ → ℕ → Cursor → Option (Store × Cursor)) → ℕ → ℕ → Cursor → Option (Store × Cursor)
entry_body B E d k at = do
  (x, at) ← record_at 0 at
  _ ← require (leb d 32)
  _ ← require (eqb x.second d)
  _ ← require (leb 1 x.span)
  _ ← require (leb x.span (suc k))
  (n, at) ← field name_of x.label at
  (v, at) ← entry_value B E d x at
  (s, at) ← E d (suc k - x.span) at
  some (entry n v s, at)

entry_value_shrinks : (B : ℕ → ℕ → ℕ → ℕ → Cursor → Option (Basic × Cursor)) (E : ℕ → ℕ → Cursor → Option (Store × Cursor)) (d : ℕ) (x : Raw) (at : Cursor)
    → ((d k m v : ℕ) (c : Cursor) → Found (Shrunk (left c)) (B d k m v c)) → ((d n : ℕ) (c : Cursor) → Found (Shrunk (left c)) (E d n c)) → Found (Shrunk (left at)) (entry_value B E d x at)
unfolding entry_value
entry_value_shrinks B E d x at sb se =
    if_case (Found (Shrunk (left at))) _ _ _
    (λ _. found_require _ _ (λ _. found_bind _ (se (suc d) (x.span - 1) at) (λ c h. found (record { shrunk = h.shrunk }))))
    (λ _. found_bind _ (sb d x.first x.span x.value at) (λ c h. found (record { shrunk = h.shrunk })))

entries_shrink : (f d n : ℕ) (at : Cursor) → Found (Shrunk (left at)) (entries_at f d n at)
unfolding entries_at entry_value
entries_shrink zero d n at = nothing
entries_shrink (suc f) d zero at = found (record { shrunk = le_refl (left at) })
entries_shrink (suc f) d (suc k) at =
    found_bind _ (record_shrinks 0 at) (λ x g.
    found_require _ _ (λ _. found_require _ _ (λ _. found_require _ _ (λ _. found_require _ _ (λ _.
    found_bind _ (field_shrinks name_of x.0.label x.1) (λ n i.
    found_bind _ (entry_value_shrinks (basic_at f in_table) (entries_at f) d x.0 n.1 (λ d k m v c. basic_shrinks f in_table d k m v c) (λ d n c. entries_shrink f d n c)) (λ v j.
    found_bind _ (entries_shrink f d (suc k - x.0.span) v.1) (λ s l.
    found {x = (entry n.0 v.0 s.0, s.1)} (record { shrunk = omega (arith, g.past, i.shrunk, j.shrunk, l.shrunk) })))))))))

entry_value_cong : (B B' : ℕ → ℕ → ℕ → ℕ → Cursor → Option (Basic × Cursor)) (E E' : ℕ → ℕ → Cursor → Option (Store × Cursor)) (d : ℕ) (x : Raw) (c : Cursor)
    → B d x.first x.span x.value c ≡ B' d x.first x.span x.value c → E (suc d) (x.span - 1) c ≡ E' (suc d) (x.span - 1) c → entry_value B E d x c ≡ entry_value B' E' d x c
unfolding entry_value
entry_value_cong B B' E E' d x c p q = rw (p, q)

entry_cong : (B B' : ℕ → ℕ → ℕ → ℕ → Cursor → Option (Basic × Cursor)) (E E' : ℕ → ℕ → Cursor → Option (Store × Cursor)) (d k : ℕ) (at : Cursor)
    → ((d k m v : ℕ) (c : Cursor) → left c + 16 ≤ left at → B d k m v c ≡ B' d k m v c)
    → ((d n : ℕ) (c : Cursor) → left c + 16 ≤ left at → E d n c ≡ E' d n c)
    → ((d k m v : ℕ) (c : Cursor) → Found (Shrunk (left c)) (B d k m v c))
    → ((d n : ℕ) (c : Cursor) → Found (Shrunk (left c)) (E d n c))
    → entry_body B E d k at ≡ entry_body B' E' d k at
unfolding entry_body
entry_cong B B' E E' d k at eb ee sb se =
    found_under (record_shrinks 0 at) (λ x g.
    under (require _) (λ _. under (require _) (λ _. under (require _) (λ _. under (require _) (λ _.
    found_under (field_shrinks name_of x.0.label x.1) (λ n i.
    found_under (entry_value_shrinks B E d x.0 n.1 sb se) (λ v j. ap (λ o. o >>= λ s. some (entry n.0 v.0 s.0, s.1)) (ee d (suc k - x.0.span) v.1 (omega (arith, g.past, i.shrunk, j.shrunk))))
    ∙ ap (λ o. o >>= λ v. E' d (suc k - x.0.span) v.1 >>= λ s. some (entry n.0 v.0 s.0, s.1))
    (entry_value_cong B B' E E' d x.0 n.1 (eb d x.0.first x.0.span x.0.value n.1 (omega (arith, g.past, i.shrunk))) (ee (suc d) (x.0.span - 1) n.1 (omega (arith, g.past, i.shrunk))))))))))

entries_more : (f d n : ℕ) (at : Cursor) → 2 * left at + 2 ≤ f → entries_at f d n at ≡ entries_at (suc f) d n at
unfolding entries_at entry_body entry_value
entries_more zero d n at le = absurd (omega arith)
entries_more (suc f) d zero at le = refl
entries_more (suc f) d (suc k) at le =
    entry_cong (basic_at f in_table) (basic_at (suc f) in_table) (entries_at f) (entries_at (suc f)) d k at
    (λ d k m v c l. basic_more f in_table d k m v c (omega arith)) (λ d n c l. entries_more f d n c (omega arith)) (λ d k m v c. basic_shrinks f in_table d k m v c) (λ d n c. entries_shrink f d n c)

pub entries_any : (f d n : ℕ) (at : Cursor) → 2 * length at.recs + 2 ≤ f → entries_at f d n at ≡ entries_from d n at
unfolding entries_from
entries_any f d n at l = settle (λ f. entries_at f d n at) (2 * left at + 2) (λ f l. entries_more f d n at l) f l

pub entries_none : (d : ℕ) (at : Cursor) → entries_from d 0 at ≡ some (∅, at)
unfolding entries_at
entries_none d at = sym (entries_any (suc (2 * left at + 2)) d 0 at (omega arith))

pub entries_some : (d k : ℕ) (at : Cursor) → entries_from d (suc k) at ≡ entry_body (basic_from in_table) entries_from d k at
unfolding entries_at entry_body entry_value
entries_some d k at =
    let f = 2 * left at + 1 in
    sym (entries_any (suc f) d (suc k) at (omega arith))
    ∙ entry_cong (basic_at f in_table) (basic_from in_table) (entries_at f) entries_from d k at
    (λ d k m v c l. basic_any f in_table d k m v c (omega arith)) (λ d n c l. entries_any f d n c (omega arith)) (λ d k m v c. basic_shrinks f in_table d k m v c) (λ d n c. entries_shrink f d n c)

-- a table's reader
pub table_of_is : (b : List ℕ) → table_of b ≡ header 2 16 1024 16384 b >>= λ x. entries_from 1 x.0 x.1 >>= λ y. ended y.1 >>= λ _. require (distinct y.0) >>= λ _. some y.0
unfolding table_of entries_from
table_of_is b = refl

-- ---- step lists

unfoldable pub statement_body : (ℕ → Raw → Cursor → Option (Value × Cursor)) → (ℕ → Cursor → Option (Block × Cursor)) → ℕ → Cursor → Option (Block × Cursor)
statement_body W S d at =
    when stops at then some (εᴮ, at) else (do
      (x, at) ← record_at 4 at
      _ ← require (ltb x.place 32768)
      (r, at) ← field path_of x.label at
      (v, at) ← W d x at
      (b, at) ← S d at
      some (assign r v ∷ᴮ b, at))

unfoldable pub value_body : (ℕ → ℕ → ℕ → ℕ → Cursor → Option (Basic × Cursor)) → (ℕ → Cursor → Option (Prototypes × Cursor)) → ℕ → Raw → Cursor → Option (Value × Cursor)
value_body B P d x at =
    when eqb x.first 6 then (do
      _ ← require (leb 1 x.span)
      (b, at) ← B d x.second x.span x.value at
      some (basic x.place b, at)) else
    when eqb x.first 8 then (do
      _ ← plain 8 x
      (l, at) ← field path_of x.value at
      some (link x.place l, at)) else (do
        _ ← plain 1 x
        _ ← require (eqb x.value 0)
        (ps, at) ← P d at
        _ ← require (some_prototype ps)
        some (extends x.place ps, at))

unfoldable pub prototype_body : (ℕ → Cursor → Option (Block × Cursor)) → (ℕ → Cursor → Option (Prototypes × Cursor)) → ℕ → Cursor → Option (Prototypes × Cursor)
prototype_body S P d at = do
  (x, at) ← record_at 4 at
  when eqb x.first 2 then (do
    _ ← plain 2 x
    _ ← require (eqb x.value 0)
    (l, at) ← field path_of x.label at
    (ps, at) ← P d at
    some (named x.place l ps, at)) else
      when eqb x.first 3 then (do
        _ ← bare 3 x
        _ ← require (ltb d 32)
        (b, at) ← S (suc d) at
        (y, at) ← record_at 4 at
        _ ← bare 4 y
        (ps, at) ← P d at
        some (block b ps, at)) else (do
          _ ← bare 5 x
          some (εᴾ, at))

mutual
  unfolding statements_at

  statements_shrink : (f d : ℕ) (at : Cursor) → Found (Shrunk (left at)) (statements_at f d at)
  statements_shrink zero d at = nothing
  statements_shrink (suc f) d at =
      if_case (Found (Shrunk (left at))) _ _ _ (λ _. found (record { shrunk = le_refl (left at) })) (λ _.
      found_bind _ (record_shrinks 4 at) (λ x g.
      found_require _ _ (λ _.
      found_bind _ (field_shrinks path_of x.0.label x.1) (λ r h.
      found_bind _ (value_shrinks f d x.0 r.1) (λ v i.
      found_bind _ (statements_shrink f d v.1) (λ b j.
      found {x = (assign r.0 v.0 ∷ᴮ b.0, b.1)} (record { shrunk = omega (arith, g.past, h.shrunk, i.shrunk, j.shrunk) })))))))

  value_shrinks : (f d : ℕ) (x : Raw) (at : Cursor) → Found (Shrunk (left at)) (value_at f d x at)
  value_shrinks zero d x at = nothing
  value_shrinks (suc f) d x at =
      if_case (Found (Shrunk (left at))) _ _ _
      (λ _. found_require _ _ (λ _. found_bind _ (basic_shrinks f in_steps d x.second x.span x.value at) (λ b h. found (record { shrunk = h.shrunk })))) (λ _.
      if_case (Found (Shrunk (left at))) _ _ _
      (λ _. found_any (plain 8 x) _ (λ _. found_bind _ (field_shrinks path_of x.value at) (λ l h. found (record { shrunk = h.shrunk })))) (λ _.
      found_any (plain 1 x) _ (λ _. found_require _ _ (λ _. found_bind _ (prototypes_shrink f d at) (λ ps h. found_require _ _ (λ _. found (record { shrunk = h.shrunk })))))))

  prototypes_shrink : (f d : ℕ) (at : Cursor) → Found (Shrunk (left at)) (prototypes_at f d at)
  prototypes_shrink zero d at = nothing
  prototypes_shrink (suc f) d at =
      found_bind _ (record_shrinks 4 at) (λ x g.
      if_case (Found (Shrunk (left at))) _ _ _
      (λ _. found_any (plain 2 x.0) _ (λ _. found_require _ _ (λ _.
      found_bind _ (field_shrinks path_of x.0.label x.1) (λ l h.
      found_bind _ (prototypes_shrink f d l.1) (λ ps i.
      found {x = (named x.0.place l.0 ps.0, ps.1)} (record { shrunk = omega (arith, g.past, h.shrunk, i.shrunk) })))))) (λ _.
      if_case (Found (Shrunk (left at))) _ _ _
      (λ _. found_any (bare 3 x.0) _ (λ _. found_require _ _ (λ _.
      found_bind _ (statements_shrink f (suc d) x.1) (λ b h.
      found_bind _ (record_shrinks 4 b.1) (λ y i.
      found_any (bare 4 y.0) _ (λ _.
      found_bind _ (prototypes_shrink f d y.1) (λ ps j.
      found {x = (block b.0 ps.0, ps.1)} (record { shrunk = omega (arith, g.past, h.shrunk, i.past, j.shrunk) })))))))) (λ _.
      found_any (bare 5 x.0) _ (λ _. found {x = (εᴾ, x.1)} (record { shrunk = omega (arith, g.past) })))))

value_cong : (B B' : ℕ → ℕ → ℕ → ℕ → Cursor → Option (Basic × Cursor)) (P P' : ℕ → Cursor → Option (Prototypes × Cursor)) (d : ℕ) (x : Raw) (at : Cursor)
    → B d x.second x.span x.value at ≡ B' d x.second x.span x.value at → P d at ≡ P' d at → value_body B P d x at ≡ value_body B' P' d x at
unfolding value_body
value_cong B B' P P' d x at p q = rw (p, q)

statement_cong : (W W' : ℕ → Raw → Cursor → Option (Value × Cursor)) (S S' : ℕ → Cursor → Option (Block × Cursor)) (d : ℕ) (at : Cursor)
    → ((d : ℕ) (x : Raw) (c : Cursor) → left c + 16 ≤ left at → W d x c ≡ W' d x c)
    → ((d : ℕ) (c : Cursor) → left c + 16 ≤ left at → S d c ≡ S' d c)
    → ((d : ℕ) (x : Raw) (c : Cursor) → Found (Shrunk (left c)) (W d x c))
    → statement_body W S d at ≡ statement_body W' S' d at
unfolding statement_body
statement_cong W W' S S' d at ev es sv =
    if_under (stops at) refl (
    found_under (record_shrinks 4 at) (λ x g.
    under (require _) (λ _.
    found_under (field_shrinks path_of x.0.label x.1) (λ r h.
    found_under (sv d x.0 r.1) (λ v i. ap (λ o. o >>= λ b. some (assign r.0 v.0 ∷ᴮ b.0, b.1)) (es d v.1 (omega (arith, g.past, h.shrunk, i.shrunk))))
    ∙ ap (λ o. o >>= λ v. S' d v.1 >>= λ b. some (assign r.0 v.0 ∷ᴮ b.0, b.1)) (ev d x.0 r.1 (omega (arith, g.past, h.shrunk)))))))

prototype_cong : (S S' : ℕ → Cursor → Option (Block × Cursor)) (P P' : ℕ → Cursor → Option (Prototypes × Cursor)) (d : ℕ) (at : Cursor)
    → ((d : ℕ) (c : Cursor) → left c + 16 ≤ left at → S d c ≡ S' d c)
    → ((d : ℕ) (c : Cursor) → left c + 16 ≤ left at → P d c ≡ P' d c)
    → ((d : ℕ) (c : Cursor) → Found (Shrunk (left c)) (S d c))
    → prototype_body S P d at ≡ prototype_body S' P' d at
unfolding prototype_body
prototype_cong S S' P P' d at es ep ss =
    found_under (record_shrinks 4 at) (λ x g.
    if_under _
    (under (plain 2 x.0) (λ _. under (require _) (λ _.
    found_under (field_shrinks path_of x.0.label x.1) (λ l h. ap (λ o. o >>= λ ps. some (named x.0.place l.0 ps.0, ps.1)) (ep d l.1 (omega (arith, g.past, h.shrunk)))))))
    (if_under _
    (under (bare 3 x.0) (λ _. under (require _) (λ _.
    found_under (ss (suc d) x.1) (λ b h.
    found_under (record_shrinks 4 b.1) (λ y i.
    under (bare 4 y.0) (λ _. ap (λ o. o >>= λ ps. some (block b.0 ps.0, ps.1)) (ep d y.1 (omega (arith, g.past, h.shrunk, i.past))))))
    ∙ ap (λ o. o >>= λ b. record_at 4 b.1 >>= λ y. bare 4 y.0 >>= λ _. P' d y.1 >>= λ ps. some (block b.0 ps.0, ps.1)) (es (suc d) x.1 g.past))))
    refl))

mutual
  unfolding statements_at statement_body value_body prototype_body

  statements_more : (f d : ℕ) (at : Cursor) → 2 * left at + 2 ≤ f → statements_at f d at ≡ statements_at (suc f) d at
  statements_more zero d at le = absurd (omega arith)
  statements_more (suc f) d at le =
      statement_cong (value_at f) (value_at (suc f)) (statements_at f) (statements_at (suc f)) d at
      (λ d x c l. value_more f d x c (omega arith)) (λ d c l. statements_more f d c (omega arith)) (λ d x c. value_shrinks f d x c)

  value_more : (f d : ℕ) (x : Raw) (at : Cursor) → 2 * left at + 4 ≤ f → value_at f d x at ≡ value_at (suc f) d x at
  value_more zero d x at le = absurd (omega arith)
  value_more (suc f) d x at le =
      value_cong (basic_at f in_steps) (basic_at (suc f) in_steps) (prototypes_at f) (prototypes_at (suc f)) d x at
      (basic_more f in_steps d x.second x.span x.value at (omega arith)) (prototypes_more f d at (omega arith))

  prototypes_more : (f d : ℕ) (at : Cursor) → 2 * left at + 2 ≤ f → prototypes_at f d at ≡ prototypes_at (suc f) d at
  prototypes_more zero d at le = absurd (omega arith)
  prototypes_more (suc f) d at le =
      prototype_cong (statements_at f) (statements_at (suc f)) (prototypes_at f) (prototypes_at (suc f)) d at
      (λ d c l. statements_more f d c (omega arith)) (λ d c l. prototypes_more f d c (omega arith)) (λ d c. statements_shrink f d c)

pub statements_any : (f d : ℕ) (at : Cursor) → 2 * length at.recs + 2 ≤ f → statements_at f d at ≡ statements_from d at
unfolding statements_from
statements_any f d at l = settle (λ f. statements_at f d at) (2 * left at + 2) (λ f l. statements_more f d at l) f l

pub value_any : (f d : ℕ) (x : Raw) (at : Cursor) → 2 * length at.recs + 4 ≤ f → value_at f d x at ≡ value_from d x at
unfolding value_from
value_any f d x at l = settle (λ f. value_at f d x at) (2 * left at + 4) (λ f l. value_more f d x at l) f l

pub prototypes_any : (f d : ℕ) (at : Cursor) → 2 * length at.recs + 2 ≤ f → prototypes_at f d at ≡ prototypes_from d at
unfolding prototypes_from
prototypes_any f d at l = settle (λ f. prototypes_at f d at) (2 * left at + 2) (λ f l. prototypes_more f d at l) f l

pub statements_is : (d : ℕ) (at : Cursor) → statements_from d at ≡ statement_body value_from statements_from d at
unfolding statements_at statement_body
statements_is d at =
    let f = 2 * left at + 1 in
    sym (statements_any (suc f) d at (omega arith))
    ∙ statement_cong (value_at f) value_from (statements_at f) statements_from d at
    (λ d x c l. value_any f d x c (omega arith)) (λ d c l. statements_any f d c (omega arith)) (λ d x c. value_shrinks f d x c)

pub value_is : (d : ℕ) (x : Raw) (at : Cursor) → value_from d x at ≡ value_body (basic_from in_steps) prototypes_from d x at
unfolding statements_at value_body
value_is d x at =
    let f = 2 * left at + 3 in
    sym (value_any (suc f) d x at (omega arith))
    ∙ value_cong (basic_at f in_steps) (basic_from in_steps) (prototypes_at f) prototypes_from d x at
    (basic_any f in_steps d x.second x.span x.value at (omega arith)) (prototypes_any f d at (omega arith))

pub prototypes_is : (d : ℕ) (at : Cursor) → prototypes_from d at ≡ prototype_body statements_from prototypes_from d at
unfolding statements_at prototype_body
prototypes_is d at =
    let f = 2 * left at + 1 in
    sym (prototypes_any (suc f) d at (omega arith))
    ∙ prototype_cong (statements_at f) statements_from (prototypes_at f) prototypes_from d at
    (λ d c l. statements_any f d c (omega arith)) (λ d c l. prototypes_any f d c (omega arith)) (λ d c. statements_shrink f d c)

-- what is left is no more than there was
pub statements_left : (d : ℕ) (at : Cursor) (b : Block) (c : Cursor) → statements_from d at ≡ some (b, c) → length c.recs ≤ length at.recs
unfolding statements_from
statements_left d at b c e = (found_some (statements_shrink (2 * left at + 2) d at) e).shrunk

pub value_left : (d : ℕ) (x : Raw) (at : Cursor) (v : Value) (c : Cursor) → value_from d x at ≡ some (v, c) → length c.recs ≤ length at.recs
unfolding value_from
value_left d x at v c e = (found_some (value_shrinks (2 * left at + 4) d x at) e).shrunk

-- a step list's reader
pub block_of_is : (b : List ℕ) → block_of b ≡ header 1 20 1024 32768 b >>= λ x. statements_from 0 x.1 >>= λ y. ended y.1 >>= λ _. some y.0
unfolding block_of statements_from
block_of_is b = refl
