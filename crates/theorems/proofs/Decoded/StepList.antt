-- Step lists are read exactly: `block_of b` is the block whose step list b is, and nothing where there is none. Assumes nothing.
use Prim.Native.Nat.{ℕ, zero, suc, ◌+◌, ◌*◌, ◌^◌, ◌≤◌, ◌<◌}
use native.Mathlib.Omega.{arith}
use native.Mathlib.Nat.{add-zero}
use mathlib.Core.Path.{◌≡◌, refl, sym, ◌∙◌, ap, subst}
use mathlib.Core.Bool.{Bool, true, false, false≢true, ◌&&◌}
use mathlib.Core.List.{List, [], ◌∷◌, ◌++◌, append_assoc, append-nil}
use mathlib.Core.Option.{some}
use mathlib.Core.Logic.{◌↔◌}
use lib.ListN.{length, length-append}
use lib.Dec.{eqb}
use borrow.Author.Tests.{ltb-true, leb-true, eqb-true, lt-ltb, le-leb, eq-eqb, ne_eqb}
use Rattle.paper.specs.Bytes.{when◌then◌else◌}
use Rattle.paper.specs.Maybe.{◌>>=◌, require}
use Rattle.paper.specs.Syntax.{Path, Basic, boolean, null, integer, decimal, string, reference, vector, Basics, εⱽ, ◌∷ⱽ◌, Block, εᴮ, ◌∷ᴮ◌, assign, Value, basic, link, extends, Prototypes, εᴾ, named, block}
use Rattle.paper.specs.Grammar.{brackets, brackets_in, openings, openings_v, openings_p, Some}
use Rattle.paper.specs.Layout.{little, path_text, Field, number, text, Row, kind, content, elements, each, text_of, figure, row_bytes, texts, records}
use Rattle.paper.specs.Steps.{Step, make, take, enter, leave, done, set, steps, value_steps, prototype_steps}
use Rattle.paper.specs.StepLayout.{step_row, item, step_rows, all_rows, step_list}
use Rattle.paper.specs.WellFormed.{IsPath, IsPlace, IsBlock, IsValueOf, ArePrototypes, IsStepList}
use Rattle.paper.specs.Decoder.{Cursor, Raw}
use Rattle.paper.specs.StepDecoder.{in_steps, plain, bare, some_prototype, step_here, stops, statements_at, value_at, prototypes_at, block_of}
use Rattle.theorems.proofs.Decoded.Header.{HeaderRead, header_sound, header_complete, Lasts, lasts-++, records_length, laid_out_headed, Ended, ended_sound, ended_complete}
use Rattle.paper.specs.DecodeAt.{headed}
use Rattle.theorems.proofs.Decoded.Parts.{exact_path, raw_bytes, Narrow, make_raw, same_raw, length_little}
use Rattle.theorems.proofs.Decoded.Rows.{Took, Record, Front, Fielded, Between, Parts, took_nil, front_nil, front-++, split, front_one, split_one, front_stays, stays, front_end, record_sound, record_complete, field_sound, field_complete, figure_below, kind_below, Within, WithinAll, Lawful, BasicRead, basic_sound, basic_complete}
use Rattle.theorems.proofs.Laws.Answers.{if_case}
use Rattle.theorems.proofs.Laws.Found.{Found, nothing, found, found_bind, found_require, found_last, found_some}

and_true : (a b : Bool) → (a && b) ≡ true → (a ≡ true) × (b ≡ true)
and_true true b e = (refl, e)
and_true false b e = absurd (false≢true e)

-- ---- vectors in a step list

pub steps_lawful : Lawful in_steps item
unfolding in_steps item step_row row_bytes raw_bytes figure text_of little
steps_lawful = record {
  raw = λ k d m v. make_raw 7 k 0 m v 0;
  bytes = λ k d m v t. rw (add-zero t);
  label = λ k d m v. refl;
  value = λ k d m v. refl;
  fitting = λ d x e l.
      let h = and_true (eqb x.first 7) (eqb x.label 0 && eqb x.place 0) e in
      let g = and_true (eqb x.label 0) (eqb x.place 0) h.1 in
      same_raw (eqb-true _ _ h.0) refl (eqb-true _ _ g.0) refl refl (eqb-true _ _ g.1);
  fits = λ k d m v. refl;
  kinded = λ k d m v. refl;
  spanned = λ k d m v. refl;
  valued = λ k d m v. refl;
  narrow = λ k d m v lk ld lm lv. record { first = omega arith; second = lk; label = omega arith; span = lm; value = lv; place = omega arith };
}

-- items say nothing of their depth
mutual
  unfolding elements item

  item_depth : (b : Basic) (d e : ℕ) → elements item d b ≡ elements item e b
  item_depth (boolean b) d e = refl
  item_depth null d e = refl
  item_depth (integer z) d e = refl
  item_depth (decimal t) d e = refl
  item_depth (string t) d e = refl
  item_depth (reference r) d e = refl
  item_depth (vector bs) d e = items_depth bs (suc d) (suc e)

  items_depth : (bs : Basics) (d e : ℕ) → each item d bs ≡ each item e bs
  items_depth εⱽ d e = refl
  items_depth (b ∷ⱽ bs) d e = rw (item_depth b d e, items_depth bs d e)

-- openings, by how deep vectors stand
mutual
  within_open : (b : Basic) (d : ℕ) → d ≤ 32 → Within 31 d b → d + brackets b ≤ 32
  within_open (boolean b) d l w = omega arith
  within_open null d l w = omega arith
  within_open (integer z) d l w = omega arith
  within_open (decimal t) d l w = omega arith
  within_open (string t) d l w = omega arith
  within_open (reference r) d l w = omega arith
  within_open (vector bs) d l w = omega (arith, within_open_all bs (suc d) (omega (arith, w.0)) w.1)

  within_open_all : (bs : Basics) (d : ℕ) → d ≤ 32 → WithinAll 31 d bs → d + brackets_in bs ≤ 32
  within_open_all εⱽ d l w = omega arith
  within_open_all (b ∷ⱽ bs) d l w = omega (arith, within_open b d l w.1, within_open_all bs d l w.2)

mutual
  open_within : (b : Basic) (d : ℕ) → d + brackets b ≤ 32 → Within 31 d b
  open_within (boolean b) d h = tt
  open_within null d h = tt
  open_within (integer z) d h = tt
  open_within (decimal t) d h = tt
  open_within (string t) d h = tt
  open_within (reference r) d h = tt
  open_within (vector bs) d h = (omega arith, open_within_all bs (suc d) (omega arith))

  open_within_all : (bs : Basics) (d : ℕ) → d + brackets_in bs ≤ 32 → WithinAll 31 d bs
  open_within_all εⱽ d h = tt
  open_within_all (b ∷ⱽ bs) d h = (omega arith, open_within b d (omega arith), open_within_all bs d (omega arith))

-- ---- rows of steps

all_rows-++ : (is js : List Step) → all_rows (is ++ js) ≡ all_rows is ++ all_rows js
unfolding all_rows
all_rows-++ [] js = refl
all_rows-++ (i ∷ is) js = rw (all_rows-++ is js) (sym (append_assoc (step_rows i) (all_rows is) (all_rows js)))

step_bytes : (i k : ℕ) (l : Field) (m : ℕ) (v : Field) (p pos : ℕ) (x : Raw) → i ≡ x.first → k ≡ x.second → figure pos l ≡ x.label → m ≡ x.span → figure (pos + length (text_of l)) v ≡ x.value → p ≡ x.place
    → row_bytes pos (step_row i k l m v p) ≡ raw_bytes 4 x
unfolding step_row row_bytes raw_bytes
step_bytes i k l m v p pos x e₁ e₂ e₃ e₄ e₅ e₆ =
    ap (raw_bytes 4) (same_raw {x = make_raw i k (figure pos l) m (figure (pos + length (text_of l)) v) p} {y = x} e₁ e₂ e₃ e₄ e₅ e₆)

-- a record of a step with a path
record Plain (i : ℕ) (x : Raw) : Type 0 where
  first : x.first ≡ i
  second : x.second ≡ 0
  span : x.span ≡ 0
  place : x.place < 32768

plain_sound : (i : ℕ) (x : Raw) → Found (λ _. Plain i x) (plain i x)
unfolding plain
plain_sound i x =
    found_require _ _ (λ e₁. found_require _ _ (λ e₂. found_require _ _ (λ e₃. found_last _ (λ e₄.
    record { first = eqb-true _ _ e₁; second = eqb-true _ _ e₂; span = eqb-true _ _ e₃; place = ltb-true _ _ e₄ }))))

plain_complete : (i k : ℕ) (x : Raw) → x.first ≡ i → x.second ≡ 0 → x.span ≡ 0 → x.place < 32768 → plain i x ≡ some tt
unfolding plain ◌>>=◌ require
plain_complete i k x e₁ e₂ e₃ l = rw (eq-eqb x.first i e₁, eq-eqb x.second 0 e₂, eq-eqb x.span 0 e₃, lt-ltb x.place 32768 l)

bare_sound : (i : ℕ) (x : Raw) → Found (λ _. x ≡ make_raw i 0 0 0 0 0) (bare i x)
unfolding bare
bare_sound i x =
    found_bind _ (plain_sound i x) (λ _ h. found_require _ _ (λ e₁. found_require _ _ (λ e₂. found_last _ (λ e₃.
    same_raw h.first h.second (eqb-true _ _ e₁) h.span (eqb-true _ _ e₂) (eqb-true _ _ e₃)))))

bare_complete : (i : ℕ) → bare i (make_raw i 0 0 0 0 0) ≡ some tt
unfolding bare plain ◌>>=◌ require
bare_complete i = rw (eq-eqb i i refl)

-- a bare row
abbrev bare_row : ℕ → Row
bare_row i = step_row i 0 (number 0) 0 (number 0) 0

bare_front : (i : ℕ) (x : Raw) {at after : Cursor} → Record 4 x at after → x ≡ make_raw i 0 0 0 0 0 → Front (bare_row i ∷ []) at after
unfolding step_row text_of figure
bare_front i x {at} {after} r e =
    front_one r (took_nil after) (took_nil after)
    (step_bytes i 0 (number 0) 0 (number 0) 0 at.pos x (sym (ap (λ y. y.first) e)) (sym (ap (λ y. y.second) e)) (sym (ap (λ y. y.label) e)) (sym (ap (λ y. y.span) e)) (sym (ap (λ y. y.value) e)) (sym (ap (λ y. y.place) e)))

-- a row with a path for its label
path_front : (i k : ℕ) (l : Path) (m : ℕ) (v : Field) (x : Raw) {at at₁ at₂ at₃ : Cursor} → Record 4 x at at₁ → x.first ≡ i → x.second ≡ k → x.span ≡ m
    → Took (path_text l) at₁ at₂ → x.label ≡ at₁.pos → Took (text_of v) at₂ at₃ → figure at₂.pos v ≡ x.value
    → Front (step_row i k (text (path_text l)) m v x.place ∷ []) at at₃
unfolding step_row text_of figure
path_front i k l m v x {at} {at₁} {at₂} r e₁ e₂ e₃ t e₄ u e₅ =
    let p : at₂.pos ≡ at.pos + length (path_text l) = t.pos ∙ ap (λ i. i + length (path_text l)) r.pos in
    front_one r t u
    (step_bytes i k (text (path_text l)) m v x.place at.pos x (sym e₁) (sym e₂) (sym r.pos ∙ sym e₄) (sym e₃) (ap (λ q. figure q v) (sym p) ∙ e₅) refl)

-- ---- from bytes to a block

record BlockRead (d : ℕ) (at : Cursor) (r : Block × Cursor) : Type 0 where
  front : Front (all_rows (steps r.0)) at r.1
  good : IsBlock r.0
  few : d + openings r.0 ≤ 32

-- the value of a statement whose target is l, and whose rows begin at `at`
record ValueRead (d : ℕ) (l : Path) (at : Cursor) (r : Value × Cursor) : Type 0 where
  front : Front (all_rows (value_steps r.0 l)) at r.1
  good : IsValueOf r.0
  few : d + openings_v r.0 ≤ 32

record PrototypesRead (d : ℕ) (at : Cursor) (r : Prototypes × Cursor) : Type 0 where
  front : Front (all_rows (prototype_steps r.0 ++ (done ∷ []))) at r.1
  good : ArePrototypes r.0
  few : d + openings_p r.0 ≤ 32

some_sound : (ps : Prototypes) → some_prototype ps ≡ true → Some ps
unfolding some_prototype
some_sound εᴾ e = absurd (false≢true e)
some_sound (named p r ps) e = tt
some_sound (block b ps) e = tt

set_rows : (p : ℕ) (l : Path) (b : Basic) (d : ℕ) → all_rows (set p l b ∷ []) ≡ step_row 6 (kind b) (text (path_text l)) (suc (length (elements item d b))) (content b) p ∷ elements item d b
unfolding all_rows step_rows
set_rows p l b d = append-nil (step_rows (set p l b)) ∙ ap (λ xs. step_row 6 (kind b) (text (path_text l)) (suc (length xs)) (content b) p ∷ xs) (item_depth b 0 d)

set_read : (d : ℕ) (l : Path) (x : Raw) {at at₁ at₂ : Cursor} (b : Basic) (at₃ : Cursor) → Record 4 x at at₁ → Fielded path_text IsPath x.label at₁ (l, at₂) → x.place < 32768 → d ≤ 32 → x.first ≡ 6
    → BasicRead in_steps item steps_lawful d x.second x.span x.value at₂ (b, at₃) → ValueRead d l at (basic x.place b, at₃)
unfolding in_steps steps
set_read d l x {at} {at₁} {at₂} b at₃ r h lp ld e i =
    record {
      front = rw (set_rows x.place l b d) (front-++ (path_front 6 (kind b) l (suc (length (elements item d b))) (content b) x r e (sym i.kinded) (sym i.spanned) h.took h.placed i.took i.figured) i.below);
      good = (lp, i.good);
      few = within_open b d ld i.within;
    }

statement_rows : (l : Path) (v : Value) (b : Block) → all_rows (steps (assign l v ∷ᴮ b)) ≡ all_rows (value_steps v l) ++ all_rows (steps b)
unfolding steps
statement_rows l v b = all_rows-++ (value_steps v l) (steps b)

statement_front : (l : Path) (v : Value) (b : Block) {a c e : Cursor} → Front (all_rows (value_steps v l)) a c → Front (all_rows (steps b)) c e → Front (all_rows (steps (assign l v ∷ᴮ b))) a e
statement_front l v b f g = rw (statement_rows l v b) (front-++ f g)

block_rows : (b : Block) (ps : Prototypes) → all_rows (prototype_steps (block b ps) ++ (done ∷ [])) ≡ bare_row 3 ∷ all_rows (steps b) ++ (bare_row 4 ∷ all_rows (prototype_steps ps ++ (done ∷ [])))
unfolding steps all_rows step_rows
block_rows b ps =
    ap (λ is. bare_row 3 ∷ all_rows is) (append_assoc (steps b) (leave ∷ prototype_steps ps) (done ∷ []))
    ∙ ap (bare_row 3 ∷◌) (all_rows-++ (steps b) (leave ∷ prototype_steps ps ++ (done ∷ [])))

block_front : (b : Block) (ps : Prototypes) {a c e g i : Cursor} → Front (bare_row 3 ∷ []) a c → Front (all_rows (steps b)) c e → Front (bare_row 4 ∷ []) e g → Front (all_rows (prototype_steps ps ++ (done ∷ []))) g i
    → Front (all_rows (prototype_steps (block b ps) ++ (done ∷ []))) a i
block_front b ps f h j k = rw (block_rows b ps) (front-++ f (front-++ h (front-++ j k)))

mutual
  unfolding statements_at steps all_rows step_rows in_steps text_of figure

  statements_sound : (f d : ℕ) (at : Cursor) → d ≤ 32 → Found (BlockRead d at) (statements_at f d at)
  statements_sound zero d at ld = nothing
  statements_sound (suc f) d at ld =
      if_case (Found (BlockRead d at)) _ _ _
      (λ _. found {x = (εᴮ, at)} (record { front = front_nil at; good = tt; few = omega arith }))
      (λ _.
      found_bind _ (record_sound 4 at) (λ x r.
      found_require _ _ (λ e₁.
      found_bind _ (field_sound exact_path x.0.label x.1) (λ l h.
      found_bind _ (value_sound f d x.0 l.1 ld l.0 at x.1 r h (ltb-true _ _ e₁)) (λ v i.
      found_bind _ (statements_sound f d v.1 ld) (λ b j.
      found {x = (assign l.0 v.0 ∷ᴮ b.0, b.1)} (record {
        front = statement_front l.0 v.0 b.0 i.front j.front;
        good = ((h.good, i.good), j.good);
        few = omega (arith, i.few, j.few);
      })))))))

  value_sound : (f d : ℕ) (x : Raw) (at₂ : Cursor) → d ≤ 32 → (l : Path) (at at₁ : Cursor) → Record 4 x at at₁ → Fielded path_text IsPath x.label at₁ (l, at₂) → x.place < 32768
      → Found (ValueRead d l at) (value_at f d x at₂)
  value_sound zero d x at₂ ld l at at₁ r h lp = nothing
  value_sound (suc f) d x at₂ ld l at at₁ r h lp =
      if_case (Found (ValueRead d l at)) _ _ _
      (λ e.
      found_require _ _ (λ e₀.
      found_bind _ (basic_sound in_steps item steps_lawful f d x.second x.span x.value at₂ r.narrow.value (leb-true 1 _ e₀)) (λ b i.
      found {x = (basic x.place b.0, b.1)} (set_read d l x b.0 b.1 r h lp ld (eqb-true _ 6 e) i))))
      (λ _.
      if_case (Found (ValueRead d l at)) _ _ _
      (λ e.
      found_bind _ (plain_sound 8 x) (λ _ p.
      found_bind _ (field_sound exact_path x.value at₂) (λ k i.
      found {x = (link x.place k.0, k.1)} (record {
        front = path_front 8 0 l 0 (text (path_text k.0)) x r p.first p.second p.span h.took h.placed i.took (sym i.placed);
        good = (p.place, i.good);
        few = omega arith;
      }))))
      (λ _.
      found_bind _ (plain_sound 1 x) (λ _ p.
      found_require _ _ (λ e.
      found_bind _ (prototypes_sound f d at₂ ld) (λ ps i.
      found_require _ _ (λ s.
      found {x = (extends x.place ps.0, ps.1)} (record {
        front = front-++ (path_front 1 0 l 0 (number 0) x r p.first p.second p.span h.took h.placed (took_nil at₂) (sym (eqb-true _ _ e))) i.front;
        good = (p.place, some_sound ps.0 s, i.good);
        few = i.few;
      })))))))

  prototypes_sound : (f d : ℕ) (at : Cursor) → d ≤ 32 → Found (PrototypesRead d at) (prototypes_at f d at)
  prototypes_sound zero d at ld = nothing
  prototypes_sound (suc f) d at ld =
      found_bind _ (record_sound 4 at) (λ x r.
      if_case (Found (PrototypesRead d at)) _ _ _
      (λ _.
      found_bind _ (plain_sound 2 x.0) (λ _ p.
      found_require _ _ (λ e.
      found_bind _ (field_sound exact_path x.0.label x.1) (λ l h.
      found_bind _ (prototypes_sound f d l.1 ld) (λ ps i.
      found {x = (named x.0.place l.0 ps.0, ps.1)} (record {
        front = front-++ (path_front 2 0 l.0 0 (number 0) x.0 r p.first p.second p.span h.took h.placed (took_nil l.1) (sym (eqb-true _ _ e))) i.front;
        good = (p.place, h.good, i.good);
        few = i.few;
      }))))))
      (λ _.
      if_case (Found (PrototypesRead d at)) _ _ _
      (λ _.
      found_bind _ (bare_sound 3 x.0) (λ _ p.
      found_require _ _ (λ e.
      let lt = ltb-true d 32 e in
      found_bind _ (statements_sound f (suc d) x.1 lt) (λ b i.
      found_bind _ (record_sound 4 b.1) (λ y q.
      found_bind _ (bare_sound 4 y.0) (λ _ u.
      found_bind _ (prototypes_sound f d y.1 ld) (λ ps j.
      found {x = (block b.0 ps.0, ps.1)} (record {
        front = block_front b.0 ps.0 (bare_front 3 x.0 r p) i.front (bare_front 4 y.0 q u) j.front;
        good = (i.good, j.good);
        few = omega (arith, i.few, j.few);
      }))))))))
      (λ _.
      found_bind _ (bare_sound 5 x.0) (λ _ p.
      found {x = (εᴾ, x.1)} (record { front = bare_front 5 x.0 r p; good = tt; few = omega arith })))))

-- rows of step lists end in a place of four bytes
mutual
  unfolding elements item step_row

  elements_lasts : (b : Basic) (d : ℕ) → Lasts 4 (elements item d b)
  elements_lasts (boolean b) d = tt
  elements_lasts null d = tt
  elements_lasts (integer z) d = tt
  elements_lasts (decimal t) d = tt
  elements_lasts (string t) d = tt
  elements_lasts (reference r) d = tt
  elements_lasts (vector bs) d = each_lasts bs (suc d)

  each_lasts : (bs : Basics) (d : ℕ) → Lasts 4 (each item d bs)
  each_lasts εⱽ d = tt
  each_lasts (b ∷ⱽ bs) d = (length_little 4 0, lasts-++ 4 (elements item d b) (each item d bs) (elements_lasts b d) (each_lasts bs d))

step_lasts : (i : Step) → Lasts 4 (step_rows i)
unfolding step_rows step_row
step_lasts (make p r) = (length_little 4 p, tt)
step_lasts (take p r) = (length_little 4 p, tt)
step_lasts enter = (length_little 4 0, tt)
step_lasts leave = (length_little 4 0, tt)
step_lasts done = (length_little 4 0, tt)
step_lasts (set p r b) = (length_little 4 p, elements_lasts b 0)
step_lasts (Step.link p r l) = (length_little 4 p, tt)

steps_lasts : (is : List Step) → Lasts 4 (all_rows is)
unfolding all_rows
steps_lasts [] = tt
steps_lasts (i ∷ is) = lasts-++ 4 (step_rows i) (all_rows is) (step_lasts i) (steps_lasts is)

block_read : (b : List ℕ) (x : ℕ × Cursor) (d : Block) (at : Cursor) → HeaderRead 1 20 1024 32768 b x → BlockRead 0 x.1 (d, at) → Ended at → IsStepList b d
unfolding step_list
block_read b x d at h g e =
    let xs = all_rows (steps d) in
    let k : length (records 0 xs) ≡ 20 * length xs = records_length 4 xs 0 (steps_lasts (steps d)) in
    let r₁ : x.1.recs ≡ records 0 xs = g.front.recs ∙ rw (h.start, e.recs) (append-nil (records 0 xs)) in
    let t₁ : x.1.text ≡ texts xs = g.front.text ∙ rw e.text (append-nil (texts xs)) in
    let k₁ : length x.1.recs ≡ length (records 0 xs) = ap length r₁ in
    let n : length xs ≡ x.0 = omega (arith, h.recs) in
    record {
      laid_out = h.bytes ∙ rw (r₁, t₁, ← n) (sym (laid_out_headed 1 20 xs k));
      blocks = g.good;
      nested = omega (arith, g.few);
      listed = record { count = omega (arith, h.few); text = rw (← t₁) h.short };
    }

pub block_sound : (b : List ℕ) → Found (IsStepList b) (block_of b)
unfolding block_of
block_sound b =
    found_bind _ (header_sound 1 20 1024 32768 b) (λ x h.
    found_bind _ (statements_sound (2 * length x.1.recs + 2) 0 x.1 (omega arith)) (λ y g.
    found_bind _ (ended_sound y.1) (λ _ e.
    found (block_read b x y.0 y.1 h g e))))

-- ---- from a block to bytes

record StepParts (i k : ℕ) (l : Field) (m : ℕ) (v : Field) (p : ℕ) (xs : List Row) (at after : Cursor) : Type 0 where
  at₁ : Cursor
  at₂ : Cursor
  mid : Cursor
  own : Record 4 (make_raw i k (figure at.pos l) m (figure at₂.pos v) p) at at₁
  label : Took (text_of l) at₁ at₂
  value : Took (text_of v) at₂ mid
  rest : Front xs mid after

step_parts : (i k : ℕ) (l : Field) (m : ℕ) (v : Field) (p : ℕ) (xs : List Row) {at after : Cursor} → Front (step_row i k l m v p ∷ xs) at after → after.pos < 65536
    → i < 65536 → k < 65536 → m < 65536 → p < 2 ^ 32 → ((q : ℕ) → q < 65536 → figure q l < 65536) → ((q : ℕ) → q < 65536 → figure q v < 2 ^ 64) → StepParts i k l m v p xs at after
unfolding step_row
step_parts i k l m v p xs {at} {after} f low li lk lm lp ll lv =
    let r = step_row i k l m v p in
    let s : Between (r ∷ []) xs at after = split f in
    let low₁ = front_end s.left (omega (arith, s.right.pos)) in
    let x = make_raw i k (figure at.pos l) m (figure (at.pos + length (text_of l)) v) p in
    let narrow : Narrow 4 x = record { first = li; second = lk; label = ll at.pos (omega arith); span = lm; value = lv (at.pos + length (text_of l)) (omega arith); place = lp } in
    let q : Parts 4 x r at s.mid = split_one s.left (step_bytes i k l m v p at.pos x refl refl refl refl refl refl) narrow in
    let e : q.after_label.pos ≡ at.pos + length (text_of l) = q.label.pos ∙ ap (λ j. j + length (text_of l)) q.own.pos in
    record {
      at₁ = q.after_record;
      at₂ = q.after_label;
      mid = s.mid;
      own = rw e q.own;
      label = q.label;
      value = q.value;
      rest = s.right;
    }

record BareParts (i : ℕ) (xs : List Row) (at after : Cursor) : Type 0 where
  at₁ : Cursor
  own : Record 4 (make_raw i 0 0 0 0 0) at at₁
  rest : Front xs at₁ after

bare_parts : (i : ℕ) (xs : List Row) {at after : Cursor} → Front (bare_row i ∷ xs) at after → after.pos < 65536 → i < 65536 → BareParts i xs at after
unfolding figure text_of
bare_parts i xs {at} {after} f low li =
    let s = step_parts i 0 (number 0) 0 (number 0) 0 xs f low li (omega arith) (omega arith) (omega arith) (λ q l. omega arith) (λ q l. omega arith) in
    record {
      at₁ = s.at₁;
      own = s.own;
      rest = subst (λ c. Front xs c after) (sym (stays s.label ∙ stays s.value)) s.rest;
    }

going : {x : Raw} {at after : Cursor} → Record 4 x at after → (x.first ≡ 4 → ⊥) → stops at ≡ false
unfolding stops step_here raw_bytes little
going {x} r h = rw (record_complete r, r.recs, step_here) (ne_eqb x.first 4 h)

leaving : {x : Raw} {at after : Cursor} → Record 4 x at after → x.first ≡ 4 → stops at ≡ true
unfolding stops step_here raw_bytes little
leaving {x} r h = rw (record_complete r, r.recs, step_here) (eq-eqb x.first 4 h)

-- the first record of a statement that is read back: its path, and its value read with the count f
record Opened (f d : ℕ) (v : Value) (l : Path) (at after : Cursor) : Type 0 where
  x : Raw
  at₁ : Cursor
  at₂ : Cursor
  own : Record 4 x at at₁
  no_leave : x.first ≡ 4 → ⊥
  placed : x.place < 32768
  labelled : x.label ≡ at₁.pos
  label : Took (path_text l) at₁ at₂
  value : value_at f d x at₂ ≡ some (v, after)

set_complete : (f d p : ℕ) (l : Path) (b : Basic) {at after : Cursor} → Front (all_rows (value_steps (basic p b) l)) at after → after.pos < 65536 → length (all_rows (value_steps (basic p b) l)) < 65536
    → IsValueOf (basic p b) → d + brackets b ≤ 32 → 2 * length (all_rows (value_steps (basic p b) l)) + 1 ≤ suc f → Opened (suc f) d (basic p b) l at after
unfolding steps value_at when◌then◌else◌ ◌>>=◌ require figure text_of in_steps
set_complete f d p l b {at} {after} fr low n h w le =
    let below = elements item d b in
    let m = suc (length below) in
    let e : all_rows (set p l b ∷ []) ≡ step_row 6 (kind b) (text (path_text l)) m (content b) p ∷ below = set_rows p l b d in
    let k : length (all_rows (set p l b ∷ [])) ≡ m = ap length e in
    let fr' = subst (λ xs. Front xs at after) e fr in
    let s = step_parts 6 (kind b) (text (path_text l)) m (content b) p below fr' low (omega arith) (kind_below b) (omega arith) (omega (arith, h.0)) (λ q l. l) (λ q l. figure_below b q h.1 l) in
    record {
      x = make_raw 6 (kind b) at.pos m (figure s.at₂.pos (content b)) p;
      at₁ = s.at₁;
      at₂ = s.at₂;
      own = s.own;
      no_leave = λ z. omega arith;
      placed = h.0;
      labelled = sym s.own.pos;
      label = s.label;
      value = rw (le-leb 1 m (omega arith), basic_complete in_steps item steps_lawful b f d s.value s.rest low (omega arith) h.1 (open_within b d w) (omega arith));
    }

link_complete : (f d p : ℕ) (l k : Path) {at after : Cursor} → Front (all_rows (value_steps (link p k) l)) at after → after.pos < 65536 → IsValueOf (link p k) → Opened (suc f) d (link p k) l at after
unfolding steps all_rows step_rows value_at when◌then◌else◌ ◌>>=◌ figure text_of
link_complete f d p l k {at} {after} fr low h =
    let s = step_parts 8 0 (text (path_text l)) 0 (text (path_text k)) p [] fr low (omega arith) (omega arith) (omega arith) (omega (arith, h.0)) (λ q l. l) (λ q l. omega arith) in
    let x = make_raw 8 0 at.pos 0 s.at₂.pos p in
    let t : Took (path_text k) s.at₂ after = subst (λ c. Took (path_text k) s.at₂ c) (front_stays s.rest) s.value in
    record {
      x = x;
      at₁ = s.at₁;
      at₂ = s.at₂;
      own = s.own;
      no_leave = λ z. omega arith;
      placed = h.0;
      labelled = sym s.own.pos;
      label = s.label;
      value = rw (plain_complete 8 0 x refl refl refl h.0, field_complete exact_path k s.at₂.pos h.1 t refl);
    }

some_complete : (ps : Prototypes) → Some ps → some_prototype ps ≡ true
unfolding some_prototype
some_complete εᴾ h = absurd h
some_complete (named p r ps) h = refl
some_complete (block b ps) h = refl

extends_complete : (f d p : ℕ) (l : Path) (ps : Prototypes) {at after : Cursor} → Front (all_rows (value_steps (extends p ps) l)) at after → after.pos < 65536 → IsValueOf (extends p ps)
    → ((at : Cursor) → Front (all_rows (prototype_steps ps ++ (done ∷ []))) at after → prototypes_at f d at ≡ some (ps, after)) → Opened (suc f) d (extends p ps) l at after
unfolding steps all_rows step_rows value_at when◌then◌else◌ ◌>>=◌ figure text_of require
extends_complete f d p l ps {at} {after} fr low h again =
    let xs = all_rows (prototype_steps ps ++ (done ∷ [])) in
    let s = step_parts 1 0 (text (path_text l)) 0 (number 0) p xs fr low (omega arith) (omega arith) (omega arith) (omega (arith, h.0)) (λ q l. l) (λ q l. omega arith) in
    let x = make_raw 1 0 at.pos 0 0 p in
    let fr' : Front xs s.at₂ after = subst (λ c. Front xs c after) (sym (stays s.value)) s.rest in
    record {
      x = x;
      at₁ = s.at₁;
      at₂ = s.at₂;
      own = s.own;
      no_leave = λ z. omega arith;
      placed = h.0;
      labelled = sym s.own.pos;
      label = s.label;
      value = rw (plain_complete 1 0 x refl refl refl h.0, again s.at₂ fr', some_complete ps h.1);
    }

statement_complete : (f d : ℕ) (v : Value) (l : Path) (b : Block) {at mid after : Cursor} → IsPath l → Opened f d v l at mid → statements_at f d mid ≡ some (b, after)
    → statements_at (suc f) d at ≡ some (assign l v ∷ᴮ b, after)
unfolding statements_at when◌then◌else◌ ◌>>=◌ require
statement_complete f d v l b h o e =
    rw (going o.own o.no_leave, record_complete o.own, lt-ltb o.x.place 32768 o.placed, field_complete exact_path l o.x.label h o.label o.labelled, o.value, e)

named_complete : (f d p : ℕ) (l : Path) (ps : Prototypes) {at after : Cursor} → Front (all_rows (prototype_steps (named p l ps) ++ (done ∷ []))) at after → after.pos < 65536 → IsPlace p → IsPath l
    → ((at : Cursor) → Front (all_rows (prototype_steps ps ++ (done ∷ []))) at after → prototypes_at f d at ≡ some (ps, after)) → prototypes_at (suc f) d at ≡ some (named p l ps, after)
unfolding steps all_rows step_rows statements_at when◌then◌else◌ ◌>>=◌ figure text_of require
named_complete f d p l ps {at} {after} fr low hp hl again =
    let xs = all_rows (prototype_steps ps ++ (done ∷ [])) in
    let s = step_parts 2 0 (text (path_text l)) 0 (number 0) p xs fr low (omega arith) (omega arith) (omega arith) (omega arith) (λ q l. l) (λ q l. omega arith) in
    let x = make_raw 2 0 at.pos 0 0 p in
    let fr' : Front xs s.at₂ after = subst (λ c. Front xs c after) (sym (stays s.value)) s.rest in
    rw (record_complete s.own, plain_complete 2 0 x refl refl refl hp, field_complete exact_path l at.pos hl s.label (sym s.own.pos), again s.at₂ fr')

done_complete : (f d : ℕ) {at after : Cursor} → Front (all_rows (prototype_steps εᴾ ++ (done ∷ []))) at after → after.pos < 65536 → prototypes_at (suc f) d at ≡ some (εᴾ, after)
unfolding steps all_rows step_rows statements_at when◌then◌else◌ ◌>>=◌
done_complete f d {at} {after} fr low =
    let s = bare_parts 5 [] fr low (omega arith) in
    rw (record_complete s.own, bare_complete 5) (ap (λ c. some (εᴾ, c)) (front_stays s.rest))

block_complete : (f d : ℕ) (b : Block) (ps : Prototypes) {at after : Cursor} → Front (all_rows (prototype_steps (block b ps) ++ (done ∷ []))) at after → after.pos < 65536 → d < 32
    → ((at mid : Cursor) → Front (all_rows (steps b)) at mid → mid.pos < 65536 → stops mid ≡ true → statements_at f (suc d) at ≡ some (b, mid))
    → ((at : Cursor) → Front (all_rows (prototype_steps ps ++ (done ∷ []))) at after → prototypes_at f d at ≡ some (ps, after)) → prototypes_at (suc f) d at ≡ some (block b ps, after)
unfolding statements_at when◌then◌else◌ ◌>>=◌ require
block_complete f d b ps {at} {after} fr low ld inside again =
    let xs = all_rows (prototype_steps ps ++ (done ∷ [])) in
    let s = bare_parts 3 (all_rows (steps b) ++ (bare_row 4 ∷ xs)) (subst (λ ys. Front ys at after) (block_rows b ps) fr) low (omega arith) in
    let t : Between (all_rows (steps b)) (bare_row 4 ∷ xs) s.at₁ after = split s.rest in
    let u = bare_parts 4 xs t.right low (omega arith) in
    rw (record_complete s.own, bare_complete 3, lt-ltb d 32 ld, inside s.at₁ t.mid t.left (omega (arith, t.right.pos)) (leaving u.own refl), record_complete u.own, bare_complete 4, again u.at₁ u.rest)

-- ---- how many rows

empty_back : (f d : ℕ) {at after : Cursor} → Front (all_rows (steps εᴮ)) at after → stops after ≡ true → statements_at (suc f) d at ≡ some (εᴮ, after)
unfolding statements_at steps all_rows when◌then◌else◌
empty_back f d {at} {after} fr st =
    let e : at ≡ after = front_stays fr in
    subst (λ c. statements_at (suc f) d c ≡ some (εᴮ, after)) (sym e) (rw st)

value_some : (v : Value) (l : Path) → 1 ≤ length (all_rows (value_steps v l))
unfolding steps all_rows step_rows
value_some (basic p b) l = omega arith
value_some (link p k) l = omega arith
value_some (extends p ps) l = omega arith

extends_length : (p : ℕ) (l : Path) (ps : Prototypes) → length (all_rows (value_steps (extends p ps) l)) ≡ suc (length (all_rows (prototype_steps ps ++ (done ∷ []))))
unfolding steps all_rows step_rows
extends_length p l ps = refl

named_length : (p : ℕ) (l : Path) (ps : Prototypes) → length (all_rows (prototype_steps (named p l ps) ++ (done ∷ []))) ≡ suc (length (all_rows (prototype_steps ps ++ (done ∷ []))))
unfolding steps all_rows step_rows
named_length p l ps = refl

block_length : (b : Block) (ps : Prototypes) → length (all_rows (prototype_steps (block b ps) ++ (done ∷ []))) ≡ 2 + length (all_rows (steps b)) + length (all_rows (prototype_steps ps ++ (done ∷ [])))
block_length b ps = ap length (block_rows b ps) ∙ simp length-append (omega arith)

done_length : length (all_rows (done ∷ [])) ≡ 1
unfolding all_rows step_rows
done_length = refl

prototypes_some : (ps : Prototypes) → 1 ≤ length (all_rows (prototype_steps ps ++ (done ∷ [])))
prototypes_some ps = simp (all_rows-++, length-append, done_length) (omega arith)

mutual
  statements_back : (f d : ℕ) (b : Block) (at after : Cursor) → Front (all_rows (steps b)) at after → after.pos < 65536 → length (all_rows (steps b)) < 65536 → IsBlock b → d + openings b ≤ 32 → stops after ≡ true
      → 2 * length (all_rows (steps b)) + 2 ≤ f → statements_at f d at ≡ some (b, after)
  statements_back zero d b at after fr low n h w st le = absurd (omega arith)
  statements_back (suc f) d εᴮ at after fr low n h w st le = empty_back f d fr st
  statements_back (suc f) d (assign l v ∷ᴮ b) at after fr low n h w st le =
      let k = ap length (statement_rows l v b) ∙ length-append (all_rows (value_steps v l)) (all_rows (steps b)) in
      let s : Between (all_rows (value_steps v l)) (all_rows (steps b)) at after = split (subst (λ xs. Front xs at after) (statement_rows l v b) fr) in
      let o = value_back f d v l at s.mid s.left (omega (arith, s.right.pos)) (omega arith) h.0.1 (omega arith) (omega (arith, value_some v l)) in
      statement_complete f d v l b h.0.0 o (statements_back f d b s.mid after s.right low (omega arith) h.1 (omega arith) st (omega (arith, value_some v l)))

  value_back : (f d : ℕ) (v : Value) (l : Path) (at after : Cursor) → Front (all_rows (value_steps v l)) at after → after.pos < 65536 → length (all_rows (value_steps v l)) < 65536 → IsValueOf v → d + openings_v v ≤ 32
      → 2 * length (all_rows (value_steps v l)) + 1 ≤ f → Opened f d v l at after
  value_back zero d v l at after fr low n h w le = absurd (omega arith)
  value_back (suc f) d (basic p b) l at after fr low n h w le = set_complete f d p l b fr low n h w le
  value_back (suc f) d (link p k) l at after fr low n h w le = link_complete f d p l k fr low h
  value_back (suc f) d (extends p ps) l at after fr low n h w le =
      let k = extends_length p l ps in
      extends_complete f d p l ps fr low h (λ at fr. prototypes_back f d ps at after fr low (omega arith) h.2 w (omega arith))

  prototypes_back : (f d : ℕ) (ps : Prototypes) (at after : Cursor) → Front (all_rows (prototype_steps ps ++ (done ∷ []))) at after → after.pos < 65536 → length (all_rows (prototype_steps ps ++ (done ∷ []))) < 65536
      → ArePrototypes ps → d + openings_p ps ≤ 32 → 2 * length (all_rows (prototype_steps ps ++ (done ∷ []))) ≤ f → prototypes_at f d at ≡ some (ps, after)
  prototypes_back zero d ps at after fr low n h w le = absurd (omega (arith, prototypes_some ps))
  prototypes_back (suc f) d εᴾ at after fr low n h w le = done_complete f d fr low
  prototypes_back (suc f) d (named p l ps) at after fr low n h w le =
      let k = named_length p l ps in
      named_complete f d p l ps fr low h.0 h.1 (λ at fr. prototypes_back f d ps at after fr low (omega arith) h.2 w (omega arith))
  prototypes_back (suc f) d (block b ps) at after fr low n h w le =
      let k = block_length b ps in
      let some = prototypes_some ps in
      block_complete f d b ps fr low (omega arith)
      (λ at mid fr low st. statements_back f (suc d) b at mid fr low (omega arith) h.0 (omega arith) st (omega arith))
      (λ at fr. prototypes_back f d ps at after fr low (omega arith) h.1 (omega arith) (omega arith))

empty_stops : (at : Cursor) → at.recs ≡ [] → stops at ≡ true
unfolding stops
empty_stops at e = rw e

-- how long a step list is
pub steps_length : {b : List ℕ} {d : Block} → IsStepList b d → length b ≡ 24 + 20 * length (all_rows (steps d)) + length (texts (all_rows (steps d)))
unfolding step_list headed
steps_length {b} {d} h =
    let xs = all_rows (steps d) in
    let k : length (records 0 xs) ≡ 20 * length xs = records_length 4 xs 0 (steps_lasts (steps d)) in
    ap length (h.laid_out ∙ laid_out_headed 1 20 xs k) ∙ simp (length-append, length_little, k) (omega arith)

pub steps_complete : (b : List ℕ) (d : Block) → IsStepList b d → block_of b ≡ some d
unfolding block_of step_list ◌>>=◌
steps_complete b d h =
    let xs = all_rows (steps d) in
    let k : length (records 0 xs) ≡ 20 * length xs = records_length 4 xs 0 (steps_lasts (steps d)) in
    let e : b ≡ headed 1 (length xs) (24 + 20 * length xs) (records 0 xs) (texts xs) = h.laid_out ∙ laid_out_headed 1 20 xs k in
    let start : Cursor = record { recs = records 0 xs; text = texts xs; pos = 0 } in
    let stop : Cursor = record { recs = []; text = []; pos = 0 + length (texts xs) } in
    let fr : Front xs start stop = record { recs = sym (append-nil (records 0 xs)); text = sym (append-nil (texts xs)); pos = refl } in
    rw (
      e,
      header_complete 1 20 1024 32768 (length xs) (records 0 xs) (texts xs) (omega arith) k h.listed.count (omega arith) h.listed.text (omega (arith, h.listed.count, h.listed.text)),
      statements_back (2 * length (records 0 xs) + 2) 0 d start stop fr (omega (arith, h.listed.text)) (omega (arith, h.listed.count)) h.blocks (omega (arith, h.nested)) (empty_stops stop refl) (omega arith),
      ended_complete stop refl refl,
    )

-- ---- the theorems

-- `block_of b` is d exactly when b is the step list of d
pub steps_exact : (b : List ℕ) (d : Block) → (block_of b ≡ some d) ↔ IsStepList b d
steps_exact b d = (λ e. found_some (block_sound b) e, steps_complete b d)

-- two blocks that are as they should be, with one step list, are one
pub steps_injective : (d e : Block) (b : List ℕ) → IsStepList b d → IsStepList b e → d ≡ e
steps_injective d e b h g = let p = steps_complete b d h in let q = steps_complete b e g in cc
