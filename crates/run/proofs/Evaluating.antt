-- Statements and prototypes, from what the code's calls answer. Assumes nothing.
use Prim.Native.Nat.{ℕ, suc, ◌+◌, ◌-◌, ◌*◌, ◌^◌, ◌≤◌, ◌<◌}
use native.Mathlib.Omega.{arith}
use native.Mathlib.Nat.{add-zero}
use mathlib.Core.Logic.{inl}
use mathlib.Core.Path.{◌≡◌, refl, sym, ap, ◌∙◌, subst}
use mathlib.Core.List.{List, [], ◌∷◌, ◌++◌, append_assoc, append-nil}
use lib.ListN.{length, drop, get_or, length-append, length-drop}
use lib.Seq.{drop-drop, drop_at}
use Rattle.paper.specs.Answer.{Answer, ok}
use Rattle.paper.specs.Syntax.{Name, Path, Basic, boolean, null, integer, decimal, string, reference, vector, Basics, εⱽ, ◌∷ⱽ◌, Value, basic, link, extends, Prototypes}
use Rattle.paper.specs.Store.{Store}
use Rattle.paper.specs.Layout.{Row, little, name_text, path_text, names_text, elements, each, text_of, row_text, texts, figure, records, row_bytes}
use Rattle.paper.specs.Steps as Steps
use Rattle.paper.specs.Steps.{Step, steps, statement_steps, value_steps, prototype_steps}
use Rattle.paper.specs.StepLayout.{step_row, item, step_rows, all_rows}
use Rattle.paper.specs.WellFormed.{IsPath, IsPlace, IsBasic, IsValueOf}
use Rattle.theorems.proofs.Decoded.Parts.{length_little}
use Rattle.paper.specs.DecodeAt.{word}
use Rattle.memory.specs.Memory.{word_at, stored}
use Rattle.memory.proofs.Laws.{word_in, same_word, byte_stored, length_stored, word_little}
use Rattle.rows.specs.View.{label_text}
use Rattle.refusal.specs.declared.Reason.{Reason}
use Rattle.refusal.specs.declared.Refusal.{Refusal}
use Rattle.run.specs.declared.size.Size.{Size}
use Rattle.run.specs.declared.block.Next.{Next}
use Rattle.std.specs.Prelude.{Result, Ok, Err}
use Rattle.run.specs.Paths.{names}
use Rattle.run.specs.Puts.{Held, RanIs}
use Rattle.run.specs.Listed.{Lies, step_field, path_count, places}
use Rattle.run.specs.Stepping.{scope_in, Target, NamesPut}
use Rattle.run.specs.Blocks.{Placed, KeptTo, WentIs, One.reference}
use Rattle.run.proofs.Lying.{Small, lies_first, lies_label, small_make, small_link, small_set}
use Rattle.run.proofs.Placing.{length_places, path_placed, last_placed, names_kept, names_joined}
use Rattle.run.proofs.Stepping.{word_drop}

-- ---- rows of steps

pub all_rows-++ : (is js : List Step) → all_rows (is ++ js) ≡ all_rows is ++ all_rows js
unfolding all_rows
all_rows-++ [] js = refl
all_rows-++ (i ∷ is) js = ap (λ r. step_rows i ++ r) (all_rows-++ is js) ∙ sym (append_assoc (step_rows i) (all_rows is) (all_rows js))

pub one_step : (i : Step) → all_rows (i ∷ []) ≡ step_rows i
unfolding all_rows
one_step i = append-nil (step_rows i)

-- every record of a list has 20 bytes
abbrev pub Long : List Row → Type 0
Long [] = Unit {0}
Long (x ∷ xs) = (length x.last ≡ 4) × Long xs

pub long-++ : (xs ys : List Row) → Long xs → Long ys → Long (xs ++ ys)
long-++ [] ys h g = g
long-++ (x ∷ xs) ys h g = (h.0, long-++ xs ys h.1 g)

mutual
  unfolding elements each item step_row

  long_elements : (d : ℕ) (b : Basic) → Long (elements item d b)
  long_elements d (boolean b) = tt
  long_elements d null = tt
  long_elements d (integer z) = tt
  long_elements d (decimal t) = tt
  long_elements d (string t) = tt
  long_elements d (reference r) = tt
  long_elements d (vector bs) = long_each (suc d) bs

  long_each : (d : ℕ) (bs : Basics) → Long (each item d bs)
  long_each d εⱽ = tt
  long_each d (b ∷ⱽ bs) = (length_little 4 0, long-++ (elements item d b) (each item d bs) (long_elements d b) (long_each d bs))

pub long_set : (p : ℕ) (r : Path) (b : Basic) → Long (step_rows (Steps.set p r b))
unfolding step_rows step_row
long_set p r b = (length_little 4 p, long_elements 0 b)

long_step : (i : Step) → Long (step_rows i)
unfolding step_rows step_row
long_step (Steps.make p r) = (length_little 4 p, tt)
long_step (Steps.take p r) = (length_little 4 p, tt)
long_step Steps.enter = (length_little 4 0, tt)
long_step Steps.leave = (length_little 4 0, tt)
long_step Steps.done = (length_little 4 0, tt)
long_step (Steps.set p r b) = long_set p r b
long_step (Steps.link p r l) = (length_little 4 p, tt)

pub long_steps : (is : List Step) → Long (all_rows is)
unfolding all_rows
long_steps [] = tt
long_steps (i ∷ is) = long-++ (step_rows i) (all_rows is) (long_step i) (long_steps is)

length_record : (p : ℕ) (x : Row) → length x.last ≡ 4 → length (row_bytes p x) ≡ 20
unfolding row_bytes
length_record p x h = simp (length-append, length_little) (omega arith)

length_records : (p : ℕ) (xs ys : List Row) → Long xs → 20 * length xs ≤ length (records p (xs ++ ys))
unfolding records
length_records p [] ys h = omega arith
length_records p (x ∷ xs) ys h =
    let a = length-append (row_bytes p x) (records (p + length (row_text x)) (xs ++ ys)) in
    omega (arith, a, length_record p x h.0, length_records (p + length (row_text x)) xs ys h.1)

-- rows that stand in a list are no more than it has records
pub lies_few : {list t : List ℕ} {i q : ℕ} (xs ys : List Row) → Lies list t i q (xs ++ ys) → Long xs → length list ≤ 20480 → i ≤ 1024 → i + length xs ≤ 1024
lies_few {list} {t} {i} {q} xs ys L h l li =
    let a : length (drop (i * 20) list) ≡ length (records q (xs ++ ys)) = ap length L.rows in
    omega (arith, a, length-drop (i * 20) list, length_records q xs ys h, l, li)

-- what stands behind rows that stand in a list
pub lies_pass : {list t : List ℕ} {i q : ℕ} (xs ys : List Row) → Lies list t i q (xs ++ ys) → Long xs → (q' : ℕ) × Lies list t (i + length xs) q' ys
unfolding records texts
lies_pass {list} {t} {i} {q} [] ys L h = (q, subst (λ j. Lies list t j q ys) (sym (add-zero i)) L)
lies_pass {list} {t} {i} {q} (x ∷ xs) ys L h =
    let e₁ : (i + 1) * 20 ≡ i * 20 + 20 = omega arith in
    let e₂ : drop ((i + 1) * 20) list ≡ records (q + length (row_text x)) (xs ++ ys) =
    ap (λ j. drop j list) e₁ ∙ sym (drop-drop 20 (i * 20) list) ∙ ap (drop 20) L.rows ∙ drop_at (row_bytes q x) (records (q + length (row_text x)) (xs ++ ys)) 20 (length_record q x h.0) in
    let e₃ : drop (q + length (row_text x)) t ≡ texts (xs ++ ys) = sym (drop-drop (length (row_text x)) q t) ∙ ap (drop (length (row_text x))) L.text_there ∙ drop_at (row_text x) (texts (xs ++ ys)) (length (row_text x)) refl in
    let R = lies_pass {list = list} {t = t} {i = i + 1} {q = q + length (row_text x)} xs ys (record { rows = e₂; text_there = e₃ }) h.1 in
    let e₄ : i + 1 + length xs ≡ i + suc (length xs) = omega arith in
    (R.0, subst (λ j. Lies list t j R.0 ys) e₄ R.1)

-- ---- a step's answer, with its place

pub placed_is : (p : ℕ) (ys : ℕ → List Row) (next : ℕ) (a : Answer Store) (r : Result Size Reason) (p₀ : ℕ) → p₀ ≡ p → RanIs p ys a r → WentIs ys next a (Placed p₀ next r)
placed_is p ys next a (Ok size) p₀ e h = (h.0, h.1, refl, h.2)
placed_is p ys next a (Err reason) p₀ e h = rw e h

-- the run goes on at record j, with a store of that size
abbrev pub next_at : ℕ → Size → Result Next Refusal
next_at j size = Ok (record { index = j; size = size })

-- what is known where the run goes on
pub record GoesOn (ys : ℕ → List Row) (next j : ℕ) (size : Size) (a : Answer Store) : Type 0 where
  pub store : Store
  pub is : a ≡ ok store
  pub at : j ≡ next
  pub held : Held (ys size.rows) size.text store

pub goes_on : (ys : ℕ → List Row) (next : ℕ) (a : Answer Store) (j : ℕ) (size : Size) → WentIs ys next a (next_at j size) → GoesOn ys next j size a
goes_on ys next a j size W = record { store = W.0; is = W.1; at = W.2; held = W.3 }

-- ---- the first record of a statement

-- a statement's step, by its value
abbrev pub code : Value → ℕ
code (basic p b) = 6
code (link p l) = 8
code (extends p ps) = 1

abbrev pub place : Value → ℕ
place (basic p b) = p
place (link p l) = p
place (extends p ps) = p

pub record First (list t : List ℕ) (i q : ℕ) (r : Path) (v : Value) : Type 0 where
  pub step : step_field 2 list i 0 ≡ code v
  pub path : step_field 2 list i 4 ≡ q
  pub place_is : step_field 4 list i 16 ≡ place v
  pub low : q < 32768
  pub more : List ℕ
  pub text_is : drop q t ≡ path_text r ++ more

pub low_place : (t : List ℕ) (q : ℕ) (r : Path) (more : List ℕ) → length t ≤ 32768 → drop q t ≡ path_text r ++ more → q < 32768
unfolding path_text
low_place t q r more h e = let a : length (drop q t) ≡ suc (length (names_text r ++ more)) = ap length e in omega (arith, length-drop q t, a, h)

-- a record's place is the one that its bytes say
pub place_small : (x : Row) (p : ℕ) → x.last ≡ little 4 p → p < 32768 → (S : Small x) → S.place ≡ p
place_small x p e h S =
    let k : 256 ^ 4 ≡ 4294967296 = refl in
    sym (word_little 4 S.place (omega (arith, S.low, k))) ∙ ap (λ b. word 4 b 0) (sym S.last ∙ e) ∙ word_little 4 p (omega (arith, h, k))

module _ (list t : List ℕ) (i q : ℕ) (rest : List Row) (h : length t ≤ 32768) (hl : length list ≤ 20480) (hi : i < 1024) where
  first_of_set : (p : ℕ) (r : Path) (b : Basic) → IsPlace p → IsBasic b → Lies list t i q (step_rows (Steps.set p r b) ++ rest) → First list t i q r (basic p b)
  unfolding step_rows step_row text_of figure
  first_of_set p r b hp hb L =
      let few : i + length (step_rows (Steps.set p r b)) ≤ 1024 = lies_few (step_rows (Steps.set p r b)) rest L (long_set p r b) hl (omega arith) in
      let S = (small_set p r b hp hb (omega (arith, few))).0 in
      let F = lies_first L S h in
      let e = lies_label L in
      record { step = F.step; path = F.path; place_is = F.place ∙ place_small _ p refl hp S; low = low_place t q r _ h e; more = _; text_is = e }

  first_of_link : (p : ℕ) (r l : Path) → IsPlace p → Lies list t i q (step_rows (Steps.link p r l) ++ rest) → First list t i q r (link p l)
  unfolding step_rows step_row text_of figure
  first_of_link p r l hp L =
      let S = (small_link p r l hp).0 in
      let F = lies_first L S h in
      let e = lies_label L in
      record { step = F.step; path = F.path; place_is = F.place ∙ place_small _ p refl hp S; low = low_place t q r _ h e; more = _; text_is = e }

  pub first_of_make : (p : ℕ) (r : Path) (ps : Prototypes) → IsPlace p → Lies list t i q (step_rows (Steps.make p r) ++ rest) → First list t i q r (extends p ps)
  unfolding step_rows step_row text_of figure
  first_of_make p r ps hp L =
      let S = (small_make p r hp).0 in
      let F = lies_first L S h in
      let e = lies_label L in
      record { step = F.step; path = F.path; place_is = F.place ∙ place_small _ p refl hp S; low = low_place t q r _ h e; more = _; text_is = e }

-- the rows of a statement begin with its step's
pub set_rows : (p : ℕ) (r : Path) (b : Basic) (rest : List Row) → all_rows (value_steps (basic p b) r) ++ rest ≡ step_rows (Steps.set p r b) ++ rest
unfolding value_steps
set_rows p r b rest = ap (λ x. x ++ rest) (one_step (Steps.set p r b))

pub link_rows : (p : ℕ) (r l : Path) (rest : List Row) → all_rows (value_steps (link p l) r) ++ rest ≡ step_rows (Steps.link p r l) ++ rest
unfolding value_steps
link_rows p r l rest = ap (λ x. x ++ rest) (one_step (Steps.link p r l))

pub make_rows : (p : ℕ) (r : Path) (ps : Prototypes) (rest : List Row) → all_rows (value_steps (extends p ps) r) ++ rest ≡ step_rows (Steps.make p r) ++ (all_rows (prototype_steps ps ++ (Steps.done ∷ [])) ++ rest)
unfolding value_steps all_rows
make_rows p r ps rest = append_assoc (step_rows (Steps.make p r)) (all_rows (prototype_steps ps ++ (Steps.done ∷ []))) rest

pub first : (list t : List ℕ) (i q : ℕ) (r : Path) (v : Value) (rest : List Row) → length t ≤ 32768 → length list ≤ 20480 → i < 1024 → IsValueOf v → Lies list t i q (all_rows (value_steps v r) ++ rest) → First list t i q r v
first list t i q r (basic p b) rest h hl hi g L = first_of_set list t i q rest h hl hi p r b g.0 g.1 (subst (Lies list t i q) (set_rows p r b rest) L)
first list t i q r (link p l) rest h hl hi g L = first_of_link list t i q rest h hl hi p r l g.0 (subst (Lies list t i q) (link_rows p r l rest) L)
first list t i q r (extends p ps) rest h hl hi g L = first_of_make list t i q _ h hl hi p r ps g.0 (subst (Lies list t i q) (make_rows p r ps rest) L)

-- ---- the target's names

pub record Ends (r : Path) : Type 0 where
  pub front : Path
  pub last : Name
  pub is : r ≡ front ++ (last ∷ [])

pub ends : (r : Path) → 1 ≤ length r → Ends r
ends [] h = absurd (omega arith)
ends (x ∷ []) h = record { front = []; last = x; is = refl }
ends (x ∷ (y ∷ r)) h = let E = ends (y ∷ r) (omega arith) in record { front = x ∷ E.front; last = E.last; is = ap (λ z. x ∷ z) E.is }

word_stored : (n : ℕ) (s : List ℕ) (at : ℕ) (b : List ℕ) (x : ℕ) → at + length b ≤ length s → x + n ≤ length b → word_at n (stored s at b) (at + x) ≡ word_at n b x
word_stored n s at b x h l =
    word_in n (stored s at b) (at + x) (rw (length_stored s at b) (omega arith))
    ∙ same_word n (stored s at b) b (at + x) x (λ k m. let q : at + x + k ≡ at + (x + k) = omega arith in ap (λ j. get_or (stored s at b) j 0) q ∙ byte_stored s at b (x + k) h (omega arith))
    ∙ sym (word_in n b x l)

module _ (t u s s₁ : List ℕ) (k m q : ℕ) (r : Path) (v : Value) (list : List ℕ) (i : ℕ) (few : k ≤ 32) (room : 65536 ≤ length s) (h : length t ≤ 32768) (P : IsPath r) (F : First list t i q r v)
    (N : NamesPut t (step_field 2 list i 4) s (32768 + k * 2) s₁ m) where
  at_q : NamesPut t q s (32768 + k * 2) s₁ m
  at_q = subst (λ p. NamesPut t p s (32768 + k * 2) s₁ m) F.path N

  placed_path : (path_count t q ≡ length r) × ((z : List ℕ) → names t u (places t (q + 1) (length r) ++ z) (length r) ≡ r)
  placed_path = path_placed t u q r F.more P h F.text_is

  pub target_count : m ≡ length r
  target_count = at_q.count (omega (arith, F.low)) ∙ placed_path.0

  stored_is : s₁ ≡ stored s (32768 + k * 2) (places t (q + 1) m)
  stored_is = at_q.is

  places_length : length (places t (q + 1) m) ≡ m * 2
  places_length = length_places t (q + 1) m

  names_of_places : names t u (places t (q + 1) m) m ≡ r
  names_of_places = (λ j. names t u (places t (q + 1) (target_count j)) (target_count j)) ∙ ap (λ x. names t u x (length r)) (sym (append-nil (places t (q + 1) (length r)))) ∙ placed_path.1 []

  target_names : names t u (drop 32768 s₁) (k + m) ≡ scope_in t u s k ++ r
  target_names =
      let l = at_q.few in
      ap (λ x. names t u (drop 32768 x) (k + m)) stored_is
      ∙ names_joined t u s 32768 k (32768 + k * 2) (places t (q + 1) m) m refl places_length (omega (arith, places_length, l)) ∙ ap (λ x. scope_in t u s k ++ x) names_of_places

  -- the target, as scope and reference joined
  pub record Joined : Type 0 where
    pub front : Path
    pub last : Name
    pub is : scope_in t u s k ++ r ≡ front ++ (last ∷ [])
    pub target : Target t u (drop 32768 s₁) (k + m) front last

  pub joined : Joined
  joined =
      let E = ends r P.some in
      let l = at_q.few in
      let c = target_count in
      let lp = places_length in
      let e₁ : scope_in t u s k ++ r ≡ (scope_in t u s k ++ E.front) ++ (E.last ∷ []) = ap (λ x. scope_in t u s k ++ x) E.is ∙ sym (append_assoc (scope_in t u s k) E.front (E.last ∷ [])) in
      let A = last_placed t u q r E.front E.last F.more [] E.is h F.text_is in
      let j : (k + m - 1) * 2 ≡ k * 2 + (m - 1) * 2 = omega (arith, c, P.some) in
      let b : 32768 + (k + m - 1) * 2 ≡ 32768 + k * 2 + (m - 1) * 2 = omega (arith, c, P.some) in
      let ls : length s₁ ≡ length s = ap length stored_is ∙ length_stored s (32768 + k * 2) (places t (q + 1) m) in
      let w : word_at 2 (drop 32768 s₁) ((k + m - 1) * 2) ≡ word_at 2 (places t (q + 1) (length r) ++ []) ((length r - 1) * 2) =
      word_drop 2 s₁ 32768 ((k + m - 1) * 2) (omega (arith, ls, few, l, c, P.some, room)) ∙ (λ x. word_at 2 (stored_is x) (b x))
      ∙ word_stored 2 s (32768 + k * 2) (places t (q + 1) m) ((m - 1) * 2) (omega (arith, lp, few, l, room)) (omega (arith, lp, c, P.some))
      ∙ (λ x. word_at 2 (places t (q + 1) (c x)) ((c x - 1) * 2)) ∙ ap (λ x. word_at 2 x ((length r - 1) * 2)) (sym (append-nil (places t (q + 1) (length r)))) in
      record {
        front = scope_in t u s k ++ E.front;
        last = E.last;
        is = e₁;
        target = record { names_are = target_names ∙ e₁; low = subst (λ x. x < 32768) (sym w) A.low; label = subst (λ x. label_text t u x ≡ name_text E.last) (sym w) A.label };
      }

pub names_before : (t s s₁ : List ℕ) (p k m : ℕ) → NamesPut t p s (32768 + k * 2) s₁ m → k ≤ 32 → 65536 ≤ length s → KeptTo k s s₁
names_before t s s₁ p k m N few room x u =
    ap (λ y. names x u (drop 32768 y) k) N.is ∙ names_kept x u s 32768 k (32768 + k * 2) (places t (p + 1) m) (inl (omega arith)) (omega arith)
