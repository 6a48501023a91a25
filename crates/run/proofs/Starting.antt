-- From a step list and a table, as the readers find them, to the records and rows that a run begins with. Assumes nothing.
use Prim.Native.Nat.{ℕ, suc, ◌+◌, ◌*◌, ◌≤◌}
use native.Mathlib.Omega.{arith}
use native.Mathlib.Nat.{mul-le-mul_right}
use mathlib.Core.Path.{◌≡◌, refl, sym, ◌∙◌, ap}
use mathlib.Core.List.{List, [], ◌∷◌, ◌++◌, append_assoc, append-nil}
use lib.ListN.{length, drop, length-append}
use lib.Seq.{drop_at}
use Rattle.paper.specs.Syntax.{Basic, boolean, null, integer, decimal, string, reference, vector, Basics, εⱽ, ◌∷ⱽ◌, Block}
use Rattle.paper.specs.Store.{Store}
use Rattle.paper.specs.Layout.{Row, little, elements, each, rows, texts, records, laid_out, table}
use Rattle.paper.specs.Steps.{Step, make, take, enter, leave, done, set, link, steps}
use Rattle.paper.specs.StepLayout.{step_row, item, step_rows, all_rows, step_list}
use Rattle.paper.specs.WellFormed.{IsTable, IsStepList}
use Rattle.paper.specs.TableDecoder.{in_table}
use Rattle.paper.specs.StepDecoder.{in_steps}
use Rattle.theorems.proofs.Decoded.Parts.{length_little}
use Rattle.theorems.proofs.Decoded.Header.{Lasts, lasts-++, records_length}
use Rattle.memory.specs.Memory.{word_at, part_at}
use Rattle.forms.specs.declared.form.Form.TheVariants.{Table, Steps}
use Rattle.forms.specs.Form.{form_of, size_of}
use Rattle.forms.specs.Header.{records_of, text_of}
use Rattle.table.proofs.Inside.{rows_lasts}
use Rattle.rows.specs.View.{view}
use Rattle.rows.specs.Search.{text_bytes}
use Rattle.rows.proofs.Trees.{text_bytes_flat}
use Rattle.load.specs.Load.{loads, load_stored}
use Rattle.load.proofs.Stores.{load_count, load_view}
use Rattle.load.proofs.Values.{word_there, part_there}
use Rattle.run.specs.Listed.{Lies}
use Rattle.run.specs.Puts.{Held}

-- ---- rows of step lists end in a place of four bytes

mutual
  unfolding elements each item step_row

  lasts_elements : (b : Basic) (d : ℕ) → Lasts 4 (elements item d b)
  lasts_elements (boolean b) d = tt
  lasts_elements null d = tt
  lasts_elements (integer z) d = tt
  lasts_elements (decimal x) d = tt
  lasts_elements (string x) d = tt
  lasts_elements (reference r) d = tt
  lasts_elements (vector bs) d = lasts_each bs (suc d)

  lasts_each : (bs : Basics) (d : ℕ) → Lasts 4 (each item d bs)
  lasts_each εⱽ d = tt
  lasts_each (b ∷ⱽ bs) d = (length_little 4 0, lasts-++ 4 (elements item d b) (each item d bs) (lasts_elements b d) (lasts_each bs d))

step_lasts : (i : Step) → Lasts 4 (step_rows i)
unfolding step_rows step_row
step_lasts (make p r) = (length_little 4 p, tt)
step_lasts (take p r) = (length_little 4 p, tt)
step_lasts enter = (length_little 4 0, tt)
step_lasts leave = (length_little 4 0, tt)
step_lasts done = (length_little 4 0, tt)
step_lasts (set p r b) = (length_little 4 p, lasts_elements b 0)
step_lasts (link p r l) = (length_little 4 p, tt)

all_lasts : (is : List Step) → Lasts 4 (all_rows is)
unfolding all_rows
all_lasts [] = tt
all_lasts (i ∷ is) = lasts-++ 4 (step_rows i) (all_rows is) (step_lasts i) (all_lasts is)

-- ---- where the records and the text stand

module _ (f z : ℕ) (xs : List Row) (e : length (records 0 xs) ≡ z * length xs) (small : z ≤ 20) (few : length xs ≤ 1024) (light : length (texts xs) ≤ 32768) where
  abbrev body : List ℕ
  body = records 0 xs

  abbrev tail : List ℕ
  tail = texts xs

  abbrev place : ℕ
  place = 24 + length body

  abbrev four : List ℕ
  four = little 4 f ++ little 4 (place + length tail)

  abbrev six : List ℕ
  six = four ++ (little 4 (length xs) ++ (little 4 24 ++ (little 4 (length tail) ++ little 4 place)))

  body_small : length body ≤ 20480
  body_small = omega (arith, e, mul-le-mul_right (length xs) small)

  behind : (a b : List ℕ) (k : ℕ) → laid_out f xs ≡ a ++ b → length a ≡ k → drop k (laid_out f xs) ≡ b
  behind a b k q l = ap (drop k) q ∙ drop_at a b k l

  long : length (laid_out f xs) ≡ 24 + (length body + length tail)
  unfolding laid_out
  long = simp (length-append, length_little) (omega arith)

  count : word_at 4 (laid_out f xs) 8 ≡ length xs
  unfolding laid_out
  count =
      word_there 4 (length xs) (laid_out f xs) (little 4 24 ++ (little 4 (length tail) ++ (little 4 place ++ (body ++ tail)))) 8 (omega arith) (omega arith)
      (behind four (little 4 (length xs) ++ (little 4 24 ++ (little 4 (length tail) ++ (little 4 place ++ (body ++ tail))))) 8 (simp append_assoc) (simp (length-append, length_little)))

  size : word_at 4 (laid_out f xs) 16 ≡ length tail
  unfolding laid_out
  size =
      word_there 4 (length tail) (laid_out f xs) (little 4 place ++ (body ++ tail)) 16 (omega arith) (omega arith)
      (behind (four ++ (little 4 (length xs) ++ little 4 24)) (little 4 (length tail) ++ (little 4 place ++ (body ++ tail))) 16 (simp append_assoc) (simp (length-append, length_little)))

  starts : word_at 4 (laid_out f xs) 20 ≡ place
  unfolding laid_out
  starts =
      word_there 4 place (laid_out f xs) (body ++ tail) 20 (omega arith) (omega (arith, body_small))
      (behind (four ++ (little 4 (length xs) ++ (little 4 24 ++ little 4 (length tail)))) (little 4 place ++ (body ++ tail)) 20 (simp append_assoc) (simp (length-append, length_little)))

  recs_there : part_at (laid_out f xs) 24 (z * word_at 4 (laid_out f xs) 8) ≡ body
  unfolding laid_out
  recs_there =
      ap (λ n. part_at (laid_out f xs) 24 (z * n)) count
      ∙ part_there (laid_out f xs) body tail 24 (z * length xs) (omega (arith, long)) e (behind six (body ++ tail) 24 (simp append_assoc) (simp (length-append, length_little)))

  text_there : part_at (laid_out f xs) (word_at 4 (laid_out f xs) 20) (word_at 4 (laid_out f xs) 16) ≡ tail
  unfolding laid_out
  text_there =
      ap (λ n. part_at (laid_out f xs) n (word_at 4 (laid_out f xs) 16)) starts
      ∙ ap (part_at (laid_out f xs) place) size
      ∙ part_there (laid_out f xs) tail [] place (length tail) (omega (arith, long)) refl
      (behind (six ++ body) tail place (simp append_assoc) (simp (length-append, length_little)) ∙ sym (append-nil tail))

-- ---- a step list

module _ (b : List ℕ) (d : Block) (h : IsStepList b d) where
  list_long : length (records 0 (all_rows (steps d))) ≡ 20 * length (all_rows (steps d))
  list_long = records_length 4 (all_rows (steps d)) 0 (all_lasts (steps d))

  list_records : records_of Steps b ≡ records 0 (all_rows (steps d))
  unfolding records_of size_of form_of in_steps step_list
  list_records = rw h.laid_out (recs_there 1 20 (all_rows (steps d)) list_long (omega arith) h.listed.count h.listed.text)

  list_text : text_of b ≡ texts (all_rows (steps d))
  unfolding text_of step_list
  list_text = rw h.laid_out (text_there 1 20 (all_rows (steps d)) list_long (omega arith) h.listed.count h.listed.text)

  pub list_lies : Lies (records_of Steps b) (text_of b) 0 0 (all_rows (steps d) ++ [])
  list_lies = rw append-nil (record { rows = list_records; text_there = list_text })

  pub list_few : length (records_of Steps b) ≤ 20480
  list_few = omega (arith, ap length list_records, list_long, h.listed.count)

  pub list_light : length (text_of b) ≤ 32768
  list_light = omega (arith, ap length list_text, h.listed.text)

-- ---- a table

module _ (b : List ℕ) (s : Store) (h : IsTable b s) where
  table_long : length (records 0 (rows 1 s)) ≡ 16 * length (rows 1 s)
  table_long = records_length 0 (rows 1 s) 0 (rows_lasts s 1)

  table_records : records_of Table b ≡ records 0 (rows 1 s)
  unfolding records_of size_of form_of in_table table
  table_records = rw h.laid_out (recs_there 2 16 (rows 1 s) table_long (omega arith) h.held.bounds.nodes (omega (arith, h.held.bounds.text)))

  table_text : text_of b ≡ texts (rows 1 s)
  unfolding text_of table
  table_text = rw h.laid_out (text_there 2 16 (rows 1 s) table_long (omega arith) h.held.bounds.nodes (omega (arith, h.held.bounds.text)))

  pub table_light : length (text_of b) ≤ 16384
  table_light = omega (arith, ap length table_text, h.held.bounds.text)

  module _ (w : List ℕ) (room : 65536 ≤ length w) (n : ℕ) (en : n ≡ loads (records_of Table b) w) where
    fits : length (records_of Table b) ≤ length w
    fits = omega (arith, ap length table_records, table_long, h.held.bounds.nodes)

    rows_many : n ≡ length (rows 1 s)
    rows_many = en ∙ load_count s (records_of Table b) (text_of b) w h.held.store h.held.bounds.depth h.held.bounds.nodes h.held.bounds.text table_records table_text fits

    pub rows_few : n ≤ 1024
    rows_few = omega (arith, rows_many, h.held.bounds.nodes)

    -- whatever the first text is
    pub table_held : (t w₁ : List ℕ) → w₁ ≡ load_stored (records_of Table b) (text_of b) w → Held (view t (text_of b) w₁ n) (length (text_of b)) s
    table_held t w₁ e =
        let v = load_view s (records_of Table b) (text_of b) w h.held.store h.held.bounds.depth h.held.bounds.nodes h.held.bounds.text table_records table_text fits t in
        let q : view t (text_of b) w₁ n ≡ _ = ap (λ x. view t (text_of b) x n) e ∙ ap (view t (text_of b) (load_stored (records_of Table b) (text_of b) w)) rows_many ∙ v in
        record {
          rows = q;
          bytes = ap length table_text ∙ sym (text_bytes_flat 1 s) ∙ ap text_bytes (sym q);
          bounds = h.held.bounds;
        }
