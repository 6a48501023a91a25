-- The main table of a whole one: where its component stands, what is written of it, and the outcome. Assumes nothing.
use Rattle.std.specs.Prelude.{Some, None}
use Prim.Native.Nat.{ℕ, zero, suc, ◌+◌, ◌*◌, ◌-◌, ◌≤◌, ◌<◌}
use native.Mathlib.Omega.{arith}
use native.Mathlib.Nat.{add-zero}
use mathlib.Core.Path.{◌≡◌, refl, sym, ◌∙◌, ap}
use mathlib.Core.Bool.{false, not}
use mathlib.Core.List.{List, [], ◌∷◌, ◌++◌}
use mathlib.Core.Option.{Option, none, some}
use lib.ListN.{length, take, drop, get_or, length-append, length-drop}
use lib.Seq.{take_at}
use borrow.Author.Tests.{le-leb, lt-leb}
use Rattle.std.specs.Prelude.{Result, Ok, Err}
use Rattle.refusal.specs.Refused.{number_of as reason_number}
use Rattle.refusal.specs.declared.Refusal.{Refusal}
use Rattle.refusal.specs.declared.Reason.{Reason}
use Rattle.refusal.specs.declared.Reason.TheVariants.{SliceTooShort, NotATable}
use Rattle.paper.specs.Bytes.{bytes}
use Rattle.paper.specs.Maybe.{◌>>=◌}
use Rattle.paper.specs.Answer.{ok, refused, demand}
use Rattle.paper.specs.Answer as Paper
use Rattle.paper.specs.Syntax.{Name, Basic}
use Rattle.paper.specs.Store.{Store, ∅, entry, Value, component, lookup, find}
use Rattle.paper.specs.Store as S
use Rattle.paper.specs.Layout.{Row, rows, deepest, texts, records, table}
use Rattle.paper.specs.Meaning.{main}
use Rattle.paper.specs.Operations.{or_refused, main_op, takes_main}
use Rattle.paper.specs.Lent.{Outcome, told, written}
use Rattle.paper.specs.Decoder.{Cursor}
use Rattle.paper.specs.TableDecoder.{in_table, absent, table_of}
use Rattle.forms.specs.declared.form.Form.TheVariants.{Table}
use Rattle.forms.specs.Form.{form_of, size_of}
use Rattle.forms.specs.Header.{header_in}
use Rattle.theorems.proofs.Decoded.Header.{records_length, laid_out_headed}
use Rattle.theorems.proofs.Decoded.Rows.{Front}
use Rattle.theorems.proofs.Laws.DecodeAt.{Bytes}
use Rattle.paper.specs.DecodeAt.{word, cursor, headed}
use Rattle.theorems.proofs.Laws.DecodeFree.{entries_none, table_of_is}
use Rattle.memory.specs.Memory.{word_at, stored}
use Rattle.memory.proofs.Laws.{word_in, stored_front}
use Rattle.table.specs.Walk.{entries_here}
use Rattle.table.specs.Child.{Holds, ChildAt, FoundIs}
use Rattle.table.specs.Whole.{is_table_of, store_in}
use Rattle.main_table.specs.Lower.{lowered_all, text_from, text_to, lowered_table, Lowerable}
use Rattle.main_table.specs.Main.{outcome, main_of, main_outcome, Tabled}
use Rattle.table.proofs.Inside.{some_is, rows_lasts, entries_read, Entry, entry_of}
use Rattle.main_table.proofs.Views.{basic_of, component_of, Root, root_of}
use Rattle.main_table.proofs.Lowers.{lowered_is, to_next, to_end, table_size}
use Rattle.main_table.proofs.Moves.{deepen, deepen_length, deepen_texts, deepen_deepest, rows_deep, rows_move, rows_moved}

-- ---- a component's table

front_parts : (recs text : List ℕ) (i p j q : ℕ) (xs : List Row) → Front xs (cursor recs text i p) (cursor recs text j q)
    → (drop i recs ≡ records p xs ++ drop j recs) × (drop p text ≡ texts xs ++ drop q text) × (q ≡ p + length (texts xs))
unfolding cursor
front_parts recs text i p j q xs F = (F.recs, F.text, F.pos)

start_is : (recs text : List ℕ) (j p k : ℕ) → word 2 recs (j + 4) ≡ p → get_or text p 0 ≡ k → p + suc k ≡ text_from recs text j
unfolding text_from
start_is recs text j p k l s = rw (l, s) (omega arith)

-- the rows of c at q, moved
module _ (recs text : List ℕ) (i q j next : ℕ) (c : Store) (F : Front (rows 2 c) (cursor recs text i q) (cursor recs text j next)) (deep : deepest (rows 2 c) ≤ 32) (l : q ≤ length text) (short : length text ≤ 16384) where
  parts : (drop i recs ≡ records q (rows 2 c) ++ drop j recs) × (drop q text ≡ texts (rows 2 c) ++ drop next text) × (next ≡ q + length (texts (rows 2 c)))
  parts = front_parts recs text i q j next (rows 2 c) F

  same_texts : texts (rows 2 c) ≡ texts (rows 1 c)
  same_texts = ap texts (rows_deep c 1) ∙ deepen_texts (rows 1 c)

  next_is : next ≡ q + length (texts (rows 1 c))
  next_is = parts.2 ∙ ap (λ t. q + length t) same_texts

  pub next_within : next ≤ length text
  next_within =
      let e : length (drop q text) ≡ length (texts (rows 2 c)) + length (drop next text) = ap length parts.1 ∙ length-append (texts (rows 2 c)) (drop next text) in
      omega (arith, parts.2, length-drop q text, length-drop next text)

  pub text_moved : take (next - q) (drop q text) ≡ texts (rows 1 c)
  text_moved =
      let e : drop q text ≡ texts (rows 1 c) ++ drop next text = parts.1 ∙ ap (λ t. t ++ drop next text) same_texts in
      let n : length (texts (rows 1 c)) ≡ next - q = omega (arith, next_is) in
      ap (take (next - q)) e ∙ take_at (texts (rows 1 c)) (drop next text) (next - q) n

  pub records_moved : lowered_all recs i q (length (rows 1 c)) ≡ records 0 (rows 1 c)
  records_moved =
      let e : drop i recs ≡ records (q + 0) (deepen (rows 1 c)) ++ drop j recs = rw (add-zero q, ← (rows_deep c 1)) parts.0 in
      let h : deepest (rows 1 c) ≤ 32 = omega (arith, deepen_deepest (rows 1 c), ap deepest (rows_deep c 1)) in
      rows_moved (rows 1 c) recs i q 0 (drop j recs) (rows_move c 1 h) e (omega (arith, next_is, next_within))

pub record Inner (recs text : List ℕ) (j : ℕ) (c : Store) : Type 0 where
  pub lowerable : Lowerable recs text j
  pub table : lowered_table recs text j ≡ table c

table_headed : (c : Store) → headed 2 (length (rows 1 c)) (24 + 16 * length (rows 1 c)) (records 0 (rows 1 c)) (texts (rows 1 c)) ≡ table c
unfolding table
table_headed c = sym (laid_out_headed 2 16 (rows 1 c) (records_length 0 (rows 1 c) 0 (rows_lasts c 1)))

-- the component at j among root attributes, where after the last of them nothing is left
module _ (recs text : List ℕ) (j left p : ℕ) (s : Store) (after : Cursor) (b : Bytes recs) (E : Entry recs text j left 1 p s after)
    (no_recs : after.recs ≡ []) (no_text : after.text ≡ []) (many : length recs ≤ 16384) (short : length text ≤ 16384) where
  abbrev m : ℕ
  m = word 2 recs (j + 6)

  -- the next attribute, or the end
  record Next (j' next : ℕ) : Type 0 where
    room : j' < length recs → j' + 16 ≤ length recs
    to : next ≤ length text → next ≡ text_to recs text j'

  at_end : (j' next : ℕ) → cursor recs text j' next ≡ after → Next j' next
  unfolding cursor
  at_end j' next e =
      let r : length recs - j' ≡ 0 = sym (length-drop j' recs) ∙ ap (λ (c : Cursor). length c.recs) e ∙ ap length no_recs in
      let t : length text - next ≡ 0 = sym (length-drop next text) ∙ ap (λ (c : Cursor). length c.text) e ∙ ap length no_text in
      record {
        room = λ l. absurd (omega arith);
        to = λ l. let q : next ≡ length text = omega arith in q ∙ to_end recs text j' (omega arith);
      }

  next_of : (k j' next : ℕ) (o : Store) → Holds recs text j' k 1 next o after → Next j' next
  next_of zero j' next o R = at_end j' next (ap (λ x. x.1) (some_is (∅, cursor recs text j' next) (o, after) (sym (entries_none 1 (cursor recs text j' next)) ∙ R.is)))
  next_of (suc k) j' next o R =
      let F = entry_of recs text j' (suc k) 1 next b (omega arith) o after R in
      record { room = λ l. F.head.within; to = λ l. to_next recs text j' next (omega (arith, F.head.within)) (sym F.labelled) }

  inner_of : (c : Store) → entries_here recs text 2 (m - 1) (j + 16) (p + suc (length E.name)) ≡ some (c, cursor recs text (j + 16 * m) E.next) → Inner recs text j c
  inner_of c e =
      let q = p + suc (length E.name) in
      let R = entries_read 2 (m - 1) (cursor recs text (j + 16) q) (c, cursor recs text (j + 16 * m) E.next) e in
      let S = E.span in
      let one = S.some in
      let wide = S.within in
      let N = next_of (left - m) (j + 16 * m) E.next E.others E.rest in
      let J : j + 16 + 16 * (m - 1) ≡ j + 16 * m = omega arith in
      let inside = next_within recs text (j + 16) q (j + 16 * m) E.next c R.front R.deep E.inside short in
      let to : E.next ≡ text_to recs text (j + 16 + 16 * (m - 1)) = rw J (N.to inside) in
      let from : q ≡ text_from recs text j = start_is recs text j p (length E.name) E.labelled E.sized in
      let len : length (rows 1 c) ≡ m - 1 = sym (deepen_length (rows 1 c)) ∙ ap length (sym (rows_deep c 1)) ∙ R.sized in
      let ps = front_parts recs text (j + 16) q (j + 16 * m) E.next (rows 2 c) R.front in
      let rm = records_moved recs text (j + 16) q (j + 16 * m) E.next c R.front R.deep E.inside short in
      let tm = text_moved recs text (j + 16) q (j + 16 * m) E.next c R.front R.deep E.inside short in
      record {
        lowerable = record {
          within = omega arith;
          some = one;
          few = omega arith;
          next = λ l. rw J (N.room (rw J at l));
          on = omega (arith, ps.2);
          end = omega arith;
          short = short;
        };
        table =
            sym (lowered_is recs text j (m - 1) q E.next refl from to)
            ∙ ap (λ t. headed 2 (m - 1) (24 + 16 * (m - 1)) (lowered_all recs (j + 16) q (m - 1)) t) tm
            ∙ ap (λ n. headed 2 n (24 + 16 * n) (lowered_all recs (j + 16) q n) (texts (rows 1 c))) (sym len)
            ∙ ap (λ a. headed 2 (length (rows 1 c)) (24 + 16 * length (rows 1 c)) a (texts (rows 1 c))) rm
            ∙ table_headed c;
      }

-- ---- the answers

abbrev sf_config : List ℕ
sf_config = bytes "sfConfig"

find_one : (s : Store) (n : Name) (o : Option Value) → lookup s n ≡ o → find (n ∷ []) (component s) ≡ o
unfolding find
find_one s n none e = rw (e, find)
find_one s n (some v) e = rw (e, find)

module _ (s : Store) where
  no_main : lookup s sf_config ≡ none → main s ≡ refused 19 0
  unfolding main
  no_main h = rw (find_one s sf_config none h, main)

  plain_main : (b : Basic) → lookup s sf_config ≡ some (S.basic b) → main s ≡ refused 20 0
  unfolding main
  plain_main b h = rw (find_one s sf_config (some (S.basic b)) h, main)

  some_main : (c : Store) → lookup s sf_config ≡ some (component c) → main s ≡ ok c
  unfolding main
  some_main c h = rw (find_one s sf_config (some (component c)) h, main)

module _ (o : Option Store) (s : Store) (e : o ≡ some s) where
  main_absent : lookup s sf_config ≡ none → main_of o ≡ refused 19 0
  unfolding main_of or_refused Paper.◌>>=◌
  main_absent h = rw (e, no_main s h)

  main_plain : (v : Value) (b : Basic) → lookup s sf_config ≡ some v → v ≡ S.basic b → main_of o ≡ refused 20 0
  unfolding main_of or_refused Paper.◌>>=◌
  main_plain v b h q = rw (e, plain_main s b (rw q at h))

  main_found : (v : Value) (c : Store) → lookup s sf_config ≡ some v → v ≡ component c → main_of o ≡ ok (table c)
  unfolding main_of or_refused Paper.◌>>=◌
  main_found v c h q = rw (e, some_main s c (rw q at h))

abbrev first_value : Value → Store → Value
first_value d ∅ = d
first_value d (entry n v s) = v

module _ (recs text : List ℕ) (n : ℕ) (T : Tabled recs text n) where
  root : Root recs text n T.store
  root = root_of recs text n T.store T.is

  pub main_nothing : FoundIs recs text 0 n sf_config None → main_of (store_in recs text n) ≡ refused 19 0
  main_nothing F = main_absent (store_in recs text n) T.store T.is (F.told 1 0 T.store root.after root.holds)

  module _ (b : Bytes recs) (j : ℕ) (F : FoundIs recs text 0 n sf_config (Some j)) where
    child : ChildAt recs text 1 T.store root.after sf_config j
    child = F.told 1 0 T.store root.after root.holds

    found_entry : Entry recs text j child.left 1 child.place (entry child.called child.what child.others) root.after
    found_entry = entry_of recs text j child.left 1 child.place b child.some_left (entry child.called child.what child.others) root.after child.holds

    what_is : child.what ≡ found_entry.value
    what_is = ap (first_value child.what) found_entry.is

    pub child_within : j + 16 ≤ length recs
    child_within = found_entry.head.within

    module _ (k : ℕ) (a : k ≡ word_at 2 recs j) where
      e : k ≡ word 2 recs j
      e = a ∙ word_in 2 recs j (omega (arith, child_within))

      pub main_basic : (k ≡ 0 → ⊥) → main_of (store_in recs text n) ≡ refused 20 0
      main_basic h =
          let B = basic_of recs text 1 j _ found_entry.value _ found_entry.valued (λ z. h (e ∙ z)) in
          main_plain (store_in recs text n) T.store T.is child.what B.0 child.looked (what_is ∙ B.1)

      pub main_inner : k ≡ 0 → (c : Store) × (Inner recs text j c) × (main_of (store_in recs text n) ≡ ok (table c))
      main_inner h =
          let C = component_of recs text 1 j _ found_entry.value _ found_entry.valued (sym e ∙ h) in (
            C.0,
            inner_of recs text j child.left child.place _ root.after b found_entry root.no_recs root.no_text T.many T.short C.0 C.2,
            main_found (store_in recs text n) T.store T.is child.what C.0 child.looked (what_is ∙ C.1),
          )

-- ---- outcomes

abbrev pub refusal : Reason → Result ℕ Refusal
refusal r = Err (record { reason = r; place = 0 })

pub outcome_refused : (a : Paper.Answer (List ℕ)) (r : Reason) (o : List ℕ) → a ≡ refused (reason_number r) 0 → ◌≡◌ {A = Outcome} (outcome (refusal r) o) (main_outcome a o)
unfolding main_outcome told written
outcome_refused a r o e = rw e

pub outcome_done : (a : Paper.Answer (List ℕ)) (t o o' : List ℕ) (r : ℕ) → a ≡ ok t → r ≡ length t → o' ≡ stored o 0 t → length t ≤ length o → ◌≡◌ {A = Outcome} (outcome (Ok r) o') (main_outcome a o)
unfolding main_outcome told written
outcome_done a t o o' r e l s h = rw (e, l, s, stored_front o t h)

pub main_short : (b o : List ℕ) → length o < 32792 → ◌≡◌ {A = Outcome} (outcome (refusal SliceTooShort) o) (takes_main b o)
unfolding takes_main main_op demand told written Paper.◌>>=◌
main_short b o h = rw (lt-leb 32792 (length o) h)

module _ (b o : List ℕ) (h : 32792 ≤ length o) where
  pub main_long : main_outcome (main_of (table_of b)) o ≡ takes_main b o
  unfolding takes_main main_outcome main_op main_of demand Paper.◌>>=◌
  main_long = rw (le-leb 32792 (length o) h)

  pub main_no_table : table_of b ≡ none → ◌≡◌ {A = Outcome} (outcome (refusal NotATable) o) (takes_main b o)
  unfolding main_of or_refused Paper.◌>>=◌
  main_no_table e = outcome_refused (main_of (table_of b)) NotATable o (rw e) ∙ main_long

pub not_table : (b : List ℕ) → is_table_of b ≡ false → table_of b ≡ none
unfolding is_table_of absent
not_table b e = go (table_of b) refl e
  where
    go : (t : Option Store) → table_of b ≡ t → not (absent t) ≡ false → table_of b ≡ none
    go none q f = q
    go (some s) q f = let z : ◌≡◌ {A = ℕ} 0 1 = cc in absurd (omega arith)

pub no_header : (b : List ℕ) → header_in Table b ≡ none → table_of b ≡ none
unfolding header_in size_of form_of in_table ◌>>=◌
no_header b e = rw (table_of_is b, e)

-- a lowered table has at most 32,792 bytes
pub lowered_room : (recs text : List ℕ) (j : ℕ) (c : Store) (o : List ℕ) → Inner recs text j c → 32792 ≤ length o → length (table c) ≤ length o
lowered_room recs text j c o I h =
    let L = I.lowerable in
    let n = word 2 recs (j + 6) - 1 in
    let from = text_from recs text j in
    let to = text_to recs text (j + 16 + 16 * n) in
    let e = table_size recs text o o o o j n from to refl refl refl L.on L.end L.short (omega (arith, L.few)) h in
    omega (arith, e, ap length I.table, L.few, L.short, L.on, L.end)
