-- For those who look into a table: its root attributes, and what the value at a record is. With `Inside.entry_of`, which takes attributes
-- one by one, they lead from bytes that are a table to every part of its store. Assumes nothing.
use Prim.Native.Nat.{ℕ, suc, ◌+◌, ◌*◌, ◌-◌, ◌≤◌}
use native.Mathlib.Omega.{arith}
use mathlib.Core.Path.{◌≡◌, refl, sym, ◌∙◌, ap}
use mathlib.Core.Bool.{true, not}
use mathlib.Core.List.{List, []}
use mathlib.Core.Option.{Option, none, some}
use lib.ListN.{length}
use borrow.Author.Tests.{eq-eqb, ne_eqb}
use Rattle.paper.specs.Bytes.{when◌then◌else◌}
use Rattle.paper.specs.Maybe.{require}
use Rattle.paper.specs.Syntax.{Basic}
use Rattle.paper.specs.Store.{Store, Value, component}
use Rattle.paper.specs.Store as S
use Rattle.paper.specs.Decoder.{Cursor, ended}
use Rattle.paper.specs.TableDecoder.{in_table, absent, distinct, table_of}
use Rattle.theorems.proofs.Decoded.Header.{ended_sound}
use Rattle.theorems.proofs.Laws.Found.{found_some}
use Rattle.theorems.proofs.Laws.DecodeAt.{Bytes}
use Rattle.paper.specs.DecodeAt.{word, raw_at, cursor}
use Rattle.paper.specs.DecodeFrom.{basic_from, entries_from, entry_value}
use Rattle.table.specs.Walk.{value_here, entries_here}
use Rattle.table.specs.Child.{Holds}
use Rattle.forms.specs.declared.form.Form.TheVariants.{Table}
use Rattle.forms.specs.Form.{form_of, size_of}
use Rattle.forms.specs.Header.{records_of, text_of, Sized}
use Rattle.table.specs.Whole.{is_table_of, store_in}
use Rattle.main_table.specs.Main.{Tabled}
use Rattle.table.proofs.Inside.{bind_some, some_is}
use Rattle.table.proofs.Headers.{table_whole}
use Rattle.paper.specs.Layout.{number, table_row}
use Rattle.theorems.proofs.Decoded.Rows.{BasicRead, basic_sound}
use Rattle.theorems.proofs.Decoded.Table.{table_lawful}
use Rattle.memory.proofs.Laws.{word_below}

-- ---- the value at a record

module _ (recs text : List ℕ) (d j q : ℕ) (v : Value) (at : Cursor) (w : value_here recs text d j q ≡ some (v, at)) where
  pub basic_of : (word 2 recs j ≡ 0 → ⊥) → (b : Basic) × (v ≡ S.basic b) × (basic_from in_table d (word 2 recs j) (word 2 recs (j + 6)) (word 8 recs (j + 8)) (cursor recs text (j + 16) q) ≡ some (b, at))
  unfolding entry_value raw_at when◌then◌else◌
  basic_of h =
      let z = ne_eqb (word 2 recs j) 0 h in
      let x = bind_some (basic_from in_table d (word 2 recs j) (word 2 recs (j + 6)) (word 8 recs (j + 8)) (cursor recs text (j + 16) q)) _ _ (rw z at w) in
      (x.0.0, sym (ap (λ y. y.0) (some_is _ _ x.2)), x.1 ∙ ap (λ c. some (x.0.0, c)) (ap (λ y. y.1) (some_is _ _ x.2)))

  pub component_of : word 2 recs j ≡ 0 → (c : Store) × (v ≡ component c) × (entries_here recs text (suc d) (word 2 recs (j + 6) - 1) (j + 16) q ≡ some (c, at))
  unfolding entry_value raw_at when◌then◌else◌
  component_of h =
      let z = eq-eqb (word 2 recs j) 0 h in
      let y = bind_some (require _) _ _ (rw z at w) in
      let x = bind_some (entries_here recs text (suc d) (word 2 recs (j + 6) - 1) (j + 16) q) _ _ y.2 in
      (x.0.0, sym (ap (λ u. u.0) (some_is _ _ x.2)), x.1 ∙ ap (λ c. some (x.0.0, c)) (ap (λ u. u.1) (some_is _ _ x.2)))

-- a basic's kind, value, text and elements, as they are laid out
pub basic_laid : (recs text : List ℕ) (d j q : ℕ) (b : Basic) (at : Cursor) → Bytes recs → 1 ≤ word 2 recs (j + 6) → basic_from in_table d (word 2 recs j) (word 2 recs (j + 6)) (word 8 recs (j + 8)) (cursor recs text (j + 16) q) ≡ some (b, at)
    → BasicRead in_table (table_row (number 65535)) table_lawful d (word 2 recs j) (word 2 recs (j + 6)) (word 8 recs (j + 8)) (cursor recs text (j + 16) q) (b, at)
unfolding basic_from
basic_laid recs text d j q b at h one e =
    found_some (basic_sound in_table (table_row (number 65535)) table_lawful (2 * length (cursor recs text (j + 16) q).recs + 3) d (word 2 recs j) (word 2 recs (j + 6)) (word 8 recs (j + 8)) (cursor recs text (j + 16) q) (word_below 8 recs (j + 8) h) one) e

-- ---- a whole table's records

pub record Root (recs text : List ℕ) (n : ℕ) (s : Store) : Type 0 where
  pub after : Cursor
  pub holds : Holds recs text 0 n 1 0 s after
  pub no_recs : after.recs ≡ []
  pub no_text : after.text ≡ []

pub root_of : (recs text : List ℕ) (n : ℕ) (s : Store) → store_in recs text n ≡ some s → Root recs text n s
unfolding store_in
root_of recs text n s e =
    let x = bind_some (entries_from 1 n (cursor recs text 0 0)) _ _ e in
    let y = bind_some (ended x.0.1) _ _ x.2 in
    let z = bind_some (require (distinct x.0.0)) _ _ y.2 in
    let D = found_some (ended_sound x.0.1) y.1 in
    record { after = x.0.1; holds = record { is = x.1 ∙ ap (λ t. some (t, x.0.1)) (some_is _ _ z.2) }; no_recs = D.recs; no_text = D.text }

-- ---- bytes that are a table

pub tabled_of : (b : List ℕ) (n : ℕ) → Sized Table b n → is_table_of b ≡ true → Tabled (records_of Table b) (text_of b) n
unfolding is_table_of absent size_of form_of in_table
tabled_of b n S e = go (table_of b) refl e
  where
    go : (t : Option Store) → table_of b ≡ t → not (absent t) ≡ true → Tabled (records_of Table b) (text_of b) n
    go none q f = let z : ◌≡◌ {A = ℕ} 0 1 = cc in absurd (omega arith)
    go (some s) q f =
        record {
          store = s;
          is = sym (table_whole b n S) ∙ q;
          many = omega (arith, S.few, S.many);
          short = S.short;
        }
