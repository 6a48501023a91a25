-- The whole of a table: the paper's readers, one law for each way through the code. Assumes nothing.
use Rattle.std.specs.Prelude.{Some}
use Rattle.layout.proofs.Steps.{place}
use Prim.Native.Nat.{ℕ, ◌≤◌, ◌<◌}
use mathlib.Core.Path.{◌≡◌, refl, sym, ◌∙◌, ap}
use mathlib.Core.Bool.{Bool, true, false, not}
use mathlib.Core.List.{List}
use mathlib.Core.Option.{none, some}
use lib.ListN.{length}
use Rattle.paper.specs.Maybe.{◌>>=◌, require}
use Rattle.paper.specs.Store.{Store}
use Rattle.paper.specs.TableDecoder.{in_table, absent, distinct, table_of}
use Rattle.paper.specs.DecodeAt.{cursor}
use Rattle.theorems.proofs.Laws.DecodeFree.{table_of_is}
use Rattle.forms.specs.declared.form.Form.TheVariants.{Table}
use Rattle.forms.specs.Form.{form_of, size_of}
use Rattle.forms.specs.Header.{header_in, records_of, text_of, Sized}
use Rattle.layout.specs.Walk.{WalkIs}
use Rattle.layout.proofs.Ends.{ended_more, ended_text, ended_all}
use Rattle.table.specs.Walk.{entries_here}
use Rattle.table.specs.Child.{DistinctIs}
use Rattle.table.specs.Whole.{is_table_of, store_in, whole_in}

-- ---- the end

pub whole_wrong : (recs text : List ℕ) (n : ℕ) → entries_here recs text 1 n 0 0 ≡ none → false ≡ whole_in recs text n
unfolding whole_in store_in absent ◌>>=◌
whole_wrong recs text n e = rw e

module _ (recs text : List ℕ) (n i p : ℕ) (W : WalkIs (entries_here recs text 1 n 0 0) recs text (Some (place i p))) where
  pub whole_more : i < length recs → false ≡ whole_in recs text n
  unfolding whole_in store_in absent ◌>>=◌
  whole_more h = rw (W.1, ended_more recs text i p h)

  module _ (l : length recs ≤ i) where
    pub whole_text : p < length text → false ≡ whole_in recs text n
    unfolding whole_in store_in absent ◌>>=◌
    whole_text h = rw (W.1, ended_text recs text i p l h)

    all_found : (c : Bool) (s : Store) → c ≡ not (absent (require c >>= λ _. some s))
    unfolding absent ◌>>=◌ require
    all_found true s = refl
    all_found false s = refl

    pub whole_all : (r : Bool) → length text ≤ p → DistinctIs recs text 0 n r → r ≡ whole_in recs text n
    unfolding whole_in store_in ◌>>=◌
    whole_all r h D =
        let e = D.told 1 0 W.0 (cursor recs text i p) (record { is = W.1 }) in
        e ∙ rw (W.1, ended_all recs text i p l h) (all_found (distinct W.0) W.0)

-- ---- the bytes

pub table_unfit : (b : List ℕ) → header_in Table b ≡ none → false ≡ is_table_of b
unfolding is_table_of absent header_in size_of form_of in_table ◌>>=◌
table_unfit b e = rw (table_of_is b, e)

pub table_whole : (b : List ℕ) (n : ℕ) → Sized Table b n → table_of b ≡ store_in (records_of Table b) (text_of b) n
unfolding store_in header_in size_of form_of in_table ◌>>=◌
table_whole b n S = table_of_is b ∙ rw S.is

pub table_is : (b : List ℕ) (n : ℕ) (r : Bool) → Sized Table b n → r ≡ whole_in (records_of Table b) (text_of b) n → r ≡ is_table_of b
unfolding is_table_of whole_in
table_is b n r S w = w ∙ ap (λ o. not (absent o)) (sym (table_whole b n S))
