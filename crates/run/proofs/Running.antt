-- The ways through `evaluate`, from what its calls answer. Assumes nothing.
use Prim.Native.Nat.{ℕ, ◌+◌, ◌≤◌}
use native.Mathlib.Omega.{arith}
use mathlib.Core.Path.{◌≡◌, refl, sym, ◌∙◌, ap, subst}
use mathlib.Core.Bool.{true, false, not, false≢true}
use mathlib.Core.List.{List, []}
use mathlib.Core.Option.{Option, none, some}
use lib.ListN.{length}
use Rattle.paper.specs.Answer.{refused, ◌>>=◌}
use Rattle.paper.specs.Syntax.{Block}
use Rattle.paper.specs.Store.{Store}
use Rattle.paper.specs.Meaning.{B⟦◌⟧}
use Rattle.paper.specs.Steps.{steps}
use Rattle.paper.specs.StepLayout.{all_rows}
use Rattle.paper.specs.WellFormed.{IsTable, IsStepList}
use Rattle.paper.specs.TableDecoder.{absent, table_of}
use Rattle.paper.specs.StepDecoder.{block_of}
use Rattle.paper.specs.Operations.{or_refused}
use Rattle.theorems.proofs.Compiled.{compiled}
use Rattle.theorems.proofs.Decoded.StepList.{steps_exact}
use Rattle.theorems.proofs.Decoded.Table.{table_exact}
use Rattle.forms.specs.declared.form.Form.TheVariants.{Table, Steps}
use Rattle.forms.specs.Header.{records_of, text_of}
use Rattle.table.specs.Whole.{is_table_of}
use Rattle.steplist.specs.Whole.{is_step_list_of}
use Rattle.rows.specs.View.{groups, view}
use Rattle.load.specs.Load.{loads, load_stored}
use Rattle.refusal.specs.Refused.{number_of}
use Rattle.refusal.specs.declared.Reason.{Reason}
use Rattle.refusal.specs.declared.Reason.TheVariants.{NotAStepList, NotATable}
use Rattle.refusal.specs.declared.Refusal.{Refusal}
use Rattle.run.specs.declared.block.Next.{Next}
use Rattle.std.specs.Prelude.{Result, Err}
use Rattle.run.specs.Paths.{names}
use Rattle.run.specs.Blocks.{WentIs, NextIn, StatementsAre}
use Rattle.run.specs.Runs.{store_of, EvaluatedIs}
use Rattle.run.proofs.Starting.{list_lies, list_few, list_light, table_light, rows_few, table_held}

-- ---- what the readers found

found_of : {A : Type 0} (o : Option A) → not (absent o) ≡ true → (a : A) × (o ≡ some a)
unfolding absent
found_of none e = absurd (false≢true e)
found_of (some a) e = (a, refl)

none_of : {A : Type 0} (o : Option A) → not (absent o) ≡ false → o ≡ none
unfolding absent
none_of none e = refl
none_of (some a) e = absurd (false≢true (sym e))

pub record Both (list start : List ℕ) : Type 0 where
  pub block : Block
  pub store : Store
  pub is_list : IsStepList list block
  pub is_table : IsTable start store

module _ (list start : List ℕ) where
  pub both : is_step_list_of list ≡ true → is_table_of start ≡ true → Both list start
  unfolding is_step_list_of is_table_of
  both e f =
      let d = found_of (block_of list) e in
      let s = found_of (table_of start) f in
      record { block = d.0; store = s.0; is_list = (steps_exact list d.0).0 d.1; is_table = (table_exact start s.0).0 s.1 }

  -- ---- 9 and 10

  stopped : (w : List ℕ) (reason : Reason) → store_of list start ≡ refused (number_of reason) 0 → EvaluatedIs list start w (Err (record { reason = reason; place = 0 }))
  stopped w reason e = (0, tt, e)

  pub no_list : (w : List ℕ) → is_step_list_of list ≡ false → EvaluatedIs list start w (Err (record { reason = NotAStepList; place = 0 }))
  unfolding is_step_list_of store_of or_refused ◌>>=◌
  no_list w e = stopped w NotAStepList (rw (none_of (block_of list) e))

  pub no_table : (w : List ℕ) → is_step_list_of list ≡ true → is_table_of start ≡ false → EvaluatedIs list start w (Err (record { reason = NotATable; place = 0 }))
  unfolding is_step_list_of is_table_of store_of or_refused ◌>>=◌
  no_table w e f = stopped w NotATable (rw ((found_of (block_of list) e).1, none_of (table_of start) f))

  -- ---- the steps

  pub records_few : Both list start → (is : List ℕ) → is ≡ records_of Steps list → length is ≤ 20480
  records_few F is es = omega (arith, ap length es, list_few list F.block F.is_list)

  module _ (F : Both list start) (rs is t u : List ℕ) (er : rs ≡ records_of Table start) (es : is ≡ records_of Steps list) (et : t ≡ text_of list) (eu : u ≡ text_of start)
      (w : List ℕ) (n : ℕ) (room : 65536 ≤ length w) (en : n ≡ loads rs w) where
    many : n ≡ loads (records_of Table start) w
    many = en ∙ ap (λ x. loads x w) er

    pub ready : (n ≤ 1024) × (length u ≤ 16384)
    ready = (rows_few start F.store F.is_table w room n many, omega (arith, ap length eu, table_light start F.store F.is_table))

    store_is : store_of list start ≡ B⟦ F.block ⟧ [] F.store
    unfolding store_of or_refused ◌>>=◌
    store_is = rw ((steps_exact list F.block).1 F.is_list, (table_exact start F.store).1 F.is_table) (compiled F.block F.store)

    pub went : (w₁ w' s : List ℕ) (r : Result Next Refusal) → w₁ ≡ load_stored rs u w → NextIn 0 r → StatementsAre is 0 t u n (length u) 0 s w₁ w' r → EvaluatedIs list start w' r
    unfolding names groups
    went w₁ w' s r e k S =
        let e₁ : w₁ ≡ load_stored (records_of Table start) (text_of start) w = e ∙ (λ i. load_stored (er i) (eu i) w) in
        let H = table_held start F.store F.is_table w room n many (text_of list) w₁ e₁ in
        let S₁ : StatementsAre (records_of Steps list) 0 (text_of list) (text_of start) n (length (text_of start)) 0 s w₁ w' r = subst (λ x. StatementsAre (records_of Steps list) 0 (text_of list) x n (length x) 0 s w₁ w' r) eu
        (subst (λ x. StatementsAre (records_of Steps list) 0 x u n (length u) 0 s w₁ w' r) et (subst (λ x. StatementsAre x 0 t u n (length u) 0 s w₁ w' r) es S)) in
        let j : ℕ = 0 + length (all_rows (steps F.block)) in
        (j, k, subst (λ a. WentIs (view (text_of list) (text_of start) w') j a r) (sym store_is) (S₁ F.block 0 [] F.store F.is_list.blocks (list_lies list F.block F.is_list) tt (list_light list F.block F.is_list) H))
