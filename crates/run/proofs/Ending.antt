-- From the store that the steps give to the answer, the output, and the work slices. Assumes nothing.
use Prim.Native.Nat.{ℕ, ◌+◌, ◌-◌, ◌≤◌, ◌<◌}
use native.Mathlib.Omega.{arith}
use mathlib.Core.Path.{◌≡◌, sym, ◌∙◌, ap, subst}
use mathlib.Core.List.{List, [], ◌∷◌, ◌++◌}
use lib.ListN.{length, drop, length-append, length-drop}
use lib.Seq.{drop_at}
use lib.Dec.{lit≤}
use borrow.Author.Tests.{le-leb, lt-leb}
use Rattle.paper.specs.Answer.{ok, refused, demand, ◌>>=◌}
use Rattle.paper.specs.Answer as Paper
use Rattle.paper.specs.Store.{Store}
use Rattle.paper.specs.Meaning.{B⟦◌⟧}
use Rattle.paper.specs.Layout.{table}
use Rattle.paper.specs.Steps.{steps}
use Rattle.paper.specs.Running.{run}
use Rattle.paper.specs.WellFormed.{IsTable, IsStepList, IsBounded}
use Rattle.paper.specs.TableDecoder.{table_of}
use Rattle.paper.specs.StepDecoder.{block_of}
use Rattle.paper.specs.Operations.{or_refused, run_op, runs}
use Rattle.paper.specs.Lent.{Outcome, told, written, cleared, zeros, wiped}
use Rattle.theorems.proofs.Compiled.{compiled}
use Rattle.theorems.proofs.Decoded.StepList.{steps_exact}
use Rattle.theorems.proofs.Decoded.Table.{table_exact}
use Rattle.theorems.proofs.Demands.Answers.{from}
use Rattle.theorems.proofs.Laws.Answers.{assoc, under}
use Rattle.theorems.proofs.Laws.Gives.{Gives, gives, known, gives_bind}
use Rattle.theorems.proofs.Laws.Wiped.{cleared_wiped, high_other}
use Rattle.paper.specs.Bounds.{Bounded}
use Rattle.theorems.proofs.Legal.Bounds.{of_table, evaluates, evaluates_numbers}
use Rattle.memory.specs.Memory.{stored}
use Rattle.memory.proofs.Laws.{clear_wiped}
use Rattle.forms.specs.Header.{text_of}
use Rattle.rows.specs.View.{view}
use Rattle.write.specs.Tabled.{tabled, chosen, fitted}
use Rattle.write.proofs.Stores.{chosen_store, table_written}
use Rattle.refusal.specs.Refused.{number_of}
use Rattle.refusal.specs.declared.Reason.TheVariants.{SliceTooShort}
use Rattle.refusal.specs.declared.Refusal.{Refusal}
use Rattle.run.specs.declared.block.Next.{Next}
use Rattle.std.specs.Prelude.{Result, Ok, Err, Option, Some, None, MatchOption}
use Rattle.std.specs.Option.{ok_or}
use Rattle.run.specs.Puts.{Held}
use Rattle.run.specs.Runs.{store_of, whole_of, outcome, AnsweredIs, EvaluatedIs}
use Rattle.run.specs.Wanted.{lent, settled}

-- ---- what became of the steps

-- the store, and its rows in w
pub record Given (list start t u w : List ℕ) (n : ℕ) : Type 0 where
  pub store : Store
  pub is : store_of list start ≡ ok store
  pub bytes : ℕ
  pub held : Held (view t u w n) bytes store
  pub few : n ≤ 1024

module _ (list start w : List ℕ) (r : Result Next Refusal) (E : EvaluatedIs list start w r) where
  pub given : (t u : List ℕ) (next : Next) → r ≡ Ok next → t ≡ text_of list → u ≡ text_of start → Given list start t u w next.size.rows
  given t u next e et eu =
      let F : EvaluatedIs list start w (Ok next) = subst (EvaluatedIs list start w) e E in
      let G = F.2 in
      let n = next.size.rows in
      let bytes = next.size.text in
      record {
        store = G.0;
        is = G.1;
        bytes = bytes;
        held = subst (λ x. Held (view x u w n) bytes G.0) (sym et) (subst (λ x. Held (view (text_of list) x w n) bytes G.0) (sym eu) G.3);
        few = next.size.few;
      }

  pub not_given : (refusal : Refusal) → r ≡ Err refusal → store_of list start ≡ refused (number_of refusal.reason) refusal.place
  not_given refusal e = (subst (EvaluatedIs list start w) e E).2

-- ---- a refusal, and a table

-- what paper says of a refusal
abbrev pub refused_as : {A : Type 0} → Refusal → Paper.Answer A
refused_as refusal = refused (number_of refusal.reason) refusal.place

pub refused_is : (a : Paper.Answer (List ℕ)) (o : List ℕ) (refusal : Refusal) → a ≡ refused_as refusal → AnsweredIs a o o (Err refusal)
unfolding told written
refused_is a o refusal e = (rw e, rw e)

pub done_is : (a : Paper.Answer (List ℕ)) (s : Store) (b o o' : List ℕ) (k : ℕ) → a ≡ ok (table s) → b ≡ table s → Bounded s → 32792 ≤ length o → o' ≡ stored o 0 b → k ≡ fitted b o → AnsweredIs a o o' (Ok k)
unfolding told written
done_is a s b o o' k e q B room f g =
    let W = table_written s o B.nodes B.text room in
    (rw e (ap ok (g ∙ ap (λ x. fitted x o) q ∙ W.1)), rw e (f ∙ ap (stored o 0) q ∙ W.0))

-- ---- the whole table

pub whole_refused : (a : Paper.Answer Store) (o : List ℕ) (refusal : Refusal) → a ≡ refused_as refusal → AnsweredIs (whole_of a) o o (Err refusal)
unfolding whole_of ◌>>=◌
whole_refused a o refusal e = refused_is (whole_of a) o refusal (rw e)

pub whole_done : (list start t u w o o' : List ℕ) (n k : ℕ) → Given list start t u w n → 65536 ≤ length w → 32792 ≤ length o
    → o' ≡ stored o 0 (tabled 0 (chosen t u w n 0 n)) → k ≡ fitted (tabled 0 (chosen t u w n 0 n)) o → AnsweredIs (whole_of (store_of list start)) o o' (Ok k)
unfolding whole_of ◌>>=◌
whole_done list start t u w o o' n k G l room e f =
    let q = chosen_store t u w n G.store (omega (arith, G.few)) (omega (arith, G.few)) G.held.rows in
    done_is (whole_of (store_of list start)) G.store (tabled 0 (chosen t u w n 0 n)) o o' k (rw G.is) q G.held.bounds room e f

-- ---- a refusal of the steps is none of 8

pub store_gives : (list start : List ℕ) → Gives (λ n. 8 < n) IsBounded (store_of list start)
unfolding store_of
store_gives list start =
    gives_bind _ (from 9 (λ n. 8 < n) (IsStepList list) (block_of list) (lit≤ tt) (λ d e. (steps_exact list d).0 e)) (λ d hd.
    gives_bind _ (from 10 (λ n. 8 < n) (IsTable start) (table_of start) (lit≤ tt) (λ s e. (table_exact start s).0 e)) (λ s hs.
    rw (compiled d s) (known (B⟦ d ⟧ [] s) (λ t e. evaluates d s t hd.blocks (of_table hs) e) (λ n p e. omega (arith, (evaluates_numbers d s n p hd.blocks (of_table hs) e).0)))))

pub whole_gives : (a : Paper.Answer Store) → Gives (λ n. 8 < n) IsBounded a → Gives (λ n. 8 < n) (λ _. Unit {0}) (whole_of a)
unfolding whole_of
whole_gives a h = gives_bind _ h (λ t _. gives tt)

-- ---- the lent slices

abbrev pub too_short : Result ℕ Refusal
too_short = Err (record { reason = SliceTooShort; place = 0 })

module _ (a : Paper.Answer (List ℕ)) (o w₁ w₂ : List ℕ) where
  pub output_short : length o < 32792 → ◌≡◌ {A = Outcome} (outcome too_short o w₁ w₂) (settled a o w₁ w₂)
  unfolding settled lent told written cleared demand ◌>>=◌
  output_short h = rw (lt-leb 32792 (length o) h)

  pub first_short : 32792 ≤ length o → length w₁ < 65536 → ◌≡◌ {A = Outcome} (outcome too_short o w₁ w₂) (settled a o w₁ w₂)
  unfolding settled lent told written cleared demand ◌>>=◌
  first_short h l = rw (le-leb 32792 (length o) h, lt-leb 65536 (length w₁) l)

  module _ (h : 32792 ≤ length o) (l : 65536 ≤ length w₁) where
    pub second_short : length w₂ < 65536 → ◌≡◌ {A = Outcome} (outcome too_short o w₁ w₂) (settled a o w₁ w₂)
    unfolding settled lent told written cleared demand ◌>>=◌
    second_short m = rw (le-leb 32792 (length o) h, le-leb 65536 (length w₁) l, lt-leb 65536 (length w₂) m)

    lent_long : 65536 ≤ length w₂ → lent a (length o) (length w₁) (length w₂) ≡ a
    unfolding lent demand ◌>>=◌
    lent_long m = rw (le-leb 32792 (length o) h, le-leb 65536 (length w₁) l, le-leb 65536 (length w₂) m)

    pub all_settled : 65536 ≤ length w₂ → Gives (λ n. 8 < n) (λ _. Unit {0}) a → (o' w₁' w₂' : List ℕ) (r : Result ℕ Refusal) → AnsweredIs a o o' r → w₁' ≡ wiped w₁ → w₂' ≡ wiped w₂
        → ◌≡◌ {A = Outcome} (outcome r o' w₁' w₂') (settled a o w₁ w₂)
    unfolding settled
    all_settled m g o' w₁' w₂' r A e₁ e₂ =
        let f₁ : w₁' ≡ cleared a w₁ = e₁ ∙ sym (cleared_wiped a w₁ (high_other g)) in
        let f₂ : w₂' ≡ cleared a w₂ = e₂ ∙ sym (cleared_wiped a w₂ (high_other g)) in
        (λ i. record { answer = A.0 i; output = A.1 i; works = f₁ i ∷ f₂ i ∷ [] })
        ∙ ap (λ b. record { answer = told b; output = written b o; works = cleared b w₁ ∷ cleared b w₂ ∷ [] }) (sym (lent_long m))

-- ---- an array that was lent, or the refusal in its place

pub none_lent : {A : Type 0} (o : Option A) {M : Type 0} (F : A → Type 0) → MatchOption o M F → o ≡ None → M
none_lent o {M} F m e = subst (λ x. MatchOption x M F) e m

pub one_lent : {A : Type 0} (o : Option A) (M : Type 0) (F : A → Type 0) → MatchOption o M F → (x : A) → o ≡ Some x → F x
one_lent o M F m x e = subst (λ y. MatchOption y M F) e m

pub refused_so : {A : Type 0} (o : Option A) {f g : Refusal} → Err f ≡ ok_or o g → o ≡ None → f ≡ g
refused_so o v e = cc

-- ---- a work slice of which a part was lent, and that was then cleared

part_wiped : (xs ys z : List ℕ) → 65536 ≤ length xs → length ys ≡ 65536 → z ≡ stored (ys ++ drop 65536 xs) 0 (zeros 65536) → z ≡ wiped xs
unfolding wiped
part_wiped xs ys z h l e =
    let y : List ℕ = ys ++ drop 65536 xs in
    let k : length y ≡ length ys + (length xs - 65536) = length-append ys (drop 65536 xs) ∙ ap (λ n. length ys + n) (length-drop 65536 xs) in
    e ∙ clear_wiped y (omega arith) ∙ ap (λ x. zeros 65536 ++ x) (drop_at ys (drop 65536 xs) 65536 l)

-- both work slices so, and the answer of the part
pub ended : (a : Paper.Answer (List ℕ)) (o w₁ w₂ : List ℕ) → Gives (λ n. 8 < n) (λ _. Unit {0}) a → 32792 ≤ length o → 65536 ≤ length w₁ → 65536 ≤ length w₂
    → (o' y₁ w₁' y₂ w₂' : List ℕ) (r : Result ℕ Refusal) → AnsweredIs a o o' r → length y₁ ≡ 65536 → w₁' ≡ stored (y₁ ++ drop 65536 w₁) 0 (zeros 65536)
    → length y₂ ≡ 65536 → w₂' ≡ stored (y₂ ++ drop 65536 w₂) 0 (zeros 65536) → outcome r o' w₁' w₂' ≡ settled a o w₁ w₂
ended a o w₁ w₂ g h l m o' y₁ w₁' y₂ w₂' r A k₁ e₁ k₂ e₂ =
    all_settled a o w₁ w₂ h l m g o' w₁' w₂' r A (part_wiped w₁ y₁ w₁' l k₁ e₁) (part_wiped w₂ y₂ w₂' m k₂ e₂)

-- ---- run

module _ (list start : List ℕ) where
  pub rest_is : {A : Type 0} (k : Store → Paper.Answer A) → store_of list start >>= k ≡ or_refused 9 (block_of list) >>= λ d. or_refused 10 (table_of start) >>= λ s. run (steps d) s >>= k
  unfolding store_of
  rest_is k = assoc (or_refused 9 (block_of list)) _ _ ∙ under (or_refused 9 (block_of list)) (λ d. assoc (or_refused 10 (table_of start)) _ _)

  pub run_settled : (o w₁ w₂ : List ℕ) → settled (whole_of (store_of list start)) o w₁ w₂ ≡ runs list start o w₁ w₂
  unfolding settled lent runs run_op whole_of
  run_settled o w₁ w₂ = ap (λ a. settled a o w₁ w₂) (rest_is (λ t. ok (table t)))

  pub run_gives : Gives (λ n. 8 < n) (λ _. Unit {0}) (whole_of (store_of list start))
  run_gives = whole_gives (store_of list start) (store_gives list start)
