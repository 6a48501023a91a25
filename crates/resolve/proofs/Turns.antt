-- "Resolve answers as translate, run over the empty table, then main", and what becomes of the lent slices on the way. Assumes nothing.
use Prim.Native.Nat.{ℕ, ◌+◌, ◌-◌, ◌≤◌}
use native.Mathlib.Omega.{arith}
use mathlib.Core.Path.{◌≡◌, refl, sym, ap, ◌∙◌}
use mathlib.Core.List.{List, [], ◌∷◌, ◌++◌}
use lib.ListN.{length, take, drop, length-append}
use lib.Seq.{take_at, drop-append-add, drop-drop}
use lib.Dec.{lit≤}
use borrow.Author.Tests.{le-leb, lt-leb}
use Rattle.paper.specs.Answer.{Answer, ok, refused, demand, ◌>>=◌}
use Rattle.paper.specs.Store.{∅}
use Rattle.paper.specs.Layout.{table}
use Rattle.paper.specs.Operations.{translate, resolve, translate_op, run_op, main_op, resolve_op, translates, resolves}
use Rattle.paper.specs.Lent.{Outcome, told, written, zeros, wiped, cleared}
use Rattle.paper.proofs.Open.{all}
use Rattle.theorems.proofs.Demands.{demands}
use Rattle.theorems.proofs.Laws.Answers.{under}
use Rattle.theorems.proofs.Laws.Gives.{Gives, known, gives_bind}
use Rattle.theorems.proofs.Laws.Wiped.{Other, cleared_wiped, high_other, wiped_twice, wiped_long}
use Rattle.theorems.proofs.Legal.Read.{translate_well, translate_numbers}
use Rattle.theorems.proofs.Decoded.StepList.{steps_length}
use Rattle.memory.specs.Memory.{stored}
use mathlib.Core.Logic.{⊎_elim}
use Rattle.memory.proofs.Laws.{fit, clear_wiped}
use Rattle.std.specs.Prelude.{Result, Ok, Err}
use Rattle.refusal.specs.Refused.{number_of, answered}
use Rattle.refusal.specs.declared.Refusal.{Refusal}
use Rattle.refusal.specs.declared.Reason.TheVariants.{SliceTooShort}
use Rattle.run.specs.Runs as R
use Rattle.run.proofs.Ending.{rest_is}
use Rattle.run.proofs.Choosing.{main_gives}
use Rattle.resolve.specs.Resolves.{outcome, Resolving}
use Rattle.resolve.proofs.Main.{main_of_whole}

-- the answer of the second half, where no lent slice is too short
abbrev meant : List ℕ → Answer (List ℕ)
meant list = R.main_of (R.store_of list (table ∅))

lent_main : (list start : List ℕ) (o w₁ w₂ : ℕ) → 32792 ≤ o → 65536 ≤ w₁ → 65536 ≤ w₂ → R.run_main_op list start o w₁ w₂ ≡ R.main_of (R.store_of list start)
unfolding R.run_main_op R.main_of demand ◌>>=◌
lent_main list start o w₁ w₂ l l₁ l₂ = rw (le-leb 32792 o l, le-leb 65536 w₁ l₁, le-leb 65536 w₂ l₂) (sym (rest_is list start _))

pub lent_resolve : (source : List ℕ) (o w₁ w₂ w₃ : ℕ) → 32792 ≤ o → 65536 ≤ w₁ → 65536 ≤ w₂ → 65536 ≤ w₃ → resolve_op source o w₁ w₂ w₃ ≡ resolve source
unfolding resolve_op demand ◌>>=◌
lent_resolve source o w₁ w₂ w₃ l l₁ l₂ l₃ = rw (le-leb 32792 o l, le-leb 65536 w₁ l₁, le-leb 65536 w₂ l₂, le-leb 65536 w₃ l₃)

lent_translate : (source : List ℕ) (o w : ℕ) → 53272 ≤ o → 65536 ≤ w → translate_op source o w ≡ translate source
unfolding translate_op demand ◌>>=◌
lent_translate source o w l m = rw (le-leb 53272 o l, le-leb 65536 w m)

pub in_turn : (source : List ℕ) → resolve source ≡ translate source >>= meant
in_turn source =
    sym (lent_resolve source 32792 65536 65536 65536 (lit≤ tt) (lit≤ tt) (lit≤ tt) (lit≤ tt))
    ∙ demands.resolves_in_turn source 32792 65536 65536 65536 53272 65536 32792 65536 65536 (lit≤ tt) (lit≤ tt) (lit≤ tt) (lit≤ tt) (lit≤ tt) (lit≤ tt) (lit≤ tt) (lit≤ tt) (lit≤ tt)
    ∙ ap (λ a. a >>= λ list. run_op list (table ∅) 32792 65536 65536 >>= λ whole. main_op whole 32792) (lent_translate source 53272 65536 (lit≤ tt) (lit≤ tt))
    ∙ under (translate source) (λ list. sym (main_of_whole list (table ∅) 32792 65536 65536 (lit≤ tt) (lit≤ tt) (lit≤ tt)) ∙ lent_main list (table ∅) 32792 65536 65536 (lit≤ tt) (lit≤ tt) (lit≤ tt))

-- ---- 8 is for short slices alone

translate_gives : (source : List ℕ) → Gives Other (λ _. Unit {0}) (translate source)
translate_gives source = known {Q = Other} {P = λ _. Unit {0}} (translate source) (λ list e. tt) (λ n p e h. let k : n ≤ 7 = (translate_numbers source n p e).1 in omega arith)

resolve_gives : (source : List ℕ) → Gives Other (λ _. Unit {0}) (resolve source)
resolve_gives source = rw (in_turn source) (gives_bind {P = λ _. Unit {0}} meant (translate_gives source) (λ list _. high_other (main_gives list (table ∅))))

-- ---- the empty table

empty_bytes : (2 ∷ 0 ∷ 0 ∷ 0 ∷ 24 ∷ 0 ∷ 0 ∷ 0 ∷ 0 ∷ 0 ∷ 0 ∷ 0 ∷ 24 ∷ 0 ∷ 0 ∷ 0 ∷ 0 ∷ 0 ∷ 0 ∷ 0 ∷ 24 ∷ 0 ∷ 0 ∷ 0 ∷ []) ≡ table ∅
unfolding all
empty_bytes = refl

-- its bytes, as the code has them
pub empty_is : (list o w₁ w₂ : List ℕ) (r : Result ℕ Refusal) (o' w₁' w₂' : List ℕ)
    → ◌≡◌ {A = Outcome} (R.outcome r o' w₁' w₂') (R.runs_main list (2 ∷ 0 ∷ 0 ∷ 0 ∷ 24 ∷ 0 ∷ 0 ∷ 0 ∷ 0 ∷ 0 ∷ 0 ∷ 0 ∷ 24 ∷ 0 ∷ 0 ∷ 0 ∷ 0 ∷ 0 ∷ 0 ∷ 0 ∷ 24 ∷ 0 ∷ 0 ∷ 0 ∷ []) o w₁ w₂)
    → ◌≡◌ {A = Outcome} (R.outcome r o' w₁' w₂') (R.runs_main list (table ∅) o w₁ w₂)
empty_is list o w₁ w₂ r o' w₁' w₂' e = e ∙ ap (λ t. R.runs_main list t o w₁ w₂) empty_bytes

-- ---- after translate

-- what translate left: the step list at the front of the third slice
pub record Listing (source w₃ w₃' : List ℕ) (n : ℕ) : Type 0 where
  pub list : List ℕ
  pub is : translate source ≡ ok list
  pub sent : take n w₃' ≡ list
  pub behind : drop 65536 w₃' ≡ drop 65536 w₃
  pub inside : n ≤ length w₃'

module _ (source w₁ w₃ : List ℕ) (l₁ : 65536 ≤ length w₁) (l₃ : 65536 ≤ length w₃) (r : Result ℕ Refusal) (w₁' w₃' : List ℕ)
    (met : ◌≡◌ {A = Outcome} (record { answer = answered r; output = w₃'; works = w₁' ∷ [] }) (translates source w₃ w₁)) where
  op_is : translate_op source (length w₃) (length w₁) ≡ translate source
  op_is = lent_translate source (length w₃) (length w₁) (omega (arith, l₃)) l₁

  told_is : answered r ≡ told (translate source)
  unfolding translates
  told_is = ap (λ (o : Outcome). o.answer) met ∙ ap told op_is

  third_is : w₃' ≡ written (translate source) w₃
  unfolding translates
  third_is = ap (λ (o : Outcome). o.output) met ∙ ap (λ a. written a w₃) op_is

  pub first_is : w₁' ≡ wiped w₁
  unfolding translates
  first_is = head (ap (λ (o : Outcome). o.works) met) ∙ ap (λ a. cleared a w₁) op_is ∙ cleared_wiped (translate source) w₁ (translate_gives source)
    where
      head : {a b : List ℕ} → ◌≡◌ {A = List (List ℕ)} (a ∷ []) (b ∷ []) → a ≡ b
      head e = cc

  pub listing : (n : ℕ) → r ≡ Ok n → Listing source w₃ w₃' n
  unfolding told written
  listing n e = go (translate source) refl
    where
      behind_list : (x w : List ℕ) → length x ≤ 65536 → drop 65536 (x ++ drop (length x) w) ≡ drop 65536 w
      behind_list x w h =
          let k : 65536 ≡ length x + (65536 - length x) = omega arith in
          ap (λ n. drop n (x ++ drop (length x) w)) k ∙ drop-append-add x (drop (length x) w) (65536 - length x) ∙ drop-drop (65536 - length x) (length x) w ∙ ap (λ n. drop n w) (sym k)

      go : (a : Answer (List ℕ)) → translate source ≡ a → Listing source w₃ w₃' n
      go (refused k p) q = absurd (let z : ◌≡◌ {A = Answer ℕ} (ok n) (refused k p) = sym (ap answered e) ∙ told_is ∙ ap told q in let y : ◌≡◌ {A = ℕ} 0 1 = cc in omega arith)
      go (ok list) q =
          let z : ◌≡◌ {A = Answer ℕ} (ok n) (ok (length list)) = sym (ap answered e) ∙ told_is ∙ ap told q in
          let m : length list ≡ n = cc in
          let t = (translate_well source list q).is_listed in
          let f : length list ≤ 53272 = omega (arith, steps_length t, t.listed.count, t.listed.text) in
          let w : w₃' ≡ list ++ drop (length list) w₃ = third_is ∙ ap (λ a. written a w₃) q in
          record {
            list = list;
            is = q;
            sent = ap (take n) w ∙ take_at list (drop (length list) w₃) n m;
            behind = ap (drop 65536) w ∙ behind_list list w₃ (omega (arith, f));
            inside = rw w (rw (length-append list (drop (length list) w₃)) (omega (arith, m)));
          }

  pub unlisted : (f : Refusal) → r ≡ Err f → (translate source ≡ refused (number_of f.reason) f.place) × (w₃' ≡ w₃)
  unfolding told written
  unlisted f e = go (translate source) refl
    where
      go : (a : Answer (List ℕ)) → translate source ≡ a → (translate source ≡ refused (number_of f.reason) f.place) × (w₃' ≡ w₃)
      go (ok list) q = absurd (let z : ◌≡◌ {A = Answer ℕ} (refused (number_of f.reason) f.place) (ok (length list)) = sym (ap answered e) ∙ told_is ∙ ap told q in let y : ◌≡◌ {A = ℕ} 0 1 = cc in omega arith)
      go (refused j i) q =
          let z : ◌≡◌ {A = Answer ℕ} (refused (number_of f.reason) f.place) (refused j i) = sym (ap answered e) ∙ told_is ∙ ap told q in
          let a : ◌≡◌ {A = Answer (List ℕ)} (refused j i) (refused (number_of f.reason) f.place) = cc in
          (q ∙ a, third_is ∙ ap (λ x. written x w₃) q)

-- ---- the ways through `in_turn`

module _ (source o w₁ w₂ w₃ : List ℕ) (l : 32792 ≤ length o) (l₁ : 65536 ≤ length w₁) (l₂ : 65536 ≤ length w₂) where
  pub turned : (w₁' w₃' : List ℕ) (n : ℕ) → w₁' ≡ wiped w₁ → Listing source w₃ w₃' n → (r : Result ℕ Refusal) (o' w₁'' w₂' : List ℕ)
      → ◌≡◌ {A = Outcome} (R.outcome r o' w₁'' w₂') (R.runs_main (take n w₃') (table ∅) o w₁' w₂) → Resolving source o w₁ w₂ w₃ r o' w₁'' w₂' w₃'
  unfolding R.runs_main ◌>>=◌
  turned w₁' w₃' n e L r o' w₁'' w₂' met =
      let long : 65536 ≤ length w₁' = rw e (wiped_long w₁ l₁) in
      let same : R.run_main_op (take n w₃') (table ∅) (length o) (length w₁') (length w₂) ≡ resolve source = lent_main (take n w₃') (table ∅) (length o) (length w₁') (length w₂) l long l₂ ∙ ap meant L.sent ∙ sym (in_turn source ∙ ap (λ a. a >>= meant) L.is) in
      let works = ap (λ (x : Outcome). x.works) met in
      record {
        answer = ap (λ (x : Outcome). x.answer) met ∙ ap told same;
        output_is = ap (λ (x : Outcome). x.output) met ∙ ap (λ a. written a o) same;
        first = first_of works ∙ ap (λ a. cleared a w₁') same ∙ cleared_wiped (resolve source) w₁' (resolve_gives source) ∙ ap wiped e ∙ wiped_twice w₁;
        second = second_of works ∙ ap (λ a. cleared a w₂) same ∙ cleared_wiped (resolve source) w₂ (resolve_gives source);
        behind = L.behind;
      }
    where
      first_of : {a b c d : List ℕ} → ◌≡◌ {A = List (List ℕ)} (a ∷ b ∷ []) (c ∷ d ∷ []) → a ≡ c
      first_of e = cc

      second_of : {a b c d : List ℕ} → ◌≡◌ {A = List (List ℕ)} (a ∷ b ∷ []) (c ∷ d ∷ []) → b ≡ d
      second_of e = cc

  pub not_turned : (w₁' w₂' w₃' : List ℕ) (f : Refusal) → w₁' ≡ wiped w₁ → translate source ≡ refused (number_of f.reason) f.place → w₃' ≡ w₃ → w₂' ≡ stored w₂ 0 (zeros 65536) → Resolving source o w₁ w₂ w₃ (Err f) o w₁' w₂' w₃'
  unfolding told written ◌>>=◌
  not_turned w₁' w₂' w₃' f e q h g =
      let same : resolve source ≡ refused (number_of f.reason) f.place = in_turn source ∙ ap (λ a. a >>= meant) q in
      record { answer = sym (ap told same); output_is = sym (ap (λ a. written a o) same); first = e; second = g ∙ clear_wiped w₂ l₂; behind = ap (drop 65536) h }

-- ---- and through `resolve`

-- 8 at 0
abbrev pub eight : Result ℕ Refusal
eight = Err (record { reason = SliceTooShort; place = 0 })

module _ (source o w₁ w₂ w₃ : List ℕ) where
  abbrev pub Eight : Type 0
  Eight = ◌≡◌ {A = Outcome} (outcome eight o w₁ w₂ w₃) (resolves source o w₁ w₂ w₃)

  pub short : (32792 ≤ length o → 65536 ≤ length w₁ → 65536 ≤ length w₂ → 65536 ≤ length w₃ → ⊥) → Eight
  unfolding resolves resolve_op told written cleared demand ◌>>=◌
  short none =
      ⊎_elim
      (λ l.
      ⊎_elim
      (λ l₁.
      ⊎_elim
      (λ l₂. ⊎_elim (λ l₃. absurd (none l l₁ l₂ l₃)) (λ h. rw (le-leb _ _ l, le-leb _ _ l₁, le-leb _ _ l₂, lt-leb _ _ h)) (fit 65536 (length w₃)))
      (λ h. rw (le-leb _ _ l, le-leb _ _ l₁, lt-leb _ _ h))
      (fit 65536 (length w₂)))
      (λ h. rw (le-leb _ _ l, lt-leb _ _ h))
      (fit 65536 (length w₁)))
      (λ h. rw (lt-leb _ _ h))
      (fit 32792 (length o))

  module _ (l : 32792 ≤ length o) (l₁ : 65536 ≤ length w₁) (l₂ : 65536 ≤ length w₂) where
    pub all_resolved : 65536 ≤ length w₃ → (r : Result ℕ Refusal) (o' w₁' w₂' w₃' w₃'' : List ℕ) → Resolving source o w₁ w₂ w₃ r o' w₁' w₂' w₃' → length w₃' ≡ length w₃ → w₃'' ≡ stored w₃' 0 (zeros 65536)
        → ◌≡◌ {A = Outcome} (outcome r o' w₁' w₂' w₃'') (resolves source o w₁ w₂ w₃)
    unfolding resolves wiped
    all_resolved l₃ r o' w₁' w₂' w₃' w₃'' R kept e =
        let wipes : (w : List ℕ) → wiped w ≡ cleared (resolve source) w = λ w. sym (cleared_wiped (resolve source) w (resolve_gives source)) in
        let f₁ : w₁' ≡ cleared (resolve source) w₁ = R.first ∙ wipes w₁ in
        let f₂ : w₂' ≡ cleared (resolve source) w₂ = R.second ∙ wipes w₂ in
        let f₃ : w₃'' ≡ cleared (resolve source) w₃ = e ∙ clear_wiped w₃' (omega (arith, kept)) ∙ ap (λ x. zeros 65536 ++ x) R.behind ∙ wipes w₃ in
        (λ i. record { answer = R.answer i; output = R.output_is i; works = f₁ i ∷ f₂ i ∷ f₃ i ∷ [] })
        ∙ ap (λ a. record { answer = told a; output = written a o; works = cleared a w₁ ∷ cleared a w₂ ∷ cleared a w₃ ∷ [] }) (sym (lent_resolve source (length o) (length w₁) (length w₂) (length w₃) l l₁ l₂ l₃))
