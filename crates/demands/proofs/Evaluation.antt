-- From translate's call and run's to demand 3. Assumes nothing.
use Prim.Native.Nat.{ℕ, ◌+◌, ◌≤◌}
use native.Mathlib.Omega.{arith}
use mathlib.Core.Path.{◌≡◌, refl, sym, ap, subst, ◌∙◌}
use mathlib.Core.List.{List, [], ◌∷◌, ◌++◌, map}
use mathlib.Core.Logic.{⊎_elim}
use lib.ListN.{length, take, drop, length-append}
use lib.Seq.{take_at}
use Rattle.paper.specs.Answer.{Answer, ok, refused}
use Rattle.paper.specs.Limits.{least_list, least_table}
use Rattle.paper.specs.Syntax.{Block}
use Rattle.paper.specs.Lent.{Outcome, told, written, wiped, cleared, Enough, Lent, Call}
use Rattle.paper.specs.Steps.{steps}
use Rattle.paper.specs.StepLayout.{step_list}
use Rattle.paper.specs.Allowed.{Accepts, Translates, Runs, Evaluates}
use Rattle.theorems.proofs.Demands.{demands}
use Rattle.theorems.proofs.Demands.Exact.{ran_evaluates, evaluates_exactly}
use Rattle.theorems.proofs.Laws.Gives.{Gives, known}
use Rattle.theorems.proofs.Laws.Wiped.{Other, Any, cleared_wiped, wiped_twice, wiped_long}
use Rattle.demands.specs.Slices.{FourLong, Sent, Third}
use Rattle.demands.proofs.Calls.{only_short}

-- ---- evaluates: one answer, and none is 8

one : (source start : List ℕ) (a b : Answer (List ℕ)) → Evaluates source start a → Evaluates source start b → a ≡ b
one source start a b h k = sym ((evaluates_exactly source start a).1 h) ∙ (evaluates_exactly source start b).1 k

no_8 : (source start : List ℕ) (p : ℕ) → Evaluates source start (refused 8 p) → ⊥
no_8 source start p h = ⊎_elim (λ q. omega (arith, q.1)) (λ q. omega (arith, q.0)) (demands.evaluate_numbers source start 8 p h)

-- ---- a call over slices that are long enough, or not

-- what is allowed where the slices are long enough
allowed_long : {Long : Type 0} {Allowed : Answer (List ℕ) → Type 0} {a : Answer (List ℕ)} → Lent Long Allowed a → Long → Allowed a
allowed_long (Lent.too_short k) l = absurd (k l)
allowed_long (Lent.long _ h) l = h

one_lent : {Long : Type 0} (source start : List ℕ) → Long → (a : Answer (List ℕ)) → Evaluates source start a → (b : Answer (List ℕ)) → Lent Long (Evaluates source start) b → b ≡ a
one_lent source start l a h b k = one source start b a (allowed_long k l) h

-- an answer that is not 8 leaves a wiped slice as wiped
not_8 : (a : Answer (List ℕ)) → ((p : ℕ) → a ≡ refused 8 p → ⊥) → Gives Other Any a
not_8 a h = known {Q = Other} {P = Any} a (λ b e. tt) (λ n p e q. h p (e ∙ ap (λ k. refused k p) q))

wiped_first : (a : Answer (List ℕ)) (w₁ w₂ : List ℕ) → Gives Other Any a → map (cleared a) (wiped w₁ ∷ w₂ ∷ []) ≡ map (cleared a) (w₁ ∷ w₂ ∷ [])
wiped_first a w₁ w₂ g = let e : cleared a (wiped w₁) ≡ cleared a w₁ = cleared_wiped a (wiped w₁) g ∙ wiped_twice w₁ ∙ sym (cleared_wiped a w₁ g) in rw e

-- ---- where some slice is too short

module _ (source start list output w₁ w₂ : List ℕ) where
  pub short_third : (FourLong list output w₁ w₂ → ⊥) → Third source start list output w₁ w₂ list (record { answer = refused 8 0; output = output; works = w₁ ∷ w₂ ∷ [] })
  unfolding told written cleared
  short_third k =
      record {
        ran = record {
          answer = refused 8 0;
          allowed = Lent.too_short k;
          only = λ a h. only_8 h;
          eight = λ p e l. k l;
          answer_is = refl;
          output_is = refl;
          works_are = refl;
        };
        sent = record { translation = refused 8 0; allowed = Lent.too_short k; is = refl };
      }
    where
      only_8 : {a : Answer (List ℕ)} → Lent (FourLong list output w₁ w₂) (Evaluates source start) a → a ≡ refused 8 0
      only_8 (Lent.too_short _) = refl
      only_8 (Lent.long l h) = absurd (k l)

  -- ---- where none is: what translate leaves

  module _ (L : FourLong list output w₁ w₂) (list' w₁' : List ℕ) (told₁ : Answer ℕ)
      (T : Call (Enough least_list list (w₁ ∷ [])) (Translates source) list (w₁ ∷ []) (record { answer = told₁; output = list'; works = w₁' ∷ [] })) where
    translated : Translates source T.answer
    translated = allowed_long T.allowed (record { output_long = L.list_long; works_long = (L.others.works_long.0, tt) })

    first_wiped : w₁' ≡ wiped w₁
    first_wiped = head T.works_are ∙ cleared_wiped T.answer w₁ (not_8 T.answer (λ p e. omega (arith, (demands.translate_numbers source 8 p (subst (Translates source) e translated)).1)))
      where
        head : {a b : List ℕ} → ◌≡◌ {A = List (List ℕ)} (a ∷ []) (b ∷ []) → a ≡ b
        head e = cc

    sent_so : Sent (FourLong list output w₁ w₂) source list list'
    sent_so = record { translation = T.answer; allowed = Lent.long L translated; is = T.output_is }

    -- the list that was accepted, in the front of its slice
    record Front (n : ℕ) : Type 0 where
      block : Block
      accepts : Accepts source block
      is : T.answer ≡ ok (step_list (steps block))
      long : length (step_list (steps block)) ≡ n

    front : (n : ℕ) → told₁ ≡ ok n → Front n
    unfolding told
    front n e = go translated refl
      where
        go : {a : Answer (List ℕ)} → Translates source a → T.answer ≡ a → Front n
        go (Translates.not_read r) q = let f : told T.answer ≡ ok n = sym T.answer_is ∙ e in absurd (let z : ◌≡◌ {A = ℕ} 0 1 = cc in omega arith)
        go (Translates.not_listed d m) q = let f : told T.answer ≡ ok n = sym T.answer_is ∙ e in absurd (let z : ◌≡◌ {A = ℕ} 0 1 = cc in omega arith)
        go (Translates.accepted {b} h) q = let f : told T.answer ≡ ok n = sym T.answer_is ∙ e in record { block = b; accepts = h; is = q; long = same (sym (ap told q) ∙ f) }
          where
            same : {k m : ℕ} → ◌≡◌ {A = Answer ℕ} (ok k) (ok m) → k ≡ m
            same e = cc

    list_is : (n : ℕ) (e : told₁ ≡ ok n) → list' ≡ step_list (steps (front n e).block) ++ drop (length (step_list (steps (front n e).block))) list
    unfolding written
    list_is n e = T.output_is ∙ ap (λ a. written a list) (front n e).is

    pub inside : (n : ℕ) → told₁ ≡ ok n → n ≤ length list'
    inside n e =
        let f = front n e in
        let b : List ℕ = step_list (steps f.block) in
        let k : length list' ≡ length b + length (drop (length b) list) = ap length (list_is n e) ∙ length-append b (drop (length b) list) in
        omega (arith, f.long)

    front_is : (n : ℕ) (e : told₁ ≡ ok n) → take n list' ≡ step_list (steps (front n e).block)
    front_is n e = ap (take n) (list_is n e) ∙ take_at _ _ n (front n e).long

    -- ---- the list runs

    -- k is the code's n - 0
    module _ (n : ℕ) (e : told₁ ≡ ok n) (k : ℕ) (k-is : k ≡ n) (x : Outcome)
        (R : Call (Enough least_table output (w₁' ∷ w₂ ∷ [])) (Runs (take k list') start) output (w₁' ∷ w₂ ∷ []) x) where
      enough : Enough least_table output (w₁' ∷ w₂ ∷ [])
      enough = record {
        output_long = L.others.output_long;
        works_long = (rw first_wiped (wiped_long w₁ L.others.works_long.0), L.others.works_long.1);
      }

      evaluated : Evaluates source start R.answer
      evaluated = ran_evaluates source start (front n e).block (front n e).accepts (subst (λ b. Runs b start R.answer) (ap (λ j. take j list') k-is ∙ front_is n e) (allowed_long R.allowed enough))

      pub run_third : Third source start list output w₁ w₂ list' x
      run_third =
          record {
            ran = record {
              answer = R.answer;
              allowed = Lent.long L evaluated;
              only = one_lent source start L R.answer evaluated;
              eight = only_short {Allowed = Evaluates source start} (no_8 source start) (Lent.long L evaluated);
              answer_is = R.answer_is;
              output_is = R.output_is;
              works_are = R.works_are ∙ ap (λ w. map (cleared R.answer) (w ∷ w₂ ∷ [])) first_wiped
                  ∙ wiped_first R.answer w₁ w₂ (not_8 R.answer (λ p q. no_8 source start p (subst (Evaluates source start) q evaluated)));
            };
            sent = sent_so;
          }

    -- ---- or there is none

    pub refused_third : (k p : ℕ) → told₁ ≡ refused k p → (w₂' : List ℕ) → w₂' ≡ wiped w₂
        → Third source start list output w₁ w₂ list' (record { answer = refused k p; output = output; works = w₁' ∷ w₂' ∷ [] })
    unfolding told written
    refused_third k p e w₂' f =
        let a : T.answer ≡ refused k p = untold T.answer (sym T.answer_is ∙ e) in
        let t : Translates source (refused k p) = subst (Translates source) a translated in
        let h : Evaluates source start (refused k p) = Evaluates.not_translated t in
        let g : Gives Other Any (refused k p) = not_8 (refused k p) (λ q z. no_8 source start q (subst (Evaluates source start) z h)) in
        record {
          ran = record {
            answer = refused k p;
            allowed = Lent.long L h;
            only = one_lent source start L (refused k p) h;
            eight = only_short {Allowed = Evaluates source start} (no_8 source start) (Lent.long L h);
            answer_is = refl;
            output_is = refl;
            works_are = both (first_wiped ∙ sym (cleared_wiped (refused k p) w₁ g)) (f ∙ sym (cleared_wiped (refused k p) w₂ g));
          };
          sent = sent_so;
        }
      where
        untold : (a : Answer (List ℕ)) → told a ≡ refused k p → a ≡ refused k p
        untold (ok b) q = absurd (let z : ◌≡◌ {A = ℕ} 0 1 = cc in omega arith)
        untold (refused m q) z = cc

        both : {a b c d : List ℕ} → a ≡ c → b ≡ d → ◌≡◌ {A = List (List ℕ)} (a ∷ b ∷ []) (c ∷ d ∷ [])
        both e f = cc
