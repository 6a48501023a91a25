-- From an operation's contract, an equation, to what document 01 allows of the call. Assumes nothing.
use Prim.Native.Nat.{ℕ}
use native.Mathlib.Omega.{arith}
use mathlib.Core.Path.{◌≡◌, refl, sym, ap, subst}
use mathlib.Core.List.{List, [], ◌∷◌, map}
use mathlib.Core.Logic.{◌↔◌, ⊎_elim}
use lib.ListN.{length}
use Rattle.paper.specs.Answer.{Answer, refused}
use Rattle.paper.specs.Limits.{least_list, least_table}
use Rattle.paper.specs.Lent.{Outcome, told, written, cleared, Enough, Lent, Call}
use Rattle.paper.specs.Allowed.{Translates, Runs, TakesMain, Resolves}
use Rattle.paper.specs.Operations.{translate_op, run_op, main_op, resolve_op, translates, runs, takes_main, resolves}
use Rattle.theorems.proofs.Demands.{demands}

-- 8 is answered only where a slice is too short
pub only_short : {Long : Type 0} {Allowed : Answer (List ℕ) → Type 0} → ((p : ℕ) → Allowed (refused 8 p) → ⊥) → {a : Answer (List ℕ)} → Lent Long Allowed a → (p : ℕ) → a ≡ refused 8 p → Long → ⊥
only_short no_8 (Lent.too_short k) p e l = k l
only_short {Allowed = Allowed} no_8 (Lent.long _ h) p e l = no_8 p (subst Allowed e h)

-- an answer that is exactly what is allowed, with the outcome that it has
pub call : {Long : Type 0} {Allowed : Answer (List ℕ) → Type 0} (a : Answer (List ℕ)) → ((b : Answer (List ℕ)) → (a ≡ b) ↔ Lent Long Allowed b) → ((p : ℕ) → Allowed (refused 8 p) → ⊥)
    → (output : List ℕ) (works : List (List ℕ)) (x : Outcome) → x ≡ record { answer = told a; output = written a output; works = map (cleared a) works } → Call Long Allowed output works x
call a exact no_8 output works x e =
    record {
      answer = a;
      allowed = (exact a).0 refl;
      only = λ b h. sym ((exact b).1 h);
      eight = only_short no_8 ((exact a).0 refl);
      answer_is = ap (λ (y : Outcome). y.answer) e;
      output_is = ap (λ (y : Outcome). y.output) e;
      works_are = ap (λ (y : Outcome). y.works) e;
    }

pub translate_call : (source o w : List ℕ) (x : Outcome) → x ≡ translates source o w → Call (Enough least_list o (w ∷ [])) (Translates source) o (w ∷ []) x
unfolding translates
translate_call source o w x e =
    call (translate_op source (length o) (length w)) (demands.translate_exactly source o w) (λ p h. omega (arith, (demands.translate_numbers source 8 p h).1)) o (w ∷ []) x e

pub run_call : (list start o w₁ w₂ : List ℕ) (x : Outcome) → x ≡ runs list start o w₁ w₂ → Call (Enough least_table o (w₁ ∷ w₂ ∷ [])) (Runs list start) o (w₁ ∷ w₂ ∷ []) x
unfolding runs
run_call list start o w₁ w₂ x e =
    call (run_op list start (length o) (length w₁) (length w₂)) (demands.run_exactly list start o w₁ w₂) (λ p h. omega (arith, (demands.run_numbers list start 8 p h).0)) o (w₁ ∷ w₂ ∷ []) x e

pub main_call : (whole o : List ℕ) (x : Outcome) → x ≡ takes_main whole o → Call (Enough least_table o []) (TakesMain whole) o [] x
unfolding takes_main
main_call whole o x e =
    call (main_op whole (length o)) (demands.main_exactly whole o)
    (λ p h. ⊎_elim (λ e. omega arith) (⊎_elim (λ e. omega arith) (λ e. omega arith)) (demands.main_numbers whole 8 p h)) o [] x e

pub resolve_call : (source o w₁ w₂ w₃ : List ℕ) (x : Outcome) → x ≡ resolves source o w₁ w₂ w₃ → Call (Enough least_table o (w₁ ∷ w₂ ∷ w₃ ∷ [])) (Resolves source) o (w₁ ∷ w₂ ∷ w₃ ∷ []) x
unfolding resolves
resolve_call source o w₁ w₂ w₃ x e =
    call (resolve_op source (length o) (length w₁) (length w₂) (length w₃)) (demands.resolve_exactly source o w₁ w₂ w₃)
    (λ p h. ⊎_elim (λ q. omega (arith, q.1)) (λ q. omega (arith, q.0)) (demands.resolve_numbers source 8 p h)) o (w₁ ∷ w₂ ∷ w₃ ∷ []) x e
