-- From an operation's outcome to the one number that C is told. Assumes nothing.
use Prim.Native.Nat.{ℕ, ◌+◌, ◌*◌, ◌/◌, ◌%◌, ◌≤◌}
use native.Mathlib.Omega.{arith}
use mathlib.Core.Path.{◌≡◌, refl, sym, ap, subst, ◌∙◌}
use mathlib.Core.List.{List}
use mathlib.Core.Logic.{⊎_elim}
use lib.ListN.{length}
use Rattle.paper.specs.Answer.{Answer, ok, refused}
use Rattle.paper.specs.Limits.{most_source, least_list}
use Rattle.paper.specs.Operations.{translates, runs, takes_main, resolves}
use Rattle.paper.specs.Lent.{Outcome, told, Lent}
use Rattle.theorems.proofs.Demands.{demands}
use Rattle.theorems.proofs.Kept.Slices.{translate_fits, run_fits, main_fits, resolve_fits}
use Rattle.std.specs.Prelude.{Result, Ok, Err, IfErr}
use Rattle.refusal.specs.Refused.{number_of, answered}
use Rattle.refusal.specs.declared.Refusal.{Refusal}
use Rattle.capi.specs.Called.{Called, coded, in_c}

pub called : (x : Outcome) (r : Result ℕ Refusal) (k : ℕ) (o : List ℕ) (ws : List (List ℕ))
    → ◌≡◌ {A = Outcome} (record { answer = answered r; output = o; works = ws }) x → k ≡ coded (answered r)
    → ◌≡◌ {A = Called} (record { result = k; output = o; works = ws }) (in_c x)
unfolding in_c
called x r k o ws met e = ap (λ j. record { result = j; output = o; works = ws }) e ∙ ap in_c met

-- ---- a refusal's number and place are small, so that the two do not run together

abbrev pub Small : Outcome → Type 0
Small x = (n p : ℕ) → x.answer ≡ refused n p → (n ≤ 20) × (p ≤ 32768)

pub small_call : (x : Outcome) → Small x → (r : Result ℕ Refusal) (o : List ℕ) (ws : List (List ℕ))
    → ◌≡◌ {A = Outcome} (record { answer = answered r; output = o; works = ws }) x → IfErr r (λ e. e.place ≤ 32768)
small_call x s (Ok n) o ws met = tt
small_call x s (Err f) o ws met = (s (number_of f.reason) f.place (sym (ap (λ (y : Outcome). y.answer) met))).1

untold : (a : Answer (List ℕ)) (n p : ℕ) → told a ≡ refused n p → a ≡ refused n p
unfolding told
untold (ok b) n p e = absurd (let z : ◌≡◌ {A = ℕ} 0 1 = cc in omega arith)
untold (refused k q) n p e = cc

-- 8 is small, and so is whatever else is allowed
small : {Long : Type 0} {Allowed : Answer (List ℕ) → Type 0} → ((n p : ℕ) → Allowed (refused n p) → (n ≤ 20) × (p ≤ most_source))
    → {a : Answer (List ℕ)} → Lent Long Allowed a → (n p : ℕ) → told a ≡ refused n p → (n ≤ 20) × (p ≤ most_source)
unfolding told
small f (Lent.too_short k) n p e = let i : n ≡ 8 = cc in let j : p ≡ 0 = cc in (omega arith, omega arith)
small {Allowed = Allowed} f (Lent.long {a} l h) n p e = f n p (subst Allowed (untold a n p e) h)

pub translates_small : (source o w : List ℕ) → Small (translates source o w)
unfolding translates
translates_small source o w =
    small (λ n p h. (omega (arith, (demands.translate_numbers source n p h).1), (demands.translate_places source n p h).1))
    ((demands.translate_exactly source o w _).0 refl)

pub runs_small : (list start o w₁ w₂ : List ℕ) → Small (runs list start o w₁ w₂)
unfolding runs
runs_small list start o w₁ w₂ =
    small (λ n p h. (omega (arith, (demands.run_numbers list start n p h).1), omega (arith, demands.run_places list start n p h)))
    ((demands.run_exactly list start o w₁ w₂ _).0 refl)

pub main_small : (whole o : List ℕ) → Small (takes_main whole o)
unfolding takes_main
main_small whole o =
    small (λ n p h. (⊎_elim (λ e. omega arith) (⊎_elim (λ e. omega arith) (λ e. omega arith)) (demands.main_numbers whole n p h), omega (arith, demands.main_places whole n p h)))
    ((demands.main_exactly whole o _).0 refl)

pub resolves_small : (source o w₁ w₂ w₃ : List ℕ) → Small (resolves source o w₁ w₂ w₃)
unfolding resolves
resolves_small source o w₁ w₂ w₃ =
    small (λ n p h. (⊎_elim (λ q. omega (arith, q.1)) (λ q. q.1) (demands.resolve_numbers source n p h), (demands.resolve_places source n p h).1))
    ((demands.resolve_exactly source o w₁ w₂ w₃ _).0 refl)

-- ---- what C can take apart again: of each operation, number and place, or that it was done

pub record Apart (x : Outcome) : Type 0 where
  pub refused_as : (n p : ℕ) → x.answer ≡ refused n p → (coded x.answer / 4294967296 ≡ n) × (coded x.answer % 4294967296 ≡ p)
  pub done_as : (n : ℕ) → x.answer ≡ ok n → (coded x.answer / 4294967296 ≡ 0) × (coded x.answer ≡ n)

refused_apart : (n p : ℕ) → p ≤ most_source → (coded (refused n p) / 4294967296 ≡ n) × (coded (refused n p) % 4294967296 ≡ p)
unfolding coded
refused_apart n p h = (omega arith, omega arith)

done_apart : (n : ℕ) → n ≤ least_list → (coded (ok n) / 4294967296 ≡ 0) × (coded (ok n) ≡ n)
unfolding coded
done_apart n h = (omega arith, refl)

-- how many bytes were written is the length of what was written
told_long : (a : Answer (List ℕ)) → ((b : List ℕ) → a ≡ ok b → length b ≤ least_list) → (n : ℕ) → told a ≡ ok n → n ≤ least_list
unfolding told
told_long (ok b) f n e = let i : length b ≡ n = cc in omega (arith, f b refl)
told_long (refused m q) f n e = absurd (let z : ◌≡◌ {A = ℕ} 0 1 = cc in omega arith)

apart_of : (x : Outcome) → Small x → ((n : ℕ) → x.answer ≡ ok n → n ≤ least_list) → Apart x
apart_of x s l = record { refused_as = λ n p e. rw e (refused_apart n p (s n p e).1); done_as = λ n e. rw e (done_apart n (l n e)) }

pub record AllApart : Type 0 where
  pub translate : (source o w : List ℕ) → Apart (translates source o w)
  pub run : (list start o w₁ w₂ : List ℕ) → Apart (runs list start o w₁ w₂)
  pub main : (whole o : List ℕ) → Apart (takes_main whole o)
  pub resolve : (source o w₁ w₂ w₃ : List ℕ) → Apart (resolves source o w₁ w₂ w₃)

pub apart : AllApart
unfolding translates runs takes_main resolves
apart =
    record {
      translate = λ source o w. apart_of _ (translates_small source o w) (told_long _ (translate_fits source (length o) (length w)));
      run = λ list start o w₁ w₂. apart_of _ (runs_small list start o w₁ w₂) (told_long _ (λ b e. omega (arith, run_fits list start (length o) (length w₁) (length w₂) b e)));
      main = λ whole o. apart_of _ (main_small whole o) (told_long _ (λ b e. omega (arith, main_fits whole (length o) b e)));
      resolve = λ source o w₁ w₂ w₃. apart_of _ (resolves_small source o w₁ w₂ w₃) (told_long _ (λ b e. omega (arith, resolve_fits source (length o) (length w₁) (length w₂) (length w₃) b e)));
    }
