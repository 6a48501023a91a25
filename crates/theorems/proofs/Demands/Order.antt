-- The order 8, 9, 10, over lent slices: 8 comes first and exactly where a lent slice is too short; 9 exactly where the bytes are no step
-- list; 10 exactly where the bytes are no table. So each call answers exactly what document 01 allows. Assumes nothing.
use Prim.Native.Nat.{ℕ, ◌≤◌}
use native.Mathlib.Omega.{arith}
use mathlib.Core.Path.{◌≡◌, refl, sym, ap, subst, ◌∙◌}
use mathlib.Core.Bool.{Bool, true, false}
use mathlib.Core.List.{List, [], ◌∷◌}
use mathlib.Core.Logic.{◌↔◌}
use lib.ListN.{length}
use lib.Dec.{leb}
use borrow.Author.Tests.{leb-true, leb-false}
use Rattle.paper.specs.Answer.{Answer, refused, ◌>>=◌, demand}
use Rattle.paper.specs.Limits.{least_list, least_table, least_work}
use Rattle.paper.specs.Syntax.{Block}
use Rattle.paper.specs.Store.{Store}
use Rattle.paper.specs.WellFormed.{IsTable, IsStepList}
use Rattle.paper.specs.Lent.{LongWorks, Enough, Lent, too_short}
use Rattle.paper.specs.Operations.{translate, resolve, translate_op, run_op, main_op, resolve_op}
use Rattle.paper.specs.Allowed.{Translates, Runs, TakesMain, Resolves, Evaluates}
use Rattle.theorems.proofs.Demands.Answers.{Reading, Running, Taking, Resolving, Evaluating, translate_gives, run_gives, main_gives, resolve_gives, evaluate_gives}
use Rattle.theorems.proofs.Laws.Answers.{under}
use Rattle.theorems.proofs.Laws.Gives.{gives_refused}
use Rattle.theorems.proofs.Legal.Bounds.{Main, of_table, evaluates_numbers}
use Rattle.theorems.proofs.Legal.Bounds as Bounds
use Rattle.theorems.proofs.Demands.Exact.{run_rest, main_rest, in_turn, translates_exactly, runs_exactly, takes_main_exactly, resolves_exactly, evaluates_exactly}

-- ---- number 8

-- some slice is too short, and the answer is 8; or L holds, they are long enough, and the answer is the rest's
pub data Split {X : Type 0} (L : Type 0) (rest : Answer X) : Answer X → Type 0 where
  short : (L → ⊥) → Split L rest (refused 8 0)
  long : L → Split L rest rest

split : {X : Type 0} {L : Type 0} {rest : Answer X} (n o : ℕ) (f : Unit {0} → Answer X) → Split L rest (f tt) → Split ((n ≤ o) × L) rest (demand (leb n o) 8 0 >>= f)
unfolding demand ◌>>=◌
split {X} {L} {rest} n o f h = go (leb n o) refl (f tt) h
  where
    go : (c : Bool) → leb n o ≡ c → (a : Answer X) → Split L rest a → Split ((n ≤ o) × L) rest (demand c 8 0 >>= λ _. a)
    go false e a h = short (λ l. let k = leb-false n o e in omega (arith, l.0))
    go true e a (short k) = short (λ l. k l.1)
    go true e a (long k) = long (leb-true n o e, k)

pub translate_split : (source : List ℕ) (o w : ℕ) → Split ((least_list ≤ o) × ((least_work ≤ w) × Unit {0})) (translate source) (translate_op source o w)
unfolding translate_op
translate_split source o w = split least_list o _ (split least_work w _ (long tt))

pub run_split : (list start : List ℕ) (o w₁ w₂ : ℕ)
    → Split ((least_table ≤ o) × ((least_work ≤ w₁) × ((least_work ≤ w₂) × Unit {0}))) (run_rest list start) (run_op list start o w₁ w₂)
unfolding run_op run_rest
run_split list start o w₁ w₂ = split least_table o _ (split least_work w₁ _ (split least_work w₂ _ (long tt)))

pub main_split : (whole : List ℕ) (o : ℕ) → Split ((least_table ≤ o) × Unit {0}) (main_rest whole) (main_op whole o)
unfolding main_op main_rest
main_split whole o = split least_table o _ (long tt)

pub resolve_split : (source : List ℕ) (o w₁ w₂ w₃ : ℕ)
    → Split ((least_table ≤ o) × ((least_work ≤ w₁) × ((least_work ≤ w₂) × ((least_work ≤ w₃) × Unit {0})))) (resolve source) (resolve_op source o w₁ w₂ w₃)
unfolding resolve_op
resolve_split source o w₁ w₂ w₃ = split least_table o _ (split least_work w₁ _ (split least_work w₂ _ (split least_work w₃ _ (long tt))))

-- ---- each call

-- what is allowed of the rest is, with 8 before it, allowed of the whole
module _ {L Long : Type 0} (to : L → Long) (from : Long → L) {rest : Answer (List ℕ)} {Allowed : Answer (List ℕ) → Type 0} (exact : (a : Answer (List ℕ)) → (rest ≡ a) ↔ Allowed a) where
  lent_so : {x : Answer (List ℕ)} → Split L rest x → Lent Long Allowed x
  lent_so (short k) = too_short (λ l. k (from l))
  lent_so (long l) = Lent.long (to l) ((exact rest).0 refl)

  lent_back : {x a : Answer (List ℕ)} → Split L rest x → Lent Long Allowed a → x ≡ a
  lent_back (short k) (too_short n) = refl
  lent_back (short k) (Lent.long l h) = absurd (k (from l))
  lent_back (long l) (too_short n) = absurd (n (to l))
  lent_back (long l) (Lent.long {a} m h) = (exact a).1 h

  pub lent_exactly : (x : Answer (List ℕ)) → Split L rest x → (a : Answer (List ℕ)) → (x ≡ a) ↔ Lent Long Allowed a
  lent_exactly x s a = (λ e. subst (Lent Long Allowed) e (lent_so s), lent_back s)

-- the slices of a call are long enough, as a record and as a tuple
module _ {n : ℕ} {o : List ℕ} {ws : List (List ℕ)} where
  record_of : (n ≤ length o) × LongWorks ws → Enough n o ws
  record_of l = record { output_long = l.0; works_long = l.1 }

  tuple_of : Enough n o ws → (n ≤ length o) × LongWorks ws
  tuple_of l = (l.output_long, l.works_long)

pub translate_exactly : (source output work : List ℕ) (a : Answer (List ℕ))
    → (translate_op source (length output) (length work) ≡ a) ↔ Lent (Enough least_list output (work ∷ [])) (Translates source) a
translate_exactly source o w = lent_exactly record_of tuple_of (translates_exactly source) _ (translate_split source (length o) (length w))

pub run_exactly : (list start output work₁ work₂ : List ℕ) (a : Answer (List ℕ))
    → (run_op list start (length output) (length work₁) (length work₂) ≡ a) ↔ Lent (Enough least_table output (work₁ ∷ work₂ ∷ [])) (Runs list start) a
run_exactly list start o w₁ w₂ = lent_exactly record_of tuple_of (runs_exactly list start) _ (run_split list start (length o) (length w₁) (length w₂))

pub main_exactly : (whole output : List ℕ) (a : Answer (List ℕ)) → (main_op whole (length output) ≡ a) ↔ Lent (Enough least_table output []) (TakesMain whole) a
main_exactly whole o = lent_exactly record_of tuple_of (takes_main_exactly whole) _ (main_split whole (length o))

pub resolve_exactly : (source output work₁ work₂ work₃ : List ℕ) (a : Answer (List ℕ))
    → (resolve_op source (length output) (length work₁) (length work₂) (length work₃) ≡ a) ↔ Lent (Enough least_table output (work₁ ∷ work₂ ∷ work₃ ∷ [])) (Resolves source) a
resolve_exactly source o w₁ w₂ w₃ = lent_exactly record_of tuple_of (resolves_exactly source) _ (resolve_split source (length o) (length w₁) (length w₂) (length w₃))

-- translate and then run, over slices that are long enough
pub evaluate_exactly : (source start : List ℕ) (o₁ v₁ o w₁ w₂ : ℕ) → least_list ≤ o₁ → least_work ≤ v₁ → least_table ≤ o → least_work ≤ w₁ → least_work ≤ w₂
    → (a : Answer (List ℕ)) → ((translate_op source o₁ v₁ >>= λ list. run_op list start o w₁ w₂) ≡ a) ↔ Evaluates source start a
evaluate_exactly source start o₁ v₁ o w₁ w₂ lo₁ lv₁ lo l₁ l₂ a =
    rw (← whole) (evaluates_exactly source start a)
  where
    only_rest : {X : Type 0} {L : Type 0} {rest x : Answer X} → Split L rest x → L → x ≡ rest
    only_rest (short k) l = absurd (k l)
    only_rest (long k) l = refl

    whole : in_turn source start ≡ (translate_op source o₁ v₁ >>= λ list. run_op list start o w₁ w₂)
    whole =
        ap (λ m. m >>= λ list. run_rest list start) (sym (only_rest (translate_split source o₁ v₁) (lo₁, (lv₁, tt))))
        ∙ under (translate_op source o₁ v₁) (λ list. sym (only_rest (run_split list start o w₁ w₂) (lo, (l₁, (l₂, tt)))))

-- ---- the numbers of refusals, beside 8

pub translate_numbers : (source : List ℕ) (n p : ℕ) → Translates source (refused n p) → Reading n
translate_numbers source n p h = gives_refused (translate_gives source) ((translates_exactly source (refused n p)).1 h)

pub run_numbers : (list start : List ℕ) (n p : ℕ) → Runs list start (refused n p) → Running n
run_numbers list start n p h = gives_refused (run_gives list start) ((runs_exactly list start (refused n p)).1 h)

pub main_numbers : (whole : List ℕ) (n p : ℕ) → TakesMain whole (refused n p) → Taking n
main_numbers whole n p h = gives_refused (main_gives whole) ((takes_main_exactly whole (refused n p)).1 h)

pub resolve_numbers : (source : List ℕ) (n p : ℕ) → Resolves source (refused n p) → Resolving n
resolve_numbers source n p h = gives_refused (resolve_gives source) ((resolves_exactly source (refused n p)).1 h)

pub evaluate_numbers : (source start : List ℕ) (n p : ℕ) → Evaluates source start (refused n p) → Evaluating n
evaluate_numbers source start n p h = gives_refused (evaluate_gives source start) ((evaluates_exactly source start (refused n p)).1 h)

-- ---- 9 and 10

-- run refuses with 9 exactly where the bytes are the step list of no block
pub run_9 : (list start : List ℕ) → Runs list start (refused 9 0) ↔ ((d : Block) → IsStepList list d → ⊥)
run_9 list start = (λ h. to h refl, Runs.no_list)
  where
    to : {a : Answer (List ℕ)} → Runs list start a → a ≡ refused 9 0 → (d : Block) → IsStepList list d → ⊥
    to (Runs.no_list n) e = n
    to (Runs.no_table hd n) e = absurd (let z : ◌≡◌ {A = ℕ} 9 10 = cc in omega arith)
    to (Runs.not_run {d} {s} {n} {p} hd hs q) e = absurd (let z : n ≡ 9 = cc in let l = evaluates_numbers d s n p hd.blocks (of_table hs) q in omega (arith, l.0))
    to (Runs.accepted hd hs q) e = absurd (let z : ◌≡◌ {A = ℕ} 0 1 = cc in omega arith)

-- and, on a step list, with 10 exactly where the starting bytes are the table of no store
pub run_10 : (list start : List ℕ) (d : Block) → IsStepList list d → Runs list start (refused 10 0) ↔ ((s : Store) → IsTable start s → ⊥)
run_10 list start d hd = (λ h. to h refl, Runs.no_table hd)
  where
    to : {a : Answer (List ℕ)} → Runs list start a → a ≡ refused 10 0 → (s : Store) → IsTable start s → ⊥
    to (Runs.no_list n) e = absurd (n d hd)
    to (Runs.no_table hd n) e = n
    to (Runs.not_run {d} {s} {n} {p} hd hs q) e = absurd (let z : n ≡ 10 = cc in let l = evaluates_numbers d s n p hd.blocks (of_table hs) q in omega (arith, l.0))
    to (Runs.accepted hd hs q) e = absurd (let z : ◌≡◌ {A = ℕ} 0 1 = cc in omega arith)

-- main refuses with 10 exactly where the bytes are the table of no store
pub main_10 : (whole : List ℕ) → TakesMain whole (refused 10 0) ↔ ((s : Store) → IsTable whole s → ⊥)
main_10 whole = (λ h. to h refl, TakesMain.no_table)
  where
    high : {n : ℕ} → Main n → 19 ≤ n
    high Main.absent = omega arith
    high Main.no_component = omega arith

    to : {a : Answer (List ℕ)} → TakesMain whole a → a ≡ refused 10 0 → (s : Store) → IsTable whole s → ⊥
    to (TakesMain.no_table n) e = n
    to (TakesMain.no_main {s} {n} {p} hs q) e = absurd (let z : n ≡ 10 = cc in omega (arith, high (Bounds.main_numbers s n p (of_table hs) q)))
    to (TakesMain.accepted hs q) e = absurd (let z : ◌≡◌ {A = ℕ} 0 1 = cc in omega arith)
