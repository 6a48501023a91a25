-- Resolve in turn; what each operation gives where no lent slice is too short, and with which numbers it refuses. Assumes nothing.
use Prim.Native.Nat.{ℕ, ◌≤◌}
use native.Mathlib.Omega.{arith}
use mathlib.Core.Path.{◌≡◌, refl, sym}
use mathlib.Core.Logic.{◌⊎◌, inl, inr}
use mathlib.Core.List.{List, []}
use mathlib.Core.Option.{Option, none, some}
use lib.Dec.{lit≤}
use borrow.Author.Tests.{le-leb}
use Rattle.paper.specs.Answer.{Answer, ok, refused, ◌>>=◌, demand}
use Rattle.paper.specs.Limits.{least_list, least_table, least_work}
use Rattle.paper.specs.Syntax.{Block}
use Rattle.paper.specs.Reader.{read}
use Rattle.paper.specs.Store.{Store, ∅}
use Rattle.paper.specs.Meaning.{B⟦◌⟧, main}
use Rattle.paper.specs.Layout.{table}
use Rattle.paper.specs.Steps.{steps}
use Rattle.paper.specs.Running.{run}
use Rattle.paper.specs.WellFormed.{IsBlock, IsTable, IsStepList, IsBounded}
use Rattle.paper.specs.TableDecoder.{table_of}
use Rattle.paper.specs.StepDecoder.{block_of}
use Rattle.paper.specs.Operations.{translated, executed, resolved, translate, resolve, or_refused, translate_op, run_op, main_op, resolve_op}
use Rattle.theorems.proofs.Compiled.{compiled}
use Rattle.theorems.proofs.Decoded.StepList.{block_sound, steps_complete}
use Rattle.theorems.proofs.Decoded.Table.{table_sound, table_complete}
use Rattle.theorems.proofs.Demands.Exact.{run_rest, main_rest, in_turn}
use Rattle.theorems.proofs.Laws.Found.{found_some}
use Rattle.theorems.proofs.Laws.Gives.{Gives, gives, refuses, known, gives_bind, gives_weaken}
use Rattle.theorems.proofs.Legal.Bounds.{of_table, to_table, empty_bounded, evaluates, evaluates_numbers, mains, main_numbers, Stepping, Main, absent, no_component}
use Rattle.theorems.proofs.Legal.Read.{Translated, translate_well, translate_numbers}

-- an answer's store as a table
unfoldable tabled : Answer Store → Answer (List ℕ)
tabled a = a >>= λ s. ok (table s)

-- ---- resolve in turn

-- where the slices are long enough, run's answer on the step list of d and the table of s is d's meaning over s, as a table
run_is : (list start : List ℕ) (d : Block) (s : Store) (o w₁ w₂ : ℕ) → least_table ≤ o → least_work ≤ w₁ → least_work ≤ w₂ → IsStepList list d → IsTable start s
    → run_op list start o w₁ w₂ ≡ tabled (B⟦ d ⟧ [] s)
unfolding run_op tabled or_refused ◌>>=◌ demand
run_is list start d s o w₁ w₂ lo l₁ l₂ hd hs =
    rw (le-leb least_table o lo, le-leb least_work w₁ l₁, le-leb least_work w₂ l₂, steps_complete list d hd, table_complete start s hs, compiled d s)

main_is : (whole : List ℕ) (s : Store) (o : ℕ) → least_table ≤ o → IsTable whole s → main_op whole o ≡ tabled (main s)
unfolding main_op tabled or_refused ◌>>=◌ demand
main_is whole s o lo hs = rw (le-leb least_table o lo, table_complete whole s hs)

resolved_is : (source : List ℕ) (d : Block) → read source ≡ ok d → resolved source ≡ B⟦ d ⟧ [] ∅ >>= main
unfolding resolved executed translated ◌>>=◌
resolved_is source d e = rw (e, compiled d ∅)

main_after : (d : Block) (o : ℕ) → least_table ≤ o → IsBlock d → tabled (B⟦ d ⟧ [] ∅ >>= main) ≡ tabled (B⟦ d ⟧ [] ∅) >>= λ whole. main_op whole o
unfolding tabled ◌>>=◌
main_after d o lo hd = go (B⟦ d ⟧ [] ∅) refl
  where
    go : (m : Answer Store) → B⟦ d ⟧ [] ∅ ≡ m → tabled (m >>= main) ≡ tabled m >>= λ whole. main_op whole o
    go (refused n p) e = refl
    go (ok s) e = sym (main_is (table s) s o lo (to_table (evaluates d ∅ s hd empty_bounded e)))

-- resolve answers as translate, run over the empty table, then main
pub resolve_is : (source : List ℕ) (o w₁ w₂ w₃ o₁ v₁ o₂ v₂ v₃ : ℕ)
    → least_table ≤ o → least_work ≤ w₁ → least_work ≤ w₂ → least_work ≤ w₃ → least_list ≤ o₁ → least_work ≤ v₁ → least_table ≤ o₂ → least_work ≤ v₂ → least_work ≤ v₃
    → resolve_op source o w₁ w₂ w₃ ≡ translate_op source o₁ v₁ >>= λ list. run_op list (table ∅) o₂ v₂ v₃ >>= λ whole. main_op whole o
unfolding resolve_op translate_op resolve tabled ◌>>=◌ demand
resolve_is source o w₁ w₂ w₃ o₁ v₁ o₂ v₂ v₃ lo l₁ l₂ l₃ lo₁ k₁ lo₂ k₂ k₃ =
    rw (le-leb least_table o lo, le-leb least_work w₁ l₁, le-leb least_work w₂ l₂, le-leb least_work w₃ l₃, le-leb least_list o₁ lo₁, le-leb least_work v₁ k₁) (go (translate source) refl)
  where
    go : (m : Answer (List ℕ)) → translate source ≡ m
        → (m >>= λ _. resolved source >>= λ s. ok (table s)) ≡ (m >>= λ list. run_op list (table ∅) o₂ v₂ v₃ >>= λ whole. main_op whole o)
    go (refused n p) e = refl
    go (ok list) e =
        let t = translate_well source list e in
        let r : run_op list (table ∅) o₂ v₂ v₃ ≡ tabled (B⟦ t.meant ⟧ [] ∅) = run_is list (table ∅) t.meant ∅ o₂ v₂ v₃ lo₂ k₂ k₃ t.is_listed (to_table empty_bounded) in
        rw (r, resolved_is source t.meant t.is_read) (main_after t.meant o lo t.is_listed.blocks)

-- ---- what is given, and the numbers of refusals

-- a step list of some block; a table of some store
pub record SomeSteps (b : List ℕ) : Type 0 where
  pub meant : Block
  pub is_listed : IsStepList b meant

pub record SomeTable (b : List ℕ) : Type 0 where
  pub held : Store
  pub is_table : IsTable b held

pub from : {A : Type 0} (n : ℕ) (Q : ℕ → Type 0) (P : A → Type 0) (o : Option A) → Q n → ((a : A) → o ≡ some a → P a) → Gives Q P (or_refused n o)
unfolding or_refused
from n Q P none q h = refuses q
from n Q P (some a) q h = gives (h a refl)

tabled_gives : (Q : ℕ → Type 0) (m : Answer Store) → Gives Q IsBounded m → Gives Q SomeTable (tabled m)
unfolding tabled ◌>>=◌
tabled_gives Q m (gives {x = s} h) = gives {x = table s} (record { held = s; is_table = to_table h })
tabled_gives Q m (refuses q) = refuses q

-- translate: a step list, or a number from 1 to 7
abbrev pub Reading : ℕ → Type 0
Reading n = (1 ≤ n) × (n ≤ 7)

translate_knows : (Q : ℕ → Type 0) → ((n : ℕ) → Reading n → Q n) → (source : List ℕ) → Gives Q (Translated source) (translate source)
translate_knows Q f source = known (translate source) (λ list e. translate_well source list e) (λ n p e. f n (translate_numbers source n p e))

pub translate_gives : (source : List ℕ) → Gives Reading SomeSteps (translate source)
translate_gives source = gives_weaken (λ n q. q) (λ list t. record { meant = t.meant; is_listed = t.is_listed }) (translate_knows Reading (λ n q. q) source)

-- run: a table, or a number from 9 to 18
abbrev pub Running : ℕ → Type 0
Running n = (9 ≤ n) × (n ≤ 18)

stepping : (d : Block) (s : Store) → IsBlock d → IsBounded s → Gives Stepping IsBounded (B⟦ d ⟧ [] s)
stepping d s hd hs = known (B⟦ d ⟧ [] s) (λ t e. evaluates d s t hd hs e) (λ n p e. evaluates_numbers d s n p hd hs e)

run_tabled : (Q : ℕ → Type 0) → ((n : ℕ) → Stepping n → Q n) → (d : Block) (s : Store) → IsBlock d → IsBounded s → Gives Q SomeTable (run (steps d) s >>= λ t. ok (table t))
unfolding tabled
run_tabled Q f d s hd hs = rw (compiled d s) (tabled_gives Q (B⟦ d ⟧ [] s) (gives_weaken f (λ t h. h) (stepping d s hd hs)))

-- Q of 10 and of what a step can refuse with, and of 9 where the bytes may be no step list
run_knows : (Q : ℕ → Type 0) → Q 10 → ((n : ℕ) → Stepping n → Q n) → (d : Block) → IsBlock d → (start : List ℕ) → Gives Q SomeTable (or_refused 10 (table_of start) >>= λ s. run (steps d) s >>= λ t. ok (table t))
run_knows Q ten f d hd start =
    gives_bind _ (from 10 Q (IsTable start) (table_of start) ten (λ s e. found_some (table_sound start) e)) (λ s hs. run_tabled Q f d s hd (of_table hs))

pub run_gives : (list start : List ℕ) → Gives Running SomeTable (run_rest list start)
unfolding run_rest
run_gives list start =
    gives_bind _ (from 9 Running (IsStepList list) (block_of list) (lit≤ tt, lit≤ tt) (λ d e. found_some (block_sound list) e)) (λ d hd.
    run_knows Running (lit≤ tt, lit≤ tt) (λ n q. (omega (arith, q.0), q.1)) d hd.blocks start)

-- main: a table, or 10, 19 or 20
abbrev pub Taking : ℕ → Type 0
Taking n = (n ≡ 10) ⊎ ((n ≡ 19) ⊎ (n ≡ 20))

main_number : {n : ℕ} → Main n → (n ≡ 19) ⊎ (n ≡ 20)
main_number absent = inl refl
main_number no_component = inr refl

main_tabled : (Q : ℕ → Type 0) → ((n : ℕ) → Main n → Q n) → (s : Store) → IsBounded s → Gives Q SomeTable (tabled (main s))
main_tabled Q f s h = tabled_gives Q (main s) (known (main s) (λ c e. mains s c h e) (λ n p e. f n (main_numbers s n p h e)))

pub main_gives : (whole : List ℕ) → Gives Taking SomeTable (main_rest whole)
unfolding main_rest tabled
main_gives whole =
    gives_bind _ (from 10 Taking (IsTable whole) (table_of whole) (inl refl) (λ s e. found_some (table_sound whole) e)) (λ s hs.
    main_tabled Taking (λ n q. inr (main_number q)) s (of_table hs))

-- resolve: a table, or a number from 1 to 7 or from 11 to 20
abbrev pub Resolving : ℕ → Type 0
Resolving n = Reading n ⊎ ((11 ≤ n) × (n ≤ 20))

main_range : {n : ℕ} → Main n → (11 ≤ n) × (n ≤ 20)
main_range absent = (lit≤ tt, lit≤ tt)
main_range no_component = (lit≤ tt, lit≤ tt)

resolve_tabled : (d : Block) → IsBlock d → Gives Resolving SomeTable (tabled (B⟦ d ⟧ [] ∅ >>= main))
resolve_tabled d hd =
    tabled_gives Resolving (B⟦ d ⟧ [] ∅ >>= main)
    (gives_bind main (gives_weaken (λ n q. inr (q.0, omega (arith, q.1))) (λ t h. h) (stepping d ∅ hd empty_bounded)) (λ s h.
    known (main s) (λ c e. mains s c h e) (λ n p e. inr (main_range (main_numbers s n p h e)))))

pub resolve_gives : (source : List ℕ) → Gives Resolving SomeTable (resolve source)
unfolding resolve tabled
resolve_gives source = gives_bind {P = Translated source} _ (translate_knows Resolving (λ n q. inl q) source) (λ list t. after t.meant t.is_read t.is_listed.blocks)
  where
    after : (d : Block) → read source ≡ ok d → IsBlock d → Gives Resolving SomeTable (resolved source >>= λ s. ok (table s))
    after d e hd = rw (resolved_is source d e) (resolve_tabled d hd)

-- translate and then run: a table, or a number from 1 to 7 or from 10 to 18
abbrev pub Evaluating : ℕ → Type 0
Evaluating n = Reading n ⊎ ((10 ≤ n) × (n ≤ 18))

pub evaluate_gives : (source start : List ℕ) → Gives Evaluating SomeTable (in_turn source start)
unfolding run_rest or_refused ◌>>=◌
evaluate_gives source start = gives_bind {P = Translated source} _ (translate_knows Evaluating (λ n q. inl q) source) (λ list t. after list t.meant t.is_listed)
  where
    after : (list : List ℕ) (d : Block) → IsStepList list d → Gives Evaluating SomeTable (run_rest list start)
    after list d hd = rw (steps_complete list d hd) (run_knows Evaluating (inr (lit≤ tt, lit≤ tt)) (λ n q. inr (omega (arith, q.0), q.1)) d hd.blocks start)
