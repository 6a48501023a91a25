-- What is given fits its slice, and no lent slice changes its length. Assumes nothing.
use Prim.Native.Nat.{ℕ, ◌≤◌}
use native.Mathlib.Omega.{arith}
use mathlib.Core.Path.{◌≡◌, refl}
use mathlib.Core.Bool.{Bool, true, false}
use mathlib.Core.List.{List, [], ◌∷◌, map}
use lib.ListN.{length, length-append, length-drop}
use lib.Dec.{eqb}
use Rattle.paper.specs.Answer.{Answer, ok, refused}
use Rattle.paper.specs.Limits.{least_list, least_table}
use Rattle.paper.specs.Operations.{translate_op, run_op, main_op, resolve_op, translates, runs, takes_main, resolves}
use Rattle.paper.specs.Lent.{written, cleared, Outcome}
use Rattle.theorems.proofs.Decoded.StepList.{steps_length}
use Rattle.theorems.proofs.Decoded.Table.{table_length}
use Rattle.theorems.proofs.Demands.Answers.{SomeSteps, SomeTable, translate_gives, run_gives, main_gives, resolve_gives}
use Rattle.theorems.proofs.Laws.Gives.{Gives, gives_ok}
use Rattle.theorems.proofs.Laws.Wiped.{wiped_length}
use Rattle.theorems.proofs.Demands.Order.{Split, short, long, translate_split, run_split, main_split, resolve_split}

-- ---- what is given fits its slice

steps_fit : (b : List ℕ) → SomeSteps b → length b ≤ least_list
steps_fit b h = omega (arith, steps_length h.is_listed, h.is_listed.listed.count, h.is_listed.listed.text)

table_fit : (b : List ℕ) → SomeTable b → length b ≤ least_table
table_fit b h = omega (arith, table_length h.is_table, h.is_table.held.bounds.nodes, h.is_table.held.bounds.text)

written_length : (a : Answer (List ℕ)) (output : List ℕ) → ((b : List ℕ) → a ≡ ok b → length b ≤ length output) → length (written a output) ≡ length output
unfolding written
written_length (ok b) output h = let l = h b refl in simp (length-append, length-drop) (omega arith)
written_length (refused n p) output h = refl

cleared_length : {L : Type 0} {rest a : Answer (List ℕ)} (w : List ℕ) → Split L rest a → (L → 65536 ≤ length w) → length (cleared a w) ≡ length w
unfolding cleared
cleared_length w (short k) h = refl
cleared_length {rest = rest} w (long l) h = go rest (h l)
  where
    go : (a : Answer (List ℕ)) → 65536 ≤ length w → length (cleared a w) ≡ length w
    go (ok b) m = wiped_length w m
    go (refused n p) m = by (eqb n 8) refl
      where
        by : (c : Bool) → eqb n 8 ≡ c → length (cleared (refused n p) w) ≡ length w
        by true e = rw (e, cleared)
        by false e = rw (e, cleared) (wiped_length w m)

fits : {L : Type 0} {rest a : Answer (List ℕ)} {Q : ℕ → Type 0} {P : List ℕ → Type 0} (n o : ℕ) → Split L rest a → (L → n ≤ o) → Gives Q P rest → ((b : List ℕ) → P b → length b ≤ n) → (b : List ℕ) → a ≡ ok b → length b ≤ o
fits n o (short k) h g f b e = let z : ◌≡◌ {A = ℕ} 0 1 = cc in absurd (omega arith)
fits n o (long l) h g f b e = omega (arith, h l, f b (gives_ok g e))

-- of each operation
pub translate_fits : (source : List ℕ) (o w : ℕ) (b : List ℕ) → translate_op source o w ≡ ok b → length b ≤ least_list
translate_fits source o w = fits least_list least_list (translate_split source o w) (λ _. omega arith) (translate_gives source) steps_fit

pub run_fits : (list start : List ℕ) (o w₁ w₂ : ℕ) (b : List ℕ) → run_op list start o w₁ w₂ ≡ ok b → length b ≤ least_table
run_fits list start o w₁ w₂ = fits least_table least_table (run_split list start o w₁ w₂) (λ _. omega arith) (run_gives list start) table_fit

pub main_fits : (whole : List ℕ) (o : ℕ) (b : List ℕ) → main_op whole o ≡ ok b → length b ≤ least_table
main_fits whole o = fits least_table least_table (main_split whole o) (λ _. omega arith) (main_gives whole) table_fit

pub resolve_fits : (source : List ℕ) (o w₁ w₂ w₃ : ℕ) (b : List ℕ) → resolve_op source o w₁ w₂ w₃ ≡ ok b → length b ≤ least_table
resolve_fits source o w₁ w₂ w₃ = fits least_table least_table (resolve_split source o w₁ w₂ w₃) (λ _. omega arith) (resolve_gives source) table_fit

-- no lent slice changes its length
pub record Kept (x : Outcome) (out : List ℕ) (work : List (List ℕ)) : Type 0 where
  pub output : length x.output ≡ length out
  pub works : map length x.works ≡ map length work

pub translates_kept : (source output work : List ℕ) → Kept (translates source output work) output (work ∷ [])
unfolding translates
translates_kept source output work =
    let k = translate_split source (length output) (length work) in
    let a = translate_op source (length output) (length work) in
    let c₁ : length (cleared a work) ≡ length work = cleared_length work k (λ l. l.1.0) in
    record { output = written_length _ output (fits least_list (length output) k (λ l. l.0) (translate_gives source) steps_fit); works = rw c₁ }

pub runs_kept : (list start output work₁ work₂ : List ℕ) → Kept (runs list start output work₁ work₂) output (work₁ ∷ work₂ ∷ [])
unfolding runs
runs_kept list start output work₁ work₂ =
    let k = run_split list start (length output) (length work₁) (length work₂) in
    let a = run_op list start (length output) (length work₁) (length work₂) in
    let c₁ : length (cleared a work₁) ≡ length work₁ = cleared_length work₁ k (λ l. l.1.0) in
    let c₂ : length (cleared a work₂) ≡ length work₂ = cleared_length work₂ k (λ l. l.1.1.0) in
    record { output = written_length _ output (fits least_table (length output) k (λ l. l.0) (run_gives list start) table_fit); works = rw (c₁, c₂) }

pub main_kept : (whole output : List ℕ) → Kept (takes_main whole output) output []
unfolding takes_main
main_kept whole output =
    record { output = written_length _ output (fits least_table (length output) (main_split whole (length output)) (λ l. l.0) (main_gives whole) table_fit); works = refl }

pub resolves_kept : (source output work₁ work₂ work₃ : List ℕ) → Kept (resolves source output work₁ work₂ work₃) output (work₁ ∷ work₂ ∷ work₃ ∷ [])
unfolding resolves
resolves_kept source output work₁ work₂ work₃ =
    let k = resolve_split source (length output) (length work₁) (length work₂) (length work₃) in
    let a = resolve_op source (length output) (length work₁) (length work₂) (length work₃) in
    let c₁ : length (cleared a work₁) ≡ length work₁ = cleared_length work₁ k (λ l. l.1.0) in
    let c₂ : length (cleared a work₂) ≡ length work₂ = cleared_length work₂ k (λ l. l.1.1.0) in
    let c₃ : length (cleared a work₃) ≡ length work₃ = cleared_length work₃ k (λ l. l.1.1.1.0) in
    record { output = written_length _ output (fits least_table (length output) k (λ l. l.0) (resolve_gives source) table_fit); works = rw (c₁, c₂, c₃) }
