-- Where no lent slice is too short, each operation answers exactly what document 01 allows, and so does a description that is translated and
-- then run. Assumes nothing.
use Prim.Native.Nat.{ℕ}
use native.Mathlib.Omega.{arith}
use mathlib.Core.Path.{◌≡◌, refl, ◌∙◌, ap, subst}
use mathlib.Core.Bool.{Bool, true, false}
use mathlib.Core.List.{List, []}
use mathlib.Core.Option.{Option, none, some}
use mathlib.Core.Logic.{◌↔◌}
use lib.ListN.{length}
use lib.Dec.{leb}
use borrow.Author.Tests.{leb-true, leb-false}
use Rattle.paper.specs.Answer.{Answer, ok, refused, ◌>>=◌, demand}
use Rattle.paper.specs.Limits.{most_steps, most_step_text}
use Rattle.paper.specs.Syntax.{Block}
use Rattle.paper.specs.Described.{Describes, Refused}
use Rattle.paper.specs.Reader.{read}
use Rattle.paper.specs.Store.{Store, ∅}
use Rattle.paper.specs.Meaning.{B⟦◌⟧, SF⟦◌⟧, main}
use Rattle.paper.specs.Layout.{texts, table}
use Rattle.paper.specs.Steps.{steps}
use Rattle.paper.specs.Running.{run}
use Rattle.paper.specs.StepLayout.{IsListed, all_rows, step_list, listed}
use Rattle.paper.specs.WellFormed.{IsTable, IsStepList}
use Rattle.paper.specs.TableDecoder.{table_of}
use Rattle.paper.specs.StepDecoder.{block_of}
use Rattle.paper.specs.Operations.{translated, executed, resolved, translate, resolve, or_refused}
use Rattle.paper.specs.Allowed.{Accepts, Translates, Runs, TakesMain, Resolves, Evaluates}
use Rattle.theorems.proofs.Compiled.{compiled}
use Rattle.theorems.proofs.Decoded.{decoded}
use Rattle.theorems.proofs.Legal.Read.{read_well}
use Rattle.theorems.proofs.ReadExactly.{read_exactly}

-- what is allowed is allowed of this answer and of no other
exactly : {Allowed : Answer (List ℕ) → Type 0} (x : Answer (List ℕ)) → Allowed x → ((a : Answer (List ℕ)) → Allowed a → x ≡ a) → (a : Answer (List ℕ)) → (x ≡ a) ↔ Allowed a
exactly {Allowed} x h back a = (λ e. subst Allowed e h, back a)

-- ---- translate

data Listing (b : Block) : Answer (List ℕ) → Type 0 where
  fits : IsListed (steps b) → Listing b (ok (step_list (steps b)))
  over : (IsListed (steps b) → ⊥) → Listing b (refused 7 0)

listing : (b : Block) → Listing b (listed (steps b))
unfolding listed demand ◌>>=◌
listing b = go (leb (length (all_rows (steps b))) most_steps) refl (leb (length (texts (all_rows (steps b)))) most_step_text) refl
  where
    go : (c : Bool) → leb (length (all_rows (steps b))) most_steps ≡ c → (d : Bool) → leb (length (texts (all_rows (steps b)))) most_step_text ≡ d → Listing b (listed (steps b))
    go false i d j = rw (i, listed) (over (λ h. omega (arith, leb-false (length (all_rows (steps b))) most_steps i, h.count)))
    go true i false j = rw (i, j, listed) (over (λ h. omega (arith, leb-false (length (texts (all_rows (steps b)))) most_step_text j, h.text)))
    go true i true j = rw (i, j, listed) (fits (record { count = leb-true _ _ i; text = leb-true _ _ j }))

listed_fits : (b : Block) → IsListed (steps b) → listed (steps b) ≡ ok (step_list (steps b))
listed_fits b l = go (listing b)
  where
    go : {m : Answer (List ℕ)} → Listing b m → m ≡ ok (step_list (steps b))
    go (fits l) = refl
    go (over n) = absurd (n l)

listed_over : (b : Block) → (IsListed (steps b) → ⊥) → listed (steps b) ≡ refused 7 0
listed_over b n = go (listing b)
  where
    go : {m : Answer (List ℕ)} → Listing b m → m ≡ refused 7 0
    go (fits l) = absurd (n l)
    go (over n) = refl

translate_read : (source : List ℕ) (b : Block) → Describes source b → translate source ≡ listed (steps b)
unfolding translate translated ◌>>=◌
translate_read source b d = rw ((read_exactly.accepted source b).1 d)

translate_unread : (source : List ℕ) (n p : ℕ) → Refused source n p → translate source ≡ refused n p
unfolding translate translated ◌>>=◌
translate_unread source n p r = rw ((read_exactly.refused source n p).1 r)

translated_so : (source : List ℕ) → Translates source (translate source)
translated_so source = go (read source) refl
  where
    list : (b : Block) → Describes source b → {m : Answer (List ℕ)} → Listing b m → Translates source m
    list b d (fits l) = Translates.accepted (record { described = d; listed = l })
    list b d (over n) = Translates.not_listed d n

    go : (m : Answer Block) → read source ≡ m → Translates source (translate source)
    go (ok b) e = let d = (read_exactly.accepted source b).0 e in rw (translate_read source b d) (list b d (listing b))
    go (refused n p) e = let r = (read_exactly.refused source n p).0 e in rw (translate_unread source n p r) (Translates.not_read r)

pub translate_accepts : (source : List ℕ) (b : Block) → Accepts source b → translate source ≡ ok (step_list (steps b))
translate_accepts source b h = translate_read source b h.described ∙ listed_fits b h.listed

translate_back : (source : List ℕ) {a : Answer (List ℕ)} → Translates source a → translate source ≡ a
translate_back source (Translates.not_read {n} {p} r) = translate_unread source n p r
translate_back source (Translates.not_listed {b} d n) = translate_read source b d ∙ listed_over b n
translate_back source (Translates.accepted {b} h) = translate_accepts source b h

pub translates_exactly : (source : List ℕ) (a : Answer (List ℕ)) → (translate source ≡ a) ↔ Translates source a
translates_exactly source = exactly (translate source) (translated_so source) (λ a h. translate_back source h)

-- what is accepted has a well-formed step list
pub accepts_list : (source : List ℕ) (b : Block) → Accepts source b → IsStepList (step_list (steps b)) b
accepts_list source b h =
    let w = read_well source b ((read_exactly.accepted source b).1 h.described) in
    record { laid_out = refl; blocks = w.blocks; nested = w.nested; listed = h.listed }

-- ---- run, and main

-- run's answer, and main's, where no slice is too short
unfoldable pub run_rest : List ℕ → List ℕ → Answer (List ℕ)
run_rest list start = or_refused 9 (block_of list) >>= λ d. or_refused 10 (table_of start) >>= λ s. run (steps d) s >>= λ t. ok (table t)

unfoldable pub main_rest : List ℕ → Answer (List ℕ)
main_rest whole = or_refused 10 (table_of whole) >>= λ s. main s >>= λ c. ok (table c)

-- what is not found is not there
absent : {A : Type 0} {Is : A → Type 0} {o : Option A} → ((a : A) → (o ≡ some a) ↔ Is a) → o ≡ none → (a : A) → Is a → ⊥
absent f e a h = let e₁ = (f a).1 h in let z : ◌≡◌ {A = ℕ} 0 1 = cc in omega arith

-- and what is not there is not found
missing : {A : Type 0} {Is : A → Type 0} (o : Option A) → ((a : A) → (o ≡ some a) ↔ Is a) → ((a : A) → Is a → ⊥) → o ≡ none
missing none f n = refl
missing (some a) f n = absurd (n a ((f a).0 refl))

run_found : (list start : List ℕ) (d : Block) (s : Store) → IsStepList list d → IsTable start s → run_rest list start ≡ B⟦ d ⟧ [] s >>= λ t. ok (table t)
unfolding run_rest or_refused ◌>>=◌
run_found list start d s hd hs = rw ((decoded.step_lists list d).1 hd, (decoded.tables start s).1 hs, compiled d s)

run_unlisted : (list start : List ℕ) → ((d : Block) → IsStepList list d → ⊥) → run_rest list start ≡ refused 9 0
unfolding run_rest or_refused ◌>>=◌
run_unlisted list start n = rw (missing (block_of list) (decoded.step_lists list) n)

run_untabled : (list start : List ℕ) (d : Block) → IsStepList list d → ((s : Store) → IsTable start s → ⊥) → run_rest list start ≡ refused 10 0
unfolding run_rest or_refused ◌>>=◌
run_untabled list start d hd n = rw ((decoded.step_lists list d).1 hd, missing (table_of start) (decoded.tables start) n)

runs_so : (list start : List ℕ) → Runs list start (run_rest list start)
unfolding ◌>>=◌
runs_so list start = by_list (block_of list) refl
  where
    by_run : (d : Block) (s : Store) → IsStepList list d → IsTable start s → (m : Answer Store) → B⟦ d ⟧ [] s ≡ m → Runs list start (m >>= λ t. ok (table t))
    by_run d s hd hs (ok t) e = Runs.accepted hd hs e
    by_run d s hd hs (refused n p) e = Runs.not_run hd hs e

    by_table : (d : Block) → IsStepList list d → (o : Option Store) → table_of start ≡ o → Runs list start (run_rest list start)
    by_table d hd none e = let n = absent (decoded.tables start) e in rw (run_untabled list start d hd n) (Runs.no_table hd n)
    by_table d hd (some s) e = let hs = (decoded.tables start s).0 e in rw (run_found list start d s hd hs) (by_run d s hd hs (B⟦ d ⟧ [] s) refl)

    by_list : (o : Option Block) → block_of list ≡ o → Runs list start (run_rest list start)
    by_list none e = let n = absent (decoded.step_lists list) e in rw (run_unlisted list start n) (Runs.no_list n)
    by_list (some d) e = by_table d ((decoded.step_lists list d).0 e) (table_of start) refl

runs_back : (list start : List ℕ) {a : Answer (List ℕ)} → Runs list start a → run_rest list start ≡ a
unfolding ◌>>=◌
runs_back list start (Runs.no_list n) = run_unlisted list start n
runs_back list start (Runs.no_table {d} hd n) = run_untabled list start d hd n
runs_back list start (Runs.not_run {d} {s} hd hs e) = run_found list start d s hd hs ∙ rw e
runs_back list start (Runs.accepted {d} {s} hd hs e) = run_found list start d s hd hs ∙ rw e

pub runs_exactly : (list start : List ℕ) (a : Answer (List ℕ)) → (run_rest list start ≡ a) ↔ Runs list start a
runs_exactly list start = exactly (run_rest list start) (runs_so list start) (λ a h. runs_back list start h)

main_found : (whole : List ℕ) (s : Store) → IsTable whole s → main_rest whole ≡ main s >>= λ c. ok (table c)
unfolding main_rest or_refused ◌>>=◌
main_found whole s hs = rw ((decoded.tables whole s).1 hs)

main_untabled : (whole : List ℕ) → ((s : Store) → IsTable whole s → ⊥) → main_rest whole ≡ refused 10 0
unfolding main_rest or_refused ◌>>=◌
main_untabled whole n = rw (missing (table_of whole) (decoded.tables whole) n)

main_so : (whole : List ℕ) → TakesMain whole (main_rest whole)
unfolding ◌>>=◌
main_so whole = by_table (table_of whole) refl
  where
    by_main : (s : Store) → IsTable whole s → (m : Answer Store) → main s ≡ m → TakesMain whole (m >>= λ c. ok (table c))
    by_main s hs (ok c) e = TakesMain.accepted hs e
    by_main s hs (refused n p) e = TakesMain.no_main hs e

    by_table : (o : Option Store) → table_of whole ≡ o → TakesMain whole (main_rest whole)
    by_table none e = let n = absent (decoded.tables whole) e in rw (main_untabled whole n) (TakesMain.no_table n)
    by_table (some s) e = let hs = (decoded.tables whole s).0 e in rw (main_found whole s hs) (by_main s hs (main s) refl)

main_back : (whole : List ℕ) {a : Answer (List ℕ)} → TakesMain whole a → main_rest whole ≡ a
unfolding ◌>>=◌
main_back whole (TakesMain.no_table n) = main_untabled whole n
main_back whole (TakesMain.no_main {s} hs e) = main_found whole s hs ∙ rw e
main_back whole (TakesMain.accepted {s} hs e) = main_found whole s hs ∙ rw e

pub takes_main_exactly : (whole : List ℕ) (a : Answer (List ℕ)) → (main_rest whole ≡ a) ↔ TakesMain whole a
takes_main_exactly whole = exactly (main_rest whole) (main_so whole) (λ a h. main_back whole h)

-- ---- resolve

resolve_accepts : (source : List ℕ) (b : Block) → Accepts source b → resolve source ≡ SF⟦ b ⟧ >>= λ c. ok (table c)
unfolding resolve resolved executed translated SF⟦◌⟧ ◌>>=◌
resolve_accepts source b h = rw (translate_accepts source b h, (read_exactly.accepted source b).1 h.described, compiled b ∅)

resolve_untranslated : (source : List ℕ) (n p : ℕ) → Translates source (refused n p) → resolve source ≡ refused n p
unfolding resolve ◌>>=◌
resolve_untranslated source n p r = rw ((translates_exactly source (refused n p)).1 r)

resolves_so : (source : List ℕ) → Resolves source (resolve source)
unfolding ◌>>=◌
resolves_so source = go (translated_so source)
  where
    by_meaning : (b : Block) → Accepts source b → (m : Answer Store) → SF⟦ b ⟧ ≡ m → Resolves source (m >>= λ c. ok (table c))
    by_meaning b h (ok c) e = Resolves.accepted h e
    by_meaning b h (refused n p) e = Resolves.not_evaluated h e

    go : {a : Answer (List ℕ)} → Translates source a → Resolves source (resolve source)
    go (Translates.not_read {n} {p} r) = let t = Translates.not_read r in rw (resolve_untranslated source n p t) (Resolves.not_translated t)
    go (Translates.not_listed d n) = let t = Translates.not_listed d n in rw (resolve_untranslated source 7 0 t) (Resolves.not_translated t)
    go (Translates.accepted {b} h) = rw (resolve_accepts source b h) (by_meaning b h SF⟦ b ⟧ refl)

resolves_back : (source : List ℕ) {a : Answer (List ℕ)} → Resolves source a → resolve source ≡ a
unfolding ◌>>=◌
resolves_back source (Resolves.not_translated {n} {p} r) = resolve_untranslated source n p r
resolves_back source (Resolves.not_evaluated {b} h e) = resolve_accepts source b h ∙ rw e
resolves_back source (Resolves.accepted {b} h e) = resolve_accepts source b h ∙ rw e

pub resolves_exactly : (source : List ℕ) (a : Answer (List ℕ)) → (resolve source ≡ a) ↔ Resolves source a
resolves_exactly source = exactly (resolve source) (resolves_so source) (λ a h. resolves_back source h)

-- ---- translate, and then run

abbrev pub in_turn : List ℕ → List ℕ → Answer (List ℕ)
in_turn source start = translate source >>= λ list. run_rest list start

-- what a list that was accepted runs to is what its description evaluates to
pub ran_evaluates : (source start : List ℕ) (b : Block) {a : Answer (List ℕ)} → Accepts source b → Runs (step_list (steps b)) start a → Evaluates source start a
ran_evaluates source start b h (Runs.no_list n) = absurd (n b (accepts_list source b h))
ran_evaluates source start b h (Runs.no_table hd n) = Evaluates.no_table h n
ran_evaluates source start b h (Runs.not_run {d} {s} {n} {p} hd hs e) =
    Evaluates.not_evaluated h hs (ap (λ c. B⟦ c ⟧ [] s) (decoded.one_block b d (step_list (steps b)) (accepts_list source b h) hd) ∙ e)
ran_evaluates source start b h (Runs.accepted {d} {s} hd hs e) =
    Evaluates.accepted h hs (ap (λ c. B⟦ c ⟧ [] s) (decoded.one_block b d (step_list (steps b)) (accepts_list source b h) hd) ∙ e)

evaluates_so : (source start : List ℕ) → Evaluates source start (in_turn source start)
unfolding ◌>>=◌
evaluates_so source start = go (translated_so source)
  where
    go : {a : Answer (List ℕ)} → Translates source a → Evaluates source start (a >>= λ list. run_rest list start)
    go (Translates.not_read r) = Evaluates.not_translated (Translates.not_read r)
    go (Translates.not_listed d n) = Evaluates.not_translated (Translates.not_listed d n)
    go (Translates.accepted {b} h) = ran_evaluates source start b h (runs_so (step_list (steps b)) start)

evaluates_back : (source start : List ℕ) {a : Answer (List ℕ)} → Evaluates source start a → in_turn source start ≡ a
unfolding ◌>>=◌
evaluates_back source start (Evaluates.not_translated {n} {p} r) = rw ((translates_exactly source (refused n p)).1 r)
evaluates_back source start (Evaluates.no_table {b} h n) =
    rw (translate_accepts source b h) (runs_back _ start (Runs.no_table (accepts_list source b h) n))
evaluates_back source start (Evaluates.not_evaluated {b} h hs e) =
    rw (translate_accepts source b h) (runs_back _ start (Runs.not_run (accepts_list source b h) hs e))
evaluates_back source start (Evaluates.accepted {b} h hs e) =
    rw (translate_accepts source b h) (runs_back _ start (Runs.accepted (accepts_list source b h) hs e))

pub evaluates_exactly : (source start : List ℕ) (a : Answer (List ℕ)) → (in_turn source start ≡ a) ↔ Evaluates source start a
evaluates_exactly source start = exactly (in_turn source start) (evaluates_so source start) (λ a h. evaluates_back source start h)
