-- The outcome of operation 1, by its cases. Assumes nothing.
use Prim.Native.Nat.{ℕ, ◌+◌, ◌*◌, ◌≤◌, ◌<◌}
use native.Mathlib.Omega.{arith}
use mathlib.Core.Path.{◌≡◌, refl, sym, ap, subst, ◌∙◌}
use mathlib.Core.Bool.{Bool, true, false}
use mathlib.Core.List.{List, [], ◌∷◌, ◌++◌}
use lib.ListN.{length, drop, length-append, length-drop}
use lib.Seq.{drop-drop, drop_at}
use lib.Dec.{ltb, leb, eqb}
use borrow.Author.Tests.{ltb-true, ltb-false, lt-leb, le-leb, leb-true, ne_eqb}
use Rattle.paper.specs.Bytes.{when◌then◌else◌}
use Rattle.paper.specs.Answer as paper
use Rattle.paper.specs.Answer.{ok, refused, ◌>>=◌, demand}
use Rattle.paper.specs.Syntax.{Block}
use Rattle.paper.specs.Reader.{read}
use Rattle.paper.specs.Layout.{texts, laid_out}
use Rattle.paper.specs.Steps.{Step, steps}
use Rattle.paper.specs.StepLayout.{all_rows, step_list, listed}
use Rattle.paper.specs.Operations.{translated, translates}
use Rattle.paper.specs.Lent.{zeros, wiped, cleared, told, written, Outcome}
use Rattle.paper.specs.Operations as operations
use Rattle.theorems.proofs.Legal.Read.{translate_numbers}
use Rattle.theorems.proofs.Laws.Gives.{Gives, gives, refuses, gives_demand, gives_ok}
use Rattle.memory.specs.Memory.{stored}
use Rattle.memory.proofs.Laws.{clear_wiped, length_zeros}
use Rattle.grammar.specs.Drafts.{Draft, drafts, text_size}
use Rattle.grammar.specs.Puts.{puts, Frame}
use Rattle.grammar.specs.Reads.{reads, outcome_of}
use Rattle.grammar.specs.Reads as grammar
use Rattle.grammar.specs.Ties.{AllTied, Alike, both, neither, DraftsOf}
use Rattle.grammar.specs.declared.answer.Drafts.{Drafts}
use Rattle.grammar.proofs.Tied.{drafts_tied}
use Rattle.translate.specs.Puts.{ListFits, written_list}
use Rattle.translate.proofs.Laid.{laid_length}
use Rattle.grammar.proofs.Rules.Fronts.{all_lasts}
use Rattle.translate.proofs.Rules.Drafts.{Drafted, drafted, drafts_frame, same_count, same_size}

-- ---- what the readers answer

-- n drafts are left, with t bytes of text
pub record CameDone (s w w' : List ℕ) (n t : ℕ) : Type 0 where
  pub long : 65536 ≤ length w
  pub block : Block
  pub all : List Draft
  pub is_read : read s ≡ ok block
  pub tied : AllTied s all (all_rows (steps block))
  pub short : length s ≤ 32768
  pub count : n ≡ length all
  pub text : t ≡ text_size all
  pub work : w' ≡ puts (wiped w) 0 all

pub data CameRefused (s w w' : List ℕ) (n p : ℕ) : Type 0 where
  too_short : length w < 65536 → n ≡ 8 → p ≡ 0 → w' ≡ w → CameRefused s w w' n p
  not_read : 65536 ≤ length w → read s ≡ refused n p → w' ≡ wiped w → CameRefused s w w' n p

abbrev pub CameIs : List ℕ → List ℕ → List ℕ → paper.Answer Drafts → Type 0
CameIs s w w' (ok d) = CameDone s w w' d.steps d.text
CameIs s w w' (refused n p) = CameRefused s w w' n p

short_source : (s : List ℕ) → Gives (λ _. Unit {0}) (λ _. length s ≤ 32768) (drafts s)
unfolding drafts
short_source s = gives_demand (leb (length s) 32768) 1 0 _ tt (λ e. any (leb-true (length s) 32768 e) _)
  where
    any : {X : Type 0} {P : Type 0} → P → (m : paper.Answer X) → Gives (λ _. Unit {0}) (λ _. P) m
    any p (ok x) = gives p
    any p (refused n q) = refuses tt

module _ (s w : List ℕ) where
  pub came : {r : paper.Answer Drafts} {w' : List ℕ} → ◌≡◌ {A = grammar.Outcome} (record { answer = r; work = w' }) (reads s w) → CameIs s w w' r
  unfolding reads outcome_of when◌then◌else◌
  came {r} {w'} e = by (ltb (length w) 65536) refl
    where
      result : Bool → paper.Answer (List Draft) → grammar.Outcome
      result c m = when c then record { answer = refused 8 0; work = w } else outcome_of m w

      tells : (m : paper.Answer (List Draft)) (n : paper.Answer Block) → drafts s ≡ m → read s ≡ n → 65536 ≤ length w → Alike (DraftsOf s) m n
          → ◌≡◌ {A = grammar.Outcome} (record { answer = r; work = w' }) (outcome_of m w) → CameIs s w w' r
      tells m n d e₁ l (both {a = ds} {b = b} A) f =
          subst (CameIs s w w') (sym (ap (λ (x : grammar.Outcome). x.answer) f)) (record {
            long = l;
            block = b;
            all = ds;
            is_read = e₁;
            tied = A;
            short = gives_ok (short_source s) d;
            count = refl;
            text = refl;
            work = ap (λ (x : grammar.Outcome). x.work) f;
          })
      tells m n d e₁ l neither f = subst (CameIs s w w') (sym (ap (λ (x : grammar.Outcome). x.answer) f)) (not_read l e₁ (ap (λ (x : grammar.Outcome). x.work) f))

      by : (c : Bool) → ltb (length w) 65536 ≡ c → CameIs s w w' r
      by true h =
          let f : ◌≡◌ {A = grammar.Outcome} (record { answer = r; work = w' }) (record { answer = refused 8 0; work = w }) = e ∙ ap (λ (c : Bool). result c (drafts s)) h in
          subst (CameIs s w w') (sym (ap (λ (x : grammar.Outcome). x.answer) f)) (too_short (ltb-true (length w) 65536 h) refl refl (ap (λ (x : grammar.Outcome). x.work) f))
      by false h =
          let f : ◌≡◌ {A = grammar.Outcome} (record { answer = r; work = w' }) (outcome_of (drafts s) w) = e ∙ ap (λ (c : Bool). result c (drafts s)) h in
          tells (drafts s) (read s) refl refl (ltb-false (length w) 65536 h) (drafts_tied s).alike f

-- ---- what paper says

abbrev outcome : paper.Answer (List ℕ) → List ℕ → List ℕ → Outcome
outcome a o w = record { answer = told a; output = written a o; works = cleared a w ∷ [] }

module _ (s o w : List ℕ) where
  pub output_short : length o < 53272 → ◌≡◌ {A = Outcome} (record { answer = refused 8 0; output = o; works = w ∷ [] }) (translates s o w)
  unfolding translates operations.translate_op ◌>>=◌ demand told written cleared
  output_short h = rw (lt-leb 53272 (length o) h)

  module _ (h : 53272 ≤ length o) where
    work_short : length w < 65536 → ◌≡◌ {A = Outcome} (record { answer = refused 8 0; output = o; works = w ∷ [] }) (translates s o w)
    unfolding translates operations.translate_op ◌>>=◌ demand told written cleared
    work_short l = rw (le-leb 53272 (length o) h, lt-leb 65536 (length w) l)

    roomy : 65536 ≤ length w → translates s o w ≡ outcome (operations.translate s) o w
    unfolding translates operations.translate_op ◌>>=◌ demand
    roomy l = rw (le-leb 53272 (length o) h, le-leb 65536 (length w) l)

    no_list : (n p : ℕ) → 65536 ≤ length w → operations.translate s ≡ refused n p → ◌≡◌ {A = Outcome} (record { answer = refused n p; output = o; works = wiped w ∷ [] }) (translates s o w)
    unfolding told written cleared
    no_list n p l e =
        let k : eqb n 8 ≡ false = ne_eqb n 8 (λ q. omega (arith, (translate_numbers s n p e).1)) in
        sym (roomy l ∙ rw (e, k, cleared))

    unread : (n p : ℕ) → read s ≡ refused n p → operations.translate s ≡ refused n p
    unfolding operations.translate translated ◌>>=◌
    unread n p e = rw e

    pub refused_outcome : {w' : List ℕ} {n p : ℕ} → CameRefused s w w' n p → ◌≡◌ {A = Outcome} (record { answer = refused n p; output = o; works = w' ∷ [] }) (translates s o w)
    refused_outcome {w'} {n} {p} (too_short l e f g) =
        (λ i. record { answer = refused (e i) (f i); output = o; works = g i ∷ [] }) ∙ work_short l
    refused_outcome {w'} {n} {p} (not_read l e g) =
        ap (λ (x : List ℕ). record { answer = refused n p; output = o; works = x ∷ [] }) g ∙ no_list n p l (unread n p e)

    module _ {w' : List ℕ} {n t : ℕ} (C : CameDone s w w' n t) where
      is : List Step
      is = steps C.block

      as_listed : operations.translate s ≡ listed (steps C.block)
      unfolding operations.translate translated ◌>>=◌
      as_listed = rw C.is_read

      count : n ≡ length (all_rows (steps C.block))
      count = C.count ∙ same_count C.tied

      size : t ≡ length (texts (all_rows (steps C.block)))
      size = C.text ∙ same_size C.tied

      -- the work slice is wiped at the end
      pub wiped_again : {w'' : List ℕ} → w'' ≡ stored w' 0 (zeros 65536) → w'' ≡ wiped w
      unfolding wiped
      wiped_again {w''} e =
          let F : Frame (wiped w) (puts (wiped w) 0 C.all) = drafts_frame s (wiped w) C.all (steps C.block) C.tied in
          let l₁ : length (wiped w) ≡ length w = length-append (zeros 65536) (drop 65536 w) ∙ omega (arith, length_zeros 65536, length-drop 65536 w, C.long) in
          let l₂ : length w' ≡ length w = ap length C.work ∙ F.long ∙ l₁ in
          let d : drop 65536 w' ≡ drop 65536 w =
          ap (drop 65536) C.work ∙ sym (drop-drop 45056 20480 (puts (wiped w) 0 C.all)) ∙ ap (drop 45056) F.rest ∙ drop-drop 45056 20480 (wiped w)
          ∙ drop_at (zeros 65536) (drop 65536 w) 65536 (length_zeros 65536) in
          e ∙ clear_wiped w' (omega (arith, C.long)) ∙ ap (λ (x : List ℕ). zeros 65536 ++ x) d

      pub many_steps : {w'' : List ℕ} → w'' ≡ stored w' 0 (zeros 65536) → 1024 < n → ◌≡◌ {A = Outcome} (record { answer = refused 7 0; output = o; works = w'' ∷ [] }) (translates s o w)
      unfolding listed ◌>>=◌ demand
      many_steps e l =
          let f : operations.translate s ≡ refused 7 0 = as_listed ∙ rw (lt-leb (length (all_rows (steps C.block))) 1024 (omega (arith, count))) in
          ap (λ (x : List ℕ). record { answer = refused 7 0; output = o; works = x ∷ [] }) (wiped_again e) ∙ no_list 7 0 C.long f

      pub much_text : {w'' : List ℕ} → w'' ≡ stored w' 0 (zeros 65536) → n ≤ 1024 → 32768 < t → ◌≡◌ {A = Outcome} (record { answer = refused 7 0; output = o; works = w'' ∷ [] }) (translates s o w)
      unfolding listed ◌>>=◌ demand
      much_text e k l =
          let f : operations.translate s ≡ refused 7 0 =
          as_listed ∙ rw (le-leb (length (all_rows (steps C.block))) 1024 (omega (arith, count)), lt-leb (length (texts (all_rows (steps C.block)))) 32768 (omega (arith, size))) in
          ap (λ (x : List ℕ). record { answer = refused 7 0; output = o; works = x ∷ [] }) (wiped_again e) ∙ no_list 7 0 C.long f

      module _ (few : n ≤ 1024) (light : t ≤ 32768) where
        all_drafted : Drafted s w' (all_rows (steps C.block)) n
        all_drafted =
            let l₁ : 20480 ≤ length (wiped w) = omega (arith, wiped_long) in
            let D = drafted s (wiped w) C.all (steps C.block) C.short C.tied l₁ (omega (arith, C.count)) in
            subst (λ (x : List ℕ). Drafted s x (all_rows (steps C.block)) n) (sym C.work) (subst (λ (m : ℕ). Drafted s (puts (wiped w) 0 C.all) (all_rows (steps C.block)) m) (sym C.count) D)
          where
            wiped_long : length (wiped w) ≡ length w
            wiped_long = unfold wiped in (length-append (zeros 65536) (drop 65536 w) ∙ omega (arith, length_zeros 65536, length-drop 65536 w, C.long))

        pub list_fits : ListFits s w' n t o
        list_fits =
            record {
              there = all_drafted.there;
              few = few;
              sized = ap length all_drafted.texts ∙ sym size;
              light = light;
              room = h;
            }

        pub done_outcome : {o' w'' : List ℕ} → o' ≡ written_list s w' n o → w'' ≡ stored w' 0 (zeros 65536)
            → ◌≡◌ {A = Outcome} (record { answer = ok (24 + 20 * n + t); output = o'; works = w'' ∷ [] }) (translates s o w)
        unfolding listed step_list ◌>>=◌ demand told written cleared
        done_outcome {o'} {w''} e g =
            let xs = all_rows (steps C.block) in
            let f : operations.translate s ≡ ok (laid_out 1 xs) = as_listed ∙ rw (le-leb (length xs) 1024 (omega (arith, count)), le-leb (length (texts xs)) 32768 (omega (arith, size))) in
            let z : 24 + 20 * n + t ≡ length (laid_out 1 xs) = omega (arith, count, size, laid_length xs (all_lasts (steps C.block))) in
            let y : o' ≡ laid_out 1 xs ++ drop (length (laid_out 1 xs)) o = e ∙ ap (λ (l : List ℕ). l ++ drop (length l) o) all_drafted.list in
            (λ i. record { answer = ok (z i); output = y i; works = wiped_again g i ∷ [] }) ∙ sym (roomy C.long ∙ rw f refl)
