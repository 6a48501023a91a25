-- Drafts at the front of a longer slice: what stands behind them stays. Assumes nothing.
use Prim.Native.Nat.{ℕ, suc, ◌+◌, ◌*◌, ◌≤◌}
use native.Mathlib.Omega.{arith}
use mathlib.Core.Path.{◌≡◌, refl, sym, ap, subst, ◌∙◌}
use mathlib.Core.Bool.{Bool, true, false}
use mathlib.Core.List.{List, [], ◌∷◌, ◌++◌, append-nil}
use lib.Dec.{ltb}
use lib.ListN.{length, set, take, drop, length-append, length-set, take-append-drop}
use lib.Seq.{sets, drop_at}
use borrow.Author.Tests.{ltb-true, le-ltb}
use Rattle.std.proofs.lemmas.List.{set-append_left, length-take-le}
use Rattle.paper.specs.Bytes.{when◌then◌else◌}
use Rattle.paper.specs.Answer.{Answer, ok, refused}
use Rattle.paper.specs.Syntax.{Basic, boolean, null, integer, decimal, string, reference, vector, Basics, εⱽ, ◌∷ⱽ◌, Block}
use Rattle.paper.specs.Layout.{Row, row_bytes, elements, each}
use Rattle.paper.specs.Lent.{zeros, wiped}
use Rattle.paper.specs.Steps.{Step, steps}
use Rattle.paper.specs.StepLayout.{step_row, item, step_rows, all_rows}
use Rattle.theorems.proofs.Decoded.Parts.{length_little}
use Rattle.theorems.proofs.Decoded.Header.{Lasts, lasts-++}
use Rattle.memory.proofs.Laws.{length_zeros}
use Rattle.grammar.specs.Drafts.{Draft, drafts, text_size}
use Rattle.grammar.specs.Puts.{put_row, puts}
use Rattle.grammar.specs.Ties.{AllTied, none, also, Alike, both, neither, DraftsOf}
use Rattle.grammar.specs.Reads.{Outcome, outcome_of, reads}
use Rattle.grammar.specs.declared.answer.Drafts.{Drafts}
use Rattle.grammar.proofs.Tied.{drafts_tied}
use Rattle.grammar.proofs.Rules.Puts.{Twenty, put_frame}

-- ---- the rows of steps end in a place of four bytes

mutual
  unfolding elements item step_row

  elements_lasts : (d : ℕ) (b : Basic) → Lasts 4 (elements item d b)
  elements_lasts d (boolean b) = tt
  elements_lasts d null = tt
  elements_lasts d (integer z) = tt
  elements_lasts d (decimal t) = tt
  elements_lasts d (string t) = tt
  elements_lasts d (reference r) = tt
  elements_lasts d (vector bs) = each_lasts (suc d) bs

  each_lasts : (d : ℕ) (bs : Basics) → Lasts 4 (each item d bs)
  each_lasts d εⱽ = tt
  each_lasts d (b ∷ⱽ bs) = (length_little 4 0, lasts-++ 4 (elements item d b) (each item d bs) (elements_lasts d b) (each_lasts d bs))

step_lasts : (i : Step) → Lasts 4 (step_rows i)
unfolding step_rows step_row
step_lasts (Step.make p r) = (length_little 4 p, tt)
step_lasts (Step.take p r) = (length_little 4 p, tt)
step_lasts Step.enter = (length_little 4 0, tt)
step_lasts Step.leave = (length_little 4 0, tt)
step_lasts Step.done = (length_little 4 0, tt)
step_lasts (Step.set p r b) = (length_little 4 p, elements_lasts 0 b)
step_lasts (Step.link p r l) = (length_little 4 p, tt)

pub all_lasts : (is : List Step) → Lasts 4 (all_rows is)
unfolding all_rows
all_lasts [] = tt
all_lasts (i ∷ is) = lasts-++ 4 (step_rows i) (all_rows is) (step_lasts i) (all_lasts is)

-- ---- so drafts have 20 bytes

pub row_length : (t : ℕ) (x : Row) → length x.last ≡ 4 → length (row_bytes t x) ≡ 20
unfolding row_bytes
row_length t x e = simp (length-append, length_little) (omega (arith, e))

abbrev pub AllTwenty : List Draft → Type 0
AllTwenty [] = Unit
AllTwenty (d ∷ ds) = Twenty d.row × AllTwenty ds

pub all_twenty : {s : List ℕ} {ds : List Draft} {xs : List Row} → AllTied s ds xs → Lasts 4 xs → AllTwenty ds
all_twenty none L = tt
all_twenty (also {d = d} T A) L = (record { long = row_length 0 d.row (ap length T.last ∙ L.0) }, all_twenty A L.1)

module _ (s : List ℕ) where
  of_reading : {m : Answer (List Draft)} {n : Answer Block} (ds : List Draft) → Alike (DraftsOf s) m n → m ≡ ok ds → AllTwenty ds
  of_reading ds (both {a} {b} T) e = let q : a ≡ ds = cc in subst (λ (x : List Draft). AllTwenty x) q (all_twenty T (all_lasts (steps b)))
  of_reading ds neither e = let z : ◌≡◌ {A = ℕ} 0 1 = cc in absurd (omega arith)

  drafts_twenty : (ds : List Draft) → drafts s ≡ ok ds → AllTwenty ds
  drafts_twenty ds e = of_reading ds (drafts_tied s).alike e

-- ---- the front of a longer slice

sets_front : (xs a r : List ℕ) (i : ℕ) → i + length xs ≤ length a → sets (a ++ r) i xs ≡ sets a i xs ++ r
sets_front [] a r i h = refl
sets_front (x ∷ xs) a r i h =
    ap (λ (w : List ℕ). sets w (suc i) xs) (set-append_left a r i x (omega arith)) ∙ sets_front xs (set a i x) r (suc i) (omega (arith, length-set a i x))

put_front : (a r : List ℕ) (n : ℕ) (x : Row) → Twenty x → 20480 ≤ length a → put_row (a ++ r) n x ≡ put_row a n x ++ r
unfolding put_row
put_front a r n x t h = go (ltb n 1024) refl
  where
    go : (c : Bool) → ltb n 1024 ≡ c
        → (when c then sets (a ++ r) (20 * n) (row_bytes 0 x) else (a ++ r)) ≡ (when c then sets a (20 * n) (row_bytes 0 x) else a) ++ r
    go true e = unfold when◌then◌else◌ in sets_front (row_bytes 0 x) a r (20 * n) (omega (arith, t.long, ltb-true n 1024 e))
    go false e = unfold when◌then◌else◌ in refl

puts_front : (ds : List Draft) (a r : List ℕ) (n : ℕ) → AllTwenty ds → 20480 ≤ length a → puts (a ++ r) n ds ≡ puts a n ds ++ r
unfolding puts
puts_front [] a r n T h = refl
puts_front (d ∷ ds) a r n T h =
    ap (λ (w : List ℕ). puts w (suc n) ds) (put_front a r n d.row T.0 h)
    ∙ puts_front ds (put_row a n d.row) r (suc n) T.1 (omega (arith, (put_frame a n d.row T.0).long))

module _ (s a r : List ℕ) (l : length a ≡ 65536) where
  wiped_front : wiped (a ++ r) ≡ wiped a ++ r
  unfolding wiped
  wiped_front =
      let none : drop 65536 a ≡ [] = ap (λ (w : List ℕ). drop 65536 w) (sym (append-nil a)) ∙ drop_at a [] 65536 l in
      ap (λ (w : List ℕ). zeros 65536 ++ w) (drop_at a r 65536 l)
      ∙ ap (λ (w : List ℕ). w ++ r) (sym (append-nil (zeros 65536)) ∙ ap (λ (w : List ℕ). zeros 65536 ++ w) (sym none))

  wiped_long : 20480 ≤ length (wiped a)
  unfolding wiped
  wiped_long = omega (arith, length-append (zeros 65536) (drop 65536 a), length_zeros 65536)

  outcome_front : (m : Answer (List Draft)) → drafts s ≡ m
      → outcome_of m (a ++ r) ≡ record { answer = (outcome_of m a).answer; work = (outcome_of m a).work ++ r }
  unfolding outcome_of
  outcome_front (ok ds) e =
      ap (λ (w : List ℕ). record { answer = ok (record { steps = length ds; text = text_size ds }); work = w })
      (ap (λ (w : List ℕ). puts w 0 ds) wiped_front ∙ puts_front ds (wiped a) r 0 (drafts_twenty s ds e) wiped_long)
  outcome_front (refused n p) e = ap (λ (w : List ℕ). record { answer = refused n p; work = w }) wiped_front

  reads_front : reads s (a ++ r) ≡ record { answer = (reads s a).answer; work = (reads s a).work ++ r }
  unfolding reads when◌then◌else◌
  reads_front = rw (le-ltb (length (a ++ r)) 65536 (omega (arith, length-append a r, l)), le-ltb (length a) 65536 (omega (arith, l))) (outcome_front (drafts s) refl)

-- what is read into the first 65,536 bytes is read into the whole slice
pub read_front : (s w a : List ℕ) (x : Answer Drafts) (b : List ℕ) → 65536 ≤ length w → a ≡ take 65536 w → ◌≡◌ {A = Outcome} (record { answer = x; work = b }) (reads s a)
    → ◌≡◌ {A = Outcome} (record { answer = x; work = b ++ drop 65536 w }) (reads s w)
read_front s w a x b h q e =
    let r = drop 65536 w in
    ap (λ (o : Outcome). record { answer = o.answer; work = o.work ++ r }) e
    ∙ sym (reads_front s a r (ap length q ∙ length-take-le 65536 w h))
    ∙ ap (λ (v : List ℕ). reads s v) (ap (λ (v : List ℕ). v ++ r) q ∙ take-append-drop 65536 w)
