-- One step record: the paper's tests, one law for each way through the code. Assumes nothing.
use Prim.Native.Nat.{ℕ, ◌+◌, ◌≤◌, ◌<◌}
use native.Mathlib.Omega.{arith}
use mathlib.Core.Path.{◌≡◌, refl, sym, ◌∙◌}
use mathlib.Core.Bool.{Bool, true, false, ◌&&◌, ◌||◌}
use mathlib.Core.List.{List}
use mathlib.Core.Option.{Option, none, some}
use lib.ListN.{length}
use mathlib.Core.Logic.{⊎_elim}
use lib.Dec.{leb, ltb, eqb}
use borrow.Author.Tests.{lt-leb, ne_eqb}
use Rattle.paper.specs.Scanner.{empty}
use Rattle.paper.specs.Maybe.{◌>>=◌, require}
use Rattle.paper.specs.Decoder.{Cursor, Raw, record_at}
use Rattle.paper.specs.StepDecoder.{plain, bare, step_here, stops}
use Rattle.theorems.proofs.Laws.DecodeAt.{Bytes, record_here, record_short}
use Rattle.paper.specs.DecodeAt.{word, raw_at, cursor}
use Rattle.memory.specs.Memory.{word_at}
use Rattle.memory.proofs.Laws.{fit, word_in}
use Rattle.forms.specs.Form.{fields}
use Rattle.layout.proofs.Ends.{empty_yes, empty_no}
use Rattle.forms.proofs.Forms.{fields_in}
use Rattle.steplist.specs.Record.{StopsIs, opens_at, ClosesIs}

-- ---- where statements and prototypes end

stops_is : (at : Cursor) (n : ℕ) → empty at.recs ≡ false → step_here at ≡ n → eqb n 4 ≡ stops at
unfolding stops
stops_is at n e f = rw (e, f)

step_none : (at : Cursor) → record_at 4 at ≡ none → step_here at ≡ 0
unfolding step_here
step_none at e = rw (e, step_here)

step_some : (at : Cursor) (x : Raw × Cursor) → record_at 4 at ≡ some x → step_here at ≡ x.0.first
unfolding step_here
step_some at x e = rw (e, step_here)

module _ (recs : List ℕ) (i : ℕ) where
  pub stops_end : length recs ≤ i → StopsIs recs i true
  unfolding stops cursor
  stops_end h text p = rw (empty_yes recs i h)

  module _ (b : Bytes recs) (l : i < length recs) where
    here : (text : List ℕ) (p : ℕ) → empty (cursor recs text i p).recs ≡ false
    unfolding cursor
    here text p = empty_no recs i l

    pub stops_cut : length recs < i + 20 → StopsIs recs i false
    stops_cut h text p = stops_is (cursor recs text i p) 0 (here text p) (step_none (cursor recs text i p) (record_short 4 recs text i p b h))

    first_is : i + 20 ≤ length recs → (raw_at 4 recs i).first ≡ word_at 2 recs i
    unfolding raw_at
    first_is h = sym (word_in 2 recs i (omega arith))

    pub stops_leave : (s : ℕ) → i + 20 ≤ length recs → s ≡ word_at 2 recs i → StopsIs recs i (eqb s 4)
    stops_leave s h f text p =
        stops_is (cursor recs text i p) s (here text p) (step_some (cursor recs text i p) (raw_at 4 recs i, cursor recs text (i + 20) p) (record_here 4 recs text i p b h) ∙ first_is h ∙ sym f)

  pub opens_is : (s : ℕ) → s ≡ word_at 2 recs i → (leb (i + 20) (length recs) && (eqb s 2 || eqb s 3)) ≡ opens_at recs i
  unfolding opens_at
  opens_is s e =
      ⊎_elim
      (λ h. let f : s ≡ word 2 recs i = e ∙ word_in 2 recs i (omega arith) in rw (← f))
      (λ h. rw (lt-leb (i + 20) (length recs) h)) (fit (i + 20) (length recs))

-- ---- the fields

-- tests one after another, as the code groups them
four : (a b c d : Bool) → (require a >>= λ _. require b >>= λ _. require c >>= λ _. require d) ≡ require ((a && (b && c)) && d)
unfolding ◌>>=◌ require
four false b c d = refl
four true false c d = refl
four true true false d = refl
four true true true d = refl

three : (t a b c : Bool) (o : Option (Unit {0})) → o ≡ require t → (o >>= λ _. require a >>= λ _. require b >>= λ _. require c) ≡ require ((t && (a && b)) && c)
unfolding ◌>>=◌
three t a b c o e = rw e (four t a b c)

module _ (recs : List ℕ) (i step : ℕ) where
  pub plain_is : (s k m p : ℕ) → s ≡ word_at 2 recs i → k ≡ word_at 2 recs (i + 2) → m ≡ word_at 2 recs (i + 6) → p ≡ word_at 4 recs (i + 16)
      → plain step (fields 4 recs i) ≡ require ((eqb s step && (eqb k 0 && eqb m 0)) && ltb p 32768)
  unfolding plain fields
  plain_is s k m p es ek em ep = rw (← es, ← ek, ← em, ← ep) (four (eqb s step) (eqb k 0) (eqb m 0) (ltb p 32768))

  pub plain_step : (s : ℕ) → s ≡ word_at 2 recs i → (s ≡ step → ⊥) → plain step (fields 4 recs i) ≡ require false
  plain_step s es h = plain_is s (word_at 2 recs (i + 2)) (word_at 2 recs (i + 6)) (word_at 4 recs (i + 16)) es refl refl refl ∙ rw (ne_eqb s step h)

  bare_of : (x : Raw) (t : Bool) → plain step x ≡ require t → bare step x ≡ require ((t && (eqb x.label 0 && eqb x.value 0)) && eqb x.place 0)
  unfolding bare
  bare_of x t e = three t (eqb x.label 0) (eqb x.value 0) (eqb x.place 0) _ e

  same : (t : Bool) (l v p : ℕ) → l ≡ word_at 2 recs (i + 4) → v ≡ word_at 8 recs (i + 8) → p ≡ word_at 4 recs (i + 16)
      → require ((t && (eqb (fields 4 recs i).label 0 && eqb (fields 4 recs i).value 0)) && eqb (fields 4 recs i).place 0) ≡ require ((t && (eqb l 0 && eqb v 0)) && eqb p 0)
  unfolding fields
  same t l v p el ev ep = rw (← el, ← ev, ← ep)

  pub bare_is : (t : Bool) (l v p : ℕ) → plain step (fields 4 recs i) ≡ require t → l ≡ word_at 2 recs (i + 4) → v ≡ word_at 8 recs (i + 8) → p ≡ word_at 4 recs (i + 16)
      → bare step (fields 4 recs i) ≡ require ((t && (eqb l 0 && eqb v 0)) && eqb p 0)
  bare_is t l v p e el ev ep = bare_of (fields 4 recs i) t e ∙ same t l v p el ev ep

module _ (recs : List ℕ) (i step : ℕ) (b : Bytes recs) where
  pub closes_cut : length recs < i + 20 → ClosesIs recs i step false
  unfolding ◌>>=◌ require
  closes_cut h text p = rw (record_short 4 recs text i p b h)

  pub closes_bare : (r : Bool) → i + 20 ≤ length recs → bare step (fields 4 recs i) ≡ require r → ClosesIs recs i step r
  unfolding ◌>>=◌
  closes_bare r h e text p =
      let q = fields_in 4 recs i h in
      rw (record_here 4 recs text i p b h, ← q, e)
