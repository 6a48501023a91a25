-- What a node's head says, and what the paper's readers of elements do with it. Assumes nothing.
use Prim.Native.Nat.{ℕ, zero, suc, ◌+◌, ◌-◌, ◌≤◌, ◌<◌}
use native.Mathlib.Omega.{arith}
use mathlib.Core.Path.{◌≡◌, refl, sym, ◌∙◌, ap}
use mathlib.Core.Bool.{Bool, true, false, ◌&&◌, ◌||◌}
use mathlib.Core.List.{List}
use mathlib.Core.Logic.{⊎_elim}
use mathlib.Core.Option.{Option, none, some}
use lib.ListN.{length}
use lib.Dec.{leb}
use borrow.Author.Tests.{leb-true, le-leb, lt-leb}
use Rattle.paper.specs.Maybe.{◌>>=◌, require}
use Rattle.paper.specs.Syntax.{◌∷ⱽ◌}
use Rattle.paper.specs.Decoder.{record_at}
use Rattle.theorems.proofs.Laws.DecodeAt.{Bytes, record_here, record_short}
use Rattle.paper.specs.DecodeAt.{word, raw_at, cursor}
use Rattle.theorems.proofs.Laws.DecodeFree.{element_body, elements_some}
use Rattle.paper.specs.DecodeFrom.{basic_from, elements_from}
use Rattle.memory.proofs.Laws.{fit}
use Rattle.forms.specs.declared.form.Form.{Form}
use Rattle.forms.specs.Form.{form_of, size_of, fits_in}
use Rattle.layout.specs.Walk.{heads, basic_here, elements_here}
use Rattle.forms.proofs.Forms.{fields_in}

-- ---- the head

pub record Head (form : Form) (recs : List ℕ) (i d n : ℕ) : Type 0 where
  pub within : i + size_of form ≤ length recs
  pub deep : d ≤ 32
  pub some : 1 ≤ word 2 recs (i + 6)
  pub few : word 2 recs (i + 6) ≤ n

-- a test that stands behind another
pub and_then : {a b r : Bool} → a ≡ true → r ≡ b → r ≡ (a && b)
and_then e f = f ∙ rw e

pub and_else : {a r : Bool} (b : Bool) → a ≡ false → r ≡ a → r ≡ (a && b)
and_else b e f = f ∙ e ∙ rw e

pub or_then : {a r : Bool} (b : Bool) → a ≡ true → r ≡ a → r ≡ (a || b)
or_then b e f = f ∙ e ∙ rw e

pub or_else : {a b r : Bool} → a ≡ false → r ≡ b → r ≡ (a || b)
or_else e f = f ∙ rw e

and_assoc : (a b c : Bool) → ((a && b) && c) ≡ (a && (b && c))
and_assoc true b c = refl
and_assoc false b c = refl

pub and_true : (a b : Bool) → (a && b) ≡ true → (a ≡ true) × (b ≡ true)
and_true true b e = (refl, e)
and_true false b e = let z : ◌≡◌ {A = ℕ} 0 1 = cc in absurd (omega arith)

-- a record of either form has 16 bytes at least
pub sized : (form : Form) → 16 ≤ size_of form
unfolding size_of
sized form = omega arith

module _ (form : Form) (recs : List ℕ) (i d n : ℕ) where
  pub head_of : heads form recs i d n ≡ true → Head form recs i d n
  unfolding heads
  head_of h =
      let a = and_true (leb (i + size_of form) (length recs)) _ h in
      let b = and_true (leb d 32) _ a.1 in
      let e = and_true (leb 1 (word 2 recs (i + 6))) _ b.1 in
      record { within = leb-true _ _ a.0; deep = leb-true _ _ b.0; some = leb-true _ _ e.0; few = leb-true _ _ e.1 }

  -- what the code tests
  pub head_is : (s : ℕ) {within spanned : Bool} → (i + size_of form ≤ length recs → s ≡ word 2 recs (i + 6))
      → within ≡ (leb (i + size_of form) (length recs) && leb d 32) → spanned ≡ (leb 1 s && leb s n) → (within && spanned) ≡ heads form recs i d n
  unfolding heads
  head_is s f a b =
      rw (a, b)
      (and_assoc (leb (i + size_of form) (length recs)) (leb d 32) (leb 1 s && leb s n)
      ∙ ⊎_elim (λ h. rw (f h)) (λ h. rw (lt-leb (i + size_of form) (length recs) h)) (fit (i + size_of form) (length recs)))

-- ---- readers at a record

pub stop : {Y : Type 0} {m : Option Y} {Z : Type 0} (f : Y → Option Z) → m ≡ none → m >>= f ≡ none
unfolding ◌>>=◌
stop f e = rw e

pub goes : {Y : Type 0} {m : Option Y} {y : Y} {Z : Type 0} (f : Y → Option Z) → m ≡ some y → f y ≡ none → m >>= f ≡ none
unfolding ◌>>=◌
goes f e h = rw e h

module _ (form : Form) (recs text : List ℕ) (i p : ℕ) (b : Bytes recs) where
  pub record_outside : length recs < i + size_of form → record_at (form_of form).width (cursor recs text i p) ≡ none
  unfolding size_of
  record_outside h = record_short (form_of form).width recs text i p b h

  pub record_inside : i + size_of form ≤ length recs → record_at (form_of form).width (cursor recs text i p) ≡ some (raw_at (form_of form).width recs i, cursor recs text (i + size_of form) p)
  unfolding size_of
  record_inside h = record_here (form_of form).width recs text i p b h

  -- a basic whose record lies inside
  pub basic_inside : (d m : ℕ) → i + size_of form ≤ length recs → basic_here form recs text d m i p
      ≡ basic_from (form_of form) d ((form_of form).kind_in (raw_at (form_of form).width recs i)) m (word 8 recs (i + 8)) (cursor recs text (i + size_of form) p)
  unfolding basic_here raw_at ◌>>=◌
  basic_inside d m h = rw (record_inside h)

-- a node whose head is wrong, though it lies within
pub headless : (form : Form) (recs : List ℕ) (i d n : ℕ) → i + size_of form ≤ length recs → heads form recs i d n ≡ false → (leb d 32 && (leb 1 (word 2 recs (i + 6)) && leb (word 2 recs (i + 6)) n)) ≡ false
unfolding heads
headless form recs i d n w h = rw (le-leb (i + size_of form) (length recs) w) at h

-- whatever else is asked of it in between
pub stops : {Y : Type 0} (a c e f : Bool) (g : Unit {0} → Option Y) → (a && (e && f)) ≡ false → (require a >>= λ _. require c >>= λ _. require e >>= λ _. require f >>= g) ≡ none
unfolding ◌>>=◌ require
stops false c e f g h = refl
stops true false e f g h = refl
stops true true false f g h = refl
stops true true true false g h = refl
stops true true true true g h = let z : ◌≡◌ {A = ℕ} 0 1 = cc in absurd (omega arith)

-- ---- elements

module _ (form : Form) (recs text : List ℕ) (i p d : ℕ) (b : Bytes recs) where
  pub elements_headless : (n : ℕ) → 0 < n → heads form recs i d n ≡ false → elements_here form recs text d n i p ≡ none
  unfolding elements_here element_body raw_at
  elements_headless zero l h = absurd (omega arith)
  elements_headless (suc k) l h =
      elements_some (form_of form) d k (cursor recs text i p)
      ∙ ⊎_elim
      (λ w. goes _ (record_inside form recs text i p b w) (stops (leb d 32) _ (leb 1 (word 2 recs (i + 6))) (leb (word 2 recs (i + 6)) (suc k)) _ (headless form recs i d (suc k) w h)))
      (λ w. stop _ (record_outside form recs text i p b w))
      (fit (i + size_of form) (length recs))

  fits_is : {t : Bool} → i + size_of form ≤ length recs → fits_in form recs i d ≡ t → (form_of form).fits d (raw_at (form_of form).width recs i) ≡ t
  unfolding fits_in size_of
  fits_is h e = ap ((form_of form).fits d) (sym (fields_in (form_of form).width recs i h)) ∙ e

  pub elements_unfit : (n : ℕ) → Head form recs i d n → fits_in form recs i d ≡ false → elements_here form recs text d n i p ≡ none
  unfolding elements_here element_body ◌>>=◌ require
  elements_unfit zero H e = absurd (omega (arith, H.some, H.few))
  elements_unfit (suc k) H e =
      elements_some (form_of form) d k (cursor recs text i p) ∙ rw (record_inside form recs text i p b H.within, le-leb d 32 H.deep, fits_is H.within e)

  pub elements_open : (n : ℕ) → Head form recs i d n → fits_in form recs i d ≡ true → elements_here form recs text d n i p
      ≡ basic_here form recs text d (word 2 recs (i + 6)) i p >>= λ x. elements_from (form_of form) d (n - word 2 recs (i + 6)) x.1 >>= λ s. some (x.0 ∷ⱽ s.0, s.1)
  unfolding elements_here element_body raw_at ◌>>=◌ require
  elements_open zero H e = absurd (omega (arith, H.some, H.few))
  elements_open (suc k) H e =
      elements_some (form_of form) d k (cursor recs text i p)
      ∙ rw (record_inside form recs text i p b H.within, le-leb d 32 H.deep, fits_is H.within e, le-leb 1 (word 2 recs (i + 6)) H.some, le-leb (word 2 recs (i + 6)) (suc k) H.few, basic_inside form recs text i p b d (word 2 recs (i + 6)) H.within)
