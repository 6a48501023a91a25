-- Numbers: the parts that the scanner measures are those that are written. Assumes nothing.
use Prim.Native.Nat.{ℕ, ◌+◌}
use native.Mathlib.Omega.{arith}
use mathlib.Core.Path.{◌≡◌, refl, ◌∙◌, ap, subst}
use mathlib.Core.Bool.{Bool, true, false, false≢true, ◌||◌}
use mathlib.Core.List.{List, [], ◌∷◌, ◌++◌, append_assoc}
use lib.ListN.{length, drop, length-append}
use lib.Seq.{drop-append_seam, drop-append-add}
use borrow.Author.Tests.{eqb-true}
use Rattle.paper.specs.Bytes.{when◌then◌else◌, at, is, among}
use Rattle.paper.specs.Tokens.{digit}
use Rattle.paper.specs.Scanner.{Scanned, number, digits_after, sign, whole, fraction, exponent}
use Rattle.paper.specs.Written.{no_more, one_more, Digits, digits, Whole, Fraction, Exponent}
use Rattle.paper.specs.Written as Form
use Rattle.theorems.proofs.Scanned.Classes.{or_left, outside_among}
use Rattle.theorems.proofs.Scanned.Skips.{Stops, Run, run, runs, span_run}

-- ---- digits after some bytes

-- after the bytes u stand the digits w
digits_run : (u w r : List ℕ) → Digits w → Stops digit r → digits_after (length u) (u ++ (w ++ r)) ≡ length (u ++ w)
unfolding digits_after
digits_run u w r (digits a) e = rw (drop-append_seam, span_run a e, digits_after) (omega (arith, length-append u w))

no_digits : (u r : List ℕ) → Stops digit r → digits_after (length u) (u ++ r) ≡ 0
unfolding digits_after
no_digits u r e = rw (drop-append_seam, span_run no_more e, digits_after)

-- the part of s that is measured, as it is written
pub data Part (P : List ℕ → Type 0) (measure : List ℕ → ℕ) : List ℕ → Type 0 where
  part : {w : List ℕ} (r : List ℕ) → P w → measure (w ++ r) ≡ length w → Part P measure (w ++ r)

-- u and digits, or nothing
part_digits : (P : List ℕ → Type 0) (measure : List ℕ → ℕ) (u s : List ℕ) → measure (u ++ s) ≡ digits_after (length u) (u ++ s) → P [] → ((w : List ℕ) → Digits w → P (u ++ w)) → Part P measure (u ++ s)
part_digits P measure u s e n f = go (runs digit s) e
  where
    go : {s : List ℕ} → Run digit s → measure (u ++ s) ≡ digits_after (length u) (u ++ s) → Part P measure (u ++ s)
    go (run {w = []} {r} a q) e = part (u ++ r) n (e ∙ no_digits u r q)
    go (run {w = b ∷ w} {r} a q) e = subst (Part P measure) (append_assoc u (b ∷ w) r) (part r (f (b ∷ w) (digits a)) (ap measure (append_assoc u (b ∷ w) r) ∙ e ∙ digits_run u (b ∷ w) r (digits a) q))

-- ---- the three parts

-- an integer part, or none
pub data Perhaps : List ℕ → Type 0 where
  absent : Perhaps []
  present : {w : List ℕ} → Whole w → Perhaps w

no_minus : (b : ℕ) → digit b ≡ true → is "-" b ≡ false
unfolding digit
no_minus b e = or_left (is "-" b) _ (outside_among digit "-" b refl e)

pub whole_run : {w r : List ℕ} → Whole w → Stops digit r → whole (w ++ r) ≡ length w
unfolding whole sign when◌then◌else◌
whole_run {r = r} (Form.plain (digits {b} {s} (one_more e a))) q = rw (no_minus b e) (digits_run [] (b ∷ s) r (digits (one_more e a)) q)
whole_run {r = r} (Form.minus {w} d) q = digits_run (45 ∷ []) w r d q

-- the `run` lemmas measure what is written; the `find` lemmas write what is measured
pub find_whole : (b : ℕ) (s : List ℕ) → (digit b || is "-" b) ≡ true → Part Perhaps whole (b ∷ s)
unfolding whole sign when◌then◌else◌
find_whole b s e = go (digit b) refl
  where
    first : {s : List ℕ} → digit b ≡ true → Run digit s → Part Perhaps whole (b ∷ s)
    first i (run {w} {r} a q) = part r (present (Form.plain (digits (one_more i a)))) (whole_run (Form.plain (digits (one_more i a))) q)

    go : (c : Bool) → digit b ≡ c → Part Perhaps whole (b ∷ s)
    go true i = first i (runs digit s)
    go false i = subst (λ x. Part Perhaps whole (x ∷ s)) (eqb-true 45 b (rw i at e)) (part_digits Perhaps whole (45 ∷ []) s refl absent (λ w d. present (Form.minus d)))

pub fraction_run : {x r : List ℕ} → Fraction x → Stops digit r → is "." (at r 0) ≡ false → fraction (x ++ r) ≡ length x
unfolding fraction when◌then◌else◌
fraction_run Form.none q e = rw e
fraction_run {r = r} (Form.point {w} d) q e = digits_run (46 ∷ []) w r d q

pub find_fraction : (s : List ℕ) → Part Fraction fraction s
unfolding fraction when◌then◌else◌
find_fraction [] = part [] Form.none refl
find_fraction (b ∷ s) = go (is "." b) refl
  where
    go : (c : Bool) → is "." b ≡ c → Part Fraction fraction (b ∷ s)
    go true e = subst (λ x. Part Fraction fraction (x ∷ s)) (eqb-true 46 b e) (part_digits Fraction fraction (46 ∷ []) s refl Form.none (λ w d. Form.point d))
    go false e = part (b ∷ s) Form.none (rw e)

pub exponent_run : {y r : List ℕ} → Exponent y → Stops digit r → among "eE" (at r 0) ≡ false → exponent (y ++ r) ≡ length y
unfolding exponent sign digit when◌then◌else◌
exponent_run Form.none q e = rw e
exponent_run {r = r} (Form.unsigned {e = c} i (digits {b} {s} (one_more d a))) q e = rw (i, outside_among digit "+-" b refl d) (digits_run (c ∷ []) (b ∷ s) r (digits (one_more d a)) q)
exponent_run {r = r} (Form.signed {e = c} {s = g} {w} i j d) q e = rw (i, j) (digits_run (c ∷ g ∷ []) w r d q)

pub find_exponent : (s : List ℕ) → Part Exponent exponent s
unfolding exponent sign when◌then◌else◌
find_exponent [] = part [] Form.none refl
find_exponent (b ∷ s) = go (among "eE" b) refl
  where
    signs : among "eE" b ≡ true → (c : Bool) (s : List ℕ) → among "+-" (at s 0) ≡ c → Part Exponent exponent (b ∷ s)
    signs e true [] i = absurd (false≢true i)
    signs e true (g ∷ s) i = part_digits Exponent exponent (b ∷ g ∷ []) s (rw (e, i)) Form.none (λ w d. Form.signed e i d)
    signs e false s i = part_digits Exponent exponent (b ∷ []) s (rw (e, i)) Form.none (λ w d. Form.unsigned e d)

    go : (c : Bool) → among "eE" b ≡ c → Part Exponent exponent (b ∷ s)
    go true e = signs e (among "+-" (at s 0)) s refl
    go false e = part (b ∷ s) Form.none (rw e)

-- ---- the number

-- the number at the front of s, as `scan` has it
abbrev pub numbered : List ℕ → Scanned
numbered s = let n = whole s in let m = n + fraction (drop n s) in number n (m + exponent (drop m s)) s

-- by the lengths of its parts
pub numbered_parts : (w x y r : List ℕ) → whole ((w ++ (x ++ y)) ++ r) ≡ length w → fraction ((x ++ y) ++ r) ≡ length x → exponent (y ++ r) ≡ length y
    → numbered ((w ++ (x ++ y)) ++ r) ≡ number (length w) (length (w ++ (x ++ y))) ((w ++ (x ++ y)) ++ r)
numbered_parts w x y r e₁ e₂ e₃ =
    let s = (w ++ (x ++ y)) ++ r in
    let d₁ : drop (length w) s ≡ (x ++ y) ++ r = simp (append_assoc, drop-append_seam) in
    let d₂ : drop (length w + length x) s ≡ y ++ r = simp (append_assoc, drop-append-add, drop-append_seam) in
    rw (e₁, d₁, e₂, d₂, e₃) (ap (λ m. number (length w) m s) (omega (arith, length-append w (x ++ y), length-append x y)))
