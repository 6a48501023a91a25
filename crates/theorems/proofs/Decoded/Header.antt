-- The header of a table or a step list is read exactly. Assumes nothing.
use Prim.Native.Nat.{ℕ, ◌+◌, ◌*◌, ◌^◌, ◌≤◌, ◌<◌}
use native.Mathlib.Omega.{arith}
use mathlib.Core.Path.{◌≡◌, refl, sym, ◌∙◌, ap}
use mathlib.Core.Bool.{Bool, true, false, false≢true}
use mathlib.Core.List.{List, [], ◌∷◌, ◌++◌}
use mathlib.Core.Option.{some}
use lib.ListN.{length, take, drop, length-append, length-drop, take-append-drop}
use lib.Seq.{take_at, drop_at, length-take-le}
use borrow.Author.Tests.{leb-true, eqb-true, le-leb, eq-eqb}
use Rattle.paper.specs.Scanner.{empty}
use Rattle.paper.specs.Maybe.{◌>>=◌, require}
use Rattle.paper.specs.Layout.{little, Row, row_bytes, texts, records, laid_out, row_text}
use Rattle.paper.specs.DecodeAt.{headed}
use Rattle.paper.specs.Decoder.{Cursor, number_of, header, ended}
use Rattle.theorems.proofs.Decoded.Parts.{exact_number, length_little}
use Rattle.theorems.proofs.Laws.Found.{Found, nothing, found, found_bind, found_require}

pub record HeaderRead (form r n t : ℕ) (b : List ℕ) (x : ℕ × Cursor) : Type 0 where
  pub bytes : b ≡ headed form x.0 (24 + r * x.0) x.1.recs x.1.text
  pub start : x.1.pos ≡ 0
  pub recs : length x.1.recs ≡ r * x.0
  pub few : x.0 ≤ n
  pub short : length x.1.text ≤ t

pub header_sound : (form r n t : ℕ) (b : List ℕ) → Found (HeaderRead form r n t b) (header form r n t b)
unfolding header headed
header_sound form r n t b =
    found_bind _ ((exact_number 4).sound b) (λ x₁ h₁.
    found_require _ _ (λ e₁.
    found_bind _ ((exact_number 4).sound x₁.1) (λ x₂ h₂.
    found_bind _ ((exact_number 4).sound x₂.1) (λ x₃ h₃.
    found_bind _ ((exact_number 4).sound x₃.1) (λ x₄ h₄.
    found_require _ _ (λ e₂.
    found_bind _ ((exact_number 4).sound x₄.1) (λ x₅ h₅.
    found_bind _ ((exact_number 4).sound x₅.1) (λ x₆ h₆.
    found_require _ _ (λ e₃.
    found_require _ _ (λ e₄.
    found_require _ _ (λ e₅.
    found_require _ _ (λ e₆.
    found_require _ _ (λ e₇.
    let count = x₃.0 in
    let s = x₆.1 in
    let all : b ≡ little 4 x₁.0 ++ (little 4 x₂.0 ++ (little 4 count ++ (little 4 x₄.0 ++ (little 4 x₅.0 ++ (little 4 x₆.0 ++ s))))) =
    rw (h₁.front, h₂.front, h₃.front, h₄.front, h₅.front, h₆.front) in
    let l : length b ≡ 24 + length s = ap length all ∙ simp (length-append, length_little) (omega arith) in
    let q₁ : x₁.0 ≡ form = eqb-true _ _ e₁ in
    let q₄ : x₄.0 ≡ 24 = eqb-true _ _ e₂ in
    let q₆ : x₆.0 ≡ 24 + r * count = eqb-true _ _ e₅ in
    let q₂ : x₂.0 ≡ x₆.0 + x₅.0 = eqb-true _ _ e₆ in
    let q₇ : x₂.0 ≡ length b = eqb-true _ _ e₇ in
    let lt : length (take (r * count) s) ≡ r * count = length-take-le (r * count) s (omega arith) in
    let ld : x₅.0 ≡ length (drop (r * count) s) = simp length-drop (omega arith) in
    let p₂ : x₂.0 ≡ 24 + r * count + length (drop (r * count) s) = omega arith in
    found {x = (count, record { recs = take (r * count) s; text = drop (r * count) s; pos = 0 })} (record {
      bytes = all ∙ rw (q₁, p₂, q₄, ld, q₆, take-append-drop (r * count) s);
      start = refl;
      recs = lt;
      few = leb-true _ _ e₃;
      short = rw (← ld) (leb-true _ _ e₄);
    }))))))))))))))

pub header_complete : (form r n t count : ℕ) (recs text : List ℕ) → form < 2 ^ 32 → length recs ≡ r * count → count ≤ n → n < 2 ^ 32 → length text ≤ t → 24 + r * count + length text < 2 ^ 32
    → header form r n t (headed form count (24 + r * count) recs text) ≡ some (count, record { recs = recs; text = text; pos = 0 })
unfolding header headed ◌>>=◌ require
header_complete form r n t count recs text lf lr lc ln lt la =
    let num : (x : ℕ) (s : List ℕ) → x < 2 ^ 32 → number_of 4 (little 4 x ++ s) ≡ some (x, s) = λ x s l. (exact_number 4).complete x s l in
    let place = 24 + r * count in
    let b = headed form count place recs text in
    let l : place + length text ≡ length b = sym (simp (length-append, length_little) (omega arith)) in
    rw (
      num form _ lf,
      eq-eqb form form refl,
      num (place + length text) _ la,
      num count _ (omega arith),
      num 24 _ (omega arith),
      num (length text) _ (omega arith),
      num place _ (omega arith),
      le-leb count n lc,
      le-leb (length text) t lt,
      eq-eqb place place refl,
      eq-eqb (place + length text) (place + length text) refl,
      eq-eqb (place + length text) (length b) l,
      take_at recs text (r * count) lr,
      drop_at recs text (r * count) lr,
    )

-- rows whose last field has w bytes
abbrev pub Lasts : ℕ → List Row → Type 0
Lasts w [] = Unit
Lasts w (x ∷ xs) = (length x.last ≡ w) × Lasts w xs

pub lasts-++ : (w : ℕ) (xs ys : List Row) → Lasts w xs → Lasts w ys → Lasts w (xs ++ ys)
lasts-++ w [] ys f g = g
lasts-++ w (x ∷ xs) ys f g = (f.0, lasts-++ w xs ys f.1 g)

row_length : (w t : ℕ) (x : Row) → length x.last ≡ w → length (row_bytes t x) ≡ 16 + w
unfolding row_bytes
row_length w t x e = simp (length-append, length_little) (omega arith)

pub records_length : (w : ℕ) (xs : List Row) (t : ℕ) → Lasts w xs → length (records t xs) ≡ (16 + w) * length xs
unfolding records
records_length w [] t h = omega arith
records_length w (x ∷ xs) t h = simp length-append (omega (arith, row_length w t x h.0, records_length w xs (t + length (row_text x)) h.1))

pub laid_out_headed : (form r : ℕ) (xs : List Row) → length (records 0 xs) ≡ r * length xs → laid_out form xs ≡ headed form (length xs) (24 + r * length xs) (records 0 xs) (texts xs)
unfolding laid_out headed
laid_out_headed form r xs e = rw e

-- nothing is left
pub record Ended (at : Cursor) : Type 0 where
  pub recs : at.recs ≡ []
  pub text : at.text ≡ []

empty_nil : (s : List ℕ) → empty s ≡ true → s ≡ []
empty_nil [] e = refl
empty_nil (b ∷ s) e = absurd (false≢true e)

pub ended_sound : (at : Cursor) → Found (λ _. Ended at) (ended at)
unfolding ended require
ended_sound at = found_require _ _ (λ e. go (empty at.text) refl (empty_nil at.recs e))
  where
    go : (c : Bool) → empty at.text ≡ c → at.recs ≡ [] → Found (λ _. Ended at) (require c)
    go true e r = found (record { recs = r; text = empty_nil at.text e })
    go false e r = nothing

pub ended_complete : (at : Cursor) → at.recs ≡ [] → at.text ≡ [] → ended at ≡ some tt
unfolding ended ◌>>=◌ require
ended_complete at e f = rw (e, f)
