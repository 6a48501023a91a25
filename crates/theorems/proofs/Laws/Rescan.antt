-- A token read once more from its own text alone is the same token: names and decimals. Assumes nothing.
use Prim.Native.Nat.{ℕ, zero, suc, min, ◌+◌, ◌-◌, ◌≤◌, ◌<◌}
use native.Mathlib.Omega.{arith}
use mathlib.Core.Path.{◌≡◌, refl, sym, ◌∙◌, ap, subst}
use mathlib.Core.Bool.{Bool, true, false, true≢false, ◌||◌}
use mathlib.Core.List.{List, [], ◌∷◌}
use mathlib.Core.Option.{Option, none, some}
use lib.ListN.{length, take, drop, length-take, length-drop, get_or-eq_default}
use lib.Seq.{take-take, get_or-take, take-nil, length-take-le, take-length}
use lib.IntN.{ℤ}
use lib.Dec.{ltb, eqb, lit≤}
use borrow.Author.Tests.{ltb-true, ltb-false, leb-true, eqb-false, le-leb}
use Rattle.paper.specs.Bytes.{when◌then◌else◌, is, among, at}
use Rattle.paper.specs.Syntax.{integer, decimal, string}
use Rattle.paper.specs.Tokens.{name, literal, mark, end, in_range, starts, goes_on, digit}
use Rattle.paper.specs.Scanner.{Scanned, token, fault, scan, number, named, text, digits_after, sign, whole, fraction, exponent, span, empty}
use Rattle.theorems.proofs.Laws.Answers.{if_case}

-- ---- what a token can be

-- where a decimal's integer part ends, its fraction, and it all
abbrev pub end₁ : List ℕ → ℕ
end₁ s = whole s

abbrev pub end₂ : List ℕ → ℕ
end₂ s = whole s + fraction (drop (whole s) s)

abbrev pub end₃ : List ℕ → ℕ
end₃ s = end₂ s + exponent (drop (end₂ s) s)

pub record NameHere (s : List ℕ) (n : ℕ) : Type 0 where
  pub begun : starts (at s 0) ≡ true
  pub there : empty s ≡ false
  pub all : n ≡ span goes_on s
  pub short : n ≤ 255

pub record DecimalHere (s : List ℕ) (m : ℕ) : Type 0 where
  pub there : empty s ≡ false
  pub no_name : starts (at s 0) ≡ false
  pub begun : (digit (at s 0) || is "-" (at s 0)) ≡ true
  pub some_digits : eqb (whole s) 0 ≡ false
  pub all : m ≡ end₃ s
  pub more : ltb (whole s) m ≡ true
  pub short : m ≤ 4095

pub data Shape (s : List ℕ) : Scanned → Type 0 where
  at_end : Shape s (token end 0)
  a_name : {n : ℕ} → NameHere s n → Shape s (token (name (take n s)) n)
  a_decimal : {n : ℕ} → DecimalHere s n → Shape s (token (literal (decimal (take n s))) n)
  an_integer : {z : ℤ} {n : ℕ} → in_range z ≡ true → Shape s (token (literal (integer z)) n)
  a_string : {t : List ℕ} {n : ℕ} → length t ≤ 4095 → Shape s (token (literal (string t)) n)
  a_mark : {m n : ℕ} → Shape s (token (mark m) n)
  a_fault : {n : ℕ} → n ≤ 6 → Shape s (fault n)

or_false : (a b : Bool) → (a || b) ≡ false → a ≡ false
or_false true b e = e
or_false false b e = refl

text_shape : (s : List ℕ) (o : Option (List ℕ × ℕ)) → Shape s (text o)
unfolding text
text_shape s none = a_fault (lit≤ tt)
text_shape s (some r) = if_case (Shape s) _ _ _ (λ e. a_string (leb-true _ _ e)) (λ _. a_fault (lit≤ tt))

pub scan_shape : (s : List ℕ) → Shape s (scan s)
unfolding scan named number
scan_shape s =
    if_case (Shape s) _ _ _ (λ _. at_end) (λ e₁.
    if_case (Shape s) _ _ _ (λ e₂. if_case (Shape s) _ _ _ (λ e₃. a_name (record { begun = e₂; there = e₁; all = refl; short = leb-true _ _ e₃ })) (λ _. a_fault (lit≤ tt))) (λ e₂.
    if_case (Shape s) _ _ _
    (λ e₃.
    if_case (Shape s) _ _ _ (λ _. a_fault (lit≤ tt)) (λ e₄.
    if_case (Shape s) _ _ _
    (λ e₅. if_case (Shape s) _ _ _
    (λ e₆. a_decimal (record { there = e₁; no_name = e₂; begun = e₃; some_digits = or_false _ _ (or_false _ _ e₄); all = refl; more = e₅; short = leb-true _ _ e₆ })) (λ _. a_fault (lit≤ tt)))
    (λ _. if_case (Shape s) _ _ _ (λ e₅. an_integer e₅) (λ _. a_fault (lit≤ tt)))))
    (λ _.
    if_case (Shape s) _ _ _ (λ _. text_shape s _) (λ _.
    if_case (Shape s) _ _ _ (λ _. a_mark) (λ _. a_fault (lit≤ tt))))))

pub name_shape : {s m : List ℕ} {k : ℕ} {x : Scanned} → Shape s x → x ≡ token (name m) k → (m ≡ take k s) × NameHere s k
name_shape at_end e = let z : ◌≡◌ {A = ℕ} 0 1 = cc in absurd (omega arith)
name_shape {s} {m} {k} (a_name {n = n} h) e = let q : n ≡ k = cc in let p : take n s ≡ m = cc in (sym p ∙ ap (λ i. take i s) q, subst (λ i. NameHere s i) q h)
name_shape (a_decimal h) e = let z : ◌≡◌ {A = ℕ} 0 1 = cc in absurd (omega arith)
name_shape (an_integer h) e = let z : ◌≡◌ {A = ℕ} 0 1 = cc in absurd (omega arith)
name_shape (a_string h) e = let z : ◌≡◌ {A = ℕ} 0 1 = cc in absurd (omega arith)
name_shape a_mark e = let z : ◌≡◌ {A = ℕ} 0 1 = cc in absurd (omega arith)
name_shape (a_fault h) e = let z : ◌≡◌ {A = ℕ} 0 1 = cc in absurd (omega arith)

pub decimal_shape : {s m : List ℕ} {k : ℕ} {x : Scanned} → Shape s x → x ≡ token (literal (decimal m)) k → (m ≡ take k s) × DecimalHere s k
decimal_shape at_end e = let z : ◌≡◌ {A = ℕ} 0 1 = cc in absurd (omega arith)
decimal_shape (a_name h) e = let z : ◌≡◌ {A = ℕ} 0 1 = cc in absurd (omega arith)
decimal_shape {s} {m} {k} (a_decimal {n = n} h) e = let q : n ≡ k = cc in let p : take n s ≡ m = cc in (sym p ∙ ap (λ i. take i s) q, subst (λ i. DecimalHere s i) q h)
decimal_shape (an_integer h) e = let z : ◌≡◌ {A = ℕ} 0 1 = cc in absurd (omega arith)
decimal_shape (a_string h) e = let z : ◌≡◌ {A = ℕ} 0 1 = cc in absurd (omega arith)
decimal_shape a_mark e = let z : ◌≡◌ {A = ℕ} 0 1 = cc in absurd (omega arith)
decimal_shape (a_fault h) e = let z : ◌≡◌ {A = ℕ} 0 1 = cc in absurd (omega arith)

-- ---- parts of a part

pub span_le : (p : ℕ → Bool) (s : List ℕ) → span p s ≤ length s
unfolding span
span_le p [] = omega arith
span_le p (b ∷ s) = go (p b) refl (span_le p s)
  where
    go : (c : Bool) → p b ≡ c → span p s ≤ length s → span p (b ∷ s) ≤ suc (length s)
    go true e h = rw (e, span) (omega arith)
    go false e h = rw (e, span) (omega arith)

span_take : (p : ℕ → Bool) (k : ℕ) (s : List ℕ) → span p (take k s) ≡ min k (span p s)
unfolding span
span_take p zero s = omega arith
span_take p (suc k) [] = omega arith
span_take p (suc k) (b ∷ s) = go (p b) refl (span_take p k s)
  where
    go : (c : Bool) → p b ≡ c → span p (take k s) ≡ min k (span p s) → span p (b ∷ take k s) ≡ min (suc k) (span p (b ∷ s))
    go true e h = rw (e, span) (omega arith)
    go false e h = rw (e, span) (omega arith)

drop_take : (n k : ℕ) (s : List ℕ) → drop n (take (n + k) s) ≡ take k (drop n s)
drop_take n k s = go n (n + k) s (omega arith)
  where
    go : (n m : ℕ) (s : List ℕ) → m ≡ n + k → drop n (take m s) ≡ take k (drop n s)
    go zero m s e = let q : m ≡ k = omega arith in ap (λ i. take i s) q
    go (suc n) zero s e = absurd (omega arith)
    go (suc n) (suc m) [] e = sym (take-nil k)
    go (suc n) (suc m) (b ∷ s) e = go n m s (omega arith)

at_take : (k i : ℕ) (s : List ℕ) → i < k → at (take k s) i ≡ at s i
at_take k i s h = get_or-take k s i 256 h

digits_after_span : (n : ℕ) (s : List ℕ) → (k : ℕ) → span digit (drop n s) ≡ suc k → digits_after n s ≡ n + suc k
unfolding digits_after
digits_after_span n s k e = rw (e, digits_after)

digits_after_none : (n : ℕ) (s : List ℕ) → span digit (drop n s) ≡ 0 → digits_after n s ≡ 0
unfolding digits_after
digits_after_none n s e = rw (e, digits_after)

span_drop_take : (n k : ℕ) (s : List ℕ) → span digit (drop n (take k s)) ≡ min (k - n) (span digit (drop n s))
span_drop_take n k s = go (ltb k n) refl
  where
    go : (c : Bool) → ltb k n ≡ c → span digit (drop n (take k s)) ≡ min (k - n) (span digit (drop n s))
    go true e = let h = ltb-true k n e in
        let l : length (drop n (take k s)) ≡ 0 = simp (length-drop, length-take) (omega arith) in
        let b = span_le digit (drop n (take k s)) in
        let z : span digit (drop n (take k s)) ≤ 0 = rw l at b in
        omega arith
    go false e = let h = ltb-false k n e in
        let q : n + (k - n) ≡ k = omega arith in
        let d : drop n (take k s) ≡ take (k - n) (drop n s) = subst (λ j. drop n (take j s) ≡ take (k - n) (drop n s)) q (drop_take n (k - n) s) in
        rw d (span_take digit (k - n) (drop n s))

digits_take : (n k : ℕ) (s : List ℕ) → digits_after n s ≤ k → digits_after n (take k s) ≡ digits_after n s
digits_take n k s h = go (span digit (drop n s)) refl
  where
    go : (j : ℕ) → span digit (drop n s) ≡ j → digits_after n (take k s) ≡ digits_after n s
    go zero e = digits_after_none n (take k s) (let m = span_drop_take n k s in omega arith) ∙ sym (digits_after_none n s e)
    go (suc j) e =
        let v = digits_after_span n s j e in
        let m = span_drop_take n k s in
        digits_after_span n (take k s) j (omega arith) ∙ sym v

-- digits stand after some bytes, or nothing does
digits_zero_or : (n : ℕ) (s : List ℕ) → digits_after n s ≤ n → digits_after n s ≡ 0
digits_zero_or n s h = go (span digit (drop n s)) refl
  where
    go : (j : ℕ) → span digit (drop n s) ≡ j → digits_after n s ≡ 0
    go zero e = digits_after_none n s e
    go (suc j) e = let v = digits_after_span n s j e in absurd (omega arith)

nonzero : (n : ℕ) → eqb n 0 ≡ false → 1 ≤ n
nonzero n e = go n (eqb-false n 0 e)
  where
    go : (n : ℕ) → (n ≡ 0 → ⊥) → 1 ≤ n
    go zero h = absurd (h refl)
    go (suc n) h = omega arith

whole_take : (k : ℕ) (s : List ℕ) → 1 ≤ k → whole s ≤ k → whole (take k s) ≡ whole s
unfolding whole
whole_take k s l h = rw (at_take k 0 s l) (digits_take _ k s h)

fraction_nil : fraction [] ≡ 0
unfolding fraction when◌then◌else◌
fraction_nil = refl

exponent_nil : exponent [] ≡ 0
unfolding exponent when◌then◌else◌
exponent_nil = refl

fraction_take : (k : ℕ) (s : List ℕ) → fraction s ≤ k → fraction (take k s) ≡ fraction s
unfolding fraction when◌then◌else◌
fraction_take zero s h = fraction_nil ∙ (omega arith)
fraction_take (suc k) s h = go (is "." (at s 0)) refl
  where
    go : (c : Bool) → is "." (at s 0) ≡ c → fraction (take (suc k) s) ≡ fraction s
    go true e = let l : digits_after 1 s ≤ suc k = rw (e, fraction) at h in rw (at_take (suc k) 0 s (omega arith), e, fraction) (digits_take 1 (suc k) s l)
    go false e = rw (at_take (suc k) 0 s (omega arith), e, fraction)

exponent_take : (k : ℕ) (s : List ℕ) → exponent s ≡ k → exponent (take k s) ≡ k
unfolding exponent when◌then◌else◌
exponent_take zero s h = exponent_nil
exponent_take (suc k) s h = go (among "eE" (at s 0)) refl
  where
    before : (n : ℕ) (s : List ℕ) (m : ℕ) → digits_after n s ≡ m → 1 ≤ m → (c : Bool) → ltb n m ≡ c → n < m
    before n s m l p true e = ltb-true n m e
    before n s m l p false e = let b = ltb-false n m e in let z = digits_zero_or n s (omega arith) in absurd (omega arith)

    go : (c : Bool) → among "eE" (at s 0) ≡ c → exponent (take (suc k) s) ≡ suc k
    go true e =
        let g = sign (among "+-") (at s 1) in
        let l : digits_after (1 + g) s ≡ suc k = rw (e, exponent) at h in
        let far : 1 + g < suc k = before (1 + g) s (suc k) l (omega arith) _ refl in
        rw (at_take (suc k) 0 s (omega arith), at_take (suc k) 1 s (omega arith), e, exponent) (digits_take (1 + g) (suc k) s (omega arith) ∙ l)
    go false e = let l : ◌≡◌ {A = ℕ} 0 (suc k) = rw (e, exponent) at h in absurd (omega arith)

-- ---- once more

-- some bytes from the front of what is not empty are not nothing
some_taken : (n : ℕ) (s : List ℕ) → 1 ≤ n → empty s ≡ false → empty (take n s) ≡ false
some_taken zero s l e = absurd (omega arith)
some_taken (suc n) [] l e = e
some_taken (suc n) (b ∷ s) l e = refl

span_starts : (s : List ℕ) → starts (at s 0) ≡ true → empty s ≡ false → 1 ≤ span goes_on s
unfolding span goes_on
span_starts [] e x = absurd (true≢false x)
span_starts (b ∷ s) e x = rw (e, span) (omega arith)

-- a name's text alone is that name
pub name_again : (s : List ℕ) (n : ℕ) → NameHere s n → scan (take n s) ≡ token (name (take n s)) (length (take n s))
unfolding scan named when◌then◌else◌
name_again s n h =
    let z = span_le goes_on s in
    let a : n ≡ span goes_on s = h.all in
    let l : n ≤ length s = omega arith in
    let p : 1 ≤ n = omega (arith, span_starts s h.begun h.there) in
    let c : span goes_on (take n s) ≡ n = span_take goes_on n s ∙ (omega arith) in
    let w : length (take n s) ≡ n = length-take-le n s l in
    let t : take n (take n s) ≡ take n s = take-take n n s (omega arith) in
    rw (some_taken n s p h.there, at_take n 0 s p, h.begun, c, le-leb n 255 h.short, t, w)

digits_le : (n : ℕ) (s : List ℕ) → digits_after n s ≤ length s
digits_le n s = go (span digit (drop n s)) refl
  where
    go : (j : ℕ) → span digit (drop n s) ≡ j → digits_after n s ≤ length s
    go zero e = let v = digits_after_none n s e in omega arith
    go (suc j) e =
        let v = digits_after_span n s j e in
        let l = simp length-drop at (span_le digit (drop n s)) in
        omega arith

whole_le : (s : List ℕ) → whole s ≤ length s
unfolding whole
whole_le s = digits_le _ s

fraction_le : (s : List ℕ) → fraction s ≤ length s
unfolding fraction
fraction_le s = if_case (λ i. i ≤ length s) _ _ _ (λ _. digits_le _ s) (λ _. omega arith)

exponent_le : (s : List ℕ) → exponent s ≤ length s
unfolding exponent
exponent_le s = if_case (λ i. i ≤ length s) _ _ _ (λ _. digits_le _ s) (λ _. omega arith)

out_of_class : (goes_on 256 ≡ false) × (is "." 256 ≡ false)
unfolding goes_on starts digit
out_of_class = (refl, refl)

-- a decimal's text alone is that decimal
pub decimal_again : (s : List ℕ) (m : ℕ) → DecimalHere s m → scan (take m s) ≡ token (literal (decimal (take m s))) (length (take m s))
unfolding scan number when◌then◌else◌
decimal_again s m h =
    let n = whole s in
    let F = fraction (drop n s) in
    let E = exponent (drop (n + F) s) in
    let a : m ≡ n + F + E = h.all in
    let one : 1 ≤ n = nonzero n h.some_digits in
    let l : m ≤ length s = omega (arith, whole_le s, simp length-drop at (fraction_le (drop n s)), simp length-drop at (exponent_le (drop (n + F) s))) in
    let w : whole (take m s) ≡ n = whole_take m s (omega arith) (omega arith) in
    let q₁ : n + (F + E) ≡ m = omega arith in
    let q₂ : n + F + E ≡ m = omega arith in
    let d₁ : drop n (take m s) ≡ take (F + E) (drop n s) = subst (λ j. drop n (take j s) ≡ take (F + E) (drop n s)) q₁ (drop_take n (F + E) s) in
    let d₂ : drop (n + F) (take m s) ≡ take E (drop (n + F) s) = subst (λ j. drop (n + F) (take j s) ≡ take E (drop (n + F) s)) q₂ (drop_take (n + F) E s) in
    let f : fraction (drop n (take m s)) ≡ F = rw d₁ (fraction_take (F + E) (drop n s) (omega arith)) in
    let x : exponent (drop (n + F) (take m s)) ≡ E = rw d₂ (exponent_take E (drop (n + F) s) refl) in
    let k : length (take m s) ≡ m = length-take-le m s l in
    let o : at (take m s) m ≡ 256 = get_or-eq_default (take m s) 256 (omega arith) in
    let t : take m (take m s) ≡ take m s = take-take m m s (omega arith) in
    rw (some_taken m s (omega arith) h.there, at_take m 0 s (omega arith), h.no_name, h.begun, w, f, x, q₂, h.some_digits, o, out_of_class.0, h.more, le-leb m 4095 h.short, t, k)

-- ---- a token that is all of its text, by its test

pub named_whole : (n : List ℕ) (m : List ℕ) (k : ℕ) → scan n ≡ token (name m) k → k ≡ length n → scan n ≡ token (name n) (length n)
named_whole n m k e q =
    let p : m ≡ n = (name_shape (scan_shape n) e).0 ∙ ap (λ i. take i n) q ∙ take-length n in
    cc

pub decimal_whole : (n : List ℕ) (m : List ℕ) (k : ℕ) → scan n ≡ token (literal (decimal m)) k → k ≡ length n → scan n ≡ token (literal (decimal n)) (length n)
decimal_whole n m k e q =
    let p : m ≡ n = (decimal_shape (scan_shape n) e).0 ∙ ap (λ i. take i n) q ∙ take-length n in
    cc

pub name_short : (n : List ℕ) → scan n ≡ token (name n) (length n) → length n ≤ 255
name_short n e = (name_shape (scan_shape n) e).1.short

pub decimal_short : (n : List ℕ) → scan n ≡ token (literal (decimal n)) (length n) → length n ≤ 4095
decimal_short n e = (decimal_shape (scan_shape n) e).1.short
