-- The token at the front: `scan` finds the one that is written there, or none is. Assumes nothing.
use Prim.Native.Nat.{ℕ, suc, ◌≤◌, ◌<◌}
use Prim.Native.Char.{code}
use native.Mathlib.Omega.{arith}
use mathlib.Core.Path.{◌≡◌, refl, sym, ◌∙◌, ap, subst}
use mathlib.Core.Bool.{Bool, true, false, true≢false, not, ◌||◌}
use mathlib.Core.List.{List, [], ◌∷◌, ◌++◌, append_assoc, append-nil}
use lib.ListN.{length, length-append}
use lib.IntN.{ℤ}
use lib.Seq.{take-append_seam}
use lib.Dec.{leb}
use borrow.Author.Tests.{eqb-true, leb-true, leb-false, lt-ltb, le-ltb, ne_eqb}
use Rattle.paper.specs.Bytes.{when◌then◌else◌, at, is, among}
use Rattle.paper.specs.Syntax.{integer, decimal, string}
use Rattle.paper.specs.Tokens.{digit, starts, goes_on, in_range, valued, Token, name, literal, mark, end}
use Rattle.paper.specs.Scanner.{Scanned, token, fault, span, named, number, quoted, text, scan, whole, fraction, exponent}
use Rattle.paper.specs.Written.{Each, one_more, Whole, Fraction, Exponent, Written, a_name, an_integer, a_decimal, a_string, a_mark, the_end, Apart, Over, long_name, long_decimal, long_string, out_of_range}
use Rattle.paper.specs.Written as Form
use Rattle.theorems.proofs.Laws.Answers.{if_case}
use Rattle.theorems.proofs.Scanned.Classes.{or_left, or_right, outside, outside_among, among_outside, digit_starts}
use Rattle.theorems.proofs.Scanned.Skips.{Stops, ended, stopped, Run, run, runs, span_run}
use Rattle.theorems.proofs.Scanned.Strings.{quoted_writes, Quotes, closes, never, find_quoted}
use Rattle.theorems.proofs.Scanned.Numbers.{Part, part, Perhaps, absent, present, whole_run, find_whole, fraction_run, find_fraction, exponent_run, find_exponent, numbered, numbered_parts}

-- ---- the five ways of `scan`

scan_name : (b : ℕ) (s : List ℕ) → starts b ≡ true → scan (b ∷ s) ≡ named (span goes_on (b ∷ s)) (b ∷ s)
unfolding scan when◌then◌else◌
scan_name b s e = rw e

number_starts : (b : ℕ) → (digit b || is "-" b) ≡ true → starts b ≡ false
unfolding starts
number_starts b e = go (digit b) refl
  where
    go : (c : Bool) → digit b ≡ c → starts b ≡ false
    go true i = digit_starts b i
    go false i = subst (λ x. starts x ≡ false) (eqb-true 45 b (rw i at e)) refl

scan_number : (b : ℕ) (s : List ℕ) → (digit b || is "-" b) ≡ true → scan (b ∷ s) ≡ numbered (b ∷ s)
unfolding scan when◌then◌else◌
scan_number b s e = rw (number_starts b e, e)

scan_string : (s : List ℕ) → scan (code "\"" ∷ s) ≡ text (quoted (suc (length s)) s)
unfolding scan starts digit when◌then◌else◌
scan_string s = refl

scan_mark : (b : ℕ) (s : List ℕ) → among ";,{}[]:" b ≡ true → scan (b ∷ s) ≡ token (mark b) 1
unfolding scan starts digit when◌then◌else◌
scan_mark b s e = rw (among_outside starts ";,{}[]:" b refl e, among_outside (λ x. digit x || is "-" x) ";,{}[]:" b refl e, among_outside (is "\"") ";,{}[]:" b refl e, e)

scan_other : (b : ℕ) (s : List ℕ) → starts b ≡ false → (digit b || is "-" b) ≡ false → is "\"" b ≡ false → among ";,{}[]:" b ≡ false → scan (b ∷ s) ≡ fault 2
unfolding scan when◌then◌else◌
scan_other b s e₁ e₂ e₃ e₄ = rw (e₁, e₂, e₃, e₄)

-- what is skipped begins no token
pub scan_skipped : (b : ℕ) (s : List ℕ) → among " \t\n\r\u{c}/" b ≡ true → scan (b ∷ s) ≡ fault 2
unfolding starts digit
scan_skipped b s e =
    let out : (q : ℕ → Bool) → _ ≡ true → q b ≡ false = λ q o. among_outside q " \t\n\r\u{c}/" b o e in
    scan_other b s (out starts refl) (out (λ x. digit x || is "-" x) refl) (out (is "\"") refl) (out (among ";,{}[]:") refl)

-- ---- limits

-- what `scan` says of a token of k bytes that is written here
pub data Limit (t : Token) (k : ℕ) : Scanned → Type 0 where
  within : ((n : ℕ) → Over t n → ⊥) → Limit t k (token t k)
  over : {n : ℕ} → Over t n → Limit t k (fault n)

-- a token of which w may have n bytes
limit_length : (t : Token) (w : List ℕ) (k n : ℕ) → (n < length w → Over t 6) → ((m : ℕ) → Over t m → n < length w) → Limit t k (when leb (length w) n then token t k else fault 6)
limit_length t w k n f g = if_case (Limit t k) (leb (length w) n) _ _ (λ e. within (λ m o. omega (arith, leb-true (length w) n e, g m o))) (λ e. over (f (leb-false (length w) n e)))

over_name : {w : List ℕ} (m : ℕ) → Over (name w) m → 255 < length w
over_name m (long_name l) = l

over_decimal : {w : List ℕ} (m : ℕ) → Over (literal (decimal w)) m → 4095 < length w
over_decimal m (long_decimal l) = l

over_string : {w : List ℕ} (m : ℕ) → Over (literal (string w)) m → 4095 < length w
over_string m (long_string l) = l

over_integer : {z : ℤ} (m : ℕ) → Over (literal (integer z)) m → in_range z ≡ false
over_integer m (out_of_range e) = e

over_mark : {b : ℕ} (m : ℕ) → Over (mark b) m → ⊥
over_mark m = elim [ ]

over_end : (m : ℕ) → Over end m → ⊥
over_end m = elim [ ]

-- ---- what is written is found

stops_at : (p : ℕ → Bool) (r : List ℕ) → p (at r 0) ≡ false → Stops p r
stops_at p [] e = ended
stops_at p (b ∷ r) e = stopped e

writes_name : (b : ℕ) (w r : List ℕ) → starts b ≡ true → Each goes_on w → goes_on (at r 0) ≡ false → Limit (name (b ∷ w)) (suc (length w)) (scan (b ∷ (w ++ r)))
unfolding named goes_on
writes_name b w r e a q =
    let g : goes_on b ≡ true = rw e in
    let n : span goes_on (b ∷ (w ++ r)) ≡ suc (length w) = span_run (one_more g a) (stops_at goes_on r q) in
    rw (scan_name b (w ++ r) e, n, take-append_seam) (limit_length (name (b ∷ w)) (b ∷ w) (suc (length w)) 255 long_name over_name)

writes_string : (w t r : List ℕ) → Form.Quoted w t → Limit (literal (string t)) (suc (length w)) (scan (code "\"" ∷ (w ++ r)))
unfolding text
writes_string w t r q = rw (scan_string (w ++ r), quoted_writes q r (suc (length (w ++ r))) (omega (arith, length-append w r))) (limit_length (literal (string t)) t (suc (length w)) 4095 long_string over_string)

-- ---- numbers

some_whole : {w : List ℕ} → Whole w → 1 ≤ length w
some_whole (Form.plain (Form.digits a)) = omega arith
some_whole (Form.minus d) = omega arith

scan_whole : {w : List ℕ} → Whole w → (r : List ℕ) → scan (w ++ r) ≡ numbered (w ++ r)
unfolding digit
scan_whole (Form.plain (Form.digits {b} {s} (one_more e a))) r = scan_number b (s ++ r) (rw e)
scan_whole (Form.minus {w} d) r = scan_number 45 (w ++ r) refl

-- the byte after v
at_seam : (v r : List ℕ) → at (v ++ r) (length v) ≡ at r 0
at_seam [] r = refl
at_seam (b ∷ v) r = at_seam v r

module _ (w r : List ℕ) (g : goes_on (at r 0) ≡ false) (p : is "." (at r 0) ≡ false) where
  number_integer : 1 ≤ length w → Limit (literal (integer (valued w))) (length w) (number (length w) (length w) (w ++ r))
  unfolding number when◌then◌else◌
  number_integer n =
      rw (ne_eqb (length w) 0 (λ e. omega arith), at_seam w r, g, p, le-ltb (length w) (length w) (omega arith), take-append_seam)
      (if_case (Limit (literal (integer (valued w))) (length w)) (in_range (valued w)) _ _ (λ e. within (λ m o. true≢false (sym e ∙ over_integer m o))) (λ e. over (out_of_range e)))

  number_decimal : (k : ℕ) → 1 ≤ k → k < length w → Limit (literal (decimal w)) (length w) (number k (length w) (w ++ r))
  unfolding number when◌then◌else◌
  number_decimal k m l =
      rw (ne_eqb k 0 (λ e. omega arith), at_seam w r, g, p, lt-ltb k (length w) l, take-append_seam)
      (limit_length (literal (decimal w)) w (length w) 4095 long_decimal over_decimal)

-- an exponent's first byte is in no class without `e` and `E`; a fraction's is no digit
first_exponent : (c : ℕ → Bool) → outside c "eE" ≡ true → {y : List ℕ} → Exponent y → (r : List ℕ) → c (at r 0) ≡ false → c (at (y ++ r) 0) ≡ false
first_exponent c o Form.none r q = q
first_exponent c o (Form.unsigned {e} i d) r q = among_outside c "eE" e o i
first_exponent c o (Form.signed {e} i j d) r q = among_outside c "eE" e o i

first_fraction : {x : List ℕ} → Fraction x → (r : List ℕ) → digit (at r 0) ≡ false → digit (at (x ++ r) 0) ≡ false
unfolding digit
first_fraction Form.none r q = q
first_fraction (Form.point d) r q = refl

-- what is no name byte is neither a digit nor an `e`
no_digit : (b : ℕ) → goes_on b ≡ false → digit b ≡ false
unfolding goes_on
no_digit b g = or_right (starts b) _ (or_left (starts b || digit b) _ g)

no_e : (b : ℕ) → goes_on b ≡ false → among "eE" b ≡ false
unfolding goes_on starts
no_e b g = outside_among (λ x. not (goes_on x)) "eE" b refl (rw g)

-- the scanner at a number, by the lengths of its three parts
scan_parts : {w : List ℕ} → Whole w → (x y r : List ℕ) → whole (w ++ (x ++ (y ++ r))) ≡ length w → fraction (x ++ (y ++ r)) ≡ length x → exponent (y ++ r) ≡ length y
    → scan ((w ++ (x ++ y)) ++ r) ≡ number (length w) (length (w ++ (x ++ y))) ((w ++ (x ++ y)) ++ r)
scan_parts {w} W x y r e₁ e₂ e₃ =
    subst (λ l. scan l ≡ numbered l) (sym (append_assoc w (x ++ y) r)) (scan_whole W ((x ++ y) ++ r)) ∙
    numbered_parts w x y r (simp append_assoc e₁) (simp append_assoc e₂) e₃

-- they are the longest where neither a name byte nor `.` is after them
scan_longest : {w x y : List ℕ} → Whole w → Fraction x → Exponent y → (r : List ℕ) → goes_on (at r 0) ≡ false → is "." (at r 0) ≡ false
    → scan ((w ++ (x ++ y)) ++ r) ≡ number (length w) (length (w ++ (x ++ y))) ((w ++ (x ++ y)) ++ r)
unfolding digit
scan_longest {x = x} {y = y} W X Y r g p =
    let q = no_digit (at r 0) g in
    let q₁ = first_exponent digit refl Y r q in
    let q₂ = first_fraction X (y ++ r) q₁ in
    scan_parts W x y r
    (whole_run W (stops_at digit _ q₂))
    (fraction_run X (stops_at digit _ q₁) (first_exponent (is ".") refl Y r p))
    (exponent_run Y (stops_at digit r q) (no_e (at r 0) g))

writes_integer : {w : List ℕ} → Whole w → (r : List ℕ) → goes_on (at r 0) ≡ false → is "." (at r 0) ≡ false → Limit (literal (integer (valued w))) (length w) (scan (w ++ r))
writes_integer {w} W r g p =
    let e : scan (w ++ r) ≡ number (length w) (length w) (w ++ r) = rw (append-nil w) at (scan_longest W Form.none Form.none r g p) in
    rw e (number_integer w r g p (some_whole W))

pub scan_writes : {w : List ℕ} {t : Token} → Written w t → (r : List ℕ) → Apart t r → Limit t (length w) (scan (w ++ r))
unfolding scan when◌then◌else◌
scan_writes (a_name {b} {w} e a) r q = writes_name b w r e a q
scan_writes (an_integer W) r (g, p) = writes_integer W r g p
scan_writes (a_decimal {w} {x} {y} W X Y l) r (g, p) =
    rw (scan_longest W X Y r g p) (number_decimal (w ++ (x ++ y)) r g p (length w) (some_whole W) (omega (arith, length-append w (x ++ y))))
scan_writes (a_string {w} {t} q) r _ = writes_string w t r q
scan_writes (a_mark {b} e) r _ = rw (scan_mark b r e) (within over_mark)
scan_writes the_end r q = subst (λ s. Limit end 0 (scan s)) (sym q) (within over_end)

-- ---- what is found is written

-- a token is written at the front, or the scanner says 2
pub data Word : List ℕ → Type 0 where
  word : {w : List ℕ} {t : Token} (r : List ℕ) → Written w t → Apart t r → Word (w ++ r)
  no_word : {s : List ℕ} → scan s ≡ fault 2 → Word s

-- a number, perhaps with something at once after it
judge : {w x y : List ℕ} → Whole w → Fraction x → Exponent y → (r : List ℕ) → scan ((w ++ (x ++ y)) ++ r) ≡ number (length w) (length (w ++ (x ++ y))) ((w ++ (x ++ y)) ++ r) → Word ((w ++ (x ++ y)) ++ r)
unfolding number when◌then◌else◌
judge {w} {x} {y} W X Y r e = go (goes_on (at r 0) || is "." (at r 0)) refl X Y e
  where
    longest : {x y : List ℕ} → goes_on (at r 0) ≡ false → is "." (at r 0) ≡ false → Fraction x → Exponent y → Word ((w ++ (x ++ y)) ++ r)
    longest g p Form.none Form.none = subst (λ v. Word (v ++ r)) (sym (append-nil w)) (word r (an_integer W) (g, p))
    longest g p Form.none (Form.unsigned {e = e} {w = u} i d) = word r (a_decimal W Form.none (Form.unsigned {e = e} {w = u} i d) (omega arith)) (g, p)
    longest g p Form.none (Form.signed {e = e} {s = s} {w = u} i j d) = word r (a_decimal W Form.none (Form.signed {e = e} {s = s} {w = u} i j d) (omega arith)) (g, p)
    longest {y = y} g p (Form.point {w = u} d) Y = word r (a_decimal {y = y} W (Form.point {w = u} d) Y (omega arith)) (g, p)

    go : {x y : List ℕ} (c : Bool) → (goes_on (at r 0) || is "." (at r 0)) ≡ c → Fraction x → Exponent y → scan ((w ++ (x ++ y)) ++ r) ≡ number (length w) (length (w ++ (x ++ y))) ((w ++ (x ++ y)) ++ r) → Word ((w ++ (x ++ y)) ++ r)
    go {x} {y} true i X Y e =
        let f : number (length w) (length (w ++ (x ++ y))) ((w ++ (x ++ y)) ++ r) ≡ fault 2 = rw (ne_eqb (length w) 0 (λ e. omega (arith, some_whole W)), at_seam (w ++ (x ++ y)) r, i) in
        no_word (e ∙ f)
    go false i X Y e = longest (or_left (goes_on (at r 0)) _ i) (or_right (goes_on (at r 0)) _ i) X Y

-- the three parts in turn
find_number : {s : List ℕ} → scan s ≡ numbered s → Part Perhaps whole s → Word s
unfolding number when◌then◌else◌
find_number n (part r absent e) = let f : numbered r ≡ fault 2 = rw e in no_word (n ∙ f)
find_number n (part r (present W) e) = fractions W (find_fraction r) e
  where
    exponents : {w x s : List ℕ} → Whole w → Fraction x → Part Exponent exponent s → whole (w ++ (x ++ s)) ≡ length w → fraction (x ++ s) ≡ length x → Word (w ++ (x ++ s))
    exponents {w} {x} W X (part {w = y} r Y e₃) e₁ e₂ = simp append_assoc at (judge W X Y r (scan_parts W x y r e₁ e₂ e₃))

    fractions : {w s : List ℕ} → Whole w → Part Fraction fraction s → whole (w ++ s) ≡ length w → Word (w ++ s)
    fractions W (part r X e₂) e₁ = exponents W X (find_exponent r) e₁ e₂

pub find : (s : List ℕ) → Word s
unfolding goes_on starts digit text
find [] = word [] the_end refl
find (b ∷ s) = go (starts b) refl (digit b || is "-" b) refl (is "\"" b) refl (among ";,{}[]:" b) refl
  where
    a_stop : {r : List ℕ} → Stops goes_on r → goes_on (at r 0) ≡ false
    a_stop ended = refl
    a_stop (stopped e) = e

    names : {s : List ℕ} → starts b ≡ true → Run goes_on s → Word (b ∷ s)
    names e (run {r = r} a q) = word r (a_name e a) (a_stop q)

    strings : (f : ℕ) {s : List ℕ} → scan (code "\"" ∷ s) ≡ text (quoted f s) → Quotes f s → Word (code "\"" ∷ s)
    strings f e (closes r q) = word r (a_string q) tt
    strings f e (never n) = no_word (e ∙ ap text n)

    go : (c : Bool) → starts b ≡ c → (d : Bool) → (digit b || is "-" b) ≡ d → (e : Bool) → is "\"" b ≡ e → (f : Bool) → among ";,{}[]:" b ≡ f → Word (b ∷ s)
    go true i d j e k f l = names i (runs goes_on s)
    go false i true j e k f l = find_number (scan_number b s j) (find_whole b s j)
    go false i false j true k f l = subst (λ x. Word (x ∷ s)) (eqb-true 34 b k) (strings (suc (length s)) (scan_string s) (find_quoted (suc (length s)) s))
    go false i false j false k true l = word s (a_mark l) tt
    go false i false j false k false l = no_word (scan_other b s i j k l)
