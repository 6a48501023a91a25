-- Bytes that are one token and nothing more: the scanner says so exactly where they are written so. Assumes nothing.
use Prim.Native.Nat.{ℕ, ◌≤◌}
use native.Mathlib.Omega.{arith}
use mathlib.Core.Path.{◌≡◌, refl, sym, ◌∙◌, ap, subst}
use mathlib.Core.Bool.{false}
use mathlib.Core.List.{List, [], ◌∷◌, ◌++◌, append-nil}
use lib.ListN.{length, length-append}
use Rattle.paper.specs.Syntax.{decimal}
use Rattle.paper.specs.Tokens.{starts, digit, goes_on, reserved, member, Token, name, literal}
use Rattle.paper.specs.Scanner.{Scanned, token, fault, scan}
use Rattle.paper.specs.Written.{Written, Apart, Over, long_name, long_decimal}
use Rattle.paper.specs.WellFormed.{IsName, IsDecimal}
use Rattle.theorems.proofs.Laws.Rescan.{name_short, decimal_short}
use Rattle.theorems.proofs.Scanned.Words.{Limit, within, over, scan_writes, Word, word, no_word, find}

same_token : {t u : Token} {n m : ℕ} → token t n ≡ token u m → t ≡ u
same_token e = cc

same_length : {t u : Token} {n m : ℕ} → token t n ≡ token u m → n ≡ m
same_length e = cc

no_fault : {A : Type 0} {t : Token} {n m : ℕ} → fault n ≡ token t m → A
no_fault e = let z : ◌≡◌ {A = ℕ} 0 1 = cc in absurd (omega arith)

-- what the scanner says is all of s is written so
alone_written : (s : List ℕ) (t : Token) → scan s ≡ token t (length s) → Written s t
alone_written s t e = go (find s) e
  where
    by : (w r : List ℕ) {u : Token} {x : Scanned} → Written w u → Limit u (length w) x → x ≡ token t (length (w ++ r)) → Written (w ++ r) t
    by w [] h (within f) e = subst (λ v. Written v t) (sym (append-nil w)) (subst (Written w) (same_token e) h)
    by w (b ∷ r) h (within f) e = let l = same_length e in absurd (omega (arith, length-append w (b ∷ r)))
    by w r h (over o) e = no_fault e

    go : {s : List ℕ} → Word s → scan s ≡ token t (length s) → Written s t
    go (word {w} r h a) e = by w r h (scan_writes h r a) e
    go (no_word f) e = no_fault (sym f ∙ e)

-- and what is written so, within its limit, the scanner says is all
written_alone : (s : List ℕ) (t : Token) → Written s t → Apart t [] → ((n : ℕ) → Over t n → ⊥) → scan s ≡ token t (length s)
written_alone s t h a f = ap scan (sym (append-nil s)) ∙ go (scan_writes h [] a)
  where
    go : {x : Scanned} → Limit t (length s) x → x ≡ token t (length s)
    go (within g) = refl
    go (over o) = absurd (f _ o)

-- ---- names and decimals

pub is_name : (n : List ℕ) → scan n ≡ token (name n) (length n) → member n reserved ≡ false → IsName n
is_name n e f = record { written = alone_written n (name n) e; short = name_short n e; free = f }

long_name_over : {n : List ℕ} → length n ≤ 255 → (m : ℕ) → Over (name n) m → ⊥
long_name_over l m (long_name k) = omega arith

pub name_scanned : {n : List ℕ} → IsName n → scan n ≡ token (name n) (length n)
unfolding goes_on starts digit
name_scanned {n} h = written_alone n (name n) h.written refl (long_name_over h.short)

pub is_decimal : (t : List ℕ) → scan t ≡ token (literal (decimal t)) (length t) → IsDecimal t
is_decimal t e = record { written = alone_written t (literal (decimal t)) e; short = decimal_short t e }

long_decimal_over : {t : List ℕ} → length t ≤ 4095 → (m : ℕ) → Over (literal (decimal t)) m → ⊥
long_decimal_over l m (long_decimal k) = omega arith

pub decimal_scanned : {t : List ℕ} → IsDecimal t → scan t ≡ token (literal (decimal t)) (length t)
unfolding goes_on starts digit
decimal_scanned {t} h = written_alone t (literal (decimal t)) h.written (refl, refl) (long_decimal_over h.short)
