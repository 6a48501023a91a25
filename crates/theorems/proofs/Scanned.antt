-- The scanner finds exactly the tokens that are written (specs/Written), and refuses exactly where none may be read. Assumes nothing.
use Prim.Native.Nat.{ℕ, ◌+◌}
use native.Mathlib.Omega.{arith}
use native.Mathlib.Nat.{le_refl}
use mathlib.Core.Path.{◌≡◌, refl, sym, ◌∙◌, ap, subst}
use mathlib.Core.Logic.{◌↔◌}
use mathlib.Core.Bool.{not}
use mathlib.Core.List.{List, ◌++◌}
use lib.ListN.{length, drop}
use lib.Seq.{drop-append_seam}
use borrow.Author.Tests.{not-false}
use Rattle.paper.specs.Bytes.{bytes, among}
use Rattle.paper.specs.Answer.{Answer, ok, refused, ◌>>=◌}
use Rattle.paper.specs.Tokens.{blank, Token, Here}
use Rattle.paper.specs.Scanner.{token, fault, scan, found, next, past}
use Rattle.paper.specs.Scanner as Scanner
use Rattle.paper.specs.Written.{Skipped, Unclosed, Settled, Written, Apart, Stands, Over, long_name, long_decimal, long_string, out_of_range, Next, NoNext}
use Rattle.paper.specs.Written as Form
use Rattle.theorems.proofs.Scanned.Classes.{among_outside}
use Rattle.theorems.proofs.Scanned.Skips.{Front, blank_here, line_here, comment_here, never_closed, settled, front, gets_settled, gets_refused, gets_along, Ends, at_token, at_comment, ends}
use Rattle.theorems.proofs.Scanned.Words.{scan_skipped, Limit, within, over, scan_writes, Word, word, no_word, find}
pub mod Classes
pub mod Skips
pub mod Strings
pub mod Numbers
pub mod Words
pub mod Alone

-- ---- limits

-- a token is over one limit only, and never with 2
over_same : {t : Token} {n m : ℕ} → Over t n → Over t m → n ≡ m
over_same (long_name l) (long_name k) = refl
over_same (long_decimal l) (long_decimal k) = refl
over_same (long_string l) (long_string k) = refl
over_same (out_of_range l) (out_of_range k) = refl

over_2 : {t : Token} {n : ℕ} → Over t n → n ≡ 2 → ⊥
over_2 (long_name l) e = omega arith
over_2 (long_decimal l) e = omega arith
over_2 (long_string l) e = omega arith
over_2 (out_of_range l) e = omega arith

module _ {t : Token} {k : ℕ} where
  -- so what is said of it is settled by the limits
  limit_within : {x : Scanner.Scanned} → Limit t k x → ((n : ℕ) → Over t n → ⊥) → x ≡ token t k
  limit_within (within f) g = refl
  limit_within (over o) g = absurd (g _ o)

  limit_over : {x : Scanner.Scanned} {n : ℕ} → Limit t k x → Over t n → x ≡ fault n
  limit_over (within f) o = absurd (f _ o)
  limit_over (over p) o = ap fault (over_same p o)

  limit_2 : {x : Scanner.Scanned} → Limit t k x → x ≡ fault 2 → ⊥
  limit_2 (within f) e = let z : ◌≡◌ {A = ℕ} 0 1 = cc in omega arith
  limit_2 (over {n} o) e = let q : n ≡ 2 = cc in over_2 o q

-- ---- the token that is next

-- where a token is written nothing is skipped
unskipped : (s : List ℕ) → (scan s ≡ fault 2 → ⊥) → Settled s
unfolding blank
unskipped s f = go (front s) f
  where
    go : {s : List ℕ} → Front s → (scan s ≡ fault 2 → ⊥) → Settled s
    go (blank_here {b} s e) f = absurd (f (scan_skipped b s (not-false _ (among_outside (λ x. not (among " \t\n\r\u{c}/" x)) " \t\n\r\u{c}" b refl e))))
    go (line_here a e) f = absurd (f (scan_skipped 47 _ refl))
    go (comment_here s u) f = absurd (f (scan_skipped 47 _ refl))
    go (never_closed u) f = absurd (f (scan_skipped 47 _ refl))
    go (settled h) f = h

-- the scanner comes to the token, or to the comment
next_token : (at h : Here) → Skipped at.rest h.rest → h.place + length h.rest ≡ at.place + length at.rest → Settled h.rest → next at ≡ found h (scan h.rest)
unfolding next ◌>>=◌
next_token at h n m e = rw (gets_along at.place h.place n m (gets_settled h.place h.rest e) (length at.rest) (le_refl _))

next_comment : (at : Here) (p : ℕ) (s : List ℕ) → Skipped at.rest (bytes "/*" ++ s) → p + length (bytes "/*" ++ s) ≡ at.place + length at.rest → Unclosed s → next at ≡ refused 2 p
unfolding next ◌>>=◌
next_comment at p s n m u = rw (gets_along at.place p n m (gets_refused p s u) (length at.rest) (le_refl _))

module _ {at : Here} {t : Token} {h after : Here} (s : Stands at t h after) where
  stands_limit : Limit t (length s.word) (scan h.rest)
  stands_limit = rw s.front (scan_writes s.written after.rest s.apart)

  stands_next : next at ≡ found h (scan h.rest)
  stands_next = next_token at h s.skipped s.where_h (unskipped h.rest (limit_2 stands_limit))

  stands_past : past (length s.word) h ≡ after
  unfolding past
  stands_past = λ i. record { place = sym s.where_after i; rest = there i }
    where
      there : drop (length s.word) h.rest ≡ after.rest
      there = rw s.front (drop-append_seam s.word after.rest)

-- ---- what is written is found

found_token : {at : Here} {t : Token} {h after : Here} → Next at t h after → next at ≡ ok (t, h, after)
unfolding found
found_token {t = t} {h} n =
    let s = n.stands in
    stands_next s ∙ ap (found h) (limit_within (stands_limit s) n.within) ∙ ap (λ a. ok (t, h, a)) (stands_past s)

-- where no token is written the scanner finds none
found_none : {s : List ℕ} → Word s → ((t : Token) (w r : List ℕ) → s ≡ w ++ r → Written w t → Apart t r → ⊥) → scan s ≡ fault 2
found_none (word {w} {t} r h a) f = absurd (f t w r refl h a)
found_none (no_word e) f = e

found_refusal : {at : Here} {n p : ℕ} → NoNext at n p → next at ≡ refused n p
unfolding found
found_refusal (Form.over {h = h} s o) = stands_next s ∙ ap (found h) (limit_over (stands_limit s) o)
found_refusal {at} (Form.no_token {r} {p} n m e f) = let h : Here = record { place = p; rest = r } in next_token at h n m e ∙ ap (found h) (found_none (find r) f)
found_refusal {at} (Form.no_close {s} {p} n m u) = next_comment at p s n m u

-- ---- what is found is written

-- what an answer says of what is written
abbrev Told : Here → Answer (Token × Here × Here) → Type 0
Told at (ok y) = Next at y.0 y.1 y.2
Told at (refused n p) = NoNext at n p

module _ (at : Here) where
  told_stands : {t : Token} {h after : Here} (s : Stands at t h after) → {x : Scanner.Scanned} → Limit t (length s.word) x → Told at (found h x)
  unfolding found
  told_stands {t} {h} s (within f) = subst (λ a. Next at t h a) (sym (stands_past s)) (record { stands = s; within = f })
  told_stands s (over o) = Form.over s o

  told_token : {r : List ℕ} (p : ℕ) → Skipped at.rest r → p + length r ≡ at.place + length at.rest → Settled r → Word r → Told at (found (record { place = p; rest = r }) (scan r))
  unfolding found
  told_token {r} p n m e (no_word f) = rw f (Form.no_token n m e (λ t w s q h a. limit_2 (scan_writes h s a) (ap scan (sym q) ∙ f)))
  told_token p n m e (word {w} {t} s h a) =
      told_stands
      (record { skipped = n; word = w; front = refl; written = h; apart = a; where_h = m; where_after = refl })
      (scan_writes h s a)

  told : Told at (next at)
  told = go (ends (length at.rest) at.place at.rest (le_refl _))
    where
      go : Ends at.place at.rest → Told at (next at)
      go (at_token {r} p n m e) = rw (next_token at (record { place = p; rest = r }) n m e) (told_token p n m e (find r))
      go (at_comment {c} p n m u) = rw (next_comment at p c n m u) (Form.no_close n m u)

-- ---- the theorem

pub record Scanned : Type 0 where
  pub a_token : (at : Here) (t : Token) (h after : Here) → (next at ≡ ok (t, h, after)) ↔ Next at t h after
  pub no_token : (at : Here) (n p : ℕ) → (next at ≡ refused n p) ↔ NoNext at n p

pub scanned : Scanned
scanned = record {
  a_token = λ at t h after. (λ e. subst (Told at) e (told at), found_token);
  no_token = λ at n p. (λ e. subst (Told at) e (told at), found_refusal);
}
