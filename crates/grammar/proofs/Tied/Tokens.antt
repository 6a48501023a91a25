-- What is found from a place of the source stands at a place of the source, and is found again from where it stands. Assumes nothing.
use Prim.Native.Nat.{ℕ, zero, suc, ◌+◌, ◌≤◌}
use Prim.Native.Char.{Char}
use Prim.Native.String.{String}
use native.Mathlib.Omega.{arith}
use mathlib.Core.Path.{◌≡◌, refl, sym, ◌∙◌, ap, subst}
use mathlib.Core.List.{List, [], ◌∷◌}
use mathlib.Core.Option.{Option, none, some}
use lib.ListN.{length, drop, length-drop}
use lib.Seq.{drop-drop}
use lib.IntN.{ℤ}
use Rattle.paper.specs.Bytes.{when◌then◌else◌}
use Rattle.paper.specs.Answer.{Answer, ok, refused, ◌>>=◌}
use Rattle.paper.specs.Syntax.{Path, Basic, integer, decimal, string}
use Rattle.paper.specs.Tokens.{Token, literal, blank, Here}
use Rattle.paper.specs.Scanner.{Scanned, token, fault, gap, skip, scan, found, next, past}
use Rattle.paper.specs.Reader.{expect, expect_word, names, path}
use Rattle.theorems.proofs.Laws.Answers.{if_case}
use Rattle.theorems.proofs.Laws.Gives.{Gives, gives, refuses, gives_bind, gives_demand, gives_ok}
use Rattle.theorems.proofs.Laws.Rescan.{Shape, at_end, a_name, a_decimal, an_integer, a_string, a_mark, a_fault, scan_shape}
use Rattle.grammar.specs.Places.{here}
use Rattle.grammar.specs.Ties.{Reads}

abbrev Whatever : ℕ → Type 0
Whatever n = Unit {0}

-- P holds of the value, if one is given
abbrev Ok : {X : Type 0} → (X → Type 0) → Answer X → Type 0
Ok P m = Gives Whatever P m

itself : {X : Type 0} (m : Answer X) → Ok (λ x. m ≡ ok x) m
itself (ok x) = gives refl
itself (refused n p) = refuses tt

-- h is a place of the source s
pub record Stands (s : List ℕ) (h : Here) : Type 0 where
  pub is : h ≡ here s h.place

pub stands_here : (s : List ℕ) (p : ℕ) → Stands s (here s p)
stands_here s p = record { is = refl }

stands_past : (s : List ℕ) (n : ℕ) (h : Here) → Stands s h → Stands s (past n h)
unfolding past
stands_past s n h st = record { is = ap (λ (r : List ℕ). record { place = h.place + n; rest = r }) (ap (λ (g : Here). drop n g.rest) st.is ∙ drop-drop n h.place s) }

-- ---- what is skipped is skipped once

gap_end : gap [] ≡ some 0
unfolding gap blank when◌then◌else◌
gap_end = refl

record Skipped (s : List ℕ) (h : Here) : Type 0 where
  stands : Stands s h
  ends : gap h.rest ≡ some 0

nothing_left : (r : List ℕ) → length r ≤ 0 → gap r ≡ some 0
nothing_left [] l = gap_end
nothing_left (b ∷ r) l = absurd (omega arith)

skip_stands : (s : List ℕ) (f : ℕ) (h : Here) → length h.rest ≤ f → Stands s h → Ok (Skipped s) (skip f h)
unfolding skip
skip_stands s zero h l st = gives (record { stands = st; ends = nothing_left h.rest l })
skip_stands s (suc f) h l st = go (gap h.rest) refl (λ h l st. skip_stands s f h l st)
  where
    shorter : (n : ℕ) (r : List ℕ) → length r ≤ suc f → length (drop (suc n) r) ≤ f
    shorter n r l = simp length-drop (omega arith)

    go : (g : Option ℕ) → gap h.rest ≡ g → ((h : Here) → length h.rest ≤ f → Stands s h → Ok (Skipped s) (skip f h)) → Ok (Skipped s) (skip (suc f) h)
    go none e again = rw (e, skip) (refuses tt)
    go (some zero) e again = rw (e, skip) (gives (record { stands = st; ends = e }))
    go (some (suc n)) e again = rw (e, skip) (again (past (suc n) h) (unfold past in shorter n h.rest l) (stands_past s (suc n) h st))

skip_again : (f : ℕ) (h : Here) → gap h.rest ≡ some 0 → skip f h ≡ ok h
unfolding skip
skip_again zero h e = refl
skip_again (suc f) h e = rw (e, skip)

-- ---- the next token

-- a literal is an integer, a decimal or a string
pub data Literal : Basic → Type 0 where
  integer_literal : {z : ℤ} → Literal (integer z)
  decimal_literal : {t : List ℕ} → Literal (decimal t)
  string_literal : {t : List ℕ} → Literal (string t)

pub scanned_literal : (s : List ℕ) (b : Basic) (n : ℕ) → scan s ≡ token (literal b) n → Literal b
scanned_literal s b n e = go (scan s) (scan_shape s) e
  where
    inside : {a c : Basic} {m k : ℕ} → token (literal a) m ≡ token (literal c) k → a ≡ c
    inside e = cc

    go : (x : Scanned) → Shape s x → x ≡ token (literal b) n → Literal b
    go x at_end e = let z : ◌≡◌ {A = ℕ} 0 1 = cc in absurd (omega arith)
    go x (a_name h) e = let z : ◌≡◌ {A = ℕ} 0 1 = cc in absurd (omega arith)
    go x (a_decimal {n = m} h) e = subst Literal (inside e) decimal_literal
    go x (an_integer h) e = subst Literal (inside e) integer_literal
    go x (a_string h) e = subst Literal (inside e) string_literal
    go x a_mark e = let z : ◌≡◌ {A = ℕ} 0 1 = cc in absurd (omega arith)
    go x (a_fault l) e = let z : ◌≡◌ {A = ℕ} 0 1 = cc in absurd (omega arith)

pub record Found (s : List ℕ) (x : Token × Here × Here) : Type 0 where
  pub stands : Stands s x.1
  pub after : Stands s x.2
  pub again : next x.1 ≡ ok x
  pub size : ℕ
  pub scanned : scan (drop x.1.place s) ≡ token x.0 size
  pub ends : x.2.place ≡ x.1.place + size

found_stands : (s : List ℕ) (h : Here) → Skipped s h → (x : Scanned) → scan h.rest ≡ x → Ok (Found s) (found h x)
unfolding found next ◌>>=◌ past
found_stands s h k (token t n) e =
    gives {x = (t, h, past n h)} (record {
      stands = k.stands;
      after = stands_past s n h k.stands;
      again = rw (skip_again (length h.rest) h k.ends, e);
      size = n;
      scanned = ap (λ (g : Here). scan g.rest) (sym k.stands.is) ∙ e;
      ends = refl;
    })
found_stands s h k (fault n) e = refuses tt

next_gives : (s : List ℕ) (at : Here) → Stands s at → Ok (Found s) (next at)
unfolding next
next_gives s at st = gives_bind _ (skip_stands s (length at.rest) at (omega arith) st) (λ h k. found_stands s h k (scan h.rest) refl)

pub next_found : (s : List ℕ) (at : Here) → Stands s at → (x : Token × Here × Here) → next at ≡ ok x → Found s x
next_found s at st x e = gives_ok (next_gives s at st) e

-- ---- marks, words and references

expect_gives : (s : List ℕ) (c : Char) (at : Here) → Stands s at → Ok (Stands s) (expect c at)
unfolding expect
expect_gives s c at st = gives_bind _ (next_gives s at st) (λ x f. gives_demand _ 3 _ _ tt (λ _. gives f.after))

pub expect_stands : (s : List ℕ) (c : Char) (at : Here) → Stands s at → (a : Here) → expect c at ≡ ok a → Stands s a
expect_stands s c at st a e = gives_ok (expect_gives s c at st) e

expect_word_gives : (s : List ℕ) (w : String) (at : Here) → Stands s at → Ok (Stands s) (expect_word w at)
unfolding expect_word
expect_word_gives s w at st = gives_bind _ (next_gives s at st) (λ x f. gives_demand _ 3 _ _ tt (λ _. gives f.after))

pub expect_word_stands : (s : List ℕ) (w : String) (at : Here) → Stands s at → (a : Here) → expect_word w at ≡ ok a → Stands s a
expect_word_stands s w at st a e = gives_ok (expect_word_gives s w at st) e

record Then {A : Type 0} (s : List ℕ) (x : A × Here) : Type 0 where
  stands : Stands s x.1

names_gives : (s : List ℕ) (k : ℕ) (at : Here) → Stands s at → Ok (Then s) (names k at)
unfolding names
names_gives s zero at st = gives_bind _ (next_gives s at st) (λ x f. gives_demand _ 3 _ _ tt (λ _. refuses tt))
names_gives s (suc k) at st =
    gives_bind _ (next_gives s at st) (λ x f.
    gives_demand _ 3 _ _ tt (λ _.
    gives_bind _ (itself (next x.2)) (λ y _.
    if_case (Ok (Then s)) _ _ _
    (λ _.
    gives_bind _ (expect_gives s ":" x.2 f.after) (λ a t.
    gives_bind _ (names_gives s k a t) (λ z h. gives (record { stands = h.stands }))))
    (λ _. gives (record { stands = f.after })))))

pub path_stands : (s : List ℕ) (at : Here) → Stands s at → (r : Path × Here) → path at ≡ ok r → Stands s r.1
unfolding path
path_stands s at st r e = (gives_ok (names_gives s 32 at st) e).stands

-- where the next token is the same, the path is
path_same : (a b : Here) → next a ≡ next b → path a ≡ path b
unfolding path names
path_same a b e = rw e

-- a path that begins with a token is read where the token stands
pub path_again : (s : List ℕ) (at : Here) (x : Token × Here × Here) → next at ≡ ok x → Found s x → (r : Path × Here) → path at ≡ ok r → Reads s x.1.place r.0
path_again s at x e f r q =
    record { after = r.1; is = ap path (sym f.stands.is) ∙ path_same x.1 at (f.again ∙ sym e) ∙ q }

-- and a path that is read from a place of the source is read from there
pub path_there : (s : List ℕ) (at : Here) → Stands s at → (r : Path × Here) → path at ≡ ok r → Reads s at.place r.0
path_there s at st r q = record { after = r.1; is = ap path (sym st.is) ∙ q }
