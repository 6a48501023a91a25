-- The readers by index, as code has it: the records and the text are two slices of bytes, and a reader stands at a place in each.
-- Assumes nothing.
use Prim.Native.Nat.{ℕ, zero, suc, ◌+◌, ◌-◌, ◌≤◌, ◌<◌}
use native.Mathlib.Omega.{arith}
use mathlib.Core.Path.{◌≡◌, refl, sym, ◌∙◌, ap, subst}
use mathlib.Core.Bool.{Bool, true, false, not}
use mathlib.Core.List.{List, [], ◌∷◌}
use mathlib.Core.Option.{Option, none, some}
use lib.ListN.{length, take, drop, get_or, length-append, length-drop, drop_of_length-le}
use lib.Seq.{drop-cons, drop-drop}
use lib.Dec.{leb, ltb, eqb, eqb-zero-suc, eqb-suc-suc}
use borrow.Author.Tests.{lt-ltb, eq-eqb, ne_eqb}
use Rattle.paper.specs.Maybe.{◌>>=◌, require}
use Rattle.paper.specs.Tokens.{reserved, member}
use Rattle.paper.specs.Scanner.{scan, empty}
use Rattle.paper.specs.DecodeAt.{word, raw_at, cursor}
use Rattle.paper.specs.Decoder.{Raw, number_of, raw_of, record_at, field, one_name, name_of, names_of, path_of, long_of}
use Rattle.theorems.proofs.Decoded.Parts.{Reads, exact_raw, raw_bytes, Narrow, length_little}
use Rattle.theorems.proofs.Laws.Found.{Found, found}

-- what a slice of bytes is
pub record Bytes (b : List ℕ) : Type 0 where
  pub byte : (i : ℕ) → get_or b i 0 < 256

pub number_at : (n : ℕ) (b : List ℕ) (i : ℕ) → Bytes b → i + n ≤ length b → number_of n (drop i b) ≡ some (word n b i, drop (i + n) b)
unfolding number_of word ◌>>=◌ require
number_at zero b i h l = let q : i + 0 ≡ i = omega arith in rw q
number_at (suc n) b i h l =
    let q : suc i + n ≡ i + suc n = omega arith in
    rw (drop-cons b i 0 (omega arith), lt-ltb (get_or b i 0) 256 (h.byte i), number_at n b (suc i) h (omega arith), q)

no_more : {B : Type 0} (c : Bool) → ◌≡◌ {A = Option B} (require c >>= λ _. none) none
unfolding ◌>>=◌ require
no_more true = refl
no_more false = refl

pub number_short : (n : ℕ) (s : List ℕ) → length s < n → number_of n s ≡ none
unfolding number_of ◌>>=◌ require
number_short zero s l = absurd (omega arith)
number_short (suc n) [] l = refl
number_short (suc n) (b ∷ s) l = rw (number_short n s (omega arith)) (no_more (ltb b 256))

raw_length : (w : ℕ) (y : Raw) → length (raw_bytes w y) ≡ 16 + w
unfolding raw_bytes
raw_length w y = simp (length-append, length_little) (omega arith)

pub raw_is : (w : ℕ) (b : List ℕ) (i : ℕ) → Bytes b → i + (16 + w) ≤ length b → raw_of w (drop i b) ≡ some (raw_at w b i, drop (i + (16 + w)) b)
unfolding raw_of raw_at ◌>>=◌
raw_is w b i h l =
    let e₁ : number_of 2 (drop i b) ≡ some (word 2 b i, drop (i + 2) b) = number_at 2 b i h (omega arith) in
    let e₂ : number_of 2 (drop (i + 2) b) ≡ some (word 2 b (i + 2), drop (i + 4) b) = at_place 2 (i + 2) (i + 4) (omega arith) (omega arith) in
    let e₃ : number_of 2 (drop (i + 4) b) ≡ some (word 2 b (i + 4), drop (i + 6) b) = at_place 2 (i + 4) (i + 6) (omega arith) (omega arith) in
    let e₄ : number_of 2 (drop (i + 6) b) ≡ some (word 2 b (i + 6), drop (i + 8) b) = at_place 2 (i + 6) (i + 8) (omega arith) (omega arith) in
    let e₅ : number_of 8 (drop (i + 8) b) ≡ some (word 8 b (i + 8), drop (i + 16) b) = at_place 8 (i + 8) (i + 16) (omega arith) (omega arith) in
    let e₆ : number_of w (drop (i + 16) b) ≡ some (word w b (i + 16), drop (i + (16 + w)) b) = at_place w (i + 16) (i + (16 + w)) (omega arith) (omega arith) in
    rw (e₁, e₂, e₃, e₄, e₅, e₆)
  where
    at_place : (n j k : ℕ) → j + n ≡ k → k ≤ length b → number_of n (drop j b) ≡ some (word n b j, drop k b)
    at_place n j k e m = subst (λ k. number_of n (drop j b) ≡ some (word n b j, drop k b)) e (number_at n b j h (omega arith))

raw_short : (w : ℕ) (s : List ℕ) → length s < 16 + w → raw_of w s ≡ none
raw_short w s l = no_raw w s (raw_of w s) refl ((exact_raw w).sound s) l
  where
    no_raw : (w : ℕ) (s : List ℕ) (o : Option (Raw × List ℕ)) → raw_of w s ≡ o → Found (Reads (raw_bytes w) (Narrow w) s) o → length s < 16 + w → raw_of w s ≡ none
    no_raw w s none e h l = e
    no_raw w s (some x) e (found h) l =
        let k : length s ≡ length (raw_bytes w x.0) + length x.1 = ap length h.front ∙ length-append (raw_bytes w x.0) x.1 in
        let m = raw_length w x.0 in
        absurd (omega arith)

-- ---- a reader at i in the records and at p in the text

pub record_here : (w : ℕ) (recs text : List ℕ) (i p : ℕ) → Bytes recs → i + (16 + w) ≤ length recs → record_at w (cursor recs text i p) ≡ some (raw_at w recs i, cursor recs text (i + (16 + w)) p)
unfolding record_at cursor ◌>>=◌
record_here w recs text i p h l = rw (raw_is w recs i h l)

empty_drop : (s : List ℕ) (i : ℕ) → i ≤ length s → empty (drop i s) ≡ eqb i (length s)
empty_drop [] zero l = refl
empty_drop [] (suc i) l = absurd (omega arith)
empty_drop (b ∷ s) zero l = sym (eqb-zero-suc (length s))
empty_drop (b ∷ s) (suc i) l = empty_drop s i (omega arith) ∙ sym (eqb-suc-suc i (length s))

-- the records, the text are at their end
pub ended_here : (recs text : List ℕ) (i p : ℕ) → i ≤ length recs → p ≤ length text → (empty (cursor recs text i p).recs ≡ eqb i (length recs)) × (empty (cursor recs text i p).text ≡ eqb p (length text))
unfolding cursor
ended_here recs text i p li lp = (empty_drop recs i li, empty_drop text p lp)

-- too few bytes are left for a record
pub record_short : (w : ℕ) (recs text : List ℕ) (i p : ℕ) → Bytes recs → length recs < i + (16 + w) → record_at w (cursor recs text i p) ≡ none
unfolding record_at cursor ◌>>=◌
record_short w recs text i p h l = rw (raw_short w (drop i recs) (simp length-drop (omega arith)))

-- a field whose reader takes n bytes: the next place in the text
pub field_here : {A : Type 0} (r : List ℕ → Option (A × List ℕ)) (recs text : List ℕ) (i p n : ℕ) (x : A) → p + n ≤ length text → r (drop p text) ≡ some (x, drop (p + n) text)
    → field r p (cursor recs text i p) ≡ some (x, cursor recs text i (p + n))
unfolding field cursor ◌>>=◌ require
field_here r recs text i p n x l e =
    let q : p + (length (drop p text) - length (drop (p + n) text)) ≡ p + n = simp length-drop (omega arith) in
    rw (eq-eqb p p refl, e, q)

pub field_misplaced : {A : Type 0} (r : List ℕ → Option (A × List ℕ)) (recs text : List ℕ) (i p place : ℕ) → (place ≡ p → ⊥) → field r place (cursor recs text i p) ≡ none
unfolding field cursor ◌>>=◌ require
field_misplaced r recs text i p place h = rw (ne_eqb place p h)

pub field_none : {A : Type 0} (r : List ℕ → Option (A × List ℕ)) (recs text : List ℕ) (i p place : ℕ) → r (drop p text) ≡ none → field r place (cursor recs text i p) ≡ none
unfolding field cursor ◌>>=◌ require
field_none r recs text i p place e = rw e (no_more (eqb place p))

-- ---- the texts

-- the text of n bytes at i
unfoldable pub part : List ℕ → ℕ → ℕ → List ℕ
part s i n = take n (drop i s)

-- a name at p: its length, and then its bytes
pub name_here : (text : List ℕ) (p : ℕ) → p < length text → name_of (drop p text)
    ≡ require (leb (get_or text p 0) (length text - suc p)) >>= λ _. require (one_name (get_or text p 0) (scan (part text (suc p) (get_or text p 0)))) >>= λ _.
    require (not (member (part text (suc p) (get_or text p 0)) reserved)) >>= λ _. some (part text (suc p) (get_or text p 0), drop (p + suc (get_or text p 0)) text)
unfolding name_of part
name_here text p l =
    let k = get_or text p 0 in
    let q : suc p + k ≡ p + suc k = omega arith in
    rw (drop-cons text p 0 l, length-drop (suc p) text, drop-drop k (suc p) text, q)

pub name_end : (text : List ℕ) (p : ℕ) → length text ≤ p → name_of (drop p text) ≡ none
unfolding name_of
name_end text p l = rw (drop_of_length-le text l)

-- a string's or a decimal's text at p: its length in two bytes, and then its bytes
pub long_here : (text : List ℕ) (p : ℕ) → Bytes text → p + 2 ≤ length text → long_of (drop p text)
    ≡ require (leb (word 2 text p) (length text - (p + 2))) >>= λ _. some (part text (p + 2) (word 2 text p), drop (p + 2 + word 2 text p) text)
unfolding long_of part ◌>>=◌
long_here text p h l = rw (number_at 2 text p h l, length-drop (p + 2) text, drop-drop (word 2 text p) (p + 2) text)

pub long_end : (text : List ℕ) (p : ℕ) → length text < p + 2 → long_of (drop p text) ≡ none
unfolding long_of ◌>>=◌
long_end text p l = rw (number_short 2 (drop p text) (simp length-drop (omega arith)))

-- a path at p: how many names, and then the names
pub path_here : (text : List ℕ) (p : ℕ) → p < length text → path_of (drop p text) ≡ require (leb 1 (get_or text p 0)) >>= λ _. require (leb (get_or text p 0) 32) >>= λ _. names_of (get_or text p 0) (drop (suc p) text)
unfolding path_of
path_here text p l = rw (drop-cons text p 0 l)
