-- The test of two names for equality, and the code's table, which says what the list of reserved words says:
-- one test, computed over the fourteen rows. Assumes nothing.
use Rattle.std.proofs.Common.{◌≡◌, ℕ, suc, ◌+◌, ◌<◌, ◌≤◌, Bool, true, false, List, [], ◌∷◌, map, get_or, take, drop, refl, sym, ap, ap₂, ◌∙◌, add-one}
use mathlib.Core.Bool.{false≢true}
use lib.ListN.{drop_of_length-le}
use lib.Seq.{drop-cons}
use Rattle.std.proofs.Math.ListN.{get_or-map}
use lib.Dec.{eqb}
use borrow.Author.Tests.{eqb-true, eq-eqb}
use Rattle.paper.specs.Bytes.{bytes, same, when◌then◌else◌}
use Rattle.paper.specs.Tokens.{reserved}
use Rattle.theorems.proofs.Scanned.Classes.{and_left, and_right}
use Rattle.tokens.specs.declared.Kind.TheVariants as kinds
use Rattle.tokens.specs.declared.names.Word.{Word}
use Rattle.tokens.specs.declared.names.Word.TheVariants.{Extends, Data, Null, True, False, Root, Parent, This, Attrib, Lazy, Host, Process, Property, Iproperty}
use Rattle.tokens.specs.Kinds.{spelling, words, named}
use Rattle.tokens.proofs.Table.{entry}

-- ---- equal names

pub same_eq : (a b : List ℕ) → same a b ≡ true → a ≡ b
same_eq [] [] e = refl
same_eq [] (y ∷ b) e = absurd (false≢true e)
same_eq (x ∷ a) [] e = absurd (false≢true e)
same_eq (x ∷ a) (y ∷ b) e = ap₂ (λ (n : ℕ) (l : List ℕ). n ∷ l) (eqb-true x y (and_left (eqb x y) (same a b) e)) (same_eq a b (and_right (eqb x y) (same a b) e))

same_refl : (a : List ℕ) → same a a ≡ true
same_refl [] = refl
same_refl (x ∷ a) = rw (eq-eqb x x refl) (same_refl a)

pub eq_same : (a b : List ℕ) → a ≡ b → same a b ≡ true
eq_same a b e = ap (same a) (sym e) ∙ same_refl a

pub ne_same : (a b : List ℕ) → (a ≡ b → ⊥) → same a b ≡ false
ne_same a b h = case (same a b) refl
  where
    case : (t : Bool) → same a b ≡ t → same a b ≡ false
    case true e = absurd (h (same_eq a b e))
    case false e = e

-- ---- the table

-- a row: bytes, and how many of them spell which word
abbrev pub Row : Type 0
Row = List ℕ × ℕ × Word

abbrev pub rows : List Row
rows =
    (bytes "extends\0\0", 7, Extends) ∷ (bytes "DATA\0\0\0\0\0", 4, Data) ∷ (bytes "NULL\0\0\0\0\0", 4, Null) ∷
    (bytes "true\0\0\0\0\0", 4, True) ∷ (bytes "false\0\0\0\0", 5, False) ∷ (bytes "ROOT\0\0\0\0\0", 4, Root) ∷
    (bytes "PARENT\0\0\0", 6, Parent) ∷ (bytes "THIS\0\0\0\0\0", 4, This) ∷ (bytes "ATTRIB\0\0\0", 6, Attrib) ∷
    (bytes "LAZY\0\0\0\0\0", 4, Lazy) ∷ (bytes "HOST\0\0\0\0\0", 4, Host) ∷ (bytes "PROCESS\0\0", 7, Process) ∷
    (bytes "PROPERTY\0", 8, Property) ∷ (bytes "IPROPERTY", 9, Iproperty) ∷ []

-- the words stand in the table as in their list, and that is paper's
words_are : map (λ r. r.2) rows ≡ words
words_are = refl

pub reserved_are : map spelling words ≡ reserved
unfolding reserved
reserved_are = refl

-- a row's first bytes are the word's
right : ℕ → Row → Bool
right k r = same (take r.1 r.0) (spelling r.2)

-- ---- the search

-- what stands past the table's end
abbrev none : Row
none = ([], 0, Extends)

module _ (n : List ℕ) (i : ℕ) (h : i < 14) where
  row_word : take (get_or rows i none).1 (get_or rows i none).0 ≡ spelling (get_or rows i none).2
  unfolding right
  row_word = let r = get_or rows i none in same_eq (take r.1 r.0) (spelling r.2) (entry right rows none refl i h)

  row_next : drop i words ≡ (get_or rows i none).2 ∷ drop (i + 1) words
  row_next =
      rw (add-one, drop-cons words i Extends h)
      (ap (λ (w : Word). w ∷ drop (suc i) words) (sym (ap (λ (ws : List Word). get_or ws i Extends) words_are) ∙ get_or-map (λ (r : Row). r.2) rows i none))

  pub word_here : same n (take (get_or rows i none).1 (get_or rows i none).0) ≡ true → named (drop i words) n ≡ kinds.Word (get_or rows i none).2
  unfolding named when◌then◌else◌
  word_here e = ap (λ (ws : List Word). named ws n) row_next ∙ go (get_or rows i none).2 (drop (i + 1) words) (ap (same n) (sym row_word) ∙ e)
    where
      go : (w : Word) (ws : List Word) → same n (spelling w) ≡ true → named (w ∷ ws) n ≡ kinds.Word w
      go w ws e = rw (named, e)

  pub word_later : same n (take (get_or rows i none).1 (get_or rows i none).0) ≡ false → named (drop i words) n ≡ named (drop (i + 1) words) n
  unfolding named when◌then◌else◌
  word_later e = ap (λ (ws : List Word). named ws n) row_next ∙ go (get_or rows i none).2 (drop (i + 1) words) (ap (same n) (sym row_word) ∙ e)
    where
      go : (w : Word) (ws : List Word) → same n (spelling w) ≡ false → named (w ∷ ws) n ≡ named ws n
      go w ws e = rw (named, e)

pub word_none : (n : List ℕ) (i : ℕ) → 14 ≤ i → named (drop i words) n ≡ kinds.Name
unfolding named
word_none n i h = ap (λ (ws : List Word). named ws n) (drop_of_length-le words h)
