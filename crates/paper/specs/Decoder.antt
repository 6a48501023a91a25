-- Readers of laid-out bytes: numbers, text, records, basics, the header. Together with TableDecoder and StepDecoder they find exactly
-- the well-formed tables and step lists (proofs/Decoded), in one pass over the records with the text taken up in its order.
-- A reader is given where it stands, and gives what it read and where it then stands, or nothing.
-- The number f that readers count down bounds how deep the calls go: 2 * (bytes of records left) + 2 is always enough.
-- Assumes nothing.
use Rattle.std.specs.Prelude.{ℕ, zero, suc, ◌+◌, ◌*◌, ◌-◌, ◌^◌, Bool, true, false, not, ◌&&◌, List, [], ◌∷◌, length, take, drop, ℤ, pos, negsuc, leb, ltb, eqb}
use Rattle.std.proofs.Math.Option.{Option, none, some}
use Rattle.paper.specs.Bytes.{when◌then◌else◌}
use Rattle.paper.specs.Maybe.{◌>>=◌, require}
use Rattle.paper.specs.Syntax.{Name, Path, Basic, boolean, null, integer, decimal, string, reference, vector, Basics, εⱽ, ◌∷ⱽ◌}
use Rattle.paper.specs.Tokens.{reserved, member, name, literal, mark, end}
use Rattle.paper.specs.Scanner.{Scanned, token, fault, scan, empty}

-- ---- numbers and text

-- the number that n bytes are, the lowest first, and what follows
unfoldable pub number_of : ℕ → List ℕ → Option (ℕ × List ℕ)
number_of zero s = some (0, s)
number_of (suc n) [] = none
number_of (suc n) (b ∷ s) = do
  _ ← require (ltb b 256)
  (x, s) ← number_of n s
  some (b + 256 * x, s)

-- all n bytes are one token, a name; a decimal
unfoldable pub one_name : ℕ → Scanned → Bool
one_name n (token t k) = elim t [ name m ↦ eqb k n | literal b ↦ false | mark m ↦ false | end ↦ false ]
one_name n (fault k) = false

unfoldable pub a_decimal : Basic → Bool
a_decimal b = elim b [ boolean x ↦ false | null ↦ false | integer z ↦ false | decimal t ↦ true | string t ↦ false | reference r ↦ false | vector bs ↦ false ]

unfoldable pub one_decimal : ℕ → Scanned → Bool
one_decimal n (token t k) = elim t [ name m ↦ false | literal b ↦ a_decimal b && eqb k n | mark m ↦ false | end ↦ false ]
one_decimal n (fault k) = false

unfoldable pub name_of : List ℕ → Option (Name × List ℕ)
name_of [] = none
name_of (k ∷ s) = do
  _ ← require (leb k (length s))
  _ ← require (one_name k (scan (take k s)))
  _ ← require (not (member (take k s) reserved))
  some (take k s, drop k s)

unfoldable pub names_of : ℕ → List ℕ → Option (Path × List ℕ)
names_of zero s = some ([], s)
names_of (suc k) s = do
  (n, s) ← name_of s
  (r, s) ← names_of k s
  some (n ∷ r, s)

unfoldable pub path_of : List ℕ → Option (Path × List ℕ)
path_of [] = none
path_of (k ∷ s) = do
  _ ← require (leb 1 k)
  _ ← require (leb k 32)
  names_of k s

unfoldable pub long_of : List ℕ → Option (List ℕ × List ℕ)
long_of s = do
  (k, s) ← number_of 2 s
  _ ← require (leb k (length s))
  some (take k s, drop k s)

unfoldable pub decimal_of : List ℕ → Option (List ℕ × List ℕ)
decimal_of s = do
  (t, s) ← long_of s
  _ ← require (one_decimal (length t) (scan t))
  some (t, s)

unfoldable pub string_of : List ℕ → Option (List ℕ × List ℕ)
string_of s = do
  (t, s) ← long_of s
  _ ← require (leb (length t) 4095)
  some (t, s)

-- the integer that 64 bits are
unfoldable pub signed : ℕ → ℤ
signed x = when ltb x (2 ^ 63) then pos x else negsuc (2 ^ 64 - 1 - x)

-- ---- records

-- the bytes of the records and of the text that are left, and the place in the text
pub record Cursor : Type 0 where
  pub recs : List ℕ
  pub text : List ℕ
  pub pos : ℕ

-- a record's numbers, as they stand; the last, w bytes long, is a step's place in the source
pub record Raw : Type 0 where
  pub first : ℕ
  pub second : ℕ
  pub label : ℕ
  pub span : ℕ
  pub value : ℕ
  pub place : ℕ

unfoldable pub raw_of : ℕ → List ℕ → Option (Raw × List ℕ)
raw_of w s = do
  (a, s) ← number_of 2 s
  (b, s) ← number_of 2 s
  (c, s) ← number_of 2 s
  (d, s) ← number_of 2 s
  (v, s) ← number_of 8 s
  (p, s) ← number_of w s
  some (record { first = a; second = b; label = c; span = d; value = v; place = p }, s)

unfoldable pub record_at : ℕ → Cursor → Option (Raw × Cursor)
record_at w at = do
  (x, s) ← raw_of w at.recs
  some (x, record { recs = s; text = at.text; pos = at.pos })

-- the text that p reads, which must begin at the place that is said
unfoldable pub field : {A : Type 0} → (List ℕ → Option (A × List ℕ)) → ℕ → Cursor → Option (A × Cursor)
field p place at = do
  _ ← require (eqb place at.pos)
  (x, t) ← p at.text
  some (x, record { recs = at.recs; text = t; pos = at.pos + (length at.text - length t) })

-- ---- basics

-- a basic of kind k and value v that is no vector
unfoldable pub leaf : ℕ → ℕ → Cursor → Option (Basic × Cursor)
leaf k v at =
    when eqb k 1 then (do _ ← require (leb v 1); some (boolean (eqb v 1), at)) else
    when eqb k 2 then (do _ ← require (eqb v 0); some (null, at)) else
    when eqb k 3 then some (integer (signed v), at) else
    when eqb k 4 then (do (t, at) ← field decimal_of v at; some (decimal t, at)) else
    when eqb k 5 then (do (t, at) ← field string_of v at; some (string t, at)) else
    when eqb k 6 then (do (r, at) ← field path_of v at; some (reference r, at)) else
    none

-- how vectors stand in tables and in step lists: the width of a record's last number, how deep a vector may stand,
-- an element's kind, and whether a record is an element's at depth d
pub record Form : Type 0 where
  pub width : ℕ
  pub top : ℕ
  pub kind_in : Raw → ℕ
  pub fits : ℕ → Raw → Bool

unfoldable mutual
  -- a basic at depth d whose own record, of kind k, span m, which is 1 or more, and value v, has been read
  pub basic_at : ℕ → Form → ℕ → ℕ → ℕ → ℕ → Cursor → Option (Basic × Cursor)
  basic_at zero form d k m v at = none
  basic_at (suc f) form d k m v at =
      when eqb k 7
      then (do
        _ ← require (eqb v 0)
        _ ← require (leb d form.top)
        (bs, at) ← elements_at f form (suc d) (m - 1) at
        some (vector bs, at))
      else (do
        _ ← require (eqb m 1)
        leaf k v at)

  -- elements at depth d, of which there are n records in all
  pub elements_at : ℕ → Form → ℕ → ℕ → Cursor → Option (Basics × Cursor)
  elements_at zero form d n at = none
  elements_at (suc f) form d n at =
      elim n [
        | zero ↦ some (εⱽ, at)
        | suc k ↦ do
          (x, at) ← record_at form.width at
          _ ← require (leb d 32)
          _ ← require (form.fits d x)
          _ ← require (leb 1 x.span)
          _ ← require (leb x.span (suc k))
          (b, at) ← basic_at f form d (form.kind_in x) x.span x.value at
          (bs, at) ← elements_at f form d (suc k - x.span) at
          some (b ∷ⱽ bs, at)
      ]

-- ---- header and end

-- the header: how many records, and where reading begins; records are r bytes long, and at most n of them, with at most t bytes of text
unfoldable pub header : ℕ → ℕ → ℕ → ℕ → List ℕ → Option (ℕ × Cursor)
header form r n t b = do
  (a, s) ← number_of 4 b
  _ ← require (eqb a form)
  (total, s) ← number_of 4 s
  (count, s) ← number_of 4 s
  (start, s) ← number_of 4 s
  _ ← require (eqb start 24)
  (long, s) ← number_of 4 s
  (place, s) ← number_of 4 s
  _ ← require (leb count n)
  _ ← require (leb long t)
  _ ← require (eqb place (24 + r * count))
  _ ← require (eqb total (place + long))
  _ ← require (eqb total (length b))
  some (count, record { recs = take (r * count) s; text = drop (r * count) s; pos = 0 })

-- nothing is left
unfoldable pub ended : Cursor → Option (Unit {0})
ended at = do
  _ ← require (empty at.recs)
  require (empty at.text)
