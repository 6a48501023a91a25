-- Tokens (document 01, "Tokens"): the classes of bytes, the reserved words, and what the tokens are. Assumes nothing.
use Rattle.std.specs.Prelude.{ℕ, ◌+◌, ◌*◌, ◌-◌, ◌^◌, Bool, false, not, ◌||◌, List, [], ◌∷◌, drop, ℤ, pos, negsuc, neg_ℤ, ltb}
use Prim.Native.Char.{Char}
use Rattle.std.proofs.Math.Option.{Option, none, some}
use Rattle.paper.specs.Bytes.{bytes, at, is, among, between, same, when◌then◌else◌}
use Rattle.paper.specs.Syntax.{Basic}

-- "Skipped: space, tab, LF, CR, FF"
unfoldable pub blank : ℕ → Bool
blank = among " \t\n\r\u{c}"

unfoldable pub digit : ℕ → Bool
digit = between "0" "9"

unfoldable pub octal : ℕ → Bool
octal = between "0" "7"

-- "Name: a letter, `_` or `$`, then letters, digits, `_`, `$`, `-`. ASCII only"
unfoldable pub starts : ℕ → Bool
starts b = between "a" "z" b || between "A" "Z" b || among "_$" b

unfoldable pub goes_on : ℕ → Bool
goes_on b = starts b || digit b || is "-" b

-- "The fourteen reserved words stand in one list"
unfoldable pub reserved : List (List ℕ)
reserved =
    bytes "extends" ∷ bytes "DATA" ∷ bytes "NULL" ∷ bytes "true" ∷ bytes "false" ∷ bytes "ROOT" ∷ bytes "PARENT" ∷
    bytes "THIS" ∷ bytes "ATTRIB" ∷ bytes "LAZY" ∷ bytes "HOST" ∷ bytes "PROCESS" ∷ bytes "PROPERTY" ∷ bytes "IPROPERTY" ∷ []

unfoldable pub member : List ℕ → List (List ℕ) → Bool
member n [] = false
member n (m ∷ ms) = same n m || member n ms

-- the number that decimal digits say, after n; with a minus before them perhaps
unfoldable pub count : ℕ → List ℕ → ℕ
count n [] = n
count n (b ∷ s) = count (n * 10 + (b - 48)) s

unfoldable pub valued : List ℕ → ℤ
valued s = when is "-" (at s 0) then neg_ℤ (pos (count 0 (drop 1 s))) else pos (count 0 s)

-- "from -9223372036854775808 to 9223372036854775807"
unfoldable pub in_range : ℤ → Bool
in_range (pos n) = ltb n (2 ^ 63)
in_range (negsuc n) = ltb n (2 ^ 63)

-- "escapes `\n \t \b \r \f \\ \" \'`": the byte that is meant
unfoldable pub escaped : ℕ → Option ℕ
escaped b =
    when is "n" b then some 10 else
    when is "t" b then some 9 else
    when is "b" b then some 8 else
    when is "r" b then some 13 else
    when is "f" b then some 12 else
    when among "\\\"'" b then some b else
    none

-- A name (or a reserved word), an integer, decimal or string with what it says, one of the marks `; , { } [ ] :`, or the end.
pub data Token : Type 0 where
  name : List ℕ → Token
  literal : Basic → Token
  mark : ℕ → Token
  end : Token

-- the token is a name that is not reserved; is this mark
unfoldable pub is_name : Token → Bool
is_name t = elim t [ name n ↦ not (member n reserved) | literal b ↦ false | mark m ↦ false | end ↦ false ]

unfoldable pub is_mark : Char → Token → Bool
is_mark c t = elim t [ name n ↦ false | literal b ↦ false | mark m ↦ is c m | end ↦ false ]

-- a place in the source, and "the rest of the source" from there
pub record Here : Type 0 where
  pub place : ℕ
  pub rest : List ℕ
