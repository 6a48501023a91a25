-- The scanner (document 01, "Tokens"): from the rest of the source to the token at its front, or to 2, 4 or 6. Assumes nothing.
use Rattle.std.specs.Prelude.{ℕ, zero, suc, ◌+◌, ◌*◌, ◌-◌, Bool, true, false, not, ◌&&◌, ◌||◌, List, [], ◌∷◌, length, take, drop, leb, ltb, eqb}
use Rattle.std.proofs.Math.Option.{Option, none, some}
use Rattle.paper.specs.Bytes.{at, is, among, between, when◌then◌else◌}
use Rattle.paper.specs.Answer.{Answer, ok, refused, ◌>>=◌}
use Rattle.paper.specs.Syntax.{integer, decimal, string}
use Rattle.paper.specs.Tokens.{blank, digit, octal, starts, goes_on, in_range, valued, escaped, Token, name, literal, mark, end, Here}

-- whether nothing is left; and the source from n bytes further on
abbrev pub empty : List ℕ → Bool
empty [] = true
empty (b ∷ s) = false

unfoldable pub past : ℕ → Here → Here
past n h = record { place = h.place + n; rest = drop n h.rest }

-- how many bytes at the front pass the test
unfoldable pub span : (ℕ → Bool) → List ℕ → ℕ
span p [] = 0
span p (b ∷ s) = elim (p b) [ true ↦ suc (span p s) | false ↦ 0 ]

-- ---- what is skipped

-- how many bytes stand before the first `*/` and with it
unfoldable pub closing : List ℕ → Option ℕ
closing [] = none
closing (b ∷ s) = elim (is "*" b && is "/" (at s 0)) [ true ↦ some 2 | false ↦ elim (closing s) [ none ↦ none | some n ↦ some (suc n) ] ]

-- "`//` to LF or end of source; `/*` to the first `*/` after those two bytes": the length of the blank or comment here,
-- 0 where none stands here, and none for a comment that is not closed
unfoldable pub gap : List ℕ → Option ℕ
gap s =
    when blank (at s 0) then some 1 else
    when is "/" (at s 0) && is "/" (at s 1) then some (2 + span (λ b. not (is "\n" b)) (drop 2 s)) else
    when is "/" (at s 0) && is "*" (at s 1) then elim (closing (drop 2 s)) [ none ↦ none | some n ↦ some (2 + n) ] else
    some 0

-- where the next token stands; "(none: 2 at its first byte)" for `/*` with no `*/`.
-- The count f is enough if it is the length of the rest.
unfoldable pub skip : ℕ → Here → Answer Here
skip zero h = ok h
skip (suc f) h =
    elim (gap h.rest) [
      | none ↦ refused 2 h.place
      | some zero ↦ ok h
      | some (suc n) ↦ skip f (past (suc n) h)
    ]

-- ---- one token

-- a token with its length, or the number of a refusal
pub data Scanned : Type 0 where
  token : Token → ℕ → Scanned
  fault : ℕ → Scanned

-- "1 to 255 bytes"
unfoldable pub named : ℕ → List ℕ → Scanned
named n s = when leb n 255 then token (name (take n s)) n else fault 6

-- n bytes and the digits after them; 0 where there are none
unfoldable pub digits_after : ℕ → List ℕ → ℕ
digits_after n s = elim (span digit (drop n s)) [ zero ↦ 0 | suc k ↦ n + suc k ]

unfoldable pub sign : (ℕ → Bool) → ℕ → ℕ
sign p b = when p b then 1 else 0

-- "an optional minus and one or more digits"; "`.` and digits"; "`e`/`E` with optional sign and digits": the length of each at the front
unfoldable pub whole : List ℕ → ℕ
whole s = digits_after (sign (is "-") (at s 0)) s

unfoldable pub fraction : List ℕ → ℕ
fraction s = when is "." (at s 0) then digits_after 1 s else 0

unfoldable pub exponent : List ℕ → ℕ
exponent s = when among "eE" (at s 0) then digits_after (1 + sign (among "+-") (at s 1)) s else 0

-- the number at the front of s, whose integer part has n bytes, and which has m bytes in all:
-- "it may not be followed at once by a name byte or `.`"; a decimal has at most 4,095 bytes
unfoldable pub number : ℕ → ℕ → List ℕ → Scanned
number n m s =
    when eqb n 0 || goes_on (at s m) || is "." (at s m) then fault 2 else
    when ltb n m then (when leb m 4095 then token (literal (decimal (take m s))) m else fault 6) else
    when in_range (valued (take n s)) then token (literal (integer (valued (take n s)))) n else fault 4

-- a byte of a string: "no raw LF or CR"; "three octal digits, the first 0 to 3". The byte that is meant, and how many bytes mean it
unfoldable pub meant : List ℕ → Option (ℕ × ℕ)
meant s =
    when among "\n\r" (at s 0) || empty s then none else
    when not (is "\\" (at s 0)) then some (at s 0, 1) else
    when between "0" "3" (at s 1) && octal (at s 2) && octal (at s 3) then some ((at s 1 - 48) * 64 + (at s 2 - 48) * 8 + (at s 3 - 48), 4) else
    elim (escaped (at s 1)) [ none ↦ none | some b ↦ some (b, 2) ]

-- the bytes up to the closing `"`, as meant, and how many bytes of the source they are, it included
unfoldable pub quoted : ℕ → List ℕ → Option (List ℕ × ℕ)
quoted zero s = none
quoted (suc f) s =
    elim (is "\"" (at s 0)) [
      | true ↦ some ([], 1)
      | false ↦ elim (meant s) [
        | none ↦ none
        | some m ↦ elim (quoted f (drop m.1 s)) [ none ↦ none | some r ↦ some (m.0 ∷ r.0, m.1 + r.1) ]
      ]
    ]

-- "Decoded, at most 4,095 bytes"
unfoldable pub text : Option (List ℕ × ℕ) → Scanned
text none = fault 2
text (some r) = when leb (length r.0) 4095 then token (literal (string r.0)) (suc r.1) else fault 6

-- the token at the front of s, nothing being skipped: "The longest number is taken"
unfoldable pub scan : List ℕ → Scanned
scan s =
    let b = at s 0 in
    when empty s then token end 0 else
    when starts b then named (span goes_on s) s else
    when digit b || is "-" b then (let n = whole s in let m = n + fraction (drop n s) in number n (m + exponent (drop m s)) s) else
    when is "\"" b then text (quoted (length s) (drop 1 s)) else
    when among ";,{}[]:" b then token (mark b) 1 else
    fault 2

-- ---- the next token

-- the token, where it stands, and what is after it; or the refusal at the token
unfoldable pub found : Here → Scanned → Answer (Token × Here × Here)
found h (token t n) = ok (t, h, past n h)
found h (fault n) = refused n h.place

unfoldable pub next : Here → Answer (Token × Here × Here)
next h = do
  h ← skip (length h.rest) h
  found h (scan h.rest)
