-- How tokens are written (document 01, "Tokens"), as plain relations: what is skipped, which bytes are which token, and what may not
-- follow. The scanner finds exactly these (proofs/Scanned), so that it need not be read. Assumes nothing.
use Rattle.std.specs.Prelude.{ℕ, ◌+◌, ◌*◌, ◌-◌, ◌≤◌, ◌<◌, ◌≡◌, Bool, true, false, not, List, [], ◌∷◌, ◌++◌, length}
use Prim.Native.Char.{code}
use Rattle.std.proofs.Math.Option.{some}
use Rattle.paper.specs.Bytes.{bytes, at, is, among, between}
use Rattle.paper.specs.Limits.{most_name, most_string}
use Rattle.paper.specs.Syntax.{Basic, boolean, null, integer, decimal, string, reference, vector}
use Rattle.paper.specs.Tokens.{blank, digit, octal, starts, goes_on, in_range, valued, escaped, Token, name, literal, mark, end, Here}

-- every byte passes the test
pub data Each (p : ℕ → Bool) : List ℕ → Type 0 where
  no_more : Each p []
  one_more : {b : ℕ} {s : List ℕ} → p b ≡ true → Each p s → Each p (b ∷ s)

-- ---- what is skipped

-- no byte is an LF
abbrev pub no_LF : ℕ → Bool
no_LF b = not (is "\n" b)

-- nowhere in s stands `*/`
abbrev pub Unclosed : List ℕ → Type 0
Unclosed s = (x y : List ℕ) → s ≡ x ++ (bytes "*/" ++ y) → ⊥

-- "to LF or end of source"
pub data LineEnd : List ℕ → Type 0 where
  at_LF : {s : List ℕ} → LineEnd (code "\n" ∷ s)
  at_end : LineEnd []

-- from the front of s up to r stand only blanks and comments: "space, tab, LF, CR, FF; `//` to LF or end of source; `/*` to the first `*/`"
pub data Skipped : List ℕ → List ℕ → Type 0 where
  nothing : {r : List ℕ} → Skipped r r
  a_blank : {b : ℕ} {s r : List ℕ} → blank b ≡ true → Skipped s r → Skipped (b ∷ s) r
  a_line : {c s r : List ℕ} → Each no_LF c → LineEnd s → Skipped s r → Skipped (bytes "//" ++ (c ++ s)) r
  a_comment : {c s r : List ℕ} → Unclosed c → Skipped s r → Skipped (bytes "/*" ++ (c ++ (bytes "*/" ++ s))) r

-- ---- numbers

-- "one or more digits"
pub data Digits : List ℕ → Type 0 where
  digits : {b : ℕ} {s : List ℕ} → Each digit (b ∷ s) → Digits (b ∷ s)

-- "an optional minus and one or more digits"
pub data Whole : List ℕ → Type 0 where
  plain : {w : List ℕ} → Digits w → Whole w
  minus : {w : List ℕ} → Digits w → Whole (code "-" ∷ w)

-- "`.` and digits", or nothing
pub data Fraction : List ℕ → Type 0 where
  none : Fraction []
  point : {w : List ℕ} → Digits w → Fraction (code "." ∷ w)

-- "`e`/`E` with optional sign and digits", or nothing
pub data Exponent : List ℕ → Type 0 where
  none : Exponent []
  unsigned : {e : ℕ} {w : List ℕ} → among "eE" e ≡ true → Digits w → Exponent (e ∷ w)
  signed : {e s : ℕ} {w : List ℕ} → among "eE" e ≡ true → among "+-" s ≡ true → Digits w → Exponent (e ∷ s ∷ w)

-- ---- strings

-- the bytes after a `"` up to the closing one, and what they say: "no raw LF or CR; escapes `\n \t \b \r \f \\ \" \'` and three octal
-- digits, the first 0 to 3"
pub data Quoted : List ℕ → List ℕ → Type 0 where
  closed : Quoted (code "\"" ∷ []) []
  plain : {b : ℕ} {w t : List ℕ} → among "\"\\\n\r" b ≡ false → Quoted w t → Quoted (b ∷ w) (b ∷ t)
  escape : {e b : ℕ} {w t : List ℕ} → escaped e ≡ some b → Quoted w t → Quoted (code "\\" ∷ e ∷ w) (b ∷ t)
  octals : {x y z : ℕ} {w t : List ℕ} → between "0" "3" x ≡ true → octal y ≡ true → octal z ≡ true → Quoted w t
      → Quoted (code "\\" ∷ x ∷ y ∷ z ∷ w) (((x - 48) * 64 + (y - 48) * 8 + (z - 48)) ∷ t)

-- ---- tokens

-- the bytes of a token, limits aside
pub data Written : List ℕ → Token → Type 0 where
  a_name : {b : ℕ} {w : List ℕ} → starts b ≡ true → Each goes_on w → Written (b ∷ w) (name (b ∷ w))
  an_integer : {w : List ℕ} → Whole w → Written w (literal (integer (valued w)))
  a_decimal : {w x y : List ℕ} → Whole w → Fraction x → Exponent y → 1 ≤ length (x ++ y) → Written (w ++ (x ++ y)) (literal (decimal (w ++ (x ++ y))))
  a_string : {w t : List ℕ} → Quoted w t → Written (code "\"" ∷ w) (literal (string t))
  a_mark : {b : ℕ} → among ";,{}[]:" b ≡ true → Written (b ∷ []) (mark b)
  the_end : Written [] end

-- what may not follow at once: a name is not followed by a name byte; nothing follows the end; and of a number
-- "The longest number is taken; it may not be followed at once by a name byte or `.`." A longer number would go on with a digit, `e` or `E`,
-- which are name bytes, or with `.`: so of the numbers that begin at one place only the longest is apart from what follows.
abbrev pub ApartLiteral : Basic → List ℕ → Type 0
ApartLiteral (boolean b) r = Unit {0}
ApartLiteral null r = Unit {0}
ApartLiteral (integer z) r = (goes_on (at r 0) ≡ false) × (is "." (at r 0) ≡ false)
ApartLiteral (decimal t) r = (goes_on (at r 0) ≡ false) × (is "." (at r 0) ≡ false)
ApartLiteral (string t) r = Unit {0}
ApartLiteral (reference p) r = Unit {0}
ApartLiteral (vector bs) r = Unit {0}

abbrev pub Apart : Token → List ℕ → Type 0
Apart (name n) r = goes_on (at r 0) ≡ false
Apart (literal b) r = ApartLiteral b r
Apart (mark m) r = Unit {0}
Apart end r = r ≡ []

-- the token t stands at h, after what is skipped from `from` on; `after` is after it
pub record Stands (from : Here) (t : Token) (h after : Here) : Type 0 where
  pub skipped : Skipped from.rest h.rest
  pub word : List ℕ
  pub front : h.rest ≡ word ++ after.rest
  pub written : Written word t
  pub apart : Apart t after.rest
  pub where_h : h.place + length h.rest ≡ from.place + length from.rest
  pub where_after : after.place ≡ h.place + length word

-- ---- 2, 4 and 6

-- "1 to 255 bytes"; "Decoded, at most 4,095 bytes (a decimal's text too)", 6; "integer out of range", 4
pub data Over : Token → ℕ → Type 0 where
  long_name : {n : List ℕ} → most_name < length n → Over (name n) 6
  long_decimal : {t : List ℕ} → most_string < length t → Over (literal (decimal t)) 6
  long_string : {t : List ℕ} → most_string < length t → Over (literal (string t)) 6
  out_of_range : {z : _} → in_range z ≡ false → Over (literal (integer z)) 4

-- the next token from `from` on
pub record Next (from : Here) (t : Token) (h after : Here) : Type 0 where
  pub stands : Stands from t h after
  pub within : (n : ℕ) → Over t n → ⊥

-- nothing is skipped at the front of r, not even a comment that is not closed
pub record Settled (r : List ℕ) : Type 0 where
  pub no_blank : blank (at r 0) ≡ false
  pub no_comment : (s : List ℕ) → (r ≡ bytes "//" ++ s → ⊥) × (r ≡ bytes "/*" ++ s → ⊥)

-- there is no next token from `from` on, but a refusal with n at p: a token over its limit; "no whole token here", 2; a comment that is not closed, 2
pub data NoNext (from : Here) : ℕ → ℕ → Type 0 where
  over : {t : Token} {h after : Here} {n : ℕ} → Stands from t h after → Over t n → NoNext from n h.place
  no_token : {r : List ℕ} {p : ℕ} → Skipped from.rest r → p + length r ≡ from.place + length from.rest → Settled r
      → ((t : Token) (word after : List ℕ) → r ≡ word ++ after → Written word t → Apart t after → ⊥) → NoNext from 2 p
  no_close : {s : List ℕ} {p : ℕ} → Skipped from.rest (bytes "/*" ++ s) → p + length (bytes "/*" ++ s) ≡ from.place + length from.rest → Unclosed s → NoNext from 2 p
