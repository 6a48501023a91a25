-- What the code answers of the token at the front, as the paper's answers. Assumes nothing.
use Rattle.std.specs.Prelude.{ℕ, Bool, not, ◌||◌, List, length, Result, Ok, Err}
use Rattle.paper.specs.Bytes.{at, is, when◌then◌else◌}
use Rattle.paper.specs.Tokens.{goes_on, in_range, valued}
use Rattle.paper.specs.Scanner.{Scanned, token, fault, whole, number}
use Rattle.paper.specs.Layout.{complement}
use Rattle.refusal.specs.declared.Reason.{Reason}
use Rattle.refusal.specs.Refused.{number_of}
use Rattle.tokens.specs.declared.Kind.TheVariants.{Integer}
use Rattle.tokens.specs.declared.scan.Front.{Front}
use Rattle.tokens.specs.Kinds.{kind_of}
use Rattle.tokens.specs.Numbers.{number_len}

-- a refusal by its number
abbrev pub by_number : Result Front Reason → Result Front ℕ
by_number (Ok f) = Ok f
by_number (Err r) = Err (number_of r)

unfoldable pub front_of : Scanned → Result Front ℕ
front_of (token t n) = Ok (record { kind = kind_of t; len = n })
front_of (fault n) = Err n

-- the number at the front
unfoldable pub numbered : List ℕ → Scanned
numbered s = number (whole s) (number_len (whole s) s) s

unfoldable pub ends_at : List ℕ → ℕ → Bool
ends_at s m = not (goes_on (at s m) || is "." (at s m))

-- all of s as an integer
unfoldable pub integer_front : List ℕ → Result Front ℕ
integer_front s = when in_range (valued s) then Ok (record { kind = Integer (complement (valued s)); len = length s }) else Err 4
