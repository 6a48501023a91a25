-- What the code answers of numbers, as the paper's answers. Assumes nothing.
use Rattle.std.specs.Prelude.{ℕ, ◌+◌, ◌≤◌, ◌<◌, List, length, drop, get_or, leb, ℤ, Option, Some, None}
use Rattle.paper.specs.Bytes.{when◌then◌else◌}
use Rattle.paper.specs.Tokens.{in_range}
use Rattle.paper.specs.Scanner.{fraction, exponent}
use Rattle.paper.specs.Layout.{complement}

-- the length of the number at the front of s, whose integer part has n bytes
unfoldable pub number_len : ℕ → List ℕ → ℕ
number_len n s = let m = n + fraction (drop n s) in m + exponent (drop m s)

-- no byte is below `0`
abbrev pub Digits : List ℕ → Type 0
Digits s = (i : ℕ) → i < length s → 48 ≤ get_or s i 0

unfoldable pub amount_of : ℕ → ℕ → Option ℕ
amount_of limit v = when leb v limit then Some v else None

unfoldable pub integer_of : ℤ → Option ℕ
integer_of z = when in_range z then Some (complement z) else None
