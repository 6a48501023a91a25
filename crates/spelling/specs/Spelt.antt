-- A part of the source, and what a string token means, as the paper's answers. Assumes nothing.
use Rattle.std.specs.Prelude.{ℕ, ◌+◌, ◌-◌, ◌&&◌, List, [], length, take, drop, leb}
use Rattle.paper.specs.Bytes.{when◌then◌else◌}
use Rattle.paper.specs.Syntax.{Basic, boolean, null, integer, decimal, string, reference, vector}
use Rattle.paper.specs.Tokens.{name, literal, mark, end}
use Rattle.paper.specs.Scanner.{Scanned, token, fault}
use Rattle.spelling.specs.Text.{put}

-- from one place of s to another; nothing where they are none
unfoldable pub part_of : ℕ → ℕ → List ℕ → List ℕ
part_of at stop s = when leb at stop && leb stop (length s) then take (stop - at) (drop at s) else []

-- what a string token means; nothing of any other
unfoldable pub string_of : Basic → List ℕ
string_of b = elim b [ boolean x ↦ [] | null ↦ [] | integer z ↦ [] | decimal t ↦ [] | string t ↦ t | reference r ↦ [] | vector bs ↦ [] ]

unfoldable pub text_of : Scanned → List ℕ
text_of (token t n) = elim t [ name m ↦ [] | literal b ↦ string_of b | mark m ↦ [] | end ↦ [] ]
text_of (fault n) = []

pub record Decoded : Type 0 where
  pub count : ℕ
  pub out : List ℕ

-- what the token at the front means, written from a place of o on, where it fits
unfoldable pub decoded : Scanned → ℕ → List ℕ → Decoded
decoded x at o =
    let t = text_of x in
    when leb (at + length t) (length o) then record { count = length t; out = put at t o } else record { count = 0; out = o }
