-- What the code answers of what is skipped, as the paper's answers. Assumes nothing.
use Rattle.std.specs.Prelude.{ℕ, List, length}
use Rattle.paper.specs.Answer.{Answer, ok, refused}
use Rattle.paper.specs.Tokens.{Here}
use Rattle.paper.specs.Scanner as Scanner

-- all that is skipped at the front of s, which stands at p
unfoldable pub skips : ℕ → List ℕ → Answer Here
skips p s = Scanner.skip (length s) (record { place = p; rest = s })

-- where the next token stands
unfoldable pub place_of : Answer Here → Answer ℕ
place_of (ok h) = ok h.place
place_of (refused n p) = refused n p
