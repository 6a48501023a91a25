-- A place of the source, and the token that is next from there. Assumes nothing.
use Rattle.std.specs.Prelude.{ℕ, ◌≤◌, ◌<◌, ◌≡◌, List, length, drop}
use Rattle.paper.specs.Answer.{ok}
use Rattle.paper.specs.Tokens.{Token, Here}
use Rattle.paper.specs.Scanner.{next}

abbrev pub here : List ℕ → ℕ → Here
here s p = record { place = p; rest = drop p s }

-- the next token from `at` on is t, which stands from p to e
pub record Shown (s : List ℕ) (at : ℕ) (t : Token) (p e : ℕ) : Type 0 where
  pub is : next (here s at) ≡ ok (t, here s p, here s e)
  pub ahead : at ≤ p
  pub some : p < e
  pub within : e ≤ length s

-- the next token is t, which stands at p
pub record Stood (s : List ℕ) (at : ℕ) (t : Token) (p : ℕ) : Type 0 where
  pub after : Here
  pub is : next (here s at) ≡ ok (t, here s p, after)
