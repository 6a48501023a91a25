-- The line of a refusal, `refused N at P`, from its number and its place. Assumes nothing.
use Rattle.std.specs.Prelude.{ℕ, zero, suc, ◌+◌, ◌/◌, ◌%◌, ◌≡◌, true, false, List, [], ◌∷◌, ◌++◌, ltb}
use Rattle.paper.specs.Bytes.{bytes}
use Rattle.paper.specs.Tokens.{count}
use Rattle.paper.specs.Written.{Digits}

-- the digits of n, of which at most k stand before the last
unfoldable pub digits : ℕ → ℕ → List ℕ
digits zero n = (48 + n) ∷ []
digits (suc k) n = elim (ltb n 10) [ true ↦ (48 + n) ∷ [] | false ↦ digits k (n / 10) ++ ((48 + n % 10) ∷ []) ]

-- a number in decimal notation; no more than n digits stand before the last of n
unfoldable pub decimal : ℕ → List ℕ
decimal n = digits n n

-- these bytes are n in decimal notation: one or more digits that say n, the first of them a 0 only if it is the last.
-- `decimal n` is, and no other bytes are (proofs/Decimals)
pub record Notes (n : ℕ) (s : List ℕ) : Type 0 where
  pub says : count 0 s ≡ n
  pub some : Digits s
  pub first : (t : List ℕ) → s ≡ 48 ∷ t → t ≡ []

-- "or one line `refused N at P`": the words of `refusal_text`, with a notation that is proved for every number, and a line's end
unfoldable pub refusal : ℕ → ℕ → List ℕ
refusal number place = bytes "refused " ++ decimal number ++ bytes " at " ++ decimal place ++ 10 ∷ []
