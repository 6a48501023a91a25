-- What a C function answers, and what the lent slices hold when it returns. Assumes nothing.
use Rattle.std.specs.Prelude.{ℕ, ◌+◌, ◌*◌, List}
use Rattle.paper.specs.Answer.{Answer, ok, refused}
use Rattle.paper.specs.Lent.{Outcome}

-- how many bytes were written, or a refusal as number × 2³² + place
unfoldable pub coded : Answer ℕ → ℕ
coded (ok n) = n
coded (refused n p) = n * 4294967296 + p

pub record Called : Type 0 where
  pub result : ℕ
  pub output : List ℕ
  pub works : List (List ℕ)

-- an operation's outcome, as C sees it
unfoldable pub in_c : Outcome → Called
in_c x = record { result = coded x.answer; output = x.output; works = x.works }
