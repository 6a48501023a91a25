-- What the code answers of strings, as the paper's answers. Assumes nothing.
use Rattle.std.specs.Prelude.{ℕ, ◌+◌, Bool, true, false, List, [], ◌++◌, length, take, drop, Some, None}
use Rattle.std.specs.Prelude as Rust
use Rattle.std.proofs.Math.Option.{Option, none, some}
use Rattle.paper.specs.Scanner.{quoted}
use Rattle.spelling.specs.declared.text.Meant.{Meant}
use Rattle.spelling.specs.declared.text.Quoted.{Quoted}

-- what the paper finds, as the code says it
unfoldable pub option_of : {A : Type 0} → Option A → Rust.Option A
option_of none = None
option_of (some x) = Some x

unfoldable pub meant_of : Option (ℕ × ℕ) → Rust.Option Meant
meant_of none = None
meant_of (some m) = Some (record { byte = m.0; len = m.1 })

-- the string that stands here, after its opening quote
unfoldable pub quotes : List ℕ → Option (List ℕ × ℕ)
quotes s = quoted (length s) s

-- n bytes and then these, which end after the place i
unfoldable pub quoted_of : ℕ → ℕ → Option (List ℕ × ℕ) → Rust.Option Quoted
quoted_of n i none = None
quoted_of n i (some r) = Some (record { count = n + length r.0; end = i + r.1 })

unfoldable pub is_closed : Option (List ℕ × ℕ) → Bool
is_closed none = false
is_closed (some r) = true

unfoldable pub text_in : Option (List ℕ × ℕ) → List ℕ
text_in none = []
text_in (some r) = r.0

-- the bytes o with t in them from a place on
unfoldable pub put : ℕ → List ℕ → List ℕ → List ℕ
put at t o = take at o ++ t ++ drop (at + length t) o
