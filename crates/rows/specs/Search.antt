-- What is looked for among rows. Assumes nothing.
use Rattle.std.specs.Prelude.{ℕ, suc, ◌+◌, Bool, false, ◌&&◌, List, [], ◌∷◌, drop, ltb, eqb}
use Rattle.std.specs.Prelude as Std
use Rattle.std.proofs.Math.Option.{Option, none, some}
use Rattle.paper.specs.Bytes.{same, when◌then◌else◌}
use Rattle.paper.specs.Syntax.{Name}
use Rattle.paper.specs.Layout.{Field, number, text, Row}

-- a label is this name's
unfoldable pub calls : Field → Name → Bool
calls (number k) n = false
calls (text s) n = same (drop 1 s) n

-- From index i on, the first row of depth d with this name, before the first row that is less deep.
unfoldable pub seek : Name → ℕ → List Row → ℕ → Option ℕ
seek n d [] i = none
seek n d (x ∷ xs) i =
    when ltb x.second d then none else
    when eqb x.second d && calls x.label n then some i else
    seek n d xs (suc i)

-- what the code answers
abbrev pub found : Std.Option ℕ → Option ℕ
found (Std.Some i) = some i
found Std.None = none

-- how many rows of depth d or more come first
unfoldable pub deeper : ℕ → List Row → ℕ
deeper d [] = 0
deeper d (x ∷ xs) = when ltb x.second d then 0 else suc (deeper d xs)

-- how many text bytes rows have
unfoldable pub text_bytes : List Row → ℕ
text_bytes [] = 0
text_bytes (x ∷ xs) = x.span + text_bytes xs
