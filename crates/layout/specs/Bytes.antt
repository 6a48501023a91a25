-- What every slice of bytes tells: a byte is below 256. Assumes nothing.
use Rattle.std.specs.Prelude.{ℕ, ◌<◌, List, get_or}

abbrev pub AreBytes : List ℕ → Type 0
AreBytes s = (k : ℕ) → get_or s k 0 < 256
