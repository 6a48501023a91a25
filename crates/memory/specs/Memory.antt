-- Bytes at a place of a slice: read, cut out, stored, moved. What does not lie wholly in the slice is read as nothing, and nothing is
-- stored there. Assumes nothing.
use Rattle.std.specs.Prelude.{ℕ, ◌+◌, Bool, true, false, List, [], ◌++◌, length, take, drop, leb}
use Rattle.paper.specs.DecodeAt.{word}

-- n bytes at a place lie in a slice of so many
abbrev pub within : ℕ → ℕ → ℕ → Bool
within size at n = leb (at + n) size

-- the number that n bytes at a place are, the lowest first; else 0
unfoldable pub word_at : ℕ → List ℕ → ℕ → ℕ
word_at n s at = elim (within (length s) at n) [ true ↦ word n s at | false ↦ 0 ]

-- the n bytes at a place; else none
unfoldable pub part_at : List ℕ → ℕ → ℕ → List ℕ
part_at s at n = elim (within (length s) at n) [ true ↦ take n (drop at s) | false ↦ [] ]

-- the slice with these bytes at a place; else as it was
unfoldable pub stored : List ℕ → ℕ → List ℕ → List ℕ
stored s at b = elim (within (length s) at (length b)) [ true ↦ take at s ++ b ++ drop (at + length b) s | false ↦ s ]

-- the slice with its n bytes at one place stored at another; else as it was
unfoldable pub slid : List ℕ → ℕ → ℕ → ℕ → List ℕ
slid s from to n = elim (within (length s) from n) [ true ↦ stored s to (take n (drop from s)) | false ↦ s ]
