-- The decoders by index, as code has it: the records and the text are two slices of bytes, and a reader stands at a place
-- in each. Assumes nothing.
use Rattle.std.specs.Prelude.{ℕ, zero, suc, ◌+◌, ◌*◌, List, ◌++◌, length, drop, get_or}
use Rattle.paper.specs.Layout.{little}
use Rattle.paper.specs.Decoder.{Cursor, Raw}

-- the number that n bytes at i are
unfoldable pub word : ℕ → List ℕ → ℕ → ℕ
word zero b i = 0
word (suc n) b i = get_or b i 0 + 256 * word n b (suc i)

-- the record of 16 + w bytes at i
unfoldable pub raw_at : ℕ → List ℕ → ℕ → Raw
raw_at w b i = record { first = word 2 b i; second = word 2 b (i + 2); label = word 2 b (i + 4); span = word 2 b (i + 6); value = word 8 b (i + 8); place = word w b (i + 16) }

-- a reader at i in the records and at p in the text
unfoldable pub cursor : List ℕ → List ℕ → ℕ → ℕ → Cursor
cursor recs text i p = record { recs = drop i recs; text = drop p text; pos = p }

-- the bytes with this header, these records and this text
unfoldable pub headed : ℕ → ℕ → ℕ → List ℕ → List ℕ → List ℕ
headed form count place recs text =
    little 4 form ++ (little 4 (place + length text) ++ (little 4 count ++ (little 4 24 ++ (little 4 (length text) ++ (little 4 place ++ (recs ++ text))))))
