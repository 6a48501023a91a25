-- The header, and the records and the text that it tells of. Assumes nothing.
use Rattle.std.specs.Prelude.{ℕ, ◌+◌, ◌*◌, ◌≤◌, ◌≡◌, List, ◌++◌, length}
use Rattle.std.specs.Prelude.{Option as RustOption, Some, None}
use Rattle.std.proofs.Math.Option.{Option, none, some}
use Rattle.paper.specs.Decoder.{Cursor, header}
use Rattle.paper.specs.DecodeAt.{cursor}
use Rattle.paper.specs.Layout.{little}
use Rattle.memory.specs.Memory.{word_at, part_at}
use Rattle.forms.specs.declared.form.Form.{Form}
use Rattle.forms.specs.Form.{number_of, size_of, most_text}

-- the paper's reader of the header
unfoldable pub header_in : Form → List ℕ → Option (ℕ × Cursor)
header_in form b = header (number_of form) (size_of form) 1024 (most_text form) b

-- the records and the text, by the header's own numbers
unfoldable pub records_of : Form → List ℕ → List ℕ
records_of form b = part_at b 24 (size_of form * word_at 4 b 8)

unfoldable pub text_of : List ℕ → List ℕ
text_of b = part_at b (word_at 4 b 20) (word_at 4 b 16)

-- a header that is as it should be, and says that there are n records
pub record Sized (form : Form) (b : List ℕ) (n : ℕ) : Type 0 where
  pub is : header_in form b ≡ some (n, cursor (records_of form b) (text_of b) 0 0)
  pub few : n ≤ 1024
  pub many : length (records_of form b) ≡ size_of form * n
  pub short : length (text_of b) ≤ most_text form

abbrev pub SizeIs : Form → List ℕ → RustOption ℕ → Type 0
SizeIs form b (Some n) = Sized form b n
SizeIs form b None = header_in form b ≡ none

-- "Header of six u32: form (1 step list, 2 table), total length, record count, record offset (24), text length, text offset."
unfoldable pub header_of : Form → ℕ → ℕ → List ℕ
header_of form n t =
    let place = 24 + size_of form * n in
    little 4 (number_of form) ++ (little 4 (place + t) ++ (little 4 n ++ (little 4 24 ++ (little 4 t ++ little 4 place))))
