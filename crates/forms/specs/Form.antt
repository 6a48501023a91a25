-- Tables and step lists: the paper's form of each, and what the code reads of a record. Assumes nothing.
use Rattle.std.specs.Prelude.{ℕ, ◌+◌, Bool, List}
use Rattle.paper.specs.Decoder.{Raw}
use Rattle.paper.specs.Decoder as Decoder
use Rattle.paper.specs.TableDecoder.{in_table}
use Rattle.paper.specs.StepDecoder.{in_steps}
use Rattle.memory.specs.Memory.{word_at}
use Rattle.forms.specs.declared.form.Form.{Form}
use Rattle.forms.specs.declared.form.Form.TheVariants.{Table, Steps}

-- the paper's form for each case
unfoldable pub form_of : Form → Decoder.Form
form_of Table = in_table
form_of Steps = in_steps

-- "form (1 step list, 2 table)"
abbrev pub number_of : Form → ℕ
number_of Table = 2
number_of Steps = 1

-- "1,024 steps and 32,768 step text bytes; tables of depth 32, 1,024 nodes and 16,384 text bytes."
abbrev pub most_text : Form → ℕ
most_text Table = 16384
most_text Steps = 32768

-- the bytes of a record: "Table record, 16 bytes", "Step record, 20 bytes"
unfoldable pub size_of : Form → ℕ
size_of form = 16 + (form_of form).width

unfoldable pub top_of : Form → ℕ
top_of form = (form_of form).top

-- the numbers of the record at i, whose last is w bytes long; those that lie outside are 0
unfoldable pub fields : ℕ → List ℕ → ℕ → Raw
fields w recs i =
    record {
      first = word_at 2 recs i;
      second = word_at 2 recs (i + 2);
      label = word_at 2 recs (i + 4);
      span = word_at 2 recs (i + 6);
      value = word_at 8 recs (i + 8);
      place = word_at w recs (i + 16);
    }

unfoldable pub kind_of : Form → List ℕ → ℕ → ℕ
kind_of form recs i = (form_of form).kind_in (fields (form_of form).width recs i)

unfoldable pub fits_in : Form → List ℕ → ℕ → ℕ → Bool
fits_in form recs i d = (form_of form).fits d (fields (form_of form).width recs i)
