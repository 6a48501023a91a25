-- What the code answers of records: where those that it was asked for end, as the paper's readers say. Assumes nothing.
use Rattle.std.specs.Prelude.{ℕ, ◌+◌, ◌≤◌, ◌≡◌, Bool, ◌&&◌, List, length, leb}
use Rattle.std.specs.Prelude.{Option as RustOption, Some, None}
use Rattle.std.proofs.Math.Option.{Option, none, some}
use Rattle.paper.specs.Maybe.{◌>>=◌}
use Rattle.paper.specs.Syntax.{Basic, Basics}
use Rattle.paper.specs.Decoder.{Cursor, record_at}
use Rattle.paper.specs.DecodeAt.{word, cursor}
use Rattle.paper.specs.DecodeFrom.{basic_from, elements_from}
use Rattle.forms.specs.declared.form.Form.{Form}
use Rattle.layout.specs.declared.walk.Place.{Place}
use Rattle.forms.specs.Form.{form_of, size_of}

-- what every node must have, whatever its kind: it lies within, is not too deep, and spans one node or more and no more than are left
unfoldable pub heads : Form → List ℕ → ℕ → ℕ → ℕ → Bool
heads form recs i d n = leb (i + size_of form) (length recs) && (leb d 32 && (leb 1 (word 2 recs (i + 6)) && leb (word 2 recs (i + 6)) n))

-- a reader found something, and then stands at i in the records and at p in the text
abbrev pub WalkIs : {A : Type 0} → Option (A × Cursor) → List ℕ → List ℕ → RustOption Place → Type 0
WalkIs {A} o recs text (Some at) = (a : A) × (o ≡ some (a, cursor recs text at.record at.text))
WalkIs o recs text None = o ≡ none

-- it stands no further than the records end, so that the place is the only one
abbrev pub Inside : List ℕ → RustOption Place → Type 0
Inside recs (Some at) = at.record ≤ length recs
Inside recs None = Unit {0}

-- the readers, at places
unfoldable pub basic_here : Form → List ℕ → List ℕ → ℕ → ℕ → ℕ → ℕ → Option (Basic × Cursor)
basic_here form recs text d m i p = record_at (form_of form).width (cursor recs text i p) >>= λ x. basic_from (form_of form) d ((form_of form).kind_in x.0) m x.0.value x.1

unfoldable pub elements_here : Form → List ℕ → List ℕ → ℕ → ℕ → ℕ → ℕ → Option (Basics × Cursor)
elements_here form recs text d n i p = elements_from (form_of form) d n (cursor recs text i p)
