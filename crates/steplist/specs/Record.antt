-- What the code answers of one step record. Assumes nothing.
use Rattle.std.specs.Prelude.{ℕ, ◌+◌, ◌≤◌, ◌≡◌, Bool, true, false, ◌&&◌, ◌||◌, List, length, leb, eqb}
use Rattle.std.proofs.Math.Option.{some}
use Rattle.std.specs.Prelude.{Option as RustOption, Some, None}
use Rattle.layout.specs.declared.walk.Place.{Place}
use Rattle.paper.specs.Maybe.{◌>>=◌, require}
use Rattle.paper.specs.Decoder.{record_at}
use Rattle.paper.specs.StepDecoder.{stops, bare}
use Rattle.paper.specs.DecodeAt.{word, cursor}

-- no statement stands at i, wherever the text stands
abbrev pub StopsIs : List ℕ → ℕ → Bool → Type 0
StopsIs recs i r = (text : List ℕ) (p : ℕ) → r ≡ stops (cursor recs text i p)

-- a take or an enter stands at i
unfoldable pub opens_at : List ℕ → ℕ → Bool
opens_at recs i = leb (i + 20) (length recs) && (eqb (word 2 recs i) 2 || eqb (word 2 recs i) 3)

-- a record of this step, with nothing else, stands at i, or does not
abbrev pub ClosesIs : List ℕ → ℕ → ℕ → Bool → Type 0
ClosesIs recs i step r = (text : List ℕ) (p : ℕ) → record_at 4 (cursor recs text i p) >>= (λ y. bare step y.0 >>= λ _. some y.1) ≡ require r >>= λ _. some (cursor recs text (i + 20) p)

-- it stands there, and what is given is the place past it; or it does not
abbrev pub ClosedIs : List ℕ → Place → ℕ → RustOption Place → Type 0
ClosedIs recs at step (Some past) = ClosesIs recs at.record step true × (past.record ≡ at.record + 20) × (past.text ≡ at.text) × (past.record ≤ length recs)
ClosedIs recs at step None = ClosesIs recs at.record step false
