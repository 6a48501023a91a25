-- What the code answers of a text that begins at a place: where it ends, as the paper's readers say. Assumes nothing.
use Rattle.std.specs.Prelude.{ℕ, ◌+◌, ◌-◌, ◌≤◌, ◌≡◌, Bool, not, ◌&&◌, List, length, take, drop}
use Rattle.std.specs.Prelude.{Option as RustOption, Some, None}
use Rattle.std.proofs.Math.Option.{Option, none, some}
use Rattle.paper.specs.Tokens.{reserved, member}
use Rattle.paper.specs.Scanner.{scan}
use Rattle.paper.specs.Decoder.{Cursor, one_name, one_decimal, long_of, leaf, field}
use Rattle.paper.specs.DecodeAt.{cursor}

-- a name, and not reserved; a decimal
unfoldable pub legal_name : List ℕ → Bool
legal_name s = one_name (length s) (scan s) && not (member s reserved)

unfoldable pub legal_decimal : List ℕ → Bool
legal_decimal s = one_decimal (length s) (scan s)

-- a reader that stood at p of the text found something, and then stands at q
pub record Ends {A : Type 0} (o : Option (A × List ℕ)) (text : List ℕ) (p q : ℕ) : Type 0 where
  pub what : A
  pub is : o ≡ some (what, drop q text)
  pub on : p ≤ q
  pub within : q ≤ length text

abbrev pub EndIs : {A : Type 0} → Option (A × List ℕ) → List ℕ → ℕ → RustOption ℕ → Type 0
EndIs o text p (Some q) = Ends o text p q
EndIs o text p None = o ≡ none

-- the same of a string's or a decimal's text, whose bytes are then those from p + 2 to q
pub record LongEnds (text : List ℕ) (p q : ℕ) : Type 0 where
  pub is : long_of (drop p text) ≡ some (take (q - (p + 2)) (drop (p + 2) text), drop q text)
  pub on : p + 2 ≤ q
  pub within : q ≤ length text

abbrev pub LongIs : List ℕ → ℕ → RustOption ℕ → Type 0
LongIs text p (Some q) = LongEnds text p q
LongIs text p None = long_of (drop p text) ≡ none

-- a reader that stood at p of the text found something, and then stands at q, wherever the records stand
abbrev pub FoundIs : {A : Type 0} → (Cursor → Option (A × Cursor)) → List ℕ → ℕ → RustOption ℕ → Type 0
FoundIs {A} read text p (Some q) = (recs : List ℕ) (i : ℕ) → (a : A) × (read (cursor recs text i p) ≡ some (a, cursor recs text i q))
FoundIs read text p None = (recs : List ℕ) (i : ℕ) → read (cursor recs text i p) ≡ none

-- it read a basic of kind k and value v that is no vector
abbrev pub LeafIs : List ℕ → ℕ → ℕ → ℕ → RustOption ℕ → Type 0
LeafIs text k v p = FoundIs (leaf k v) text p

-- it read a text whose place a record says
abbrev pub FieldIs : {A : Type 0} → (List ℕ → Option (A × List ℕ)) → List ℕ → ℕ → ℕ → RustOption ℕ → Type 0
FieldIs r text place p = FoundIs (field r place) text p
