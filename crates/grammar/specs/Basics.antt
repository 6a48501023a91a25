-- What the readers of basics answer, by cases: what is left to read once a basic has begun. Assumes nothing.
use Rattle.std.specs.Prelude.{ℕ, suc, ◌+◌, ◌*◌, ◌-◌, ◌≤◌, ◌<◌, ◌≡◌, true, false, List, [], ltb, length, Result, Ok, Err}
use Rattle.paper.specs.Bytes.{when◌then◌else◌}
use Rattle.paper.specs.Answer.{Answer, ok, ◌>>=◌, demand}
use Rattle.paper.specs.Tokens.{Here, is_mark}
use Rattle.paper.specs.Scanner.{next}
use Rattle.grammar.specs.Drafts.{Drafted, one, several, draft_basic, draft_basics}
use Rattle.grammar.specs.Places.{here}
use Rattle.kinds.specs.Numbers.{kind_number}
use Rattle.kinds.specs.declared.Kind.TheVariants as kinds
use Rattle.refusal.specs.declared.Refusal.{Refusal}
use Rattle.grammar.specs.Refusals.{Refuses}
use Rattle.grammar.specs.declared.basic.Basic.{Basic}
use Rattle.grammar.specs.declared.basic.Basic.TheVariants.{Boolean, Null, Integer, Decimal, Text, Data, Vector}
use Rattle.grammar.specs.declared.basic.FoundBasic.{FoundBasic}
use Rattle.grammar.specs.declared.basic.Laid.{Laid}
use Rattle.grammar.specs.declared.basic.Laid.TheVariants.{Plain, Opened}

-- kind, value, bytes of text
abbrev pub laid_of : Basic → Laid
laid_of (Boolean true) = Plain kinds.Boolean 1 0
laid_of (Boolean false) = Plain kinds.Boolean 0 0
laid_of Null = Plain kinds.Null 0 0
laid_of (Integer x) = Plain kinds.Integer x 0
laid_of (Decimal p z) = Plain kinds.Decimal p z
laid_of (Text p z) = Plain kinds.Text p z
laid_of (Data p z) = Plain kinds.Reference p z
laid_of (Vector p) = Opened p

abbrev pub laid_size : Laid → ℕ
laid_size (Plain k v z) = z
laid_size (Opened p) = 0

-- the bracket at p was passed: what is left of the vector
unfoldable pub rest_vector : ℕ → ℕ → ℕ → Here → Answer (Drafted × Here)
rest_vector f d p at = do
  _ ← demand (ltb 0 d) 5 p
  (u, _, closed) ← next at
  when is_mark "]" u then ok (several [], closed) else (do
    (is, at) ← draft_basics f (d - 1) at
    ok (several is, at))

abbrev pub rest_laid : ℕ → ℕ → Laid → Here → Answer (Drafted × Here)
rest_laid f d (Plain k v z) at = ok (one (kind_number k) v z, at)
rest_laid f d (Opened p) at = rest_vector f d p at

-- what was found of a basic, up to e, leaves this to be read
pub record BasicFound (s : List ℕ) (at : ℕ) (b : Basic) (e : ℕ) : Type 0 where
  pub is : (f d : ℕ) → draft_basic (suc f) d (here s at) ≡ rest_laid f d (laid_of b) (here s e)
  pub ahead : at < e
  pub within : e ≤ length s
  pub light : laid_size (laid_of b) + 3 * at ≤ 3 * e

abbrev pub FoundIs : List ℕ → ℕ → Result FoundBasic Refusal → Type 0
FoundIs s at (Ok r) = BasicFound s at r.basic r.next
FoundIs s at (Err e) = (f d : ℕ) → Refuses (draft_basic (suc f) d (here s at)) e
