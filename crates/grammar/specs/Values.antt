-- What the readers of values answer, by cases: what is left to read once a value has begun. Assumes nothing.
use Rattle.std.specs.Prelude.{ℕ, suc, ◌+◌, ◌*◌, ◌≤◌, ◌<◌, ◌≡◌, List, [], ◌∷◌, ◌++◌, length, Result, Ok, Err}
use Rattle.paper.specs.Answer.{Answer, ok, ◌>>=◌}
use Rattle.paper.specs.Tokens.{Here}
use Rattle.paper.specs.Reader.{expect}
use Rattle.refusal.specs.declared.Refusal.{Refusal}
use Rattle.grammar.specs.Drafts.{Draft, set_draft, make_draft, bare_draft, link_draft, draft_value, draft_prototypes}
use Rattle.grammar.specs.Places.{here}
use Rattle.grammar.specs.Refusals.{Refuses}
use Rattle.grammar.specs.Basics.{laid_of, laid_size, rest_laid}
use Rattle.grammar.specs.declared.value.Value.{Value}
use Rattle.grammar.specs.declared.value.Value.TheVariants.{Basic, Link, Extends}
use Rattle.grammar.specs.declared.value.FoundValue.{FoundValue}

-- what is left of a value whose statement's target stands at p, its path taking z bytes
unfoldable pub rest_value : ℕ → ℕ → ℕ → ℕ → Value → Here → Answer (List Draft × Here)
rest_value f d p z (Basic b) at = do
  (c, at) ← rest_laid f d (laid_of b) at
  at ← expect ";" at
  ok (set_draft p z c, at)
rest_value f d p z (Link r) at = do
  at ← expect ";" at
  ok (link_draft p r.place (z + r.size) ∷ [], at)
rest_value f d p z Extends at = do
  (ds, at) ← draft_prototypes (suc f) d at
  ok (make_draft p z ∷ ds ++ (bare_draft 5 ∷ []), at)

abbrev pub value_size : Value → ℕ
value_size (Basic b) = laid_size (laid_of b)
value_size (Link r) = r.size
value_size Extends = 0

pub record ValueFound (s : List ℕ) (at : ℕ) (v : Value) (e : ℕ) : Type 0 where
  pub is : (f d p z : ℕ) → draft_value (suc (suc f)) d p z (here s at) ≡ rest_value f d p z v (here s e)
  pub ahead : at < e
  pub within : e ≤ length s
  pub light : value_size v + 3 * at ≤ 3 * e

abbrev pub BegunIs : List ℕ → ℕ → Result FoundValue Refusal → Type 0
BegunIs s at (Ok r) = ValueFound s at r.value r.next
BegunIs s at (Err e) = (f d p z : ℕ) → Refuses (draft_value (suc (suc f)) d p z (here s at)) e
