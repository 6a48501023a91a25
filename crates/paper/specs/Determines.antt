-- What it is that a contract determines a function's results (document 01, "How much the contracts must say"): "That any
-- two results allowed by it coincide is proved". Assumes nothing.
use Rattle.std.specs.Prelude.{◌≡◌}

infixr 20 ◌&◌
-- values, one after the other
pub data Both (A B : Type 0) : Type 0 where
  ◌&◌ : A → B → Both A B

-- `Allows` is a function's contract as the check has it, `Post` of the function's `Reads`: of the lifetimes, of the
-- parameters when it is called, of its result, and of the parameters when it returns. `given` is what counts of the first
-- parameters: the bytes of each slice, not where they lie, and each number. `seen` is what counts at the end: the result,
-- and the bytes of each slice that is lent to be written.
-- Two results that the contract allows where the same is given are seen alike.
abbrev pub Determines : {K : Type 0} {A R S : K → Type 0} {I E : Type 0} → ((κs : K) → A κs → R κs → S κs → Type 0)
    → ((κs : K) → A κs → I) → ((κs : K) → R κs → S κs → E) → Type 0
Determines {K} {A} {R} {S} Allows given seen =
    (κs κs' : K) (a : A κs) (a' : A κs') (r : R κs) (r' : R κs') (s : S κs) (s' : S κs')
    → given κs a ≡ given κs' a' → Allows κs a r s → Allows κs' a' r' s' → seen κs r s ≡ seen κs' r' s'
