-- The steps of a description (document 01, "Layouts"). Assumes nothing.
use Rattle.std.specs.Prelude.{ℕ, List, [], ◌∷◌, ◌++◌}
use Rattle.paper.specs.Syntax.{Path, Basic, Block, εᴮ, ◌∷ᴮ◌, Statement, assign, Value, basic, extends, Prototypes, εᴾ, named, block}

-- An ℕ is a place in the source. A set holds its vector whole: its items are a matter of layout.
pub data Step : Type 0 where
  make : ℕ → Path → Step
  take : ℕ → Path → Step
  enter leave done : Step
  set : ℕ → Path → Basic → Step
  link : ℕ → Path → Path → Step

-- ---- translating

-- "Done closes its make, as leave closes its enter; a component with one block is make, enter, its statements, leave, done."
unfoldable mutual
  pub steps : Block → List Step
  steps εᴮ = []
  steps (a ∷ᴮ b) = statement_steps a ++ steps b

  pub statement_steps : Statement → List Step
  statement_steps (assign r v) = value_steps v r

  pub value_steps : Value → Path → List Step
  value_steps (basic p b) r = set p r b ∷ []
  value_steps (Value.link p l) r = link p r l ∷ []
  value_steps (extends p ps) r = make p r ∷ prototype_steps ps ++ (done ∷ [])

  pub prototype_steps : Prototypes → List Step
  prototype_steps εᴾ = []
  prototype_steps (named p l ps) = take p l ∷ prototype_steps ps
  prototype_steps (block b ps) = enter ∷ steps b ++ (leave ∷ prototype_steps ps)
