-- What is wanted of the store that the steps give, and how it is answered in lent slices. Assumes nothing.
use Rattle.std.specs.Prelude.{ℕ, List, [], ◌∷◌, length, leb}
use Rattle.paper.specs.Answer.{demand, ◌>>=◌}
use Rattle.paper.specs.Answer as Paper
use Rattle.paper.specs.Store.{Store}
use Rattle.paper.specs.Lent.{Outcome, told, written, cleared}
use Rattle.run.specs.declared.wanted.Wanted.{Wanted}
use Rattle.run.specs.declared.wanted.Wanted.TheVariants.{Whole, Main}
use Rattle.run.specs.Runs.{whole_of, main_of}

abbrev pub wanted_of : Wanted → Paper.Answer Store → Paper.Answer (List ℕ)
wanted_of Whole = whole_of
wanted_of Main = main_of

-- the answer where no lent slice is too short
unfoldable pub lent : Paper.Answer (List ℕ) → ℕ → ℕ → ℕ → Paper.Answer (List ℕ)
lent a output work₁ work₂ = do
  _ ← demand (leb 32792 output) 8 0
  _ ← demand (leb 65536 work₁) 8 0
  _ ← demand (leb 65536 work₂) 8 0
  a

unfoldable pub settled : Paper.Answer (List ℕ) → List ℕ → List ℕ → List ℕ → Outcome
settled a output work₁ work₂ =
    let b = lent a (length output) (length work₁) (length work₂) in
    record { answer = told b; output = written b output; works = cleared b work₁ ∷ cleared b work₂ ∷ [] }
