-- What may be found or not: `do x ← a; b` is b with what a found for x, or nothing. Assumes nothing.
use Rattle.std.specs.Prelude.{Bool, true, false}
use Rattle.std.proofs.Math.Option.{Option, none, some}

infixl 20 ◌>>=◌
unfoldable pub ◌>>=◌ : {A B : Type 0} → Option A → (A → Option B) → Option B
none >>= f = none
some a >>= f = f a

-- passes where the test holds
unfoldable pub require : Bool → Option (Unit {0})
require true = some tt
require false = none
