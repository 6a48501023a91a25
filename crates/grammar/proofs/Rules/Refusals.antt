-- What a `?` hands on is the refusal that it met. Assumes nothing.
use Rattle.std.specs.Prelude.{Result, Ok, Err, IsErrAnd}
use mathlib.Core.Path.{◌≡◌, ap}
use Rattle.refusal.specs.declared.Refusal.{Refusal}

pub handed_on : {T : Type 0} (r : Result T Refusal) {e : Refusal} → IsErrAnd r (λ y. y ≡ e) → r ≡ Err e
handed_on (Ok x) a = absurd a
handed_on (Err y) a = ap Err a
