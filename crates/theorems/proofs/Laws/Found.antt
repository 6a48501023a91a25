-- Readers that find a value or nothing: what holds of what they find. Assumes nothing.
use Prim.Native.Nat.{ℕ}
use native.Mathlib.Omega.{arith}
use mathlib.Core.Path.{◌≡◌, refl}
use mathlib.Core.Bool.{Bool, true, false}
use mathlib.Core.Option.{Option, none, some}
use Rattle.paper.specs.Maybe.{◌>>=◌, require}

-- P holds of what is found
pub data Found {X : Type 0} (P : X → Type 0) : Option X → Type 0 where
  nothing : Found P none
  found : {x : X} → P x → Found P (some x)

pub found_bind : {X Y : Type 0} {P : X → Type 0} {Q : Y → Type 0} {m : Option X} (f : X → Option Y) → Found P m → ((x : X) → P x → Found Q (f x)) → Found Q (m >>= f)
unfolding ◌>>=◌
found_bind f nothing c = nothing
found_bind f (found {x} h) c = c x h

pub found_require : {Y : Type 0} {Q : Y → Type 0} (c : Bool) (f : Unit {0} → Option Y) → (c ≡ true → Found Q (f tt)) → Found Q (require c >>= f)
unfolding ◌>>=◌ require
found_require true f g = g refl
found_require false f g = nothing

pub found_some : {X : Type 0} {P : X → Type 0} {m : Option X} {x : X} → Found P m → m ≡ some x → P x
found_some nothing e = let z : ◌≡◌ {A = ℕ} 0 1 = cc in absurd (omega arith)
found_some {P = P} (found {x = y} h) e = let q : _ ≡ _ = Option·some e in rw q at h
  where
    Option·some : {X : Type 0} {a b : X} → some a ≡ some b → a ≡ b
    Option·some e = cc

pub found_last : {Q : Unit {0} → Type 0} (c : Bool) → (c ≡ true → Q tt) → Found Q (require c)
unfolding require
found_last true g = found (g refl)
found_last false g = nothing
