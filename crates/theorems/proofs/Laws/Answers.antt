-- Laws of answers: of `do`, of `demand`, of `if`, and of what holds of an answer's value. Assumes nothing.
use Prim.Native.Nat.{ℕ, ◌≤◌}
use mathlib.Core.Path.{◌≡◌, refl}
use mathlib.Core.Bool.{Bool, true, false}
use Rattle.paper.specs.Bytes.{when◌then◌else◌}
use Rattle.paper.specs.Answer.{Answer, ok, refused, ◌>>=◌, demand}

pub assoc : {A B C : Type 0} (m : Answer A) (f : A → Answer B) (g : B → Answer C) → (m >>= f) >>= g ≡ m >>= (λ a. f a >>= g)
unfolding ◌>>=◌
assoc (ok a) f g = refl
assoc (refused n p) f g = refl

pub under : {A B : Type 0} (m : Answer A) {f g : A → Answer B} → ((a : A) → f a ≡ g a) → m >>= f ≡ m >>= g
unfolding ◌>>=◌
under (ok a) h = h a
under (refused n p) h = refl

-- by the two values of a test
pub if_case : {A : Type 0} (P : A → Type 0) (c : Bool) (a b : A) → (c ≡ true → P a) → (c ≡ false → P b) → P (when c then a else b)
unfolding when◌then◌else◌
if_case P true a b f g = f refl
if_case P false a b f g = g refl

-- a value of which P holds, or a refusal that has a number
pub data All {X : Type 0} (P : X → Type 0) : Answer X → Type 0 where
  holds : {x : X} → P x → All P (ok x)
  numbered : {n p : ℕ} → 1 ≤ n → All P (refused n p)

pub all_bind : {X Y : Type 0} {P : X → Type 0} {Q : Y → Type 0} {m : Answer X} (f : X → Answer Y) → All P m → ((x : X) → P x → All Q (f x)) → All Q (m >>= f)
unfolding ◌>>=◌
all_bind f (holds {x} h) c = c x h
all_bind f (numbered a) c = numbered a

pub all_demand : {Y : Type 0} {Q : Y → Type 0} (c : Bool) (n p : ℕ) (f : Unit {0} → Answer Y) → 1 ≤ n → (c ≡ true → All Q (f tt)) → All Q (demand c n p >>= f)
unfolding ◌>>=◌ demand
all_demand true n p f a g = g refl
all_demand false n p f a g = numbered a
