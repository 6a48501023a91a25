-- What holds of an answer: Q of the number of a refusal, P of a value. Assumes nothing.
use Prim.Native.Nat.{ℕ}
use native.Mathlib.Omega.{arith}
use mathlib.Core.Path.{◌≡◌, refl, subst}
use mathlib.Core.Bool.{Bool, true, false}
use Rattle.paper.specs.Answer.{Answer, ok, refused, ◌>>=◌, demand}

pub data Gives {X : Type 0} (Q : ℕ → Type 0) (P : X → Type 0) : Answer X → Type 0 where
  gives : {x : X} → P x → Gives Q P (ok x)
  refuses : {n p : ℕ} → Q n → Gives Q P (refused n p)

pub gives_bind : {X Y : Type 0} {Q : ℕ → Type 0} {P : X → Type 0} {R : Y → Type 0} {m : Answer X} (f : X → Answer Y) → Gives Q P m → ((x : X) → P x → Gives Q R (f x)) → Gives Q R (m >>= f)
unfolding ◌>>=◌
gives_bind f (gives {x} h) c = c x h
gives_bind f (refuses q) c = refuses q

pub gives_demand : {Y : Type 0} {Q : ℕ → Type 0} {R : Y → Type 0} (c : Bool) (n p : ℕ) (f : Unit {0} → Answer Y) → Q n → (c ≡ true → Gives Q R (f tt)) → Gives Q R (demand c n p >>= f)
unfolding ◌>>=◌ demand
gives_demand true n p f q g = g refl
gives_demand false n p f q g = refuses q

pub gives_weaken : {X : Type 0} {Q Q' : ℕ → Type 0} {P P' : X → Type 0} {m : Answer X} → ((n : ℕ) → Q n → Q' n) → ((x : X) → P x → P' x) → Gives Q P m → Gives Q' P' m
gives_weaken f g (gives {x} h) = gives (g x h)
gives_weaken f g (refuses {n = n} q) = refuses (f n q)

-- by what the answer is
pub known : {X : Type 0} {Q : ℕ → Type 0} {P : X → Type 0} (m : Answer X) → ((x : X) → m ≡ ok x → P x) → ((n p : ℕ) → m ≡ refused n p → Q n) → Gives Q P m
known (ok x) f g = gives (f x refl)
known (refused n p) f g = refuses (g n p refl)

pub gives_ok : {X : Type 0} {Q : ℕ → Type 0} {P : X → Type 0} {m : Answer X} {x : X} → Gives Q P m → m ≡ ok x → P x
gives_ok {P = P} (gives {x = y} h) e = subst P (inside e) h
  where
    inside : {X : Type 0} {a b : X} → ok a ≡ ok b → a ≡ b
    inside e = cc
gives_ok (refuses q) e = let z : ◌≡◌ {A = ℕ} 0 1 = cc in absurd (omega arith)

pub gives_refused : {X : Type 0} {Q : ℕ → Type 0} {P : X → Type 0} {m : Answer X} {n p : ℕ} → Gives Q P m → m ≡ refused n p → Q n
gives_refused (gives h) e = let z : ◌≡◌ {A = ℕ} 0 1 = cc in absurd (omega arith)
gives_refused {Q = Q} (refuses {n = k} q) e = let i : k ≡ _ = inside e in subst Q i q
  where
    inside : {X : Type 0} {a b c d : ℕ} → ◌≡◌ {A = Answer X} (refused a b) (refused c d) → a ≡ c
    inside e = cc
