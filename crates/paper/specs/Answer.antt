-- Answers (document 01, "Refusal numbers"): a value, or a refusal with its number and its place. Assumes nothing.
use Rattle.std.specs.Prelude.{ℕ, Bool, true, false}

pub data Answer (A : Type 0) : Type 0 where
  ok : A → Answer A
  refused : ℕ → ℕ → Answer A

infixl 20 ◌>>=◌
-- `do x ← a; b`: b with a's value for x, or a's refusal. The first refusal is the answer.
unfoldable pub ◌>>=◌ : {A B : Type 0} → Answer A → (A → Answer B) → Answer B
ok a >>= f = f a
refused n p >>= f = refused n p

-- passes where the test holds; else refused with number n at place p
unfoldable pub demand : Bool → ℕ → ℕ → Answer (Unit {0})
demand true n p = ok tt
demand false n p = refused n p
