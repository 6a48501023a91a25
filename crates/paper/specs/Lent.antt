-- Lent slices (document 01, "Refusal numbers"): what a caller is told, what each lent slice holds afterwards, and 8.
-- Assumes nothing.
use Rattle.std.specs.Prelude.{ℕ, ◌≤◌, ◌≡◌, true, false, List, [], ◌∷◌, ◌++◌, map, length, drop, replicate, eqb}
use Rattle.paper.specs.Limits.{least_work}
use Rattle.paper.specs.Answer.{Answer, ok, refused}

-- ---- what the caller is told, and the lent slices afterwards

-- how many bytes were written, or the refusal
unfoldable pub told : Answer (List ℕ) → Answer ℕ
told (ok b) = ok (length b)
told (refused n p) = refused n p

-- "Refusal writes nothing to the output; success writes total-length bytes and no more."
unfoldable pub written : Answer (List ℕ) → List ℕ → List ℕ
written (ok b) output = b ++ drop (length b) output
written (refused n p) output = output

-- "Work slices: untouched by 8, else 65,536 zero bytes and the rest untouched."
unfoldable pub zeros : ℕ → List ℕ
zeros n = replicate n 0

unfoldable pub wiped : List ℕ → List ℕ
wiped work = zeros least_work ++ drop least_work work

unfoldable pub cleared : Answer (List ℕ) → List ℕ → List ℕ
cleared (ok b) work = wiped work
cleared (refused n p) work = elim (eqb n 8) [ true ↦ work | false ↦ wiped work ]

-- the whole outcome of a call
pub record Outcome : Type 0 where
  pub answer : Answer ℕ
  pub output : List ℕ
  pub works : List (List ℕ)

-- ---- 8

-- no lent slice is too short: the output has `least` bytes or more, each work slice 65,536 or more
abbrev pub LongWorks : List (List ℕ) → Type 0
LongWorks [] = Unit {0}
LongWorks (w ∷ ws) = (least_work ≤ length w) × LongWorks ws

pub record Enough (least : ℕ) (output : List ℕ) (works : List (List ℕ)) : Type 0 where
  pub output_long : least ≤ length output
  pub works_long : LongWorks works

-- "a lent slice too short", 8 at 0, before all others; where `Long` holds no slice is too short, and the answer is one
-- that is allowed
pub data Lent (Long : Type 0) (Allowed : Answer (List ℕ) → Type 0) : Answer (List ℕ) → Type 0 where
  too_short : (Long → ⊥) → Lent Long Allowed (refused 8 0)
  long : {a : Answer (List ℕ)} → Long → Allowed a → Lent Long Allowed a

-- A call comes to the one answer that is allowed: its outcome x is that answer's, from what the lent slices held before
-- it. The answer is 8 only where a slice is too short.
pub record Call (Long : Type 0) (Allowed : Answer (List ℕ) → Type 0) (output : List ℕ) (works : List (List ℕ)) (x : Outcome)
    : Type 0 where
  pub answer : Answer (List ℕ)
  pub allowed : Lent Long Allowed answer
  pub only : (a : Answer (List ℕ)) → Lent Long Allowed a → a ≡ answer
  pub eight : (p : ℕ) → answer ≡ refused 8 p → Long → ⊥
  pub answer_is : x.answer ≡ told answer
  pub output_is : x.output ≡ written answer output
  pub works_are : x.works ≡ map (cleared answer) works
