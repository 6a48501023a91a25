-- What the crate answers: the drafts of a description in the lent slice, or the refusal. Assumes nothing.
use Rattle.std.specs.Prelude.{ℕ, ◌≡◌, List, ltb, length, Result, Ok, Err}
use Rattle.paper.specs.Bytes.{when◌then◌else◌}
use Rattle.paper.specs.Answer.{Answer, ok, refused}
use Rattle.paper.specs.Lent.{wiped}
use Rattle.grammar.specs.Drafts.{Draft, drafts, text_size}
use Rattle.grammar.specs.Puts.{puts, Frame}
use Rattle.refusal.specs.Refused.{number_of, answered}
use Rattle.refusal.specs.declared.Refusal.{Refusal}
use Rattle.grammar.specs.declared.answer.Drafts.{Drafts}

-- what the caller is told, and what the slice then holds
pub record Outcome : Type 0 where
  pub answer : Answer Drafts
  pub work : List ℕ

abbrev pub outcome : Result Drafts Refusal → List ℕ → Outcome
outcome r w = record { answer = answered r; work = w }

-- of drafts: how many they are and how much text they will take, and the first 1,024 of them in a slice that is zero bytes up to 65,536;
-- of a refusal: its number and place, and the zero bytes alone
unfoldable pub outcome_of : Answer (List Draft) → List ℕ → Outcome
outcome_of (ok ds) w = record { answer = ok (record { steps = length ds; text = text_size ds }); work = puts (wiped w) 0 ds }
outcome_of (refused n p) w = record { answer = refused n p; work = wiped w }

-- "a lent slice too short", 8, leaves it as it was
unfoldable pub reads : List ℕ → List ℕ → Outcome
reads source w = when ltb (length w) 65536 then record { answer = refused 8 0; work = w } else outcome_of (drafts source) w

-- the whole description in a slice b₀ that has room
pub record WholeDone (s b₀ b₁ : List ℕ) (n t : ℕ) : Type 0 where
  pub all : List Draft
  pub is : drafts s ≡ ok all
  pub count : n ≡ length all
  pub text : t ≡ text_size all
  pub work : b₁ ≡ puts b₀ 0 all

pub record WholeRefused (s b₀ b₁ : List ℕ) (n p : ℕ) : Type 0 where
  pub is : drafts s ≡ refused n p
  pub frame : Frame b₀ b₁

abbrev pub WholeIs : List ℕ → List ℕ → List ℕ → Result Drafts Refusal → Type 0
WholeIs s b₀ b₁ (Ok d) = WholeDone s b₀ b₁ d.steps d.text
WholeIs s b₀ b₁ (Err e) = WholeRefused s b₀ b₁ (number_of e.reason) e.place
