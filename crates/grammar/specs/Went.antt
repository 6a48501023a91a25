-- What a reader that goes on from a cursor answers, by cases. Assumes nothing.
use Rattle.std.specs.Prelude.{ℕ, ◌+◌, ◌*◌, ◌≤◌, ◌≡◌, List, length, Result, Ok, Err}
use Prim.Native.Char.{Char, code}
use Rattle.paper.specs.Answer.{Answer, ok}
use Rattle.paper.specs.Tokens.{Here, mark}
use Rattle.paper.specs.Reader.{expect}
use Rattle.refusal.specs.declared.Refusal.{Refusal}
use Rattle.grammar.specs.Refusals.{Refuses}
use Rattle.grammar.specs.Drafts.{Draft, text_size}
use Rattle.grammar.specs.Places.{here, Shown}
use Rattle.grammar.specs.Puts.{puts, Frame}
use Rattle.grammar.specs.declared.cursor.Cursor.{Cursor}

-- where it then stands, or its refusal
abbrev pub Went : Type 0
Went = Result Cursor Refusal

-- the same drafts, at another place
abbrev pub moved_to : Cursor → ℕ → Cursor
moved_to c at = record { at = at; count = c.count; text = c.text }

-- one more draft, of z bytes of text
abbrev pub one_more : Cursor → ℕ → Cursor
one_more c z = record { at = c.at; count = c.count + 1; text = c.text + z }

-- the mark b is passed
pub record Passed (s : List ℕ) (from : Cursor) (b : ℕ) (to : Cursor) : Type 0 where
  pub place : ℕ
  pub shown : Shown s from.at (mark b) place to.at
  pub count : to.count ≡ from.count
  pub text : to.text ≡ from.text

abbrev pub PassIs : List ℕ → Cursor → ℕ → Went → Type 0
PassIs s from b (Ok to) = Passed s from b to
PassIs s from b (Err e) = (c : Char) → code c ≡ b → Refuses (expect c (here s from.at)) e

-- g gave what stands for drafts: they are counted, and written in b₁
pub record DoneIs {A : Type 0} (f : A → List Draft) (s b₀ b₁ : List ℕ) (from to : Cursor) (g : Answer (A × Here)) : Type 0 where
  pub it : A
  pub is : g ≡ ok (it, here s to.at)
  pub count : to.count ≡ from.count + length (f it)
  pub text : to.text ≡ from.text + text_size (f it)
  pub work : b₁ ≡ puts b₀ from.count (f it)
  pub frame : Frame b₀ b₁

-- g refused: of the slice only the room for drafts may have changed
pub record RefusedIs {A : Type 0} (b₀ b₁ : List ℕ) (e : Refusal) (g : Answer (A × Here)) : Type 0 where
  pub is : Refuses g e
  pub frame : Frame b₀ b₁

abbrev pub Answers : {A : Type 0} → (A → List Draft) → List ℕ → List ℕ → List ℕ → Cursor → Went → Answer (A × Here) → Type 0
Answers f s b₀ b₁ from (Ok to) g = DoneIs f s b₀ b₁ from to g
Answers f s b₀ b₁ from (Err e) g = RefusedIs b₀ b₁ e g

-- what was read lies ahead; from the count x and the text y at `at` there are no more drafts than bytes, nor more text than thrice the bytes
pub record AheadIs (s : List ℕ) (at x y : ℕ) (to : Cursor) : Type 0 where
  pub on : at ≤ to.at
  pub within : to.at ≤ length s
  pub few : to.count + at ≤ x + to.at
  pub light : to.text + 3 * at ≤ y + 3 * to.at

abbrev pub Ahead : List ℕ → ℕ → ℕ → ℕ → Went → Type 0
Ahead s at x y (Ok to) = AheadIs s at x y to
Ahead s at x y (Err e) = Unit {0}
