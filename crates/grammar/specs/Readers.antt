-- The contracts of the readers that call one another. A reader's answer is what the definition gives with any bound that is large enough.
-- Assumes nothing.
use Rattle.std.specs.Prelude.{ℕ, suc, ◌+◌, ◌*◌, ◌-◌, ◌≤◌, List, [], ◌∷◌, ◌++◌, ltb, length}
use Rattle.paper.specs.Answer.{Answer, ok, ◌>>=◌, demand}
use Rattle.paper.specs.Tokens.{Here}
use Rattle.paper.specs.Scanner.{next}
use Rattle.paper.specs.Reader.{expect}
use Rattle.paper.specs.Layout.{Row, number}
use Rattle.paper.specs.StepLayout.{step_row}
use Rattle.kinds.specs.Numbers.{kind_number, step_number}
use Rattle.kinds.specs.declared.Kind.{Kind}
use Rattle.grammar.specs.Drafts.{Draft, Drafted, draft, bare_draft, draft_basics, draft_statements, draft_value, draft_prototypes}
use Rattle.grammar.specs.Places.{here}
use Rattle.grammar.specs.Basics.{laid_of, laid_size, rest_laid}
use Rattle.grammar.specs.Values.{rest_value}
use Rattle.grammar.specs.Went.{Went, Answers, Ahead}
use Rattle.grammar.specs.declared.cursor.Cursor.{Cursor}
use Rattle.grammar.specs.declared.basic.Basic.{Basic}
use Rattle.grammar.specs.declared.value.Value.TheVariants.{Link}
use Rattle.grammar.specs.declared.vectors.Own.{Own}
use Rattle.grammar.specs.declared.path.Reference.{Reference}

-- the source is short, and goes on or ends here
pub record Fits (s : List ℕ) (at : ℕ) : Type 0 where
  pub short : length s ≤ 32768
  pub within : at ≤ length s

-- a reader may begin at the cursor; with x drafts and y bytes of text to come
pub record FitMore (s : List ℕ) (from : Cursor) (x y : ℕ) : Type 0 where
  pub fits : Fits s from.at
  pub few : from.count + x ≤ from.at
  pub light : from.text + y ≤ 3 * from.at

abbrev pub Fit : List ℕ → Cursor → Type 0
Fit s from = FitMore s from 0 0

abbrev pub itself : List Draft → List Draft
itself ds = ds

-- ---- basics

-- the row of a basic, and the drafts of one with those beneath it
abbrev pub own_row : Own → Kind → ℕ → ℕ → Row
own_row o k m v = step_row (step_number o.step) (kind_number k) (number o.place) m (number v) o.place

unfoldable pub own_drafts : Own → Drafted → List Draft
own_drafts o b = draft (step_number o.step) b.kind o.place (suc (length b.items)) b.value o.place (o.size + b.size) ∷ b.items

abbrev pub FitBasic : List ℕ → Basic → Own → Cursor → Type 0
FitBasic s b o from = FitMore s from 1 (o.size + laid_size (laid_of b))

pub record BasicRead (s : List ℕ) (b : Basic) (o : Own) (from : Cursor) (d : ℕ) (b₀ b₁ : List ℕ) (r : Went) : Type 0 where
  pub is : (n : ℕ) → 2 * (length s - from.at) + 3 ≤ n → Answers (own_drafts o) s b₀ b₁ from r (rest_laid n d (laid_of b) (here s from.at))
  pub ahead : Ahead s from.at (from.count + 1) (from.text + (o.size + laid_size (laid_of b))) r

pub record ItemsRead (s : List ℕ) (from : Cursor) (d : ℕ) (b₀ b₁ : List ℕ) (r : Went) : Type 0 where
  pub is : (n : ℕ) → 2 * (length s - from.at) + 3 ≤ n → Answers itself s b₀ b₁ from r (draft_basics n d (here s from.at))
  pub ahead : Ahead s from.at from.count from.text r

-- ---- statements

pub record StatementsRead (s : List ℕ) (from : Cursor) (d : ℕ) (b₀ b₁ : List ℕ) (r : Went) : Type 0 where
  pub is : (n : ℕ) → 2 * (length s - from.at) + 2 ≤ n → Answers itself s b₀ b₁ from r (draft_statements n d (here s from.at))
  pub ahead : Ahead s from.at from.count from.text r

abbrev pub FitValue : List ℕ → Reference → Cursor → Type 0
FitValue s t from = FitMore s from 1 t.size

pub record ValueRead (s : List ℕ) (t : Reference) (from : Cursor) (d : ℕ) (b₀ b₁ : List ℕ) (r : Went) : Type 0 where
  pub is : (n : ℕ) → 2 * (length s - from.at) + 3 ≤ n → Answers itself s b₀ b₁ from r (draft_value n d t.place t.size (here s from.at))
  pub ahead : Ahead s from.at (from.count + 1) (from.text + t.size) r

abbrev pub FitLink : List ℕ → Reference → Reference → Cursor → Type 0
FitLink s t l from = FitMore s from 1 (t.size + l.size)

pub record LinkRead (s : List ℕ) (t l : Reference) (from : Cursor) (b₀ b₁ : List ℕ) (r : Went) : Type 0 where
  pub is : (n d : ℕ) → Answers itself s b₀ b₁ from r (rest_value n d t.place t.size (Link l) (here s from.at))
  pub ahead : Ahead s from.at (from.count + 1) (from.text + (t.size + l.size)) r

pub record PrototypesRead (s : List ℕ) (from : Cursor) (d : ℕ) (b₀ b₁ : List ℕ) (r : Went) : Type 0 where
  pub is : (n : ℕ) → 2 * (length s - from.at) + 2 ≤ n → Answers itself s b₀ b₁ from r (draft_prototypes n d (here s from.at))
  pub ahead : Ahead s from.at from.count from.text r

-- a prototype that is a block: enter, its statements, leave
unfoldable pub draft_block : ℕ → ℕ → Here → Answer (List Draft × Here)
draft_block f d at = do
  (_, h, _) ← next at
  at ← expect "{" at
  _ ← demand (ltb 0 d) 5 h.place
  (ds, at) ← draft_statements f (d - 1) at
  at ← expect "}" at
  ok (bare_draft 3 ∷ ds ++ (bare_draft 4 ∷ []), at)

pub record BlockRead (s : List ℕ) (from : Cursor) (d : ℕ) (b₀ b₁ : List ℕ) (r : Went) : Type 0 where
  pub is : (n : ℕ) → 2 * (length s - from.at) + 1 ≤ n → Answers itself s b₀ b₁ from r (draft_block n d (here s from.at))
  pub ahead : Ahead s from.at from.count from.text r
