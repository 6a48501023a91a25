-- What statements and prototypes come to, by the paper's valuation functions. Assumes nothing.
use Rattle.std.specs.Prelude.{ℕ, ◌+◌, ◌≤◌, ◌≡◌, Bool, ◌||◌, List, [], ◌∷◌, ◌++◌, length, drop, eqb, Result, Ok, Err}
use Rattle.paper.specs.Answer.{Answer, ok, refused}
use Rattle.paper.specs.Syntax.{Name, Path, Block, Statement, Prototypes, εᴾ, named, block, extends}
use Rattle.paper.specs.Store.{Store}
use Rattle.paper.specs.Meaning.{B⟦◌⟧, A⟦◌⟧, V⟦◌⟧, P⟦◌⟧}
use Rattle.paper.specs.Layout.{number, Row}
use Rattle.paper.specs.Steps.{done, steps, statement_steps, value_steps, prototype_steps}
use Rattle.paper.specs.StepLayout.{step_row, all_rows}
use Rattle.paper.specs.WellFormed.{IsPath, IsBlock, IsStatement, IsValueOf, ArePrototypes}
use Rattle.refusal.specs.Refused.{number_of}
use Rattle.refusal.specs.declared.Reason.{Reason}
use Rattle.refusal.specs.declared.Refusal.{Refusal}
use Rattle.rows.specs.View.{view}
use Rattle.run.specs.declared.size.Size.{Size}
use Rattle.run.specs.declared.block.Next.{Next}
use Rattle.run.specs.Puts.{Held}
use Rattle.run.specs.Listed.{Lies}
use Rattle.run.specs.Stepping.{scope_in, Target}

-- make, set, link; take, enter
abbrev pub begins_statement : ℕ → Bool
begins_statement i = eqb i 1 || (eqb i 6 || eqb i 8)

abbrev pub begins_prototype : ℕ → Bool
begins_prototype i = eqb i 2 || eqb i 3

-- a step's answer, with its place
abbrev pub Placed : ℕ → ℕ → Result Size Reason → Result Next Refusal
Placed p next (Ok size) = Ok (record { index = next; size = size })
Placed p next (Err reason) = Err (record { reason = reason; place = p })

-- the run goes on at record i or behind it, within the list
abbrev pub NextIn : ℕ → Result Next Refusal → Type 0
NextIn i (Ok next) = (i ≤ next.index) × (next.index ≤ 1024)
NextIn i (Err refusal) = Unit {0}

-- the first k names are as they were
abbrev pub KeptTo : ℕ → List ℕ → List ℕ → Type 0
KeptTo k s s' = (t u : List ℕ) → scope_in t u s' k ≡ scope_in t u s k

-- what the code answers, of what the paper does; the run goes on at record `next`, with the rows ys
abbrev pub WentIs : (ℕ → List Row) → ℕ → Answer Store → Result Next Refusal → Type 0
WentIs ys end a (Ok next) = (st : Store) × (a ≡ ok st) × (next.index ≡ end) × Held (ys next.size.rows) next.size.text st
WentIs ys end a (Err refusal) = a ≡ refused (number_of refusal.reason) refusal.place

-- behind statements stands a leave, or nothing
abbrev pub Stops : List Row → Type 0
Stops [] = Unit {0}
Stops (x ∷ xs) = x ≡ step_row 4 0 (number 0) 0 (number 0) 0

abbrev pub ComponentIs : List ℕ → ℕ → List ℕ → List ℕ → ℕ → ℕ → ℕ → ℕ → List ℕ → List ℕ → List ℕ → Result Next Refusal → Type 0
ComponentIs list i t u n text k own s w w' r =
    (p q : ℕ) (l front : Path) (last : Name) (ps : Prototypes) (rest : List Row) (st : Store) → IsPath l → IsValueOf (extends p ps) → Lies list t i q (all_rows (value_steps (extends p ps) l) ++ rest) → length t ≤ 32768
    → Target t u (drop 32768 s) own front last → Held (view t u w n) text st
    → WentIs (view t u w') (i + length (all_rows (value_steps (extends p ps) l))) (V⟦ extends p ps ⟧ (scope_in t u s k) (front ++ (last ∷ [])) st) r

abbrev pub StatementIs : List ℕ → ℕ → List ℕ → List ℕ → ℕ → ℕ → ℕ → List ℕ → List ℕ → List ℕ → Result Next Refusal → Type 0
StatementIs list i t u n text k s w w' r =
    (a : Statement) (q : ℕ) (rest : List Row) (st : Store) → IsStatement a → Lies list t i q (all_rows (statement_steps a) ++ rest) → length t ≤ 32768 → Held (view t u w n) text st
    → WentIs (view t u w') (i + length (all_rows (statement_steps a))) (A⟦ a ⟧ (scope_in t u s k) st) r

abbrev pub StatementsAre : List ℕ → ℕ → List ℕ → List ℕ → ℕ → ℕ → ℕ → List ℕ → List ℕ → List ℕ → Result Next Refusal → Type 0
StatementsAre list i t u n text k s w w' r =
    (b : Block) (q : ℕ) (rest : List Row) (st : Store) → IsBlock b → Lies list t i q (all_rows (steps b) ++ rest) → Stops rest → length t ≤ 32768 → Held (view t u w n) text st
    → WentIs (view t u w') (i + length (all_rows (steps b))) (B⟦ b ⟧ (scope_in t u s k) st) r

-- one prototype
pub data One : Prototypes → Type 0 where
  reference : {p : ℕ} {l : Path} → One (named p l εᴾ)
  braces : {b : Block} → One (block b εᴾ)

abbrev pub PrototypeIs : List ℕ → ℕ → List ℕ → List ℕ → ℕ → ℕ → ℕ → ℕ → List ℕ → List ℕ → List ℕ → Result Next Refusal → Type 0
PrototypeIs list i t u n text k own s w w' r =
    (ps : Prototypes) (q : ℕ) (rest : List Row) (st : Store) → One ps → ArePrototypes ps → Lies list t i q (all_rows (prototype_steps ps) ++ rest) → length t ≤ 32768 → Held (view t u w n) text st
    → WentIs (view t u w') (i + length (all_rows (prototype_steps ps))) (P⟦ ps ⟧ (scope_in t u s k) (scope_in t u s own) st) r

-- and the done behind them
abbrev pub PrototypesAre : List ℕ → ℕ → List ℕ → List ℕ → ℕ → ℕ → ℕ → ℕ → List ℕ → List ℕ → List ℕ → Result Next Refusal → Type 0
PrototypesAre list i t u n text k own s w w' r =
    (ps : Prototypes) (q : ℕ) (rest : List Row) (st : Store) → ArePrototypes ps → Lies list t i q (all_rows (prototype_steps ps ++ (done ∷ [])) ++ rest) → length t ≤ 32768 → Held (view t u w n) text st
    → WentIs (view t u w') (i + length (all_rows (prototype_steps ps ++ (done ∷ [])))) (P⟦ ps ⟧ (scope_in t u s k) (scope_in t u s own) st) r
