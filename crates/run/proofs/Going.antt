-- The turns of the two loops over records, and the numbers that they keep. Assumes nothing.
use Prim.Native.Nat.{ℕ, ◌+◌, ◌*◌, ◌≤◌, ◌<◌}
use native.Mathlib.Omega.{arith}
use mathlib.Core.Logic.{⊎_elim, inl, inr}
use mathlib.Core.Path.{◌≡◌, refl, sym, ap, ◌∙◌, subst}
use mathlib.Core.Bool.{Bool, true, false, false≢true}
use mathlib.Core.List.{List, [], ◌∷◌, ◌++◌}
use lib.ListN.{length, take, drop, get_or}
use Rattle.paper.specs.Answer.{Answer}
use Rattle.paper.specs.Store.{Store}
use Rattle.paper.specs.Meaning.{A⟦◌⟧, P⟦◌⟧}
use Rattle.paper.specs.Layout.{Row}
use Rattle.paper.specs.Steps as Steps
use Rattle.paper.specs.Steps.{statement_steps, prototype_steps}
use Rattle.paper.specs.StepLayout.{all_rows}
use Rattle.kinds.specs.Numbers.{step_number}
use Rattle.kinds.proofs.One.{step_one}
use Rattle.kinds.specs.declared.Step.{Step}
use Rattle.kinds.specs.declared.Step.TheVariants.{Make, Take, Enter, Leave, Done, Set, Item, Link}
use Rattle.memory.proofs.Laws.{fit, word_out}
use Rattle.rows.specs.View.{view}
use Rattle.refusal.specs.declared.Reason.{Reason}
use Rattle.refusal.specs.declared.Refusal.{Refusal}
use Rattle.run.specs.declared.size.Size.{Size}
use Rattle.run.specs.declared.block.Next.{Next}
use Rattle.std.specs.Prelude.{Result, Ok, Err}
use Rattle.run.specs.Puts.{RanKept}
use Rattle.run.specs.Listed.{step_field, ReadsStep}
use Rattle.run.specs.Stepping.{scope_in, ScopeKept}
use Rattle.run.specs.Blocks.{begins_statement, begins_prototype, Placed, NextIn, KeptTo, WentIs, Stops, StatementIs, PrototypeIs}
use Rattle.run.proofs.Finding.{names_take}
use Rattle.run.proofs.Stepping.{kept_fewer}
use Rattle.run.proofs.Evaluating.{next_at}
use Rattle.run.proofs.Prototypes.{MidBlock, NextStatement, next_statement, statement_goes, statement_stops, MidPrototypes, NextPrototype, next_prototype, prototype_goes, prototype_stops}

-- ---- numbers

pub placed_in : (i d p next : ℕ) (r : Result Size Reason) → RanKept d r → i ≤ next → next ≤ 1024 → NextIn i (Placed p next r)
placed_in i d p next (Ok size) k l h = (l, h)
placed_in i d p next (Err reason) k l h = tt

-- what was placed, of how it went on
pub placed_ok : (p next : ℕ) (r : Result Size Reason) (n : Next) → Placed p next r ≡ Ok n → (r ≡ Ok n.size) × (n.index ≡ next)
placed_ok p next (Ok size) n e = (cc, cc)
placed_ok p next (Err reason) n e = absurd (cc)

record_there : (list : List ℕ) (i : ℕ) (begins : ℕ → Bool) → begins 0 ≡ false → begins (step_field 2 list i 0) ≡ true → length list ≤ 20480 → i < 1024
record_there list i begins z e h =
    ⊎_elim (λ f. omega arith) (λ o. absurd (false≢true (sym z ∙ ap begins (sym (word_out 2 list (i * 20 + 0) o)) ∙ e))) (fit (i * 20 + 0 + 2) (length list))

pub statement_there : (list : List ℕ) (i : ℕ) → begins_statement (step_field 2 list i 0) ≡ true → length list ≤ 20480 → i < 1024
statement_there list i e h = record_there list i begins_statement refl e h

pub prototype_there : (list : List ℕ) (i : ℕ) → begins_prototype (step_field 2 list i 0) ≡ true → length list ≤ 20480 → i < 1024
prototype_there list i e h = record_there list i begins_prototype refl e h

-- ---- which step it is

step_low : (s : Step) → (1 ≤ step_number s) × (step_number s ≤ 8)
step_low Make = (omega arith, omega arith)
step_low Take = (omega arith, omega arith)
step_low Enter = (omega arith, omega arith)
step_low Leave = (omega arith, omega arith)
step_low Done = (omega arith, omega arith)
step_low Set = (omega arith, omega arith)
step_low Item = (omega arith, omega arith)
step_low Link = (omega arith, omega arith)

-- a step that was read has its number, but for done; and what was not read has it not
pub was_read : (n : ℕ) (s : Step) → ReadsStep n s → (s ≡ Done → ⊥) → n ≡ step_number s
was_read n s (inl e) h = sym e
was_read n s (inr o) h = absurd (h o.0)

pub not_read : (n : ℕ) (r s : Step) → ReadsStep n r → (r ≡ s → ⊥) → n ≡ step_number s → ⊥
not_read n r s (inl e) h q = h (step_one r s (e ∙ q))
not_read n r s (inr o) h q = absurd (omega (arith, o.1, q, step_low s))

-- ---- names that are kept

pub kept_all : (k : ℕ) (s s' : List ℕ) → ScopeKept s s' → k ≤ 64 → KeptTo k s s'
kept_all k s s' K h t u = kept_fewer s s' t u k K h

pub kept_less : (j k : ℕ) (s s' : List ℕ) → KeptTo k s s' → j ≤ k → KeptTo j s s'
kept_less j k s s' K h t u = sym (names_take t u (drop 32768 s') k j h) ∙ ap (take j) (K t u) ∙ names_take t u (drop 32768 s) k j h

pub kept_both : (k : ℕ) (a b c : List ℕ) → KeptTo k a b → KeptTo k b c → KeptTo k a c
kept_both k a b c f g t u = g t u ∙ f t u

-- ---- a statement more

module _ (list t u w w' s₀ s : List ℕ) (i k : ℕ) (size : Size) (rest : List Row) (all : Answer Store) (next : ℕ) (h : length t ≤ 32768) (hl : length list ≤ 20480) (hi : i ≤ 1024) (stops : Stops rest)
    (kept : KeptTo k s₀ s) (begins : begins_statement (step_field 2 list i 0) ≡ true) (M : MidBlock list t u w i size.rows size.text (scope_in t u s₀ k) rest all next) where
  this : NextStatement list t u w i size (scope_in t u s₀ k) rest all next h hl hi stops
  this = next_statement list t u w i size (scope_in t u s₀ k) rest all next h hl hi stops begins M

  gives : (r : Result Next Refusal) → StatementIs list i t u size.rows size.text k s w w' r → WentIs (view t u w') (i + length (all_rows (statement_steps this.one))) (A⟦ this.one ⟧ (scope_in t u s₀ k) this.so_far) r
  gives r S =
      subst (λ y. WentIs (view t u w') (i + length (all_rows (statement_steps this.one))) (A⟦ this.one ⟧ y this.so_far) r) (kept t u)
      (S this.one this.at (all_rows (Steps.steps this.others) ++ rest) this.so_far this.legal this.lies h this.held)

  pub statement_on : (j : ℕ) (size' : Size) → StatementIs list i t u size.rows size.text k s w w' (next_at j size') → MidBlock list t u w' j size'.rows size'.text (scope_in t u s₀ k) rest all next
  statement_on j size' S = statement_goes list t u w i size (scope_in t u s₀ k) rest all next h hl hi stops this w' j size' (gives (next_at j size') S)

  pub statement_off : (refusal : Refusal) → StatementIs list i t u size.rows size.text k s w w' (Err refusal) → WentIs (view t u w') next all (Err refusal)
  statement_off refusal S = statement_stops list t u w i size (scope_in t u s₀ k) rest all next h hl hi stops this w' refusal (gives (Err refusal) S)

-- ---- a prototype more

module _ (list t u w w' s₀ s : List ℕ) (i k own : ℕ) (size : Size) (rest : List Row) (all : Answer Store) (next : ℕ) (h : length t ≤ 32768) (hl : length list ≤ 20480) (hi : i ≤ 1024) (inner : k ≤ own)
    (kept : KeptTo own s₀ s) (begins : begins_prototype (step_field 2 list i 0) ≡ true) (M : MidPrototypes list t u w i size.rows size.text (scope_in t u s₀ k) (scope_in t u s₀ own) rest all next) where
  that : NextPrototype list t u w i size (scope_in t u s₀ k) (scope_in t u s₀ own) rest all next h hl hi
  that = next_prototype list t u w i size (scope_in t u s₀ k) (scope_in t u s₀ own) rest all next h hl hi begins M

  extends_it : (r : Result Next Refusal) → PrototypeIs list i t u size.rows size.text k own s w w' r → WentIs (view t u w') (i + length (all_rows (prototype_steps that.one))) (P⟦ that.one ⟧ (scope_in t u s₀ k) (scope_in t u s₀ own) that.so_far) r
  extends_it r S =
      subst (λ y. WentIs (view t u w') (i + length (all_rows (prototype_steps that.one))) (P⟦ that.one ⟧ (scope_in t u s₀ k) y that.so_far) r) (kept t u)
      (subst (λ y. WentIs (view t u w') (i + length (all_rows (prototype_steps that.one))) (P⟦ that.one ⟧ y (scope_in t u s own) that.so_far) r) (kept_less k own s₀ s kept inner t u)
      (S that.one that.at (all_rows (prototype_steps that.others ++ (Steps.done ∷ [])) ++ rest) that.so_far that.single that.legal that.lies h that.held))

  pub prototype_on : (j : ℕ) (size' : Size) → PrototypeIs list i t u size.rows size.text k own s w w' (next_at j size') → MidPrototypes list t u w' j size'.rows size'.text (scope_in t u s₀ k) (scope_in t u s₀ own) rest all next
  prototype_on j size' S = prototype_goes list t u w i size (scope_in t u s₀ k) (scope_in t u s₀ own) rest all next h hl hi that w' j size' (extends_it (next_at j size') S)

  pub prototype_off : (refusal : Refusal) → PrototypeIs list i t u size.rows size.text k own s w w' (Err refusal) → WentIs (view t u w') next all (Err refusal)
  prototype_off refusal S = prototype_stops list t u w i size (scope_in t u s₀ k) (scope_in t u s₀ own) rest all next h hl hi that w' refusal (extends_it (Err refusal) S)
