use Prim.Native.Nat.{ℕ, ◌+◌, ◌-◌, ◌*◌, ◌≤◌}
use mathlib.Core.List.{List, [], ◌∷◌, ◌++◌}
use lib.ListN.{length}
use Rattle.paper.specs.Syntax.{Block, Prototypes}
use Rattle.paper.specs.Store.{Store}
use Rattle.paper.specs.Meaning.{B⟦◌⟧, P⟦◌⟧}
use Rattle.paper.specs.Layout.{Row}
use Rattle.paper.specs.Steps.{done, steps, prototype_steps}
use Rattle.paper.specs.StepLayout.{all_rows}
use Rattle.paper.specs.WellFormed.{IsBlock, ArePrototypes}
use Rattle.rows.specs.View.{view}
use Rattle.run.specs.Puts.{Held}
use Rattle.run.specs.Listed.{Lies}
use Rattle.run.specs.Stepping.{scope_in}
use Rattle.run.specs.Blocks.{KeptTo, Stops}
use Rattle.run.proofs.Prototypes.{MidBlock, MidPrototypes}
use Rattle.run.proofs.block.+component_prototype_prototypes_statement_statements.Given as goal

abbrev pub decreases-component : goal.decreases-component
decreases-component l = 3 * (1024 - l.from.index) + 0

abbrev pub decreases-prototype : goal.decreases-prototype
decreases-prototype l = 3 * (1024 - l.from.index) + 1

abbrev pub decreases-prototypes : goal.decreases-prototypes
decreases-prototypes l = 3 * (1024 - l.from.index) + 2

abbrev pub decreases-statement : goal.decreases-statement
decreases-statement l = 3 * (1024 - l.from.index) + 1

abbrev pub decreases-statements : goal.decreases-statements
decreases-statements l = 3 * (1024 - l.from.index) + 2

abbrev pub invariant-prototypes-loop-names : goal.invariant-prototypes-loop-names
invariant-prototypes-loop-names l = (l.initial.next.index ≤ l.next.index) × (l.next.index ≤ 1024) × KeptTo l.names.own l.initial.s l.s
    × ((ps : Prototypes) (q : ℕ) (rest : List Row) (st : Store) → ArePrototypes ps → Lies l.program.steps.bytes.now l.program.texts.list.now l.initial.next.index q (all_rows (prototype_steps ps ++ (done ∷ [])) ++ rest) → length l.program.texts.list.now ≤ 32768 → Held (view l.program.texts.list.now l.program.texts.table.now l.initial.w l.initial.next.size.rows) l.initial.next.size.text st
    → MidPrototypes l.program.steps.bytes.now l.program.texts.list.now l.program.texts.table.now l.w l.next.index l.next.size.rows l.next.size.text (scope_in l.program.texts.list.now l.program.texts.table.now l.initial.s l.names.scope) (scope_in l.program.texts.list.now l.program.texts.table.now l.initial.s l.names.own) rest (P⟦ ps ⟧ (scope_in l.program.texts.list.now l.program.texts.table.now l.initial.s l.names.scope) (scope_in l.program.texts.list.now l.program.texts.table.now l.initial.s l.names.own) st) (l.initial.next.index + length (all_rows (prototype_steps ps ++ (done ∷ [])))))

abbrev pub decreases-prototypes-loop-names : goal.decreases-prototypes-loop-names
decreases-prototypes-loop-names l = 1024 - l.next.index

abbrev pub invariant-statements-loop-program : goal.invariant-statements-loop-program
invariant-statements-loop-program l = (l.initial.next.index ≤ l.next.index) × (l.next.index ≤ 1024) × KeptTo l.k l.initial.s l.s
    × ((b : Block) (q : ℕ) (rest : List Row) (st : Store) → IsBlock b → Lies l.program.steps.bytes.now l.program.texts.list.now l.initial.next.index q (all_rows (steps b) ++ rest) → Stops rest → length l.program.texts.list.now ≤ 32768 → Held (view l.program.texts.list.now l.program.texts.table.now l.initial.w l.initial.next.size.rows) l.initial.next.size.text st
    → MidBlock l.program.steps.bytes.now l.program.texts.list.now l.program.texts.table.now l.w l.next.index l.next.size.rows l.next.size.text (scope_in l.program.texts.list.now l.program.texts.table.now l.initial.s l.k) rest (B⟦ b ⟧ (scope_in l.program.texts.list.now l.program.texts.table.now l.initial.s l.k) st) (l.initial.next.index + length (all_rows (steps b))))

abbrev pub decreases-statements-loop-program : goal.decreases-statements-loop-program
decreases-statements-loop-program l = 1024 - l.next.index
