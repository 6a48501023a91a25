-- `main_table::operation::main_in` meets its contract. Assumes nothing.
use native.Mathlib.Omega.{arith}
use mathlib.Core.Path.{sym, ◌∙◌, ap}
use lib.ListN.{length}
use Rattle.theorems.proofs.Laws.DecodeAt.{Bytes}
use Rattle.refusal.specs.declared.Reason.TheVariants.{MainAbsent, MainIsNoComponent}
use Rattle.memory.specs.Memory.{stored}
use Rattle.table.proofs.Children.{found_told}
use Rattle.main_table.proofs.Mains.{main_basic, main_inner, main_nothing, outcome_refused, outcome_done, lowered_room}
use Rattle.main_table.proofs.operation.main_in.Goals as goal

pub returns-in_default : goal.returns-in_default
returns-in_default c =
    let B : Bytes c.args.records.now = record { byte = λ k. omega (arith, c.type_inv.records k) } in
    rw c.refused.ensures (outcome_refused _ MainAbsent c.args.out.now (main_nothing c.args.records.now c.args.text.now c.args.n c.requires.0 (found_told c.args.records.now c.args.text.now 0 c.args.n _ _ B c.in_default.ensures)))

pub returns-then-kind_at-number : goal.returns-then-kind_at-number
returns-then-kind_at-number c =
    let B : Bytes c.args.records.now = record { byte = λ k. omega (arith, c.type_inv.records k) } in
    rw c.refused-then-kind_at-number.ensures (outcome_refused _ MainIsNoComponent c.args.out.now (main_basic c.args.records.now c.args.text.now c.args.n c.requires.0 B _ (found_told c.args.records.now c.args.text.now 0 c.args.n _ _ B c.in-Some.ensures) _ c.kind_at.ensures (λ e. c.if-kind_at-number.true (e ∙ sym c.number.ensures))))

pub lower_table-requires : goal.lower_table-requires
lower_table-requires c =
    let B : Bytes c.args.records.now = record { byte = λ k. omega (arith, c.type_inv.records k) } in
    let M = main_inner c.args.records.now c.args.text.now c.args.n c.requires.0 B _ (found_told c.args.records.now c.args.text.now 0 c.args.n _ _ B c.in-Some.ensures) _ c.kind_at.ensures (c.if-kind_at-number.false ∙ c.number.ensures) in
    (M.1.lowerable, c.requires.1)

pub returns : goal.returns
returns c =
    let B : Bytes c.args.records.now = record { byte = λ k. omega (arith, c.type_inv.records k) } in
    let M = main_inner c.args.records.now c.args.text.now c.args.n c.requires.0 B _ (found_told c.args.records.now c.args.text.now 0 c.args.n _ _ B c.in-Some.ensures) _ c.kind_at.ensures (c.if-kind_at-number.false ∙ c.number.ensures) in
    outcome_done _ _ c.args.out.now _ _ M.2 (c.lower_table.ensures.size ∙ ap length M.1.table) (c.lower_table.ensures.written ∙ ap (stored c.args.out.now 0) M.1.table)
    (lowered_room c.args.records.now c.args.text.now _ M.0 c.args.out.now M.1 c.requires.1)
