-- `run::taken::value` meets its contract. Assumes nothing.
use Prim.Native.Nat.{◌+◌, ◌-◌, ◌%◌}
use native.Mathlib.Omega.{arith}
use mathlib.Core.Path.{◌≡◌, ◌∙◌, ap}
use mathlib.Core.List.{List, []}
use Prim.Native.Nat.{ℕ}
use lib.ListN.{drop}
use Rattle.rows.specs.View.{view, rows_in, byte_of}
use Rattle.rows.specs.Search.{deeper}
use Rattle.rows.specs.Change.{field_at, row_bytes, row_stored, lift_stored}
use Rattle.rows.proofs.Views.{length_row_stored}
use Rattle.run.proofs.Putting.{end_in}
use Rattle.run.proofs.Taking.{lift_behind, row_behind, value_taken}
use Rattle.run.proofs.taken.value.Goals as goal

pub returns : goal.returns
returns c =
    let a = c.args in let p = c.requires in let depth : c.from-own.result ≡ field_at 2 a.w.now a.j 2 = c.from-own.ensures ∙ ap (λ r. r.depth) c.row_at-row.ensures in let E = end_in [] [] a.w.now a.size.rows (omega (arith, a.size.few)) (omega arith) (a.j + 1) (c.from-own.result + 1) c.end_of-e.result (omega (arith, p.0)) (c.end_of-e.ensures [] []) in let ends : (t u : List ℕ) → c.end_of-e.result ≡ a.j + 1 + deeper (field_at 2 a.w.now a.j 2 + 1) (drop (a.j + 1) (rows_in t u a.w.now a.size.rows)) = λ t u. c.end_of-e.ensures t u ∙ ap (λ k. a.j + 1 + deeper (k + 1) (drop (a.j + 1) (rows_in t u a.w.now a.size.rows))) depth in
    let r : c.put_row.new.w ≡ row_stored a.s.now 0 (row_bytes (field_at 2 a.w.now a.j 0) a.d a.label (c.saturating_sub.result % 65536) (field_at 8 a.w.now a.j 8)) = c.put_row.ensures ∙ (λ i. row_stored a.s.now 0 (row_bytes ((c.row_at-row.ensures i).kind) a.d a.label (c.saturating_sub.result % 65536) ((c.row_at-row.ensures i).value))) in
    let q : c.lift.new.s ≡ lift_stored a.w.now (a.j + 1) c.end_of-e.result (row_stored a.s.now 0 (row_bytes (field_at 2 a.w.now a.j 0) a.d a.label (c.saturating_sub.result % 65536) (field_at 8 a.w.now a.j 8))) 1 (field_at 2 a.w.now a.j 2 + 1) (a.d + 1) = c.lift.ensures ∙ (λ i. lift_stored a.w.now (a.j + 1) c.end_of-e.result (r i) 1 (depth i + 1) (a.d + 1)) in
    let s₁ = row_stored a.s.now 0 (row_bytes (field_at 2 a.w.now a.j 0) a.d a.label (c.saturating_sub.result % 65536) (field_at 8 a.w.now a.j 8)) in (
      omega (arith, E.1, a.size.few),
      ap (drop 32768) q ∙ lift_behind a.w.now (a.j + 1) c.end_of-e.result s₁ 1 (field_at 2 a.w.now a.j 2 + 1) (a.d + 1) (omega (arith, E.1, a.size.few)) (rw (length_row_stored a.s.now 0 (row_bytes (field_at 2 a.w.now a.j 0) a.d a.label (c.saturating_sub.result % 65536) (field_at 8 a.w.now a.j 8))) (omega arith)) ∙ row_behind a.s.now 0 (field_at 2 a.w.now a.j 0) a.d a.label (c.saturating_sub.result % 65536) (field_at 8 a.w.now a.j 8) (omega arith) (omega arith),
      λ y name S named sh short. ap (λ x. view a.texts.list.now a.texts.table.now x (c.end_of-e.result - a.j)) q ∙ value_taken a.texts.list.now a.texts.table.now a.w.now a.size.rows a.j a.size.few (omega arith) p.0 (record { byte = c.fits-w }) y S sh c.end_of-e.result (ends a.texts.list.now a.texts.table.now) name a.label (c.saturating_sub.result % 65536) c.byte_of.result c.byte_of-old.result a.d a.s.now named p.2 short (omega (arith, p.1)) (omega arith) c.byte_of.ensures.0 c.byte_of.ensures.1 (c.byte_of-old.ensures.0 ∙ ap (byte_of a.texts.list.now a.texts.table.now) (c.from-2.ensures ∙ ap (λ r. r.label) c.row_at-row.ensures)) (ap (λ k. k % 65536) c.saturating_sub.ensures ∙ ap (λ k. (k + c.byte_of.result - c.byte_of-old.result) % 65536) (c.from.ensures ∙ ap (λ r. r.size) c.row_at-row.ensures)),
    )

pub overflow_sub-result : goal.overflow_sub-result
overflow_sub-result c = let a = c.args in let p = c.requires in let depth : c.from-own.result ≡ field_at 2 a.w.now a.j 2 = c.from-own.ensures ∙ ap (λ r. r.depth) c.row_at-row.ensures in let E = end_in [] [] a.w.now a.size.rows (omega (arith, a.size.few)) (omega arith) (a.j + 1) (c.from-own.result + 1) c.end_of-e.result (omega (arith, p.0)) (c.end_of-e.ensures [] []) in omega (arith, E.0)
