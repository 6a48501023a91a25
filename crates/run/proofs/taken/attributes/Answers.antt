-- `run::taken::attributes` meets its contract. Assumes nothing.
use Prim.Native.Nat.{◌+◌, ◌-◌}
use native.Mathlib.Omega.{arith}
use mathlib.Core.Path.{◌≡◌, refl, ◌∙◌, ap}
use mathlib.Core.List.{List, []}
use Prim.Native.Nat.{ℕ}
use lib.ListN.{drop}
use Rattle.paper.specs.Store.{component}
use Rattle.rows.specs.View.{view, rows_in}
use Rattle.rows.specs.Search.{deeper}
use Rattle.rows.specs.Change.{field_at, lift_stored}
use Rattle.run.proofs.Putting.{end_in}
use Rattle.run.proofs.Taking.{lift_behind, attributes_taken}
use Rattle.run.proofs.taken.attributes.Goals as goal

pub returns : goal.returns
returns c =
    let a = c.args in let p = c.requires in let E = end_in [] [] a.w.now a.size.rows (omega (arith, a.size.few)) (omega arith) (a.j + 1) (c.from-own.result + 1) c.end_of-e.result (omega (arith, p.0)) (c.end_of-e.ensures [] []) in let ends : (t u : List ℕ) → c.end_of-e.result ≡ a.j + 1 + deeper (field_at 2 a.w.now a.j 2 + 1) (drop (a.j + 1) (rows_in t u a.w.now a.size.rows)) = λ t u. c.end_of-e.ensures t u ∙ ap (λ k. a.j + 1 + deeper (k + 1) (drop (a.j + 1) (rows_in t u a.w.now a.size.rows))) (c.from-own.ensures ∙ ap (λ r. r.depth) c.row_at.ensures) in
    let q : c.lift.new.s ≡ lift_stored a.w.now (a.j + 1) c.end_of-e.result a.s.now 0 (field_at 2 a.w.now a.j 2 + 1) a.d = c.lift.ensures ∙ ap (λ k. lift_stored a.w.now (a.j + 1) c.end_of-e.result a.s.now 0 (k + 1) a.d) (c.from-own.ensures ∙ ap (λ r. r.depth) c.row_at.ensures) in (
      omega (arith, E.1, a.size.few),
      ap (drop 32768) c.lift.ensures ∙ lift_behind a.w.now (a.j + 1) c.end_of-e.result a.s.now 0 (c.from-own.result + 1) a.d (omega (arith, E.1, a.size.few)) (omega arith),
      λ t u y S sh. ap (λ x. view t u x (c.end_of-e.result - (a.j + 1))) q ∙ attributes_taken t u a.w.now a.size.rows a.j a.size.few (omega arith) p.0 (record { byte = c.fits-w }) (component y) S sh c.end_of-e.result (ends t u) y a.s.now a.d refl p.1 (omega (arith, p.2)) (omega arith),
    )

pub overflow_sub-result : goal.overflow_sub-result
overflow_sub-result c = let a = c.args in let p = c.requires in let E = end_in [] [] a.w.now a.size.rows (omega (arith, a.size.few)) (omega arith) (a.j + 1) (c.from-own.result + 1) c.end_of-e.result (omega (arith, p.0)) (c.end_of-e.ensures [] []) in omega (arith, E.0)
