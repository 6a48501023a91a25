-- `run::put::copy_in` meets its contract. Assumes nothing.
use Prim.Native.Nat.{ℕ, ◌+◌, ◌-◌, ◌*◌, ◌≤◌}
use native.Mathlib.Omega.{arith}
use native.Mathlib.Nat.{le_of_eq}
use mathlib.Core.Path.{◌≡◌, sym, ◌∙◌, ap}
use mathlib.Core.List.{List}
use lib.ListN.{length, take, drop, length-drop}
use lib.Seq.{take_all, length-take-le}
use Rattle.std.proofs.lemmas.Result.{err_from_is_err_and}
use Rattle.paper.specs.Meaning.{copy}
use Rattle.rows.specs.View.{view, name_of}
use Rattle.run.specs.Paths.{names}
use Rattle.run.proofs.Finding.{length_names}
use Rattle.run.proofs.Putting.{end_in}
use Rattle.run.proofs.Assigning.{copy_start, copy_ends, next, goes_on, stops}
use Rattle.run.proofs.put.copy_in.Goals as goal

-- the part of the rows that is handed on has room for them
room : (s : List ℕ) (m j e : ℕ) → e ≤ m → m * 16 ≤ length s → j ≤ e → (e - j) * 16 ≤ length (take (length s - j * 16) (drop (j * 16) s))
room s m j e h l g =
    let q : length (take (length s - j * 16) (drop (j * 16) s)) ≡ length s - j * 16 = length-take-le (length s - j * 16) (drop (j * 16) s) (le_of_eq (sym (length-drop (j * 16) s))) in
    omega arith

pub loop-j-init : goal.loop-j-init
loop-j-init c = let a = c.args in let p = c.requires in (omega arith, λ st y q h e. copy_start a.texts.list.now a.texts.table.now a.w.now a.new.rows.bytes.now a.size.rows a.new.rows.count a.size.text (names a.texts.list.now a.texts.table.now a.path.places.now a.path.count) st y q h e)

pub invariant_of-one : goal.invariant_of-one
invariant_of-one c = let a = c.args in let p = c.requires in let l = c.loop-j in let E = end_in a.texts.list.now a.texts.table.now a.new.rows.bytes.now a.new.rows.count (omega (arith, a.new.few)) a.new.room (l.j + 1) (a.path.count + 2) c.end_of-end.result (omega (arith, c.loop-j-test.true)) (c.end_of-end.ensures a.texts.list.now a.texts.table.now) in record { few = omega (arith, E.1, a.new.few); room = room a.new.rows.bytes.now a.new.rows.count l.j c.end_of-end.result E.1 a.new.room (omega (arith, E.0)) }

pub loop-j-preserved : goal.loop-j-preserved
loop-j-preserved c = let a = c.args in let p = c.requires in let l = c.loop-j in let E = end_in a.texts.list.now a.texts.table.now a.new.rows.bytes.now a.new.rows.count (omega (arith, a.new.few)) a.new.room (l.j + 1) (a.path.count + 2) c.end_of-end.result (omega (arith, c.loop-j-test.true)) (c.end_of-end.ensures a.texts.list.now a.texts.table.now) in (E.1, λ st y q h e. let N = next a.texts.list.now a.texts.table.now l.w a.new.rows.bytes.now l.size.rows a.new.rows.count l.size.text l.j c.end_of-end.result a.path.count (names a.texts.list.now a.texts.table.now a.path.places.now a.path.count) q (length_names a.texts.list.now a.texts.table.now a.path.places.now a.path.count) (omega (arith, a.new.few)) a.new.room c.loop-j-test.true (c.end_of-end.ensures a.texts.list.now a.texts.table.now) c.name_of-name.result.now (copy q (names a.texts.list.now a.texts.table.now a.path.places.now a.path.count) y st) (c.name_of-name.ensures ∙ ap (name_of a.texts.list.now a.texts.table.now) (c.from.ensures ∙ c.label_at.ensures)) (l.invariant.1 st y q h e) in goes_on a.texts.list.now a.texts.table.now l.w a.new.rows.bytes.now l.size.rows a.new.rows.count l.size.text l.j c.end_of-end.result a.path.count (names a.texts.list.now a.texts.table.now a.path.places.now a.path.count) q (length_names a.texts.list.now a.texts.table.now a.path.places.now a.path.count) (omega (arith, a.new.few)) a.new.room c.loop-j-test.true (c.end_of-end.ensures a.texts.list.now a.texts.table.now) c.name_of-name.result.now (copy q (names a.texts.list.now a.texts.table.now a.path.places.now a.path.count) y st) N c.assign.new.w c.in_ok-size.size (c.in_ok-size.ensures.1 N.so_far N.value q N.held (ap (λ r. view a.texts.list.now a.texts.table.now r (c.end_of-end.result - l.j)) (take_all (length a.new.rows.bytes.now - l.j * 16) (drop (l.j * 16) a.new.rows.bytes.now) (le_of_eq (length-drop (l.j * 16) a.new.rows.bytes.now))) ∙ N.rows)))

pub returns-in_err-size : goal.returns-in_err-size
returns-in_err-size c = let a = c.args in let p = c.requires in let l = c.loop-j in let exit = err_from_is_err_and c.from_residual.result c.from_residual.ensures.1 in rw (exit.1, exit.2) (tt, λ st y q h e. let N = next a.texts.list.now a.texts.table.now l.w a.new.rows.bytes.now l.size.rows a.new.rows.count l.size.text l.j c.end_of-end.result a.path.count (names a.texts.list.now a.texts.table.now a.path.places.now a.path.count) q (length_names a.texts.list.now a.texts.table.now a.path.places.now a.path.count) (omega (arith, a.new.few)) a.new.room c.loop-j-test.true (c.end_of-end.ensures a.texts.list.now a.texts.table.now) c.name_of-name.result.now (copy q (names a.texts.list.now a.texts.table.now a.path.places.now a.path.count) y st) (c.name_of-name.ensures ∙ ap (name_of a.texts.list.now a.texts.table.now) (c.from.ensures ∙ c.label_at.ensures)) (l.invariant.1 st y q h e) in stops a.texts.list.now a.texts.table.now l.w a.new.rows.bytes.now l.size.rows a.new.rows.count l.size.text l.j c.end_of-end.result a.path.count (names a.texts.list.now a.texts.table.now a.path.places.now a.path.count) q (length_names a.texts.list.now a.texts.table.now a.path.places.now a.path.count) (omega (arith, a.new.few)) a.new.room c.loop-j-test.true (c.end_of-end.ensures a.texts.list.now a.texts.table.now) c.name_of-name.result.now (copy q (names a.texts.list.now a.texts.table.now a.path.places.now a.path.count) y st) N c.assign.new.w _ (c.in_err-size.ensures.1 N.so_far N.value q N.held (ap (λ r. view a.texts.list.now a.texts.table.now r (c.end_of-end.result - l.j)) (take_all (length a.new.rows.bytes.now - l.j * 16) (drop (l.j * 16) a.new.rows.bytes.now) (le_of_eq (length-drop (l.j * 16) a.new.rows.bytes.now))) ∙ N.rows)))

pub returns : goal.returns
returns c = let a = c.args in let p = c.requires in let l = c.loop-j in (omega arith, λ st y q h e. copy_ends a.texts.list.now a.texts.table.now l.w a.new.rows.bytes.now l.size a.new.rows.count l.j (names a.texts.list.now a.texts.table.now a.path.places.now a.path.count) q (copy q (names a.texts.list.now a.texts.table.now a.path.places.now a.path.count) y st) c.loop-j-test.false (l.invariant.1 st y q h e))

pub overflow_sub-one : goal.overflow_sub-one
overflow_sub-one c = let a = c.args in let p = c.requires in let l = c.loop-j in let E = end_in a.texts.list.now a.texts.table.now a.new.rows.bytes.now a.new.rows.count (omega (arith, a.new.few)) a.new.room (l.j + 1) (a.path.count + 2) c.end_of-end.result (omega (arith, c.loop-j-test.true)) (c.end_of-end.ensures a.texts.list.now a.texts.table.now) in omega (arith, E.0)

pub loop-j-smaller : goal.loop-j-smaller
loop-j-smaller c = let a = c.args in let p = c.requires in let l = c.loop-j in let E = end_in a.texts.list.now a.texts.table.now a.new.rows.bytes.now a.new.rows.count (omega (arith, a.new.few)) a.new.room (l.j + 1) (a.path.count + 2) c.end_of-end.result (omega (arith, c.loop-j-test.true)) (c.end_of-end.ensures a.texts.list.now a.texts.table.now) in omega (arith, E.0, E.1, c.loop-j-test.true)
