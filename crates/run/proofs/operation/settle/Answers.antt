-- `run::operation::settle` meets its contract. Assumes nothing.
use mathlib.Core.Path.{◌≡◌, sym, ap, ◌∙◌, subst}
use mathlib.Core.List.{◌++◌}
use lib.ListN.{drop, length, take-append-drop}
use Prim.Native.Nat.{◌<◌}
use Rattle.std.specs.Prelude.{Err}
use Rattle.std.specs.Array.{IsFirstChunk}
use Rattle.std.proofs.lemmas.Result.{err_from_is_err_and}
use Rattle.paper.specs.Lent.{Outcome}
use Rattle.run.specs.Runs.{store_of, outcome}
use Rattle.run.specs.Wanted.{wanted_of, settled}
use Rattle.run.proofs.Ending.{too_short, none_lent, one_lent, refused_so, output_short, first_short, second_short, ended}
use Rattle.run.proofs.Choosing.{wanted_gives}
use Rattle.run.proofs.operation.settle.Goals as goal

pub returns-then-out-lt-OUTPUT : goal.returns-then-out-lt-OUTPUT
returns-then-out-lt-OUTPUT c = let a = c.args in output_short (wanted_of a.wanted (store_of a.steps.now a.table.now)) a.out.now a.work1.now a.work2.now c.if-out-lt-OUTPUT.true

pub returns-in_err-rows : goal.returns-in_err-rows
returns-in_err-rows c =
    let a = c.args in
    let none = c.in_err-rows.ensures.ok_part in
    let exit = err_from_is_err_and c.from_residual.result c.from_residual.ensures.1 in
    let told : c.from_residual.result ≡ too_short = exit.1 ∙ ap Err (exit.2 ∙ refused_so _ c.in_err-rows.ensures.value none) in
    subst (λ r. ◌≡◌ {A = Outcome} (outcome r a.out.now a.work1.now a.work2.now) (settled (wanted_of a.wanted (store_of a.steps.now a.table.now)) a.out.now a.work1.now a.work2.now)) (sym told)
    (first_short (wanted_of a.wanted (store_of a.steps.now a.table.now)) a.out.now a.work1.now a.work2.now c.if-out-lt-OUTPUT.false (none_lent _ (λ y. IsFirstChunk a.work1.now y.now 65536) c.first_chunk_mut.ensures.cases none))

pub returns-in_err-names : goal.returns-in_err-names
returns-in_err-names c =
    let a = c.args in
    let first = one_lent _ (length a.work1.now < 65536) (λ y. IsFirstChunk a.work1.now y.now 65536) c.first_chunk_mut.ensures.cases _ c.in_ok-rows.ensures.ok_part in
    let none = c.in_err-names.ensures.ok_part in
    let exit = err_from_is_err_and c.from_residual-in_err-names.result c.from_residual-in_err-names.ensures.1 in
    let told : c.from_residual-in_err-names.result ≡ too_short = exit.1 ∙ ap Err (exit.2 ∙ refused_so _ c.in_err-names.ensures.value none) in
    let same : c.in_ok-rows.rows.now ++ drop 65536 a.work1.now ≡ a.work1.now = ap (λ x. x ++ drop 65536 a.work1.now) first.same ∙ take-append-drop 65536 a.work1.now in
    subst (λ r. ◌≡◌ {A = Outcome} (outcome r a.out.now (c.in_ok-rows.rows.now ++ drop 65536 a.work1.now) a.work2.now) (settled (wanted_of a.wanted (store_of a.steps.now a.table.now)) a.out.now a.work1.now a.work2.now)) (sym told)
    (subst (λ x. ◌≡◌ {A = Outcome} (outcome too_short a.out.now x a.work2.now) (settled (wanted_of a.wanted (store_of a.steps.now a.table.now)) a.out.now a.work1.now a.work2.now)) (sym same) (second_short (wanted_of a.wanted (store_of a.steps.now a.table.now)) a.out.now a.work1.now a.work2.now c.if-out-lt-OUTPUT.false first.enough (none_lent _ (λ y. IsFirstChunk a.work2.now y.now 65536) c.first_chunk_mut-2.ensures.cases none)))

pub returns : goal.returns
returns c =
    let a = c.args in
    let first = one_lent _ (length a.work1.now < 65536) (λ y. IsFirstChunk a.work1.now y.now 65536) c.first_chunk_mut.ensures.cases _ c.in_ok-rows.ensures.ok_part in
    let second = one_lent _ (length a.work2.now < 65536) (λ y. IsFirstChunk a.work2.now y.now 65536) c.first_chunk_mut-2.ensures.cases _ c.in_ok-names.ensures.ok_part in
    ended (wanted_of a.wanted (store_of a.steps.now a.table.now)) a.out.now a.work1.now a.work2.now (wanted_gives a.steps.now a.table.now a.wanted) c.if-out-lt-OUTPUT.false first.enough second.enough
    c.answer-told.new.out c.answer-told.new.w c.clear.new.s c.answer-told.new.s c.clear-2.new.s c.answer-told.result c.answer-told.ensures.answered c.answer-told.ensures.long.0 c.clear.ensures c.answer-told.ensures.long.1 c.clear-2.ensures
