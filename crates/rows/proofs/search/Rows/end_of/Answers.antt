-- `Rows::end_of` meets its contract: from every row that is passed on, the end is the same. Assumes nothing.
use native.Mathlib.Omega.{arith}
use mathlib.Core.Path.{sym, ◌∙◌}
use mathlib.Core.Logic.{⊎_elim}
use Rattle.memory.proofs.Laws.{fit}
use Rattle.rows.proofs.Searches.{ends_none, ends_here, ends_on}
use Rattle.rows.proofs.search.Rows.end_of.Goals as goal

pub returns-then-half-d : goal.returns-then-half-d
returns-then-half-d c =
    let s = c.args.self in
    let l = c.loop-i in
    λ t u. sym (l.invariant t u ∙ ends_here t u s.bytes.now s.count c.kept-end.result c.args.d l.i c.kept-end.ensures c.loop-i-test.true (omega (arith, c.half.ensures.0)))

pub loop-i-preserved : goal.loop-i-preserved
loop-i-preserved c =
    let s = c.args.self in
    let l = c.loop-i in
    λ t u. l.invariant t u ∙ ends_on t u s.bytes.now s.count c.kept-end.result c.args.d l.i c.kept-end.ensures c.loop-i-test.true (omega (arith, c.half.ensures.0))

-- where no row is looked at, it is where they begin
pub returns : goal.returns
returns c =
    let s = c.args.self in
    let l = c.loop-i in
    let lo = c.args.lo in
    let k = c.kept-end.result in
    λ t u. ⊎_elim (λ h. omega (arith, ends_none t u s.bytes.now s.count k c.args.d lo c.kept-end.ensures h))
    (λ h. omega (arith, l.invariant t u, ends_none t u s.bytes.now s.count k c.args.d l.i c.kept-end.ensures c.loop-i-test.false)) (fit k lo)
