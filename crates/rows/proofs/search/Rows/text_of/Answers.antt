-- `Rows::text_of` meets its contract: what is summed and what is left to sum come to the same at each turn. Assumes nothing.
use native.Mathlib.Omega.{arith}
use Rattle.rows.proofs.Searches.{text_none, text_one}
use Rattle.rows.proofs.search.Rows.text_of.Goals as goal

pub loop-i-preserved : goal.loop-i-preserved
loop-i-preserved c =
    let s = c.args.self in
    let l = c.loop-i in
    (omega arith, λ t u. omega (arith, l.invariant.1 t u, c.half-sum.ensures.0, text_one t u s.bytes.now s.count c.kept.result c.args.hi l.i c.kept.ensures (omega arith) (omega arith)))

pub returns : goal.returns
returns c =
    let s = c.args.self in
    let l = c.loop-i in
    λ t u. omega (arith, l.invariant.1 t u, text_none t u s.bytes.now s.count c.kept.result c.args.hi l.i c.kept.ensures (omega arith))
