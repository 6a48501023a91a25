-- `Rows::deepest_of` meets its contract: the greater of what is passed and of what is left is the same at each turn. Assumes nothing.
use native.Mathlib.Omega.{arith}
use Rattle.std.proofs.lemmas.Bool.Decides.{nat_tests}
use Rattle.rows.proofs.Searches.{deepest_none, deepest_one}
use Rattle.rows.proofs.search.Rows.deepest_of.Goals as goal

pub loop-i-preserved : goal.loop-i-preserved
loop-i-preserved c =
    let s = c.args.self in
    let l = c.loop-i in
    λ t u. grind (arith, nat_tests, l.invariant t u, deepest_one t u s.bytes.now s.count c.kept.result c.args.hi l.i c.kept.ensures (omega arith) (omega arith))

pub returns : goal.returns
returns c =
    let s = c.args.self in
    let l = c.loop-i in
    λ t u. omega (arith, l.invariant t u, deepest_none t u s.bytes.now s.count c.kept.result c.args.hi l.i c.kept.ensures (omega arith))
