-- `main_table::lower::lower_rows` meets its contract. Assumes nothing.
use native.Mathlib.Omega.{arith}
use mathlib.Core.Path.{◌≡◌, refl, ◌∙◌, subst}
use Rattle.memory.specs.Memory.{stored}
use Rattle.main_table.specs.Lower.{lowered_all}
use Rattle.main_table.proofs.Lowers.{all_none, all_turn}
use Rattle.main_table.proofs.lower.lower_rows.Goals as goal

pub loop-k-init : goal.loop-k-init
loop-k-init c = record { long = refl; so_far = all_none c.args.recs.now c.args.first c.args.from c.args.out.now }

pub loop-k-preserved : goal.loop-k-preserved
loop-k-preserved c =
    let l = c.loop-k in
    record { long = c.lower_row.auto.out ∙ l.invariant.long; so_far = all_turn c.args.recs.now c.args.out.now l.out _ l.k c.args.first c.args.from (omega (arith, c.requires)) l.invariant.so_far c.lower_row.ensures }

pub returns : goal.returns
returns c = let l = c.loop-k in let e : l.k ≡ c.args.n = omega arith in subst (λ j. l.out ≡ stored c.args.out.now 24 (lowered_all c.args.recs.now c.args.first c.args.from j)) e l.invariant.so_far
