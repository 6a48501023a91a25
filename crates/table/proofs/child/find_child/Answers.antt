-- `table::child::find_child` meets its contract. Assumes nothing.
use native.Mathlib.Omega.{arith}
use native.Mathlib.Nat.{le_refl}
use mathlib.Core.Path.{refl, sym, ◌∙◌}
use Prim.Native.Nat.{◌-◌}
use Rattle.std.specs.Prelude.{Some, None}
use Rattle.table.specs.Child.{found_in}
use Rattle.table.proofs.Children.{same_is, span_at_of, found_none, found_stuck, found_here, found_on}
use Rattle.table.proofs.child.find_child.Goals as goal

pub loop-left-init : goal.loop-left-init
unfolding found_in
loop-left-init c = record { turns = _; enough = le_refl _; so_far = λ r h. h }

pub returns-in_err-span : goal.returns-in_err-span
returns-in_err-span c =
    let l = c.loop-left in
    rw c.from_residual.ensures (l.invariant.so_far None (found_stuck c.args.body.records.now c.args.body.text.now c.args.name.now l.i l.left _ refl (omega arith) l.invariant.turns l.invariant.enough c.in_err-span.ensures))

pub returns-then-eq : goal.returns-then-eq
returns-then-eq c = let l = c.loop-left in l.invariant.so_far (Some l.i) (found_here c.args.body.records.now c.args.body.text.now c.args.name.now l.i l.left _ c.in_ok-span.ensures.0 (omega arith) c.in_ok-span.ensures.1 l.invariant.turns l.invariant.enough (rw c.name_at.ensures at (sym (same_is c.name_at.result.now c.args.name.now) ∙ sym c.eq.ensures ∙ c.if-eq.true)))

pub overflow_mul-i : goal.overflow_mul-i
overflow_mul-i c = let S = (span_at_of _ _ _ _ c.in_ok-span.ensures.0).good c.in_ok-span.ensures.1 in omega arith

pub overflow_add-i : goal.overflow_add-i
overflow_add-i c = let S = (span_at_of _ _ _ _ c.in_ok-span.ensures.0).good c.in_ok-span.ensures.1 in omega arith

pub overflow_sub-left : goal.overflow_sub-left
overflow_sub-left c = let S = (span_at_of _ _ _ _ c.in_ok-span.ensures.0).good c.in_ok-span.ensures.1 in omega arith

pub loop-left-preserved : goal.loop-left-preserved
loop-left-preserved c =
    let l = c.loop-left in
    let S = (span_at_of _ _ _ _ c.in_ok-span.ensures.0).good c.in_ok-span.ensures.1 in
    record {
      turns = l.invariant.turns - 1;
      enough = omega (arith, l.invariant.enough);
      so_far = λ r h. l.invariant.so_far r (h ∙ sym (found_on c.args.body.records.now c.args.body.text.now c.args.name.now l.i l.left _ c.in_ok-span.ensures.0 (omega arith) c.in_ok-span.ensures.1 l.invariant.turns l.invariant.enough (rw c.name_at.ensures at (sym (same_is c.name_at.result.now c.args.name.now) ∙ sym c.eq.ensures ∙ c.if-eq.false))));
    }

pub returns : goal.returns
returns c = let l = c.loop-left in l.invariant.so_far None (found_none c.args.body.records.now c.args.body.text.now c.args.name.now l.invariant.turns l.i l.left (omega arith))
