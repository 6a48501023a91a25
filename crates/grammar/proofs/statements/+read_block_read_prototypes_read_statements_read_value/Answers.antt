-- The proof of the cycle of calls {read_block, read_prototypes, read_statements, read_value}: each need by a rule of `Rules/Blocks` or
-- `Rules/Statements`. Twice the unread length falls; `read_prototypes` calls `read_block` at the same place, so its measure is one more.
-- Assumes nothing.
use native.Mathlib.Omega.{arith}
use Rattle.grammar.proofs.Rules.Refusals.{handed_on}
use Rattle.grammar.proofs.Rules.Marks.{no_such_mark}
use Rattle.grammar.proofs.Rules.Blocks.{block_missing, block_deep, block_no, block_open, block_done, prototypes_fault, ref_fault, ref_last, ref_more, inner_no, inner_fault, inner_last, inner_more}
use Rattle.grammar.proofs.Rules.Statements.{value_no, set_no, set_done, link_done, extends_no, extends_done, statements_end, statements_fault, statements_no, statements_more}
use Rattle.grammar.proofs.statements.+read_block_read_prototypes_read_statements_read_value.Goals as goal

-- ---- blocks

pub read_block-returns-in_err-opened : goal.read_block-returns-in_err-opened
read_block-returns-in_err-opened t c =
    rw (handed_on c.from_residual.result c.from_residual.ensures.1) (block_missing _ _ _ _ _ (no_such_mark c.in_err-opened.ensures))

pub read_block-returns-then-left-eq0 : goal.read_block-returns-then-left-eq0
read_block-returns-then-left-eq0 t c = block_deep _ _ _ _ _ _ c.in_ok-opened.ensures c.if-left-eq0.true

pub read_block-returns-in_err-to : goal.read_block-returns-in_err-to
read_block-returns-in_err-to t c =
    rw (handed_on c.from_residual-in_err-to.result c.from_residual-in_err-to.ensures.1)
    (block_no _ _ _ _ _ _ c.in_ok-opened.ensures c.if-left-eq0.false _ c.put_bare.ensures _ _
    (rw (c.drafted-inside.ensures, c.moved.ensures) at c.in_err-to.ensures))

pub read_block-returns-in_err-closed : goal.read_block-returns-in_err-closed
read_block-returns-in_err-closed t c =
    rw (handed_on c.from_residual-in_err-closed.result c.from_residual-in_err-closed.ensures.1)
    (block_open _ _ _ _ _ _ c.in_ok-opened.ensures c.if-left-eq0.false _ c.put_bare.ensures _ _
    (rw (c.drafted-inside.ensures, c.moved.ensures) at c.in_ok-to.ensures) _ (no_such_mark c.in_err-closed.ensures))

pub read_block-returns : goal.read_block-returns
read_block-returns t c =
    rw (c.drafted.ensures, c.moved-2.ensures)
    (block_done _ _ _ _ _ _ c.in_ok-opened.ensures c.if-left-eq0.false _ c.put_bare.ensures _ _
    (rw (c.drafted-inside.ensures, c.moved.ensures) at c.in_ok-to.ensures) _ _ _ c.in_ok-closed.ensures c.put_bare-2.ensures)

-- ---- prototypes

pub read_prototypes-returns-in_err-prototype : goal.read_prototypes-returns-in_err-prototype
read_prototypes-returns-in_err-prototype t c =
    rw (handed_on c.from_residual.result c.from_residual.ensures.1)
    (c.loop-prototype.invariant.onward _ _ (prototypes_fault _ _ _ _ _ c.in_err-prototype.ensures))

pub read_prototypes-returns-in_err-comma : goal.read_prototypes-returns-in_err-comma
read_prototypes-returns-in_err-comma t c =
    rw (handed_on c.from_residual-in_err-comma.result c.from_residual-in_err-comma.ensures.1)
    (c.loop-prototype.invariant.onward _ _
    (ref_fault _ _ _ _ _ _ _ (rw c.in-Some.is at c.in_ok-prototype.ensures) _ c.put_path.ensures _
    (rw (c.drafted-to.ensures, c.moved.ensures) at c.in_err-comma.ensures)))

pub read_prototypes-returns-in_default-2 : goal.read_prototypes-returns-in_default-2
read_prototypes-returns-in_default-2 t c =
    c.loop-prototype.invariant.onward _ _
    (ref_last _ _ _ _ _ _ _ (rw c.in-Some.is at c.in_ok-prototype.ensures) _ c.put_path.ensures
    (rw (c.drafted-to.ensures, c.moved.ensures) at (rw c.in_default-2.is at c.in_ok-comma.ensures)) _
    (rw (c.drafted-to.ensures, c.moved.ensures) at c.pass.ensures))

pub read_prototypes-loop-prototype-preserved-in-Some : goal.read_prototypes-loop-prototype-preserved-in-Some
read_prototypes-loop-prototype-preserved-in-Some t c =
    let R = rw c.in-Some.is at c.in_ok-prototype.ensures in
    let M = rw (c.drafted-to.ensures, c.moved.ensures) at (rw c.in-Some-2.is at c.in_ok-comma.ensures) in
    let F = c.loop-prototype.invariant.fit in
    rw (c.moved-here.ensures, c.drafted-to.ensures, c.moved.ensures) (record {
      fit = record {
        fits = record { short = F.fits.short; within = M.within };
        few = omega (arith, F.few, R.whole.ahead, M);
        light = omega (arith, F.light, R.whole.light, R.whole.ahead, M);
      };
      on = omega (arith, c.loop-prototype.invariant.on, R.whole.ahead, M);
      onward = λ e r P. c.loop-prototype.invariant.onward e r (ref_more _ _ _ _ _ _ _ R _ c.put_path.ensures _ _ _ r M P);
    })

pub read_prototypes-returns-in_err-to : goal.read_prototypes-returns-in_err-to
read_prototypes-returns-in_err-to t c =
    rw (handed_on c.from_residual-in_err-to.result c.from_residual-in_err-to.ensures.1)
    (c.loop-prototype.invariant.onward _ _ (inner_no _ _ _ _ (rw c.in_default.is at c.in_ok-prototype.ensures) _ _ c.in_err-to.ensures))

pub read_prototypes-returns-in_err-comma-2 : goal.read_prototypes-returns-in_err-comma-2
read_prototypes-returns-in_err-comma-2 t c =
    rw (handed_on c.from_residual-in_err-comma-2.result c.from_residual-in_err-comma-2.ensures.1)
    (c.loop-prototype.invariant.onward _ _
    (inner_fault _ _ _ _ (rw c.in_default.is at c.in_ok-prototype.ensures) _ _ c.in_ok-to.ensures _ c.in_err-comma-2.ensures))

pub read_prototypes-returns-in_default-3 : goal.read_prototypes-returns-in_default-3
read_prototypes-returns-in_default-3 t c =
    c.loop-prototype.invariant.onward _ _
    (inner_last _ _ _ _ (rw c.in_default.is at c.in_ok-prototype.ensures) _ _ c.in_ok-to.ensures (rw c.in_default-3.is at c.in_ok-comma-2.ensures))

pub read_prototypes-loop-prototype-preserved : goal.read_prototypes-loop-prototype-preserved
read_prototypes-loop-prototype-preserved t c =
    let N = rw c.in_default.is at c.in_ok-prototype.ensures in
    let B = c.in_ok-to.ensures in
    let M = rw c.in-Some-3.is at c.in_ok-comma-2.ensures in
    let F = c.loop-prototype.invariant.fit in
    rw c.moved-here-in_default.ensures (record {
      fit = record {
        fits = record { short = F.fits.short; within = M.within };
        few = omega (arith, F.few, B.ahead, M);
        light = omega (arith, F.light, B.ahead, M);
      };
      on = omega (arith, c.loop-prototype.invariant.on, B.ahead, M);
      onward = λ e r P. c.loop-prototype.invariant.onward e r (inner_more _ _ _ _ N _ _ B _ _ _ r M P);
    })

-- ---- statements

pub read_statements-returns-in_err-target : goal.read_statements-returns-in_err-target
read_statements-returns-in_err-target t c =
    rw (handed_on c.from_residual.result c.from_residual.ensures.1)
    (c.loop-target.invariant.onward _ _ (statements_fault _ _ _ _ _ c.in_err-target.ensures))

pub read_statements-returns-in_err-here : goal.read_statements-returns-in_err-here
read_statements-returns-in_err-here t c =
    rw (handed_on c.from_residual-in_err-here.result c.from_residual-in_err-here.ensures.1)
    (c.loop-target.invariant.onward _ _
    (statements_no _ _ _ _ _ (rw c.in-Some.is at c.in_ok-target.ensures) _ _ (rw c.moved.ensures at c.in_err-here.ensures)))

pub read_statements-loop-target-preserved : goal.read_statements-loop-target-preserved
read_statements-loop-target-preserved t c =
    let R = rw c.in-Some.is at c.in_ok-target.ensures in
    let W = rw c.moved.ensures at c.in_ok-here.ensures in
    let F = c.loop-target.invariant.fit in
    record {
      fit = record {
        fits = record { short = F.fits.short; within = W.ahead.within };
        few = omega (arith, F.few, R.whole.ahead, W.ahead);
        light = omega (arith, F.light, R.whole.ahead, R.whole.light, W.ahead);
      };
      on = omega (arith, c.loop-target.invariant.on, R.whole.ahead, W.ahead);
      onward = λ e r S. c.loop-target.invariant.onward e r (statements_more _ _ _ _ _ R _ _ _ r W S);
    }

pub read_statements-returns : goal.read_statements-returns
read_statements-returns t c =
    c.loop-target.invariant.onward _ _ (statements_end _ _ _ _ c.loop-target.invariant.fit (rw c.in_default.is at c.in_ok-target.ensures))

-- ---- values

pub read_value-returns-in_err-found : goal.read_value-returns-in_err-found
read_value-returns-in_err-found t c =
    rw (handed_on c.from_residual.result c.from_residual.ensures.1) (value_no _ _ _ _ _ _ c.in_err-found.ensures)

pub read_value-returns-in_err-to-in-Basic : goal.read_value-returns-in_err-to-in-Basic
read_value-returns-in_err-to-in-Basic t c =
    rw (handed_on c.from_residual-in_err-to-in-Basic.result c.from_residual-in_err-to-in-Basic.ensures.1)
    (set_no _ _ _ _ _ _ _ (rw c.in-Basic.is at c.in_ok-found.ensures) _ _ (rw c.moved-here.ensures at c.in_err-to-in-Basic.ensures))

pub read_value-returns-in_ok-to-in-Basic : goal.read_value-returns-in_ok-to-in-Basic
read_value-returns-in_ok-to-in-Basic t c =
    set_done _ _ _ _ _ _ _ (rw c.in-Basic.is at c.in_ok-found.ensures) _ _ _ (rw c.moved-here.ensures at c.in_ok-to-in-Basic.ensures) c.pass.ensures

pub read_value-returns-in-Link : goal.read_value-returns-in-Link
read_value-returns-in-Link t c =
    link_done _ _ _ _ _ _ _ _ _ (rw c.in-Link.is at c.in_ok-found.ensures) (rw c.moved-here.ensures at c.read_link.ensures)

pub read_value-returns-in_err-to-in-Extends : goal.read_value-returns-in_err-to-in-Extends
read_value-returns-in_err-to-in-Extends t c =
    rw (handed_on c.from_residual-in_err-to-in-Extends.result c.from_residual-in_err-to-in-Extends.ensures.1)
    (extends_no _ _ _ _ _ _ (rw c.in-Extends.is at c.in_ok-found.ensures) _ _ (rw c.moved-here.ensures at c.put_path.ensures) _
    (rw (c.drafted.ensures, c.moved-here.ensures) at c.in_err-to-in-Extends.ensures))

pub read_value-returns-in_ok-to-in-Extends : goal.read_value-returns-in_ok-to-in-Extends
read_value-returns-in_ok-to-in-Extends t c =
    rw c.drafted-in-Extends.ensures
    (extends_done _ _ _ _ _ _ (rw c.in-Extends.is at c.in_ok-found.ensures) _ _ (rw c.moved-here.ensures at c.put_path.ensures) _ _
    (rw (c.drafted.ensures, c.moved-here.ensures) at c.in_ok-to-in-Extends.ensures) c.put_bare.ensures)
