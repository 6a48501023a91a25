-- `read_path`: names are read while a colon follows. Assumes nothing.
use native.Mathlib.Omega.{arith}
use Rattle.std.specs.Prelude.{Ok, Err}
use Rattle.grammar.proofs.Rules.Refusals.{handed_on}
use Rattle.grammar.proofs.Rules.Paths.{no_such_name, last_name, fault_after, more_names, whole_path, one_less, one_too_many}
use Rattle.grammar.proofs.path.read_path.Goals as goal

pub loop-init : goal.loop-init
loop-init c = record { within = c.requires; few = omega arith; onward = λ r R. R }

pub expect-requires : goal.expect-requires
expect-requires c = c.loop.invariant.within

pub returns-in_err-spot : goal.returns-in_err-spot
returns-in_err-spot c =
    rw (handed_on c.from_residual.result c.from_residual.ensures.1)
    (whole_path _ _ (Err _) (c.loop.invariant.onward (Err _) (no_such_name c.in_err-spot.ensures _)))

pub overflow_add-size-in-loop : goal.overflow_add-size-in-loop
overflow_add-size-in-loop c = omega (arith, c.in_ok-spot.ensures.shown, c.loop.invariant.few)

pub returns-in_err-colon : goal.returns-in_err-colon
returns-in_err-colon c =
    rw (handed_on c.from_residual-in_err-colon.result c.from_residual-in_err-colon.ensures.1)
    (whole_path _ _ (Err _) (c.loop.invariant.onward (Err _)
    (one_less c.loop.counter c.loop-test.true _ _ c.loop.size (Err _) (fault_after c.in_ok-spot.ensures c.loop.size _ _ c.in_err-colon.ensures))))

pub returns-in_default : goal.returns-in_default
returns-in_default c =
    whole_path _ _ (Ok _) (c.loop.invariant.onward (Ok _)
    (one_less c.loop.counter c.loop-test.true _ _ _ (Ok _) (last_name c.in_ok-spot.ensures _ _ (rw c.in_default.is at c.in_ok-colon.ensures))))

pub loop-preserved : goal.loop-preserved
loop-preserved c =
    let N = c.in_ok-spot.ensures in
    let M = rw c.in-Some.is at c.in_ok-colon.ensures in
    record {
      within = M.within;
      few = omega (arith, N.shown, M, c.loop.invariant.few);
      onward = λ r R. c.loop.invariant.onward r (one_less c.loop.counter c.loop-test.true _ _ _ r (more_names N _ _ _ M _ r R));
    }

pub expect-requires-2 : goal.expect-requires-2
expect-requires-2 c = c.loop.invariant.within

pub returns-in_err-spot-2 : goal.returns-in_err-spot-2
returns-in_err-spot-2 c =
    rw (handed_on c.from_residual-in_err-spot-2.result c.from_residual-in_err-spot-2.ensures.1)
    (whole_path _ _ (Err _) (c.loop.invariant.onward (Err _) (no_such_name c.in_err-spot-2.ensures _)))

pub returns : goal.returns
returns c = one_too_many c.loop.invariant (omega arith) c.in_ok-spot-2.ensures
