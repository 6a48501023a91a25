-- The proof of the cycle of calls {read_basic, read_items}: each need by a rule of `Rules/Items`. Twice the unread length falls; `read_basic` calls
-- `read_items` at the same place, so its measure is one more. Assumes nothing.
use mathlib.Core.Path.{sym, ap, ◌∙◌}
use native.Mathlib.Omega.{arith}
use Rattle.grammar.specs.Went.{moved_to}
use Rattle.grammar.specs.declared.cursor.Cursor.{Cursor}
use Rattle.grammar.proofs.Rules.Refusals.{handed_on}
use Rattle.grammar.proofs.Rules.Items.{basic_plain, basic_deep, basic_fault, basic_empty, basic_no, basic_items, items_none, items_no, items_fault, items_last, items_more}
use Rattle.grammar.proofs.vectors.+read_basic_read_items.Goals as goal
use Rattle.grammar.proofs.vectors.+read_basic_read_items.Goals.{read_basic-in-Some, read_basic-in-None+in_ok-to-in-None}

pub read_basic-returns-in-Plain : goal.read_basic-returns-in-Plain
read_basic-returns-in-Plain t c =
    rw c.drafted.ensures (basic_plain _ _ _ _ _ _ _ _ _ _ (sym c.lay.ensures ∙ c.in-Plain.is) c.requires c.put_own.ensures)

pub read_basic-returns-then-left-eq0 : goal.read_basic-returns-then-left-eq0
read_basic-returns-then-left-eq0 t c = basic_deep _ _ _ _ _ _ _ (sym c.lay.ensures ∙ c.in-Opened.is) c.if-left-eq0.true

pub read_basic-returns-in_err-closed-in-Opened : goal.read_basic-returns-in_err-closed-in-Opened
read_basic-returns-in_err-closed-in-Opened t c =
    rw (handed_on c.from_residual.result c.from_residual.ensures.1)
    (basic_fault _ _ _ _ _ _ _ (sym c.lay.ensures ∙ c.in-Opened.is) c.if-left-eq0.false _ c.in_err-closed-in-Opened.ensures)

pub read_basic-returns-in_err-to-in-None : goal.read_basic-returns-in_err-to-in-None
read_basic-returns-in_err-to-in-None t c =
    rw (handed_on c.from_residual-in_err-to-in-None.result c.from_residual-in_err-to-in-None.ensures.1)
    (basic_no _ _ _ _ _ _ _ (sym c.lay.ensures ∙ c.in-Opened.is) c.if-left-eq0.false (rw c.in-None.is at c.in_ok-closed-in-Opened.ensures) _ _
    (rw c.drafted-to.ensures at c.in_err-to-in-None.ensures))

pub read_basic-returns-after-branch-2 : goal.read_basic-returns-after-branch-2
read_basic-returns-after-branch-2 t c =
    let opened = sym c.lay.ensures ∙ c.in-Opened.is in
    elim c.match-branch-2.branch [
      | read_basic-in-Some w ↦
          let to = w.to-is ∙ w.moved-to.ensures ∙ ap (λ (d : Cursor). moved_to d w.in-Some.closed.next) c.drafted-to.ensures in
          rw to
          (basic_empty _ _ _ _ _ _ _ opened c.if-left-eq0.false _ _ _ c.requires (rw w.in-Some.is at c.in_ok-closed-in-Opened.ensures)
          (rw (to, w.work-is) at c.put_own-in-Opened.ensures))
      | read_basic-in-None+in_ok-to-in-None w ↦
          rw w.to-is
          (basic_items _ _ _ _ _ _ _ opened c.if-left-eq0.false (rw w.in-None.is at c.in_ok-closed-in-Opened.ensures) _ _ _
          (rw c.drafted-to.ensures at w.in_ok-to-in-None.ensures)
          (rw (w.to-is, w.work-is) at c.put_own-in-Opened.ensures))
    ]

pub read_items-returns-in_err-found : goal.read_items-returns-in_err-found
read_items-returns-in_err-found t c =
    rw (handed_on c.from_residual.result c.from_residual.ensures.1) (c.loop-found.invariant.onward _ _ (items_none _ _ _ _ _ c.in_err-found.ensures))

pub read_items-returns-in_err-to : goal.read_items-returns-in_err-to
read_items-returns-in_err-to t c =
    rw (handed_on c.from_residual-in_err-to.result c.from_residual-in_err-to.ensures.1)
    (c.loop-found.invariant.onward _ _ (items_no _ _ _ _ _ _ c.in_ok-found.ensures _ _ (rw c.moved.ensures at c.in_err-to.ensures)))

pub read_items-returns-in_err-comma : goal.read_items-returns-in_err-comma
read_items-returns-in_err-comma t c =
    rw (handed_on c.from_residual-in_err-comma.result c.from_residual-in_err-comma.ensures.1)
    (c.loop-found.invariant.onward _ _
    (items_fault _ _ _ _ _ _ c.in_ok-found.ensures _ _ (rw c.moved.ensures at c.in_ok-to.ensures) _ c.in_err-comma.ensures))

pub read_items-returns-in_default : goal.read_items-returns-in_default
read_items-returns-in_default t c =
    c.loop-found.invariant.onward _ _
    (items_last _ _ _ _ _ _ c.in_ok-found.ensures _ _ (rw c.moved.ensures at c.in_ok-to.ensures) (rw c.in_default.is at c.in_ok-comma.ensures) _ c.pass.ensures)

pub read_items-loop-found-preserved : goal.read_items-loop-found-preserved
read_items-loop-found-preserved t c =
    let B = c.in_ok-found.ensures in
    let R = rw c.moved.ensures at c.in_ok-to.ensures in
    let M = rw c.in-Some.is at c.in_ok-comma.ensures in
    let F = c.loop-found.invariant.fit in
    rw c.moved-here.ensures (record {
      fit = record {
        fits = record { short = F.fits.short; within = M.within };
        few = omega (arith, F.few, B.ahead, R.ahead, M);
        light = omega (arith, F.light, B.light, R.ahead, M);
      };
      on = omega (arith, c.loop-found.invariant.on, B.ahead, R.ahead, M);
      onward = λ e r I. c.loop-found.invariant.onward e r (items_more _ _ _ _ _ _ B _ _ R _ _ _ r M I);
    })
