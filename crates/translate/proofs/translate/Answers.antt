-- `translate`: by the cases of the outcome. Assumes nothing.
use mathlib.Core.Logic.{inl, inr}
use Rattle.grammar.proofs.Rules.Refusals.{handed_on}
use Rattle.translate.proofs.Rules.Outcomes.{came, output_short, refused_outcome, many_steps, much_text, list_fits, done_outcome}
use Rattle.translate.proofs.translate.Goals as goal

pub returns-then-out-lt-OUTPUT : goal.returns-then-out-lt-OUTPUT
returns-then-out-lt-OUTPUT c = output_short _ _ _ c.if-out-lt-OUTPUT.true

pub returns-in_err-drafts : goal.returns-in_err-drafts
returns-in_err-drafts c =
    rw (handed_on c.from_residual.result c.from_residual.ensures.1)
    (refused_outcome _ _ _ c.if-out-lt-OUTPUT.false (came _ _ c.in_err-drafts.ensures))

pub returns-then-drafts-gt-STEPS : goal.returns-then-drafts-gt-STEPS
returns-then-drafts-gt-STEPS c =
    let came = came _ _ c.in_ok-drafts.ensures in
    elim c.then-drafts-gt-STEPS.either [
      | inl h ↦ many_steps _ _ _ c.if-out-lt-OUTPUT.false came c.clear.ensures h
      | inr h ↦ much_text _ _ _ c.if-out-lt-OUTPUT.false came c.clear.ensures h.0 h.1
    ]

pub write_list-requires : goal.write_list-requires
write_list-requires c =
    list_fits _ _ _ c.if-out-lt-OUTPUT.false (came _ _ c.in_ok-drafts.ensures) c.if-drafts-gt-STEPS.false c.if-drafts-gt-TEXT.false

pub returns : goal.returns
returns c =
    done_outcome _ _ _ c.if-out-lt-OUTPUT.false (came _ _ c.in_ok-drafts.ensures) c.if-drafts-gt-STEPS.false c.if-drafts-gt-TEXT.false
    c.write_list.ensures c.clear-2.ensures
