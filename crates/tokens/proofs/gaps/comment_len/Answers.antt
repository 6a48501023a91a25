-- `tokens::gaps::comment_len` meets its contract. Assumes nothing.
use Rattle.std.proofs.Common.{sym, ◌∙◌}
use Rattle.paper.specs.Scanner.{closing}
use Rattle.tokens.proofs.Skips.{closes_is, later_zero, closing_here, closing_later, closing_never}
use Rattle.tokens.proofs.gaps.comment_len.Goals as goal

pub loop-i-init : goal.loop-i-init
loop-i-init c = later_zero (closing c.args.s.now)

pub returns-then-starts_with : goal.returns-then-starts_with
returns-then-starts_with c =
    let s = c.args.s.now in
    let i = c.loop-i.i in
    closing_here s i c.loop-i-test.true (sym (closes_is s i) ∙ sym c.starts_with.ensures.value ∙ c.if-starts_with.true) ∙ sym c.loop-i.invariant

pub loop-i-preserved : goal.loop-i-preserved
loop-i-preserved c =
    let s = c.args.s.now in
    let i = c.loop-i.i in
    c.loop-i.invariant ∙ closing_later s i c.loop-i-test.true (sym (closes_is s i) ∙ sym c.starts_with.ensures.value ∙ c.if-starts_with.false)

pub returns : goal.returns
returns c = closing_never c.args.s.now c.loop-i.i c.loop-i-test.false ∙ sym c.loop-i.invariant
