-- `spelling::text::measure` meets its contract. Assumes nothing.
use Rattle.std.proofs.Common.{◌≡◌, ℕ, ◌+◌, ◌≤◌, Some, length, drop, sym, ap, ◌∙◌, arith}
use Rattle.spelling.specs.Text.{quotes, quoted_of}
use Rattle.spelling.proofs.Strings.{more, quotes_end, quotes_close, quotes_bad, quotes_more, measured_more}
use Rattle.spelling.proofs.text.measure.Goals as goal
use Rattle.spelling.proofs.text.measure.Goals.{In_ok-at}

pub returns-in_err-get : goal.returns-in_err-get
unfolding quoted_of
returns-in_err-get c =
    let l = c.loop-at in
    c.from_residual.ensures ∙ sym (l.invariant.same ∙ ap (quoted_of l.count l.at) (quotes_end c.args.s.now l.at c.in_err-get.ensures.lookup.3))

pub returns-in_err-at : goal.returns-in_err-at
unfolding quoted_of
returns-in_err-at c =
    let l = c.loop-at in
    let g = c.in_ok-get.ensures.lookup.3 in
    c.from_residual-in_err-at.ensures
    ∙ sym (l.invariant.same ∙ ap (quoted_of l.count l.at) (quotes_bad c.args.s.now l.at g.0 (λ e. c.if-branch-ne34.true (g.1 0 ∙ e)) c.in_err-at.ensures))

-- one byte that is meant, and the rest
turn : (c : In_ok-at)
    → (1 ≤ c.in_ok-at.field-0.len) × (c.loop-at.at + c.in_ok-at.field-0.len ≤ length c.args.s.now)
    × (quotes (drop c.loop-at.at c.args.s.now) ≡ more c.in_ok-at.field-0.byte c.in_ok-at.field-0.len (quotes (drop (c.loop-at.at + c.in_ok-at.field-0.len) c.args.s.now)))
turn c =
    let g = c.in_ok-get.ensures.lookup.3 in
    quotes_more c.args.s.now c.loop-at.at g.0 (λ e. c.if-branch-ne34.true (g.1 0 ∙ e)) c.in_ok-at.field-0 c.in_ok-at.ensures

pub overflow_add-at : goal.overflow_add-at
overflow_add-at c = let t = turn (goal.at.overflow_add-at c).In_ok-at in omega (arith, t.1, c.well_formed)

pub loop-at-smaller : goal.loop-at-smaller
loop-at-smaller c = let t = turn (goal.at.loop-at-smaller c).In_ok-at in omega (arith, t.0, t.1)

pub loop-at-preserved : goal.loop-at-preserved
loop-at-preserved c =
    let t = turn (goal.at.loop-at-preserved c).In_ok-at in
    let l = c.loop-at in
    record { fewer = omega (arith, t.0, l.invariant.fewer); same = l.invariant.same ∙ ap (quoted_of l.count l.at) t.2 ∙ measured_more l.count l.at _ _ _ }

pub returns : goal.returns
unfolding quoted_of
returns c =
    let l = c.loop-at in
    let g = c.in_ok-get.ensures.lookup.3 in
    sym (l.invariant.same ∙ ap (quoted_of l.count l.at) (quotes_close c.args.s.now l.at g.0 (sym (g.1 0) ∙ c.if-branch-ne34.false))
    ∙ ap (λ (k : ℕ). Some (record { count = k; end = l.at + 1 })) (omega arith))
