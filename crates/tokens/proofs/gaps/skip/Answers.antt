-- `tokens::gaps::skip` meets its contract. Assumes nothing.
use Rattle.std.proofs.Common.{Some, sym, ap, ◌∙◌, arith}
use Rattle.tokens.specs.Gaps.{place_of}
use Rattle.tokens.proofs.Skips.{stops, goes, opens}
use Rattle.tokens.proofs.gaps.skip.Goals as goal

pub returns-then-len-eq0 : goal.returns-then-len-eq0
unfolding place_of
returns-then-len-eq0 c =
    let s = c.args.s.now in
    let l = c.loop-len in
    sym (ap place_of (l.invariant.same ∙ stops s l.place (ap Some (sym c.if-len-eq0.true) ∙ c.in-Some.ensures)))

pub overflow_add-place : goal.overflow_add-place
overflow_add-place c =
    let l = c.loop-len in
    omega (arith, (goes c.args.s.now l.place _ c.in-Some.ensures c.if-len-eq0.false l.invariant.within).0, c.well_formed)

pub loop-len-smaller : goal.loop-len-smaller
loop-len-smaller c =
    let l = c.loop-len in
    let g = goes c.args.s.now l.place _ c.in-Some.ensures c.if-len-eq0.false l.invariant.within in
    omega arith

pub loop-len-preserved : goal.loop-len-preserved
loop-len-preserved c =
    let l = c.loop-len in
    let g = goes c.args.s.now l.place _ c.in-Some.ensures c.if-len-eq0.false l.invariant.within in
    record { within = g.0; same = l.invariant.same ∙ g.1 }

pub returns : goal.returns
unfolding place_of
returns c =
    let l = c.loop-len in
    sym (ap place_of (l.invariant.same ∙ opens c.args.s.now l.place c.in_default.ensures))
