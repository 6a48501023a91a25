-- `tokens::numbers::magnitude` meets its contract. Assumes nothing.
use Rattle.std.proofs.Common.{◌≡◌, ℕ, ◌+◌, ◌-◌, ◌*◌, drop, get_or, ◌∙◌, ap, arith}
use Rattle.std.proofs.lemmas.Grind.{common_steps}
use Rattle.paper.specs.Bytes.{when◌then◌else◌}
use Rattle.paper.specs.Tokens.{count}
use Rattle.tokens.specs.Numbers.{amount_of}
use Rattle.tokens.proofs.Digits.{at_least, count_more, count_end, too_large}
use Rattle.tokens.proofs.numbers.magnitude.Goals as goal

pub returns-in_err-checked_mul : goal.returns-in_err-checked_mul
returns-in_err-checked_mul c =
    let l = c.loop-b in
    let least = at_least c.args.digits.now l.value l.b-index _ c.loop-b-test.true l.invariant in
    let mul = c.in_err-checked_mul.ensures in
    c.from_residual.ensures ∙ too_large c.args.limit (count 0 c.args.digits.now) (omega arith)

pub returns-in_err-value : goal.returns-in_err-value
returns-in_err-value c =
    let l = c.loop-b in
    let least = at_least c.args.digits.now l.value l.b-index _ c.loop-b-test.true l.invariant in
    let mul = c.in_ok-checked_mul.ensures.1 in
    let add = c.in_err-value.ensures in
    c.from_residual-in_err-value.ensures ∙ too_large c.args.limit (count 0 c.args.digits.now) (omega arith)

pub loop-b-preserved : goal.loop-b-preserved
loop-b-preserved c =
    let l = c.loop-b in
    let d = c.args.digits.now in
    let mul = c.in_ok-checked_mul.ensures.1 in
    let add = c.in_ok-value.ensures.1 in
    let next : l.value * 10 + (get_or d l.b-index 0 - 48) ≡ c.in_ok-value.value = omega arith in
    l.invariant ∙ count_more d l.value l.b-index c.loop-b-test.true ∙ ap (λ (v : ℕ). count v (drop (l.b-index + 1) d)) next

pub returns : goal.returns
unfolding amount_of when◌then◌else◌
returns c =
    let l = c.loop-b in
    let n = count_end c.args.digits.now l.value l.b-index _ c.loop-b-test.false l.invariant in
    rw n (grind (arith, common_steps))
