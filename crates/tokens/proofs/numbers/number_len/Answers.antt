-- `tokens::numbers::number_len` meets its contract. Assumes nothing.
use native.Mathlib.Omega.{arith}
use mathlib.Core.Path.{◌≡◌, ap, ◌∙◌}
use Prim.Native.Nat.{ℕ, ◌+◌, ◌≤◌}
use lib.ListN.{length, drop, length-drop}
use Rattle.paper.specs.Scanner.{fraction, exponent}
use Rattle.tokens.specs.Numbers.{number_len}
use Rattle.spelling.proofs.At.{rest}
use Rattle.tokens.proofs.Digits.{fraction_le, exponent_le}
use Rattle.tokens.proofs.numbers.number_len.Goals as goal
use Rattle.tokens.proofs.numbers.number_len.Goals.{After-fraction_len}

-- the fraction's length, of the source's rest
fraction-is : (c : After-fraction_len) → c.fraction_len.result ≡ fraction (drop c.args.n c.args.s.now)
fraction-is c = c.fraction_len.ensures ∙ ap fraction (rest c.args.s.now c.args.n)

in_source : (c : After-fraction_len) → c.args.n + c.fraction_len.result ≤ length c.args.s.now
in_source c =
    let a = c.args in
    omega (arith, fraction-is c, fraction_le (drop a.n a.s.now), length-drop a.n a.s.now, c.requires)

pub overflow_add-m : goal.overflow_add-m
overflow_add-m c = omega (arith, in_source (goal.at.overflow_add-m c).After-fraction_len, c.well_formed)

pub slice_bounds-exponent_len-count : goal.slice_bounds-exponent_len-count
slice_bounds-exponent_len-count c = omega (arith, in_source (goal.at.slice_bounds-exponent_len-count c).After-fraction_len)

pub slice_bounds-exponent_len-start : goal.slice_bounds-exponent_len-start
slice_bounds-exponent_len-start c = omega (arith, in_source (goal.at.slice_bounds-exponent_len-start c).After-fraction_len)

pub overflow_add-result : goal.overflow_add-result
overflow_add-result c =
    let a = c.args in
    let m = a.n + c.fraction_len.result in
    let e : c.exponent_len.result ≡ exponent (drop m a.s.now) = c.exponent_len.ensures ∙ ap exponent (rest a.s.now m) in
    omega (arith, e, exponent_le (drop m a.s.now), length-drop m a.s.now, in_source (goal.at.overflow_add-result c).After-fraction_len, c.well_formed)

pub returns : goal.returns
unfolding number_len
returns c =
    let a = c.args in
    let m = a.n + c.fraction_len.result in
    ap (λ (k : ℕ). m + k) (c.exponent_len.ensures ∙ ap exponent (rest a.s.now m))
    ∙ ap (λ (f : ℕ). a.n + f + exponent (drop (a.n + f) a.s.now)) (fraction-is (goal.at.returns c).After-fraction_len)
