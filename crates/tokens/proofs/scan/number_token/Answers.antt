-- `tokens::scan::number_token` meets its contract. Assumes nothing.
use Rattle.std.proofs.Common.{ℕ, ◌≤◌, length, take, refl, sym, ap, ◌∙◌, arith}
use lib.Seq.{length-take-le}
use Rattle.tokens.specs.Scans.{integer_front}
use Rattle.tokens.proofs.Digits.{whole_le, whole_digits, number_le}
use Rattle.tokens.proofs.Fronts.{number_none, number_follows, number_decimal, number_long, number_integer, same_number}
use Rattle.tokens.proofs.scan.number_token.Goals as goal
use Rattle.tokens.proofs.scan.number_token.Goals.{After-whole_len-whole, After-number_len-len}

in_source : (c : After-whole_len-whole) → c.whole_len-whole.result ≤ length c.args.s.now
in_source c = omega (arith, c.whole_len-whole.ensures, whole_le c.args.s.now)

-- the number is no shorter than its integer part
longer : (c : After-number_len-len) → c.whole_len-whole.result ≤ c.number_len-len.result
longer c = let s = c.args.s.now in omega (arith, c.number_len-len.ensures, number_le c.whole_len-whole.result s (omega (arith, c.whole_len-whole.ensures, whole_le s)))

pub returns-then-whole-eq0 : goal.returns-then-whole-eq0
returns-then-whole-eq0 c = let s = c.args.s.now in number_none _ _ s c.if-whole-eq0.true ∙ same_number _ _ s c.whole_len-whole.ensures refl

pub number_len-len-requires : goal.number_len-len-requires
number_len-len-requires c = in_source (goal.at.number_len-len-requires c).After-whole_len-whole

pub returns-then-not-ends_at : goal.returns-then-not-ends_at
returns-then-not-ends_at c =
    let s = c.args.s.now in
    number_follows _ _ s c.if-whole-eq0.false (sym c.if-not-ends_at.ensures) ∙ same_number _ _ s c.whole_len-whole.ensures c.number_len-len.ensures

pub slice_bounds-integer_token-end : goal.slice_bounds-integer_token-end
slice_bounds-integer_token-end c =
    let l = in_source (goal.at.slice_bounds-integer_token-end c).After-whole_len-whole in
    sym (length-take-le c.number_len-len.result c.args.s.now (omega arith))

pub integer_token-requires : goal.integer_token-requires
integer_token-requires c = whole_digits c.number_len-len.result c.args.s.now (c.if-len-whole.true ∙ c.whole_len-whole.ensures)

pub returns-then-len-whole : goal.returns-then-len-whole
returns-then-len-whole c =
    let s = c.args.s.now in
    let l = in_source (goal.at.returns-then-len-whole c).After-whole_len-whole in
    c.integer_token.ensures ∙ ap (λ (n : ℕ). integer_front (take n s)) c.if-len-whole.true
    ∙ number_integer _ _ s c.if-whole-eq0.false (sym c.if-not-ends_at.ensures) (omega arith) l ∙ same_number _ _ s c.whole_len-whole.ensures c.number_len-len.ensures

pub returns-then-len-gt-LONGEST : goal.returns-then-len-gt-LONGEST
returns-then-len-gt-LONGEST c =
    let s = c.args.s.now in
    let l = longer (goal.at.returns-then-len-gt-LONGEST c).After-number_len-len in
    number_long _ _ s c.if-whole-eq0.false (sym c.if-not-ends_at.ensures) (omega arith) c.if-len-gt-LONGEST.true ∙ same_number _ _ s c.whole_len-whole.ensures c.number_len-len.ensures

pub returns-else-len-gt-LONGEST : goal.returns-else-len-gt-LONGEST
returns-else-len-gt-LONGEST c =
    let s = c.args.s.now in
    let l = longer (goal.at.returns-else-len-gt-LONGEST c).After-number_len-len in
    number_decimal _ _ s c.if-whole-eq0.false (sym c.if-not-ends_at.ensures) (omega arith) c.if-len-gt-LONGEST.false ∙ same_number _ _ s c.whole_len-whole.ensures c.number_len-len.ensures
