-- `tokens::numbers::integer` meets its contract. Assumes nothing.
use Rattle.std.proofs.Common.{◌≡◌, ℕ, List, [], ◌∷◌, Some, take, drop, ap, ◌∙◌, arith}
use Rattle.std.specs.Option.{option_map}
use Rattle.std.proofs.lemmas.Grind.{common_steps}
use lib.Dec.{eqb}
use lib.Pointwise.{pointwise}
use Rattle.paper.specs.Bytes.{at, is}
use Rattle.paper.specs.Tokens.{count}
use Rattle.tokens.specs.Numbers.{Digits, amount_of}
use Rattle.tokens.proofs.Digits.{minus, integer_plain, integer_minus, amount_le, negated, sign_none, sign_one}
use Rattle.tokens.proofs.numbers.integer.Goals as goal

-- whether a minus stands at the front
minus_front : (s : List ℕ) → is "-" (at s 0) ≡ pointwise eqb (take 1 s) (45 ∷ [])
minus_front [] = grind (arith, common_steps)
minus_front (x ∷ s) = grind (arith, common_steps)

-- the amount of the digits after it
amount : (s d : List ℕ) → d ≡ drop 1 s → amount_of 9223372036854775808 (count 0 d) ≡ amount_of 9223372036854775808 (count 0 (drop 1 s))
amount s d e = ap (λ (t : List ℕ). amount_of 9223372036854775808 (count 0 t)) e

pub magnitude-requires : goal.magnitude-requires
magnitude-requires c =
    let s = c.args.s.now in
    let p = c.in-Some.ensures.cases in
    let d : Digits (drop 1 s) = rw (sign_one (is "-") (at s 0) (minus_front s ∙ p.0)) at c.requires in
    rw p.1 d

pub returns-in_err-magnitude-in-Some : goal.returns-in_err-magnitude-in-Some
returns-in_err-magnitude-in-Some c =
    let s = c.args.s.now in
    let p = c.in-Some.ensures.cases in
    c.from_residual.ensures ∙ ap (option_map minus) (c.in_err-magnitude-in-Some.ensures ∙ amount s c.in-Some.digits.now p.1) ∙ integer_minus s (minus_front s ∙ p.0)

pub returns-in_ok-magnitude-in-Some : goal.returns-in_ok-magnitude-in-Some
returns-in_ok-magnitude-in-Some c =
    let s = c.args.s.now in
    let p = c.in-Some.ensures.cases in
    let v = c.in_ok-magnitude-in-Some.field-0 in
    let e = c.in_ok-magnitude-in-Some.ensures in
    ap Some (negated v c.wrapping_neg.result (amount_le _ _ v e) (omega arith) c.wrapping_neg.ensures)
    ∙ ap (option_map minus) (e ∙ amount s c.in-Some.digits.now p.1) ∙ integer_minus s (minus_front s ∙ p.0)

pub magnitude-requires-in-None : goal.magnitude-requires-in-None
magnitude-requires-in-None c =
    let s = c.args.s.now in
    let d : Digits (drop 0 s) = rw (sign_none (is "-") (at s 0) (minus_front s ∙ c.in-None.ensures.cases)) at c.requires in
    d

pub returns-in-None : goal.returns-in-None
returns-in-None c = let s = c.args.s.now in c.magnitude-in-None.ensures ∙ integer_plain s (minus_front s ∙ c.in-None.ensures.cases)
