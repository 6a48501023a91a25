-- `tokens::is_decimal` meets its contract. Assumes nothing.
use Rattle.std.proofs.Common.{◌≡◌, length, sym, ap, ◌∙◌, rules, arith}
use Rattle.paper.specs.Scanner.{scan}
use Rattle.tokens.specs.declared.Kind.TheVariants.{Decimal}
use Rattle.tokens.specs.Scans.{by_number}
use Rattle.tokens.proofs.Tests.{dotted, not_dotted, is_one, one_yes, one_long, one_other, decimal_text}
use Rattle.tokens.proofs.is_decimal.Goals as goal

pub returns-in-Ok-Decimal : goal.returns-in-Ok-Decimal
returns-in-Ok-Decimal c =
    let m = length c.args.s.now in
    let k : c.in-Ok-Decimal.field-0.kind ≡ Decimal = search rules in
    sym (one_yes dotted m c.in-Ok-Decimal.field-0 (omega arith) (ap dotted k)) ∙ ap (is_one dotted m) c.in-Ok-Decimal.ensures ∙ decimal_text m (scan c.args.s.now)

pub returns-in_default : goal.returns-in_default
returns-in_default c =
    let m = length c.args.s.now in
    sym (one_long dotted m c.in-Ok-Decimal.field-0 (λ e. omega arith)) ∙ ap (is_one dotted m) c.in-Ok-Decimal.ensures ∙ decimal_text m (scan c.args.s.now)

pub returns-in_default-2 : goal.returns-in_default-2
returns-in_default-2 c =
    let m = length c.args.s.now in
    sym (one_other dotted m c.in_default.field-0 (not_dotted _ (search rules)))
    ∙ ap (λ r. is_one dotted m (by_number r)) (sym c.in_default.is) ∙ ap (is_one dotted m) c.scan_front.ensures ∙ decimal_text m (scan c.args.s.now)

pub returns-in_default-3 : goal.returns-in_default-3
returns-in_default-3 c =
    let m = length c.args.s.now in
    ap (λ r. is_one dotted m (by_number r)) (sym c.in_default.is) ∙ ap (is_one dotted m) c.scan_front.ensures ∙ decimal_text m (scan c.args.s.now)
