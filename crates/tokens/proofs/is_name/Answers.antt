-- `tokens::is_name` meets its contract. Assumes nothing.
use Rattle.std.proofs.Common.{◌≡◌, length, sym, ap, ◌∙◌, rules, arith}
use Rattle.tokens.specs.declared.Kind.TheVariants.{Name}
use Rattle.tokens.specs.Scans.{by_number}
use Rattle.tokens.proofs.Tests.{plain, not_plain, is_one, one_yes, one_long, one_other, name_text}
use Rattle.tokens.proofs.is_name.Goals as goal

pub returns-in-Ok-Name : goal.returns-in-Ok-Name
returns-in-Ok-Name c =
    let m = length c.args.s.now in
    let k : c.in-Ok-Name.field-0.kind ≡ Name = search rules in
    sym (one_yes plain m c.in-Ok-Name.field-0 (omega arith) (ap plain k)) ∙ ap (is_one plain m) c.in-Ok-Name.ensures ∙ name_text c.args.s.now

pub returns-in_default : goal.returns-in_default
returns-in_default c =
    let m = length c.args.s.now in
    sym (one_long plain m c.in-Ok-Name.field-0 (λ e. omega arith)) ∙ ap (is_one plain m) c.in-Ok-Name.ensures ∙ name_text c.args.s.now

pub returns-in_default-2 : goal.returns-in_default-2
returns-in_default-2 c =
    let m = length c.args.s.now in
    sym (one_other plain m c.in_default.field-0 (not_plain _ (search rules)))
    ∙ ap (λ r. is_one plain m (by_number r)) (sym c.in_default.is) ∙ ap (is_one plain m) c.scan_front.ensures ∙ name_text c.args.s.now

pub returns-in_default-3 : goal.returns-in_default-3
returns-in_default-3 c =
    let m = length c.args.s.now in
    ap (λ r. is_one plain m (by_number r)) (sym c.in_default.is) ∙ ap (is_one plain m) c.scan_front.ensures ∙ name_text c.args.s.now
