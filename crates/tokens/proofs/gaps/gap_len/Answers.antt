-- `tokens::gaps::gap_len` meets its contract. Assumes nothing.
use Rattle.std.proofs.Common.{◌≡◌, sym, ap, ◌∙◌, rules, arith}
use denote.Enum.Bare.{same_true, same_false}
use Rattle.std.specs.Option.{option_copied}
use Rattle.paper.specs.Tokens.{blank}
use Rattle.spelling.specs.Text.{option_of}
use Rattle.tokens.specs.contracts.class.Class.{the_type}
use Rattle.tokens.proofs.Classes.{at_some, at_none, blank_yes, blank_no}
use Rattle.tokens.proofs.Skips.{gap_blank, gap_other, gap_nowhere}
use Rattle.tokens.proofs.gaps.gap_len.Goals as goal

pub returns-in-Some : goal.returns-in-Some
unfolding option_of
returns-in-Some c =
    let s = c.args.s.now in
    let b = c.in-Some.b.now in
    let e = sym c.of.ensures ∙ same_true the_type (search rules) _ _ (sym c.eq.ensures ∙ c.if-eq.true) in
    ap option_of (sym (gap_blank s (ap blank (at_some s 0 b c.in-Some.ensures.value) ∙ blank_yes b (omega arith) e)))

pub returns-in_default : goal.returns-in_default
unfolding option_of
returns-in_default c =
    let s = c.args.s.now in
    let b = c.in-Some.b.now in
    let other : b ≡ 47 → ⊥ = search rules in
    let no = blank_no b (omega arith) (λ e. same_false the_type _ _ (sym c.eq.ensures ∙ c.if-eq.false) (c.of.ensures ∙ e)) in
    ap option_of (sym (gap_other s b (at_some s 0 b c.in-Some.ensures.value) other no))

pub returns-in_default-2 : goal.returns-in_default-2
unfolding option_of
returns-in_default-2 c =
    let s = c.args.s.now in
    ap option_of (sym (gap_nowhere s (at_none s 0 (sym (ap option_copied c.in_default.is) ∙ c.first.ensures.value))))
