-- `tokens::gaps::slash_len` meets its contract. Assumes nothing.
use Rattle.std.proofs.Common.{◌≡◌, ℕ, ◌+◌, List, [], ◌∷◌, false, take, drop, Some, not, sym, ap, ◌∙◌, rules, arith}
use mathlib.Core.Option.{some}
use lib.Dec.{eqb, lit<}
use lib.Pointwise.{pointwise}
use denote.Enum.Bare.{same_true, same_false}
use Rattle.std.specs.Option.{option_copied}
use Rattle.paper.specs.Bytes.{at, is}
use Rattle.paper.specs.Tokens.{blank}
use Rattle.paper.specs.Scanner.{span, closing, gap}
use Rattle.theorems.proofs.Laws.Rescan.{span_le}
use Rattle.spelling.specs.Text.{option_of}
use Rattle.tokens.specs.contracts.class.Class.{the_type}
use Rattle.tokens.proofs.Classes.{at_some, at_none, blank_yes, blank_no}
use Rattle.tokens.proofs.Skips.{two_front, line_here, comment_here, no_gap, gap_blank, comment_more, comment_open, comment_le}
use Rattle.tokens.proofs.gaps.slash_len.Goals as goal

pub overflow_add-result : goal.overflow_add-result
overflow_add-result c =
    let p = c.in-Some.ensures.cases in
    omega (arith, span_le (λ b. not (is "\n" b)) c.in-Some.line.now, c.well_formed)

pub returns-in-Some : goal.returns-in-Some
unfolding option_of
returns-in-Some c =
    let s = c.args.s.now in
    let p = c.in-Some.ensures.cases in
    ap (λ (n : ℕ). Some (2 + n)) (c.line_len.ensures ∙ ap (span (λ b. not (is "\n" b))) p.1)
    ∙ ap option_of (sym (line_here s (sym (two_front 47 47 (lit< tt) (lit< tt) s) ∙ p.0)))

pub returns-in_err-comment_len : goal.returns-in_err-comment_len
returns-in_err-comment_len c =
    let s = c.args.s.now in
    let p = c.in-Some-strip_prefix.ensures.cases in
    c.from_residual.ensures ∙ comment_open (closing (drop 2 s)) (c.in_err-comment_len.ensures ∙ ap (λ (t : List ℕ). option_of (closing t)) p.1)
    ∙ ap option_of (sym (comment_here s (sym (two_front 47 42 (lit< tt) (lit< tt) s) ∙ p.0)))

pub overflow_add-result-in-Some-strip_prefix : goal.overflow_add-result-in-Some-strip_prefix
overflow_add-result-in-Some-strip_prefix c =
    let p = c.in-Some-strip_prefix.ensures.cases in
    omega (arith, comment_le c.in-Some-strip_prefix.comment.now _ c.in_ok-comment_len.ensures, c.well_formed)

pub returns-in_ok-comment_len : goal.returns-in_ok-comment_len
returns-in_ok-comment_len c =
    let s = c.args.s.now in
    let p = c.in-Some-strip_prefix.ensures.cases in
    comment_more (closing (drop 2 s)) _ (c.in_ok-comment_len.ensures ∙ ap (λ (t : List ℕ). option_of (closing t)) p.1)
    ∙ ap option_of (sym (comment_here s (sym (two_front 47 42 (lit< tt) (lit< tt) s) ∙ p.0)))

pub returns-in_default-strip_prefix : goal.returns-in_default-strip_prefix
unfolding option_of blank
returns-in_default-strip_prefix c =
    let s = c.args.s.now in
    ap option_of (sym (no_gap s (sym (two_front 47 47 (lit< tt) (lit< tt) s) ∙ c.in_default.ensures.cases) (sym (two_front 47 42 (lit< tt) (lit< tt) s) ∙ c.in_default-strip_prefix.ensures.cases) (ap blank c.requires)))
