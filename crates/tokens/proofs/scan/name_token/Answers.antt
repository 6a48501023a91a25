-- `tokens::scan::name_token` meets its contract. Assumes nothing.
use Rattle.std.proofs.Common.{ℕ, sym, ap, ◌∙◌, arith}
use lib.Seq.{length-take-le}
use Rattle.paper.specs.Tokens.{goes_on}
use Rattle.paper.specs.Scanner.{named}
use Rattle.theorems.proofs.Laws.Rescan.{span_le}
use Rattle.tokens.specs.declared.Kind.{Kind}
use Rattle.tokens.specs.Scans.{front_of}
use Rattle.tokens.proofs.Fronts.{read, name_fits, name_long}
use Rattle.tokens.proofs.scan.name_token.Goals as goal

pub returns-then-len-gt-LONGEST_NAME : goal.returns-then-len-gt-LONGEST_NAME
returns-then-len-gt-LONGEST_NAME c =
    let s = c.args.s.now in
    name_long c.name_len-len.result s c.if-len-gt-LONGEST_NAME.true ∙ ap (λ (n : ℕ). front_of (named n s)) c.name_len-len.ensures

pub slice_bounds-kind_of-end : goal.slice_bounds-kind_of-end
slice_bounds-kind_of-end c = let s = c.args.s.now in sym (length-take-le c.name_len-len.result s (omega (arith, c.name_len-len.ensures, span_le goes_on s)))

pub returns : goal.returns
returns c =
    let s = c.args.s.now in
    let n = c.name_len-len.result in
    ap (λ (k : Kind). read k n) c.kind_of.ensures ∙ name_fits n s c.if-len-gt-LONGEST_NAME.false ∙ ap (λ (k : ℕ). front_of (named k s)) c.name_len-len.ensures
