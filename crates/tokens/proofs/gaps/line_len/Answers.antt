-- `tokens::gaps::line_len` meets its contract. Assumes nothing.
use Rattle.std.proofs.Common.{not, ◌∙◌, rules}
use borrow.Author.Tests.{tests}
use Rattle.std.proofs.lemmas.Iterator.{YieldsList-from_slice}
use Rattle.std.proofs.lemmas.Iterator.Consumers.{count_from_yields_List}
use Rattle.std.proofs.lemmas.Iterator.Search.{YieldsList-from_take_while}
use Rattle.std.proofs.lemmas.List.Folds.{length-prefix_len}
use Rattle.paper.specs.Bytes.{is}
use Rattle.tokens.proofs.Runs.{span_is}
use Rattle.tokens.proofs.gaps.line_len.Goals as goal

pub returns : goal.returns
returns c =
    let s = c.args.s.now in
    count_from_yields_List c.take_while.result _ c.count.ensures.ran
    (YieldsList-from_take_while _ (λ b. not (is "\n" b)) (YieldsList-from_slice s cc) c.take_while.ensures.closure c.take_while.ensures.done (λ x b q k. search (rules, tests)))
    ∙ length-prefix_len (λ b. not (is "\n" b)) s ∙ span_is (λ b. not (is "\n" b)) s
