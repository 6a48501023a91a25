-- `tokens::names::name_len` meets its contract. Assumes nothing.
use Rattle.std.proofs.Common.{ℕ, ◌∙◌, rules}
use borrow.Author.Tests.{tests}
use Rattle.std.proofs.lemmas.Iterator.{YieldsList-from_slice}
use Rattle.std.proofs.lemmas.Iterator.Consumers.{count_from_yields_List}
use Rattle.std.proofs.lemmas.Iterator.Search.{YieldsList-from_take_while}
use Rattle.std.proofs.lemmas.List.Folds.{length-prefix_len}
use Rattle.paper.specs.Tokens.{goes_on}
use Rattle.tokens.specs.Class.{class_of, goes_on_of}
use Rattle.tokens.proofs.Runs.{span_is, span_same}
use Rattle.tokens.proofs.Classes.{goes_on_is}
use Rattle.tokens.proofs.names.name_len.Goals as goal

pub returns : goal.returns
returns c =
    let s = c.args.s.now in
    count_from_yields_List c.take_while.result _ c.count.ensures.ran
    (YieldsList-from_take_while _ (λ b. goes_on_of (class_of b)) (YieldsList-from_slice s cc) c.take_while.ensures.closure c.take_while.ensures.done (λ x b q k. search (rules, tests)))
    ∙ length-prefix_len (λ (b : ℕ). goes_on_of (class_of b)) s ∙ span_is (λ b. goes_on_of (class_of b)) s ∙ span_same (λ b. goes_on_of (class_of b)) goes_on goes_on_is s
