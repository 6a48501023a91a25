-- `tokens::numbers::digits_after` meets its contract. Assumes nothing.
use Rattle.std.proofs.Common.{◌≡◌, ℕ, drop, leb, ◌&&◌, sym, ◌∙◌, arith, rules}
use borrow.Author.Tests.{tests}
use Rattle.std.proofs.lemmas.Iterator.{YieldsList-from_slice}
use Rattle.std.proofs.lemmas.Iterator.Consumers.{count_from_yields_List}
use Rattle.std.proofs.lemmas.Iterator.Search.{YieldsList-from_take_while}
use Rattle.std.proofs.lemmas.List.Folds.{length-prefix_len}
use Rattle.std.proofs.lemmas.Iterator.Adapters.{YieldsList-from_skip}
use Rattle.paper.specs.Tokens.{digit}
use Rattle.paper.specs.Scanner.{span}
use Rattle.tokens.proofs.Runs.{span_is}
use Rattle.tokens.proofs.Digits.{after_none, after_end}
use Rattle.tokens.proofs.numbers.digits_after.Goals as goal
use Rattle.tokens.proofs.numbers.digits_after.Goals.{After-count}

-- the digits that stand there
run : (c : After-count) → c.count.result ≡ span digit (drop c.args.n c.args.s.now)
unfolding digit
run c =
    let s = c.args.s.now in
    let n = c.args.n in
    count_from_yields_List c.take_while.result _ c.count.ensures.ran
    (YieldsList-from_take_while _ (λ b. leb 48 b && leb b 57) (YieldsList-from_skip n (YieldsList-from_slice s cc) cc) c.take_while.ensures.closure c.take_while.ensures.done (λ x b q k. search (rules, tests)))
    ∙ length-prefix_len (λ (b : ℕ). leb 48 b && leb b 57) (drop n s) ∙ span_is (λ b. leb 48 b && leb b 57) (drop n s)

pub returns-in-0 : goal.returns-in-0
returns-in-0 c = after_none c.args.n c.args.s.now (sym (run (goal.at.returns-in-0 c).After-count) ∙ c.in-0.is)

pub returns-in_default : goal.returns-in_default
returns-in_default c = after_end c.args.n c.count.result c.args.s.now (run (goal.at.returns-in_default c).After-count) (λ e. omega arith)
