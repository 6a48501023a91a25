-- `tokens::names::kind_of` meets its contract. Assumes nothing.
use Rattle.std.proofs.Common.{sym, ◌∙◌}
use Rattle.tokens.proofs.Words.{word_here, word_later, word_none}
use Rattle.tokens.proofs.names.kind_of.Goals as goal

pub returns-then-is_spelt : goal.returns-then-is_spelt
returns-then-is_spelt c =
    let l = c.loop-bytes in
    sym (l.invariant ∙ word_here c.args.name.now l.bytes-index c.loop-bytes-test.true (sym c.is_spelt.ensures ∙ c.if-is_spelt.true))

pub loop-bytes-preserved : goal.loop-bytes-preserved
loop-bytes-preserved c =
    let l = c.loop-bytes in
    l.invariant ∙ word_later c.args.name.now l.bytes-index c.loop-bytes-test.true (sym c.is_spelt.ensures ∙ c.if-is_spelt.false)

pub returns : goal.returns
returns c = sym (c.loop-bytes.invariant ∙ word_none c.args.name.now c.loop-bytes.bytes-index c.loop-bytes-test.false)
