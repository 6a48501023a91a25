-- `put_string`: the text, then its length before it. Assumes nothing.
use Rattle.translate.specs.Settled.{said_at}
use native.Mathlib.Omega.{arith}
use mathlib.Core.Path.{ap₂, ◌∙◌}
use Rattle.paper.specs.Layout.{little}
use Rattle.memory.specs.Memory.{stored}
use Rattle.translate.proofs.Rules.Tokens.{string_within, string_short, string_decoded, text_put_back, long_length}
use Rattle.translate.proofs.token.put_string.Goals as goal

pub slice_bounds-decode-count : goal.slice_bounds-decode-count
slice_bounds-decode-count c = omega (arith, string_within c.requires.there)

pub slice_bounds-decode-start : goal.slice_bounds-decode-start
slice_bounds-decode-start c = omega (arith, string_within c.requires.there)

pub overflow_cast-n : goal.overflow_cast-n
overflow_cast-n c = omega (arith, (string_decoded c.requires c.decode-n.ensures).count, string_short c.requires.there)

pub overflow_add-result-2 : goal.overflow_add-result-2
overflow_add-result-2 c = omega (arith, (string_decoded c.requires c.decode-n.ensures).count, c.requires.room.room, long_length (said_at c.args.src.now c.args.at))

pub returns : goal.returns
returns c =
    let D = string_decoded c.requires c.decode-n.ensures in
    record {
      is = c.put16.ensures ∙ ap₂ (λ x n. stored x c.args.to (little 2 n)) D.out D.count ∙ text_put_back _ _ _ c.requires.room;
      end = omega (arith, D.count, long_length (said_at c.args.src.now c.args.at));
    }
