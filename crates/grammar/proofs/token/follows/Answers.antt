-- `follows`: by the sorts of token. Assumes nothing.
use mathlib.Core.Path.{◌≡◌}
use Rattle.std.proofs.Common.{rules}
use Rattle.tokens.specs.declared.Kind.TheVariants.{Mark}
use Rattle.grammar.proofs.Rules.Marks.{no_mark, not_mark}
use Rattle.grammar.proofs.token.follows.Goals as goal

pub returns-else-eq : goal.returns-else-eq
returns-else-eq c =
    let t = c.in_ok-token.token in
    let other : t.kind ≡ Mark c.args.byte → ⊥ = search rules in
    not_mark (no_mark _ _ t.at t.end t.kind c.in_ok-token.ensures _ other)
