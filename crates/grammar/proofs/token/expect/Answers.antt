-- `expect`: a token of another kind is refused. Assumes nothing.
use mathlib.Core.Path.{◌≡◌, refl}
use Rattle.std.proofs.Common.{rules}
use Rattle.grammar.specs.Seen.{another}
use Rattle.grammar.proofs.token.expect.Goals as goal

pub returns-else-eq : goal.returns-else-eq
returns-else-eq c =
    let t = c.in_ok-token.token in
    let other : t.kind ≡ c.args.kind → ⊥ = search rules in
    rw c.unexpected.ensures (another t.kind t.end c.in_ok-token.ensures other refl)
