-- `read_reference`: by the sorts of token. Assumes nothing.
use mathlib.Core.Path.{◌≡◌}
use Rattle.std.proofs.Common.{rules}
use Rattle.paper.specs.Tokens.{name}
use Rattle.grammar.specs.Paths.{no_token, no_path}
use Rattle.tokens.specs.declared.Kind.TheVariants.{Name}
use Rattle.grammar.proofs.Rules.Refusals.{handed_on}
use Rattle.grammar.proofs.Rules.Marks.{stands, unnamed, no_name}
use Rattle.grammar.proofs.path.read_reference.Goals as goal

pub returns-in_err-token : goal.returns-in_err-token
returns-in_err-token c = rw (handed_on c.from_residual.result c.from_residual.ensures.1) (no_token c.in_err-token.ensures)

pub returns-then-ne : goal.returns-then-ne
returns-then-ne c =
    let t = c.in_ok-token.token in
    let other : t.kind ≡ Name → ⊥ = search rules in
    no_name (unnamed _ _ _ t.end t.kind c.in_ok-token.ensures other)

pub returns-in_err-path : goal.returns-in_err-path
returns-in_err-path c =
    let named : c.in_ok-token.token.kind ≡ Name = search rules in
    let N = rw named at c.in_ok-token.ensures in
    rw (handed_on c.from_residual-in_err-path.result c.from_residual-in_err-path.ensures.1) (no_path {t = name N.spelt} (stands {t = name N.spelt} N.shown) N.free c.in_err-path.ensures)

pub returns : goal.returns
returns c =
    let named : c.in_ok-token.token.kind ≡ Name = search rules in
    let N = rw named at c.in_ok-token.ensures in
    record { token = name N.spelt; stood = stands {t = name N.spelt} N.shown; named = N.free; whole = c.in_ok-path.ensures }
