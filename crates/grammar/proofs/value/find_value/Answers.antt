-- `find_value`: by the sorts of token. Assumes nothing.
use mathlib.Core.Path.{◌≡◌}
use Rattle.std.proofs.Common.{rules}
use Rattle.paper.specs.Tokens.{name}
use Rattle.tokens.specs.declared.names.Word.TheVariants.{Extends}
use Rattle.tokens.specs.declared.Kind.TheVariants.{Name, Word}
use Rattle.grammar.specs.Paths.{no_path}
use Rattle.grammar.proofs.Rules.Refusals.{handed_on}
use Rattle.grammar.proofs.Rules.Marks.{stands, unnamed, no_name}
use Rattle.grammar.proofs.Rules.Values.{extends_value, link_value, link_fault, basic_value, basic_fault, value_fault, unextended, neither}
use Rattle.grammar.proofs.value.find_value.Goals as goal

pub returns-in_err-token : goal.returns-in_err-token
returns-in_err-token c = rw (handed_on c.from_residual.result c.from_residual.ensures.1) (value_fault _ _ _ _ c.in_err-token.ensures)

pub returns-in-Word-Extends : goal.returns-in-Word-Extends
returns-in-Word-Extends c =
    let extends : c.in_ok-token.token.kind ≡ Word Extends = search rules in
    extends_value _ _ _ _ (rw extends at c.in_ok-token.ensures)

pub returns-in_err-path-in-Name : goal.returns-in_err-path-in-Name
returns-in_err-path-in-Name c =
    let t = c.in_ok-token.token in
    let other : t.kind ≡ Word Extends → ⊥ = search rules in
    let named : t.kind ≡ Name = search rules in
    let N = rw named at c.in_ok-token.ensures in
    rw (handed_on c.from_residual-in_err-path-in-Name.result c.from_residual-in_err-path-in-Name.ensures.1)
    (link_fault _ _ _ (unextended _ _ _ t.end t.kind c.in_ok-token.ensures other) (no_path {t = name N.spelt} (stands {t = name N.spelt} N.shown) N.free c.in_err-path-in-Name.ensures))

pub returns-in_ok-path-in-Name : goal.returns-in_ok-path-in-Name
returns-in_ok-path-in-Name c =
    let t = c.in_ok-token.token in
    let other : t.kind ≡ Word Extends → ⊥ = search rules in
    let named : t.kind ≡ Name = search rules in
    let N = rw named at c.in_ok-token.ensures in
    link_value _ _ _ (unextended _ _ _ t.end t.kind c.in_ok-token.ensures other)
    (record { token = name N.spelt; stood = stands {t = name N.spelt} N.shown; named = N.free; whole = c.in_ok-path-in-Name.ensures })

pub returns-in_err-found-in_default : goal.returns-in_err-found-in_default
returns-in_err-found-in_default c =
    let t = c.in_ok-token.token in
    let other : t.kind ≡ Word Extends → ⊥ = search rules in
    let unlike : t.kind ≡ Name → ⊥ = search rules in
    let neither = neither (unextended _ _ _ t.end t.kind c.in_ok-token.ensures other) (no_name (unnamed _ _ _ t.end t.kind c.in_ok-token.ensures unlike)) in
    rw (handed_on c.from_residual-in_err-found-in_default.result c.from_residual-in_err-found-in_default.ensures.1) (basic_fault _ _ _ _ neither c.in_err-found-in_default.ensures)

pub returns-in_ok-found-in_default : goal.returns-in_ok-found-in_default
returns-in_ok-found-in_default c =
    let t = c.in_ok-token.token in
    let other : t.kind ≡ Word Extends → ⊥ = search rules in
    let unlike : t.kind ≡ Name → ⊥ = search rules in
    let neither = neither (unextended _ _ _ t.end t.kind c.in_ok-token.ensures other) (no_name (unnamed _ _ _ t.end t.kind c.in_ok-token.ensures unlike)) in
    basic_value _ _ _ _ neither c.in_ok-found-in_default.ensures
