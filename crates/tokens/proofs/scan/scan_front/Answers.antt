-- `tokens::scan::scan_front` meets its contract. Assumes nothing.
use Rattle.std.proofs.Common.{◌≡◌, List, [], ◌∷◌, ℕ, length, Some, None, refl, sym, subst, ap, ◌∙◌, inl, inr, arith}
use Rattle.std.specs.Prelude.{slice_get}
use Rattle.std.specs.Prelude as Rust
use Rattle.paper.specs.Scanner.{scan}
use Rattle.tokens.specs.declared.class.Class.{Class}
use Rattle.tokens.specs.declared.class.Class.TheVariants.{Start, Digit, Minus, Quote, Mark, Blank, Other}
use Rattle.tokens.specs.declared.Kind.TheVariants as kinds
use Rattle.tokens.specs.declared.Kind.TheVariants.{End}
use Rattle.tokens.specs.Kinds.{kind_of}
use Rattle.tokens.specs.Class.{class_of}
use Rattle.tokens.specs.Scans.{front_of}
use Rattle.spelling.proofs.Decodes.{scan_string}
use Rattle.tokens.proofs.Classes.{at_some}
use Rattle.tokens.proofs.Fronts.{read, Scans, scans, scan_end}
use Rattle.tokens.proofs.scan.scan_front.Goals as goal

-- the source begins with a byte of this class
by_class : (s : List ℕ) (b : ℕ) (k c : Class) → Some b ≡ slice_get s 0 → c ≡ class_of b → c ≡ k → Scans s k
by_class [] b k c e f g = cc
by_class (x ∷ s) b k c e f g =
    let q : class_of x ≡ k = ap class_of (at_some (x ∷ s) 0 b e) ∙ sym f ∙ g in
    subst (Scans (x ∷ s)) q (scans (x ∷ s) (λ h. omega arith))

not_empty : (s : List ℕ) (b : ℕ) → Some b ≡ slice_get s 0 → length s ≡ 0 → ⊥
not_empty [] b e h = cc
not_empty (x ∷ s) b e h = omega arith

pub returns-in_default : goal.returns-in_default
returns-in_default c = empty c.args.s.now c.in_default.ensures.value
  where
    empty : (s : List ℕ) → ◌≡◌ {A = Rust.Option ℕ} None (slice_get s 0) → read End 0 ≡ front_of (scan s)
    empty [] e = scan_end [] refl
    empty (x ∷ s) e = cc

pub returns-in-Start : goal.returns-in-Start
returns-in-Start c =
    let s = c.args.s.now in
    c.name_token.ensures ∙ ap front_of (sym (by_class s c.in-Some.first.now Start _ c.in-Some.ensures.value c.of.ensures c.in-Start.is))

pub returns-in-Digit : goal.returns-in-Digit
returns-in-Digit c =
    let s = c.args.s.now in
    let b = c.in-Some.first.now in
    let first = c.in-Some.ensures.value in
    c.number_token.ensures
    ∙ ap front_of (sym (elim c.in-Digit.is [ inl e ↦ by_class s b Digit _ first c.of.ensures e | inr e ↦ by_class s b Minus _ first c.of.ensures e ]))

pub returns-in-Quote : goal.returns-in-Quote
returns-in-Quote c =
    let s = c.args.s.now in
    let b = c.in-Some.first.now in
    let q = by_class s b Quote _ c.in-Some.ensures.value c.of.ensures c.in-Quote.is in
    c.string_token.ensures ∙ ap front_of (sym (scan_string s (not_empty s b c.in-Some.ensures.value) q.0 q.1 q.2))

pub returns-in-Mark : goal.returns-in-Mark
unfolding front_of kind_of
returns-in-Mark c =
    let s = c.args.s.now in
    let b = c.in-Some.first.now in
    let q = by_class s b Mark _ c.in-Some.ensures.value c.of.ensures c.in-Mark.is in
    ap (λ (x : ℕ). read (kinds.Mark x) 1) (sym (at_some s 0 b c.in-Some.ensures.value)) ∙ ap front_of (sym q)

pub returns-in-Blank : goal.returns-in-Blank
unfolding front_of
returns-in-Blank c =
    let s = c.args.s.now in
    let b = c.in-Some.first.now in
    let first = c.in-Some.ensures.value in
    ap front_of (sym (elim c.in-Blank.is [ inl e ↦ by_class s b Blank _ first c.of.ensures e | inr e ↦ by_class s b Other _ first c.of.ensures e ]))
