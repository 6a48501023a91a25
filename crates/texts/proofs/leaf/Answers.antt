-- `texts::leaf` meets its contract. Assumes nothing.
use native.Mathlib.Omega.{arith}
use mathlib.Core.Logic.{⊎_elim}
use mathlib.Core.Path.{◌∙◌, sym, ap}
use borrow.Author.Tests.{leb-true, leb-false, eqb-true, eqb-false}
use Rattle.kinds.specs.Numbers.{kind_number}
use Rattle.texts.specs.Text.{LeafIs}
use Rattle.texts.proofs.Texts.{when_so}
use Rattle.texts.proofs.Leaves.{integer_leaf, zero_leaf, vector_leaf, boolean_leaf, boolean_no, null_leaf, null_no, decimal_leaf, string_leaf, path_leaf, no_leaf, misplaced_leaf}
use Rattle.texts.proofs.leaf.Goals as goal

pub returns-in_err-kind_of : goal.returns-in_err-kind_of
returns-in_err-kind_of c =
    let h = c.in_err-kind_of.ensures in
    rw c.from_residual.ensures (no_leaf c.args.text.now c.args.p c.args.kind c.args.value (omega arith) (λ e. omega (arith, e)) (λ e. omega (arith, e)) (λ e. omega (arith, e)))

pub returns-in-Component : goal.returns-in-Component
returns-in-Component c =
    let e = sym c.in_ok-kind_of.ensures in
    ⊎_elim
    (λ z. zero_leaf c.args.text.now c.args.p c.args.value c.args.kind (e ∙ ap kind_number z))
    (λ z. vector_leaf c.args.text.now c.args.p c.args.value c.args.kind (e ∙ ap kind_number z)) c.in-Component.is

pub returns-in-Boolean : goal.returns-in-Boolean
returns-in-Boolean c =
    let k = sym c.in_ok-kind_of.ensures ∙ ap kind_number c.in-Boolean.is in
    rw c.then_some.ensures (when_so (LeafIs c.args.text.now c.args.kind c.args.value c.args.p) _ c.args.p (λ g. boolean_leaf c.args.text.now c.args.p c.args.value c.args.kind k (leb-true _ _ g)) (λ g. boolean_no c.args.text.now c.args.p c.args.value c.args.kind k (leb-false _ _ g)))

pub returns-in-Null : goal.returns-in-Null
returns-in-Null c =
    let k = sym c.in_ok-kind_of.ensures ∙ ap kind_number c.in-Null.is in
    rw c.then_some-in-Null.ensures (when_so (LeafIs c.args.text.now c.args.kind c.args.value c.args.p) _ c.args.p (λ g. null_leaf c.args.text.now c.args.p c.args.value c.args.kind k (eqb-true _ _ g)) (λ g. null_no c.args.text.now c.args.p c.args.value c.args.kind k (eqb-false _ _ g)))

pub returns-in-Integer : goal.returns-in-Integer
returns-in-Integer c = let k = sym c.in_ok-kind_of.ensures ∙ ap kind_number c.in-Integer.is in integer_leaf c.args.text.now c.args.p c.args.value c.args.kind k

pub returns-in-Decimal : goal.returns-in-Decimal
returns-in-Decimal c = let k = sym c.in_ok-kind_of.ensures ∙ ap kind_number c.in-Decimal.is in rw c.if-here.true (decimal_leaf c.args.text.now c.args.p c.args.kind c.decimal_end.result k c.decimal_end.ensures)

pub returns-in-Text : goal.returns-in-Text
returns-in-Text c = let k = sym c.in_ok-kind_of.ensures ∙ ap kind_number c.in-Text.is in rw c.if-here-2.true (string_leaf c.args.text.now c.args.p c.args.kind c.string_end.result k c.string_end.ensures)

pub returns-in-Reference : goal.returns-in-Reference
returns-in-Reference c = let k = sym c.in_ok-kind_of.ensures ∙ ap kind_number c.in-Reference.is in rw c.if-here-3.true (path_leaf c.args.text.now c.args.p c.args.kind c.path_end.result k c.path_end.ensures)

pub returns-in_default : goal.returns-in_default
returns-in_default c = let k = sym c.in_ok-kind_of.ensures ∙ ap kind_number c.in-Decimal.is in misplaced_leaf c.args.text.now c.args.p c.args.kind c.args.value (omega arith) c.if-here.false

pub returns-in_default-2 : goal.returns-in_default-2
returns-in_default-2 c = let k = sym c.in_ok-kind_of.ensures ∙ ap kind_number c.in-Text.is in misplaced_leaf c.args.text.now c.args.p c.args.kind c.args.value (omega arith) c.if-here-2.false

pub returns-in_default-3 : goal.returns-in_default-3
returns-in_default-3 c = let k = sym c.in_ok-kind_of.ensures ∙ ap kind_number c.in-Reference.is in misplaced_leaf c.args.text.now c.args.p c.args.kind c.args.value (omega arith) c.if-here-3.false
