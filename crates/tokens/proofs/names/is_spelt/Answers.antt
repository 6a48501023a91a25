-- `tokens::names::is_spelt` meets its contract. Assumes nothing.
use borrow.Author.Rules.{rules}
use native.Mathlib.Omega.{arith}
use mathlib.Core.Path.{◌≡◌, sym, ap, ◌∙◌}
use mathlib.Core.List.{List}
use Prim.Native.Nat.{ℕ}
use borrow.Author.Count.{below_more}
use lib.ListN.{length, get_or, take}
use lib.Seq.{get_or-take, ext_get_or, length-take-le}
use Rattle.tokens.proofs.Words.{eq_same, ne_same}
use Rattle.tokens.proofs.names.is_spelt.Goals as goal

pub returns-then-name-n : goal.returns-then-name-n
returns-then-name-n c =
    let a = c.args in
    sym (ne_same a.name.now (take a.n a.bytes.now) (λ e. c.if-name-n.true (ap length e ∙ length-take-le a.n a.bytes.now (omega (arith, c.requires)))))

pub loop-i-init : goal.loop-i-init
loop-i-init c = λ k h. absurd (search rules)

pub returns-then-name-i : goal.returns-then-name-i
returns-then-name-i c =
    let a = c.args in
    let i = c.loop-i.i in
    sym (ne_same a.name.now (take a.n a.bytes.now) (λ e. c.if-name-i.true (ap (λ (l : List ℕ). get_or l i 0) e ∙ get_or-take a.n a.bytes.now i 0 c.loop-i-test.true)))

pub loop-i-preserved : goal.loop-i-preserved
loop-i-preserved c = below_more _ _ c.loop-i.invariant c.if-name-i.false

pub returns : goal.returns
returns c =
    let a = c.args in
    let l : length (take a.n a.bytes.now) ≡ a.n = length-take-le a.n a.bytes.now (omega (arith, c.requires)) in
    sym (eq_same a.name.now (take a.n a.bytes.now)
    (ext_get_or 0 a.name.now (take a.n a.bytes.now) (c.if-name-n.false ∙ sym l)
    (λ k h. c.loop-i.invariant k (omega arith) ∙ sym (get_or-take a.n a.bytes.now k 0 (omega arith)))))
