-- `Rows::child` meets its contract: from every row that is passed on, the same is found. Assumes nothing.
use native.Mathlib.Omega.{arith}
use mathlib.Core.Path.{sym, ap, ◌∙◌}
use Rattle.rows.specs.View.{label_of}
use Rattle.rows.specs.Search.{calls}
use Rattle.rows.proofs.Searches.{seeks_none, seeks_above, seeks_hit, seeks_other, seeks_under}
use Rattle.rows.proofs.search.Rows.child.Goals as goal
use Rattle.rows.proofs.search.Rows.child.Goals.{else-deep-d-2-via-then-deep-d-2+else-is_named, else-deep-d-2-via-else-deep-d-2}

pub returns-then-deep-d : goal.returns-then-deep-d
returns-then-deep-d c =
    let a = c.args in
    let l = c.loop-i in
    let k = c.kept-i-end in
    sym (l.invariant ∙ seeks_above a.texts.list.now a.texts.table.now a.self.bytes.now a.self.count k.result a.name.now a.d l.i k.ensures c.loop-i-test.true (omega (arith, c.half-deep.ensures.0)))

pub returns-then-is_named : goal.returns-then-is_named
returns-then-is_named c =
    let a = c.args in
    let l = c.loop-i in
    let k = c.kept-i-end in
    let named = sym c.if-is_named.true ∙ c.is_named.ensures ∙ ap (λ p. calls (label_of a.texts.list.now a.texts.table.now p) a.name.now) c.half.ensures.0 in
    sym (l.invariant ∙ seeks_hit a.texts.list.now a.texts.table.now a.self.bytes.now a.self.count k.result a.name.now a.d l.i k.ensures c.loop-i-test.true (sym c.half-deep.ensures.0 ∙ c.if-deep-d-2.true) named)

pub loop-i-preserved : goal.loop-i-preserved
loop-i-preserved c =
    let a = c.args in
    let l = c.loop-i in
    let k = c.kept-i-end in
    l.invariant ∙ elim c.else-deep-d-2.branch [
      | else-deep-d-2-via-then-deep-d-2+else-is_named w ↦
          seeks_other a.texts.list.now a.texts.table.now a.self.bytes.now a.self.count k.result a.name.now a.d l.i k.ensures c.loop-i-test.true
          (sym c.half-deep.ensures.0 ∙ w.if-deep-d-2.true) (sym w.if-is_named.false ∙ w.is_named.ensures ∙ ap (λ p. calls (label_of a.texts.list.now a.texts.table.now p) a.name.now) w.half.ensures.0)
      | else-deep-d-2-via-else-deep-d-2 w ↦
          seeks_under a.texts.list.now a.texts.table.now a.self.bytes.now a.self.count k.result a.name.now a.d l.i k.ensures c.loop-i-test.true (omega (arith, c.half-deep.ensures.0, c.if-deep-d.false, w.if-deep-d-2.false))
    ]

pub returns : goal.returns
returns c =
    let a = c.args in
    let l = c.loop-i in
    let k = c.kept-i-end in
    sym (l.invariant ∙ seeks_none a.texts.list.now a.texts.table.now a.self.bytes.now a.self.count k.result a.name.now a.d l.i k.ensures c.loop-i-test.false)
