-- `run::place::descend` meets its contract: what the names from the kth on lead to, all of them lead to. Assumes nothing.
use native.Mathlib.Omega.{arith}
use mathlib.Core.Path.{sym, ◌∙◌, ap}
use Rattle.rows.specs.View.{name_of}
use Rattle.rows.specs.Search.{found}
use Rattle.std.specs.Prelude.{Ok, Err}
use Rattle.refusal.specs.declared.Reason.TheVariants.{TargetAbsent, TargetIsNoComponent}
use Rattle.run.proofs.Walking.{walk_end, walk_absent, walk_stuck, walk_on, sought_in}
use Rattle.run.proofs.place.descend.Goals as goal

pub returns-in_default : goal.returns-in_default
returns-in_default c =
    let a = c.args in
    let l = c.loop-k in
    (tt, l.invariant.so_far (Err TargetAbsent) (walk_absent a.texts.list.now a.texts.table.now a.store.rows.bytes.now a.store.rows.count (omega (arith, a.store.few)) a.store.room a.path.places.now l.at l.depth l.k a.path.count a.path.room c.loop-k-test.true c.name_of-name.result.now (c.name_of-name.ensures ∙ ap (name_of a.texts.list.now a.texts.table.now) (c.from.ensures ∙ c.get16.ensures)) (ap found (sym c.in_default.is) ∙ c.child.ensures)))

pub returns-then-kind_at-number : goal.returns-then-kind_at-number
returns-then-kind_at-number c =
    let a = c.args in
    let l = c.loop-k in
    (tt, l.invariant.so_far (Err TargetIsNoComponent) (walk_stuck a.texts.list.now a.texts.table.now a.store.rows.bytes.now a.store.rows.count (omega (arith, a.store.few)) a.store.room a.path.places.now l.at l.depth l.k a.path.count a.path.room c.loop-k-test.true c.name_of-name.result.now (c.name_of-name.ensures ∙ ap (name_of a.texts.list.now a.texts.table.now) (c.from.ensures ∙ c.get16.ensures)) c.in-Some.i (ap found (sym c.in-Some.is) ∙ c.child.ensures) (λ z. c.if-kind_at-number.true (c.kind_at.ensures ∙ z ∙ sym c.number.ensures))))

pub overflow_add-at : goal.overflow_add-at
overflow_add-at c =
    let a = c.args in
    let s = sought_in a.texts.list.now a.texts.table.now a.store.rows.bytes.now a.store.rows.count (omega (arith, a.store.few)) a.store.room c.name_of-name.result.now c.loop-k.depth c.loop-k.at c.in-Some.i (ap found (sym c.in-Some.is) ∙ c.child.ensures) in
    omega (arith, a.store.few, s)

pub loop-k-preserved : goal.loop-k-preserved
loop-k-preserved c =
    let a = c.args in
    let l = c.loop-k in
    let s = sought_in a.texts.list.now a.texts.table.now a.store.rows.bytes.now a.store.rows.count (omega (arith, a.store.few)) a.store.room c.name_of-name.result.now l.depth l.at c.in-Some.i (ap found (sym c.in-Some.is) ∙ c.child.ensures) in
    record {
      stands = omega (arith, s);
      near = omega (arith, l.invariant.near);
      few = omega (arith, c.loop-k-test.true);
      so_far = λ r h. l.invariant.so_far r (walk_on a.texts.list.now a.texts.table.now a.store.rows.bytes.now a.store.rows.count (omega (arith, a.store.few)) a.store.room a.path.places.now l.at l.depth l.k a.path.count a.path.room c.loop-k-test.true c.name_of-name.result.now (c.name_of-name.ensures ∙ ap (name_of a.texts.list.now a.texts.table.now) (c.from.ensures ∙ c.get16.ensures)) c.in-Some.i (ap found (sym c.in-Some.is) ∙ c.child.ensures) r (sym c.kind_at.ensures ∙ c.if-kind_at-number.false ∙ c.number.ensures) h);
    }

pub returns : goal.returns
returns c =
    let a = c.args in
    let l = c.loop-k in
    (l.invariant.stands, l.invariant.so_far (Ok l.at) (walk_end a.texts.list.now a.texts.table.now a.store.rows.bytes.now a.store.rows.count (omega (arith, a.store.few)) a.store.room a.path.places.now l.at l.depth l.k a.path.count a.path.room (omega (arith, l.invariant.few, c.loop-k-test.false))))
