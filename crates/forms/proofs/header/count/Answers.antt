-- `forms::header::count` meets its contract. Assumes nothing.
use native.Mathlib.Omega.{arith}
use mathlib.Core.Path.{sym}
use Rattle.theorems.proofs.Laws.DecodeAt.{Bytes}
use Rattle.forms.proofs.Headers.{header_short, header_form, header_start, header_many, header_long, header_place, header_sum, header_size, header_good}
use Rattle.forms.proofs.header.count.Goals.{then-b-lt-HEADER-via-then-b-lt-HEADER, then-b-lt-HEADER-via-else-b-lt-HEADER+then-long-number, then-b-lt-HEADER-via-else-b-lt-HEADER+else-long-number+then-long-ne-HEADER, then-n-gt-RECORDS-via-then-n-gt-RECORDS, then-n-gt-RECORDS-via-else-n-gt-RECORDS+then-most_text-text, then-long-place-via-then-long-place, then-long-place-via-else-long-place+then-long-total, then-long-place-via-else-long-place+else-long-total+then-b-total}
use Rattle.forms.proofs.header.count.Goals as goal

pub returns-then-b-lt-HEADER : goal.returns-then-b-lt-HEADER
returns-then-b-lt-HEADER c =
    let B : Bytes c.args.b.now = record { byte = λ k. omega (arith, c.type_inv.b k) } in
    elim c.then-b-lt-HEADER.branch [
      | then-b-lt-HEADER-via-then-b-lt-HEADER w ↦ header_short c.args.form c.args.b.now w.if-b-lt-HEADER.true
      | then-b-lt-HEADER-via-else-b-lt-HEADER+then-long-number w ↦ header_form c.args.form c.args.b.now B w.if-b-lt-HEADER.false _ _ w.long.ensures.0 w.number.ensures.0 w.if-long-number.true
      | then-b-lt-HEADER-via-else-b-lt-HEADER+else-long-number+then-long-ne-HEADER w ↦ header_start c.args.form c.args.b.now B w.if-b-lt-HEADER.false _ _ w.long.ensures.0 w.number.ensures.0 w.if-long-number.false _ w.long-else-long-number.ensures.0 w.if-long-ne-HEADER.true
    ]

pub returns-then-n-gt-RECORDS : goal.returns-then-n-gt-RECORDS
returns-then-n-gt-RECORDS c =
    let B : Bytes c.args.b.now = record { byte = λ k. omega (arith, c.type_inv.b k) } in
    elim c.then-n-gt-RECORDS.branch [
      | then-n-gt-RECORDS-via-then-n-gt-RECORDS w ↦ header_many c.args.form c.args.b.now B c.if-b-lt-HEADER.false _ _ c.long.ensures.0 c.number.ensures.0 c.if-long-number.false _ c.long-else-long-number.ensures.0 c.if-long-ne-HEADER.false _ c.long-n.ensures.0 w.if-n-gt-RECORDS.true
      | then-n-gt-RECORDS-via-else-n-gt-RECORDS+then-most_text-text w ↦ header_long c.args.form c.args.b.now B c.if-b-lt-HEADER.false _ _ c.long.ensures.0 c.number.ensures.0 c.if-long-number.false _ c.long-else-long-number.ensures.0 c.if-long-ne-HEADER.false _ c.long-n.ensures.0 w.if-n-gt-RECORDS.false _ _ c.long-text.ensures.0 w.most_text.ensures.0 w.if-most_text-text.true
    ]

pub returns-then-long-place : goal.returns-then-long-place
returns-then-long-place c =
    let B : Bytes c.args.b.now = record { byte = λ k. omega (arith, c.type_inv.b k) } in
    elim c.then-long-place.branch [
      | then-long-place-via-then-long-place w ↦ header_place c.args.form c.args.b.now B c.if-b-lt-HEADER.false _ _ c.long.ensures.0 c.number.ensures.0 c.if-long-number.false _ c.long-else-long-number.ensures.0 c.if-long-ne-HEADER.false _ c.long-n.ensures.0 c.if-n-gt-RECORDS.false _ _ c.long-text.ensures.0 c.most_text.ensures.0 c.if-most_text-text.false _ _ c.size.ensures.0 c.long-2.ensures.0 w.if-long-place.true
      | then-long-place-via-else-long-place+then-long-total w ↦ header_sum c.args.form c.args.b.now B c.if-b-lt-HEADER.false _ _ c.long.ensures.0 c.number.ensures.0 c.if-long-number.false _ c.long-else-long-number.ensures.0 c.if-long-ne-HEADER.false _ c.long-n.ensures.0 c.if-n-gt-RECORDS.false _ _ c.long-text.ensures.0 c.most_text.ensures.0 c.if-most_text-text.false _ _ c.size.ensures.0 c.long-2.ensures.0 w.if-long-place.false _ w.long-else-long-place.ensures.0 w.if-long-total.true
      | then-long-place-via-else-long-place+else-long-total+then-b-total w ↦ header_size c.args.form c.args.b.now B c.if-b-lt-HEADER.false _ _ c.long.ensures.0 c.number.ensures.0 c.if-long-number.false _ c.long-else-long-number.ensures.0 c.if-long-ne-HEADER.false _ c.long-n.ensures.0 c.if-n-gt-RECORDS.false _ _ c.long-text.ensures.0 c.most_text.ensures.0 c.if-most_text-text.false _ _ c.size.ensures.0 c.long-2.ensures.0 w.if-long-place.false _ w.long-else-long-place.ensures.0 w.if-long-total.false (λ e. w.if-b-total.true (sym e))
    ]

pub returns : goal.returns
returns c = let B : Bytes c.args.b.now = record { byte = λ k. omega (arith, c.type_inv.b k) } in header_good c.args.form c.args.b.now B c.if-b-lt-HEADER.false _ _ c.long.ensures.0 c.number.ensures.0 c.if-long-number.false _ c.long-else-long-number.ensures.0 c.if-long-ne-HEADER.false _ c.long-n.ensures.0 c.if-n-gt-RECORDS.false _ _ c.long-text.ensures.0 c.most_text.ensures.0 c.if-most_text-text.false _ _ c.size.ensures.0 c.long-2.ensures.0 c.if-long-place.false _ c.long-else-long-place.ensures.0 (sym c.if-b-total.false) c.if-long-total.false
