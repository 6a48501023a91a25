-- `tokens::next_token` meets its contract. Assumes nothing.
use Rattle.std.proofs.Common.{ℕ, List, drop, sym, ap, ◌∙◌, length-drop, arith}
use Rattle.std.proofs.lemmas.Result.{err_from_is_err_and}
use Rattle.refusal.specs.Refused.{number_of}
use Rattle.paper.specs.Scanner.{scan}
use Rattle.spelling.proofs.At.{rest}
use Rattle.tokens.specs.Scans.{front_of}
use Rattle.tokens.specs.Shown.{shown}
use Rattle.tokens.proofs.Nexts.{next_comment, skipped_to, skipped_open, next_read, next_fault, read_within}
use Rattle.tokens.proofs.next_token.Goals as goal

pub returns-in_err-at : goal.returns-in_err-at
unfolding shown
returns-in_err-at c =
    let s = c.args.rest.now in
    let e = c.in_err-at.field-0.0 in
    let p = err_from_is_err_and c.from_residual.result c.from_residual.ensures.1 in
    rw (p.1, p.2) (sym (ap shown (next_comment 0 s (number_of e.reason) e.place (skipped_open s (number_of e.reason) e.place c.in_err-at.ensures))))

pub slice_bounds-scan_front-count : goal.slice_bounds-scan_front-count
slice_bounds-scan_front-count c = (skipped_to c.args.rest.now c.in_ok-at.at c.in_ok-at.ensures).0

pub slice_bounds-scan_front-start : goal.slice_bounds-scan_front-start
slice_bounds-scan_front-start c = omega (arith, (skipped_to c.args.rest.now c.in_ok-at.at c.in_ok-at.ensures).0)

pub overflow_add-result : goal.overflow_add-result
overflow_add-result c =
    let s = c.args.rest.now in
    let i = c.in_ok-at.at in
    let f = c.in-Ok.field-0 in
    let within = read_within (drop i s) f.kind f.len (c.in-Ok.ensures ∙ ap (λ (t : List ℕ). front_of (scan t)) (rest s i)) in
    omega (arith, (skipped_to s i c.in_ok-at.ensures).0, length-drop i s, c.well_formed)

pub returns-in-Ok : goal.returns-in-Ok
returns-in-Ok c = next_read c.args.rest.now c.in_ok-at.at c.in_ok-at.ensures c.in-Ok.field-0 c.in-Ok.ensures

pub returns-in-Err : goal.returns-in-Err
returns-in-Err c = next_fault c.args.rest.now c.in_ok-at.at c.in_ok-at.ensures _ c.in-Err.ensures
