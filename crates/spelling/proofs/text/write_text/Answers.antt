-- `spelling::text::write_text` meets its contract. Assumes nothing.
use Rattle.std.proofs.Common.{◌≡◌, ℕ, ◌+◌, ◌-◌, ◌≤◌, ◌<◌, List, true, length, drop, get_or, sym, ap, ◌∙◌, arith}
use mathlib.Core.Bool.{true≢false}
use lib.ListN.{set}
use lib.Seq.{paste}
use Rattle.spelling.specs.Text.{quotes, is_closed, text_in}
use Rattle.spelling.proofs.Strings.{closed_inside, quotes_close, quotes_bad, quotes_more, decoded_more, next_of, put_more, put_all}
use Rattle.spelling.proofs.text.write_text.Invariants.{all}
use Rattle.spelling.proofs.text.write_text.Goals as goal
use Rattle.spelling.proofs.text.write_text.Goals.{In-Some}

pub bounds-s-i : goal.bounds-s-i
bounds-s-i c = closed_inside c.args.s.now c.loop-i.i c.loop-i.invariant.closed

pub slice_bounds-decode_one-count : goal.slice_bounds-decode_one-count
slice_bounds-decode_one-count c = omega (arith, closed_inside c.args.s.now c.loop-i.i c.loop-i.invariant.closed)

pub slice_bounds-decode_one-start : goal.slice_bounds-decode_one-start
slice_bounds-decode_one-start c = omega (arith, closed_inside c.args.s.now c.loop-i.i c.loop-i.invariant.closed)

-- one byte that is meant, and the rest
record Turn (s : List ℕ) (at i n b k : ℕ) : Type 0 where
  ahead : 1 ≤ k
  within : i + k ≤ length s
  some : n - at < length (all s)
  byte : get_or (all s) (n - at) 0 ≡ b
  left : drop (n - at + 1) (all s) ≡ text_in (quotes (drop (i + k) s))
  closed : is_closed (quotes (drop (i + k) s)) ≡ true

turn : (c : In-Some) → Turn c.args.s.now c.args.at c.loop-i.i c.loop-i.n c.in-Some.field-0.byte c.in-Some.field-0.len
turn c =
    let s = c.args.s.now in
    let l = c.loop-i in
    let b = c.in-Some.field-0.byte in
    let k = c.in-Some.field-0.len in
    let q = quotes_more s l.i (closed_inside s l.i l.invariant.closed) c.loop-i-test.true c.in-Some.field-0 c.in-Some.ensures in
    let d = decoded_more b k (quotes (drop (l.i + k) s)) (sym (ap is_closed q.2) ∙ l.invariant.closed) in
    let n = next_of (all s) (text_in (quotes (drop (l.i + k) s))) (l.n - c.args.at) b (l.invariant.left ∙ ap text_in q.2 ∙ d.1) in
    record { ahead = q.0; within = q.1; some = n.0; byte = n.1; left = n.2; closed = d.0 }

pub bounds-out-n : goal.bounds-out-n
bounds-out-n c = let t = turn (goal.at.bounds-out-n c).In-Some in omega arith

pub overflow_add-i : goal.overflow_add-i
overflow_add-i c = let t = turn (goal.at.overflow_add-i c).In-Some in omega (arith, c.well_formed)

pub loop-i-smaller : goal.loop-i-smaller
loop-i-smaller c = let t = turn (goal.at.loop-i-smaller c).In-Some in omega arith

pub loop-i-preserved : goal.loop-i-preserved
loop-i-preserved c =
    let t = turn (goal.at.loop-i-preserved c).In-Some in
    let a = c.args in
    let l = c.loop-i in
    let m = l.n - a.at in
    let b = c.in-Some.field-0.byte in
    let next : m + 1 ≡ l.n + 1 - a.at = omega (arith, l.invariant.begun) in
    let place : a.at + m ≡ l.n = omega (arith, l.invariant.begun) in
    record {
      closed = t.closed;
      begun = omega (arith, l.invariant.begun);
      fits = omega (arith, l.invariant.begun, t.some);
      left = ap (λ (k : ℕ). drop k (all a.s.now)) (sym next) ∙ t.left;
      written =
          ap (λ (o : List ℕ). set o l.n b) l.invariant.written
          ∙ ap (λ (k : ℕ). set (paste a.out.now a.at (all a.s.now) m) k b) (sym place)
          ∙ put_more a.out.now (all a.s.now) a.at m b (omega (arith, t.some, c.requires.in_bounds)) t.some t.byte
          ∙ ap (paste a.out.now a.at (all a.s.now)) next;
    }

pub returns-in_default : goal.returns-in_default
unfolding is_closed
returns-in_default c =
    let s = c.args.s.now in
    let l = c.loop-i in
    absurd (true≢false (sym l.invariant.closed ∙ ap is_closed (quotes_bad s l.i (closed_inside s l.i l.invariant.closed) c.loop-i-test.true c.in_default.ensures)))

pub returns : goal.returns
unfolding text_in
returns c =
    let a = c.args in
    let l = c.loop-i in
    l.invariant.written
    ∙ put_all a.out.now (all a.s.now) a.at (l.n - a.at) (omega arith)
    (l.invariant.left ∙ ap text_in (quotes_close a.s.now l.i (closed_inside a.s.now l.i l.invariant.closed) c.loop-i-test.false))
