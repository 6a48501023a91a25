-- `spelling::decode` meets its contract. Assumes nothing.
use Rattle.std.proofs.Common.{◌≡◌, ℕ, ◌+◌, ◌≤◌, List, true, length, drop, get_or, sym, ap, ap₂, ◌∙◌, arith}
use borrow.Author.Tests.{leb-true}
use lib.Dec.{leb, lit<}
use Rattle.paper.specs.Scanner.{scan, text}
use Rattle.spelling.specs.Text.{quotes, is_closed, text_in, put}
use Rattle.spelling.specs.Spelt.{text_of, Decoded}
use Rattle.spelling.proofs.At.{at_in, there}
use Rattle.spelling.proofs.Decodes.{no_string, a_string, closed_told, unclosed_told, text_short, text_long, writes_nothing, writes_none, writes_all}
use Rattle.spelling.proofs.decode.Goals as goal
use Rattle.spelling.proofs.decode.Goals.{In-Some, then-count-gt-LONGEST-via-then-count-gt-LONGEST, then-count-gt-LONGEST-via-else-count-gt-LONGEST+then-not-fits}

answer : ℕ → List ℕ → Decoded
answer k o = record { count = k; out = o }

-- a quote stands at the front, and so the token is a string or none
quoted : (s : List ℕ) → 1 ≤ length s → get_or s 0 0 ≡ 34 → scan s ≡ text (quotes (drop 1 s))
quoted s h e = a_string s (sym (at_in s 0 h) ∙ e)

-- it is a string, and so many bytes are meant
record String (s : List ℕ) (n : ℕ) : Type 0 where
  is : scan s ≡ text (quotes (drop 1 s))
  closed : is_closed (quotes (drop 1 s)) ≡ true
  count : n ≡ length (text_in (quotes (drop 1 s)))

string : (c : In-Some) → String c.args.rest.now c.in-Some.field-0.count
string c =
    let s = c.args.rest.now in
    let q = closed_told (quotes (drop 1 s)) c.in-Some.field-0 c.in-Some.ensures in
    record { is = quoted s c.in-34.len_at_least (omega arith); closed = q.0; count = q.1 }

-- which means what it holds
meaning : (s : List ℕ) (n : ℕ) → String s n → n ≤ 4095 → text_of (scan s) ≡ text_in (quotes (drop 1 s))
meaning s n q h = ap text_of q.is ∙ text_short (quotes (drop 1 s)) q.closed (omega (arith, q.count))

pub returns-in_default : goal.returns-in_default
returns-in_default c =
    let a = c.args in
    writes_nothing (scan a.rest.now) a.at a.out.now (no_string a.rest.now (λ e. omega (arith, there a.rest.now 0 34 e (lit< tt))))

pub returns-in_default-2 : goal.returns-in_default-2
returns-in_default-2 c =
    let a = c.args in
    writes_nothing (scan a.rest.now) a.at a.out.now (no_string a.rest.now (λ e. omega (arith, at_in a.rest.now 0 c.in_default.len_at_least)))

pub returns-in_default-measure : goal.returns-in_default-measure
returns-in_default-measure c =
    let a = c.args in
    writes_nothing (scan a.rest.now) a.at a.out.now
    (ap text_of (quoted a.rest.now c.in-34.len_at_least (omega arith)) ∙ unclosed_told (quotes (drop 1 a.rest.now)) c.in_default-measure.ensures)

pub returns-then-count-gt-LONGEST : goal.returns-then-count-gt-LONGEST
returns-then-count-gt-LONGEST c =
    let a = c.args in
    let s = a.rest.now in
    let q = string (goal.at.returns-then-count-gt-LONGEST c).In-Some in
    elim c.then-count-gt-LONGEST.branch [
      | then-count-gt-LONGEST-via-then-count-gt-LONGEST w ↦
          writes_nothing (scan s) a.at a.out.now (ap text_of q.is ∙ text_long (quotes (drop 1 s)) (omega (arith, q.count)))
      | then-count-gt-LONGEST-via-else-count-gt-LONGEST+then-not-fits w ↦
          writes_none (scan s) a.at a.out.now
          (ap (λ (n : ℕ). leb (a.at + n) (length a.out.now)) (ap length (meaning s _ q w.if-count-gt-LONGEST.false) ∙ sym q.count) ∙ sym w.if-not-fits.ensures)
    ]

pub write_text-requires-clause-closed : goal.write_text-requires-clause-closed
write_text-requires-clause-closed c = (string (goal.at.write_text-requires-clause-closed c).In-Some).closed

pub write_text-requires-clause-in_bounds : goal.write_text-requires-clause-in_bounds
write_text-requires-clause-in_bounds c =
    let a = c.args in
    let q = string (goal.at.write_text-requires-clause-in_bounds c).In-Some in
    omega (arith, q.count, leb-true (a.at + c.in-Some.field-0.count) (length a.out.now) (sym c.if-not-fits.ensures))

pub returns : goal.returns
unfolding answer
returns c =
    let a = c.args in
    let s = a.rest.now in
    let q = string (goal.at.returns c).In-Some in
    let l = sym (meaning s _ q c.if-count-gt-LONGEST.false) in
    let n : c.in-Some.field-0.count ≡ length (text_of (scan s)) = q.count ∙ ap length l in
    ap₂ (λ (k : ℕ) (o : List ℕ). answer k o) n (c.write_text.ensures ∙ ap (λ (t : List ℕ). put a.at t a.out.now) l)
    ∙ writes_all (scan s) a.at a.out.now (ap (λ (k : ℕ). leb (a.at + k) (length a.out.now)) (sym n) ∙ sym c.if-not-fits.ensures)
