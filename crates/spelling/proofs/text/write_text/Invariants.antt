use Rattle.std.proofs.Common.{◌≡◌, ℕ, List, ◌+◌, ◌-◌, ◌≤◌, length, drop, true}
use lib.Seq.{paste}
use Rattle.spelling.specs.Text.{quotes, is_closed, text_in}
use Rattle.spelling.proofs.text.write_text.Given as goal

-- what the string means
abbrev pub all : List ℕ → List ℕ
all s = text_in (quotes (drop 1 s))

abbrev pub invariant-loop-i : goal.invariant-loop-i
invariant-loop-i l = record {
  closed : is_closed (quotes (drop l.i l.s)) ≡ true;
  begun : l.at ≤ l.n;
  fits : l.n ≤ l.at + length (all l.s);
  left : drop (l.n - l.at) (all l.s) ≡ text_in (quotes (drop l.i l.s));
  written : l.out ≡ paste l.initial.out l.at (all l.s) (l.n - l.at);
}

abbrev pub decreases-loop-i : goal.decreases-loop-i
decreases-loop-i l = length l.s - l.i
