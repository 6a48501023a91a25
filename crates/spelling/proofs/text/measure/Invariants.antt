use Rattle.std.proofs.Common.{◌≡◌, ◌-◌, ◌≤◌, length, drop}
use Rattle.spelling.specs.Text.{quotes, quoted_of}
use Rattle.spelling.proofs.text.measure.Given as goal

abbrev pub invariant-loop-at : goal.invariant-loop-at
invariant-loop-at l = record {
  fewer : l.count ≤ l.at;
  same : quoted_of 0 l.from (quotes (drop l.from l.s)) ≡ quoted_of l.count l.at (quotes (drop l.at l.s));
}

abbrev pub decreases-loop-at : goal.decreases-loop-at
decreases-loop-at l = length l.s - l.at
