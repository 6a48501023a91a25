use Rattle.std.proofs.Common.{◌≡◌, ◌-◌, ◌≤◌, length, drop}
use Rattle.tokens.specs.Gaps.{skips}
use Rattle.tokens.proofs.gaps.skip.Given as goal

abbrev pub invariant-loop-len : goal.invariant-loop-len
invariant-loop-len l = record { within : l.place ≤ length l.s; same : skips 0 l.s ≡ skips l.place (drop l.place l.s) }

abbrev pub decreases-loop-len : goal.decreases-loop-len
decreases-loop-len l = length l.s - l.place
