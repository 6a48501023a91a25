use Rattle.std.proofs.Common.{◌≡◌, drop}
use Rattle.paper.specs.Scanner.{closing}
use Rattle.spelling.specs.Text.{option_of}
use Rattle.tokens.proofs.Skips.{later}
use Rattle.tokens.proofs.gaps.comment_len.Given as goal

abbrev pub invariant-loop-i : goal.invariant-loop-i
invariant-loop-i l = option_of (closing l.s) ≡ later l.i (closing (drop l.i l.s))
