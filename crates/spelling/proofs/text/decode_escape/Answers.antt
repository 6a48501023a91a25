-- `spelling::text::decode_escape` meets its contract. Assumes nothing.
use Rattle.std.proofs.Common.{◌≡◌, ℕ, List, [], ◌∷◌, ◌<◌, length, get_or, None, refl, arith}
use Rattle.std.proofs.lemmas.Grind.{common_steps}
use Rattle.paper.specs.Bytes.{at, when◌then◌else◌}
use Rattle.paper.specs.Tokens.{escaped, octal}
use Rattle.paper.specs.Scanner.{meant}
use Rattle.spelling.specs.Text.{option_of, meant_of}
use Rattle.spelling.proofs.text.decode_escape.Goals as goal

-- a backslash with nothing after it
alone : (s : List ℕ) → length s < 2 → at s 0 ≡ 92 → None ≡ meant_of (meant s)
unfolding meant_of meant escaped octal when◌then◌else◌
alone [] l e = absurd (omega arith)
alone (b ∷ []) l e = rw e refl
alone (b ∷ x ∷ s) l e = absurd (omega arith)

pub returns-in_err-escape-in-len2-up : goal.returns-in_err-escape-in-len2-up
unfolding option_of meant_of meant octal when◌then◌else◌
returns-in_err-escape-in-len2-up c = grind (arith, common_steps)

pub returns-in_default : goal.returns-in_default
returns-in_default c = alone c.args.s.now (omega arith) c.requires

pub returns-in-48-to-51 : goal.returns-in-48-to-51
unfolding option_of meant_of meant octal when◌then◌else◌
returns-in-48-to-51 c = grind (arith, common_steps)

pub returns-in_ok-escape-in-len2-up : goal.returns-in_ok-escape-in-len2-up
unfolding option_of meant_of meant octal when◌then◌else◌
returns-in_ok-escape-in-len2-up c = grind (arith, common_steps)
