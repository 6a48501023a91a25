-- The class of a byte, as the table gives it. Assumes nothing.
use Rattle.std.specs.Prelude.{ℕ, Bool, true, false}
use Rattle.paper.specs.Bytes.{is, among, when◌then◌else◌}
use Rattle.paper.specs.Tokens.{blank, digit, starts}
use Rattle.tokens.specs.declared.class.Class.{Class}
use Rattle.tokens.specs.declared.class.Class.TheVariants.{Start, Digit, Minus, Quote, Mark, Blank, Other}

-- the first of the paper's classes to which a byte belongs; it belongs to no other
unfoldable pub class_of : ℕ → Class
class_of b =
    when starts b then Start else
    when digit b then Digit else
    when is "-" b then Minus else
    when is "\"" b then Quote else
    when among ";,{}[]:" b then Mark else
    when blank b then Blank else
    Other

-- a name goes on with a byte of this class
abbrev pub goes_on_of : Class → Bool
goes_on_of Start = true
goes_on_of Digit = true
goes_on_of Minus = true
goes_on_of Quote = false
goes_on_of Mark = false
goes_on_of Blank = false
goes_on_of Other = false
