-- What the crate answers, as the paper's answers. Assumes nothing.
use Rattle.paper.specs.Answer.{Answer, ok, refused}
use Rattle.paper.specs.Tokens.{Here}
use Rattle.paper.specs.Tokens as Paper
use Rattle.tokens.specs.declared.Token.{Token}
use Rattle.tokens.specs.Kinds.{kind_of}

-- the next token, where it stands and where it ends; or the refusal
unfoldable pub shown : Answer (Paper.Token × Here × Here) → Answer Token
shown (ok y) = ok (record { kind = kind_of y.0; at = y.1.place; end = y.2.place })
shown (refused n p) = refused n p
