-- `forms::header::text_of` meets its contract. Assumes nothing.
use Rattle.forms.specs.Header.{text_of}
use Rattle.forms.proofs.header.text_of.Goals as goal

pub returns : goal.returns
unfolding text_of
returns c = rw (← c.long.ensures.0, ← c.long-2.ensures.0) c.part.ensures
