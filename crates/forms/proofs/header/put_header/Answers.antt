-- `forms::header::put_header` meets its contract. Assumes nothing.
use Rattle.std.proofs.Common.{◌∙◌, ℕ}
use lib.ListN.{length-replicate}
use Rattle.forms.specs.Header.{header_of}
use Rattle.forms.proofs.Puts.{six, little_cut}
use Rattle.forms.proofs.header.put_header.Goals as goal

pub returns : goal.returns
unfolding header_of
returns c =
    let bytes = six _ _ _ _ _ _ _ _ _ _ _ _ _ (length-replicate {A = ℕ} 24 0) c.put32.ensures c.put32-2.ensures c.put32-3.ensures c.put32-4.ensures c.put32-5.ensures c.put32-6.ensures in
    rw bytes at c.copy.ensures ∙ rw (little_cut, c.number.ensures.0, c.size.ensures.0, c.from.ensures, c.from-2.ensures)
