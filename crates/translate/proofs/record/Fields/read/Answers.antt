-- `read`: number by number. Assumes nothing.
use Rattle.translate.specs.Settled.{fields_at}
use Rattle.translate.proofs.record.Fields.read.Goals as goal

pub returns : goal.returns
returns c = unfold fields_at in λ i. record { step = c.get16.ensures i; kind = c.get16-2.ensures i; path = c.get16-3.ensures i; span = c.get16-4.ensures i; value = c.get64.ensures i; place = c.get32.ensures i }
