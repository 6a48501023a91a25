-- `memory::bytes::zero` meets its contract. Assumes nothing.
use Rattle.std.proofs.Common.{arith, sym, ap, ◌≡◌, ◌∙◌, replicate}
use Rattle.std.proofs.lemmas.List.{length-take-le}
use Rattle.paper.specs.Lent.{zeros}
use Rattle.memory.proofs.Laws.{length_zeros, stored_front, stored_out}
use Rattle.memory.proofs.bytes.zero.Goals as goal

pub returns-then-n-s : goal.returns-then-n-s
unfolding zeros
returns-then-n-s c =
    let n = c.args.n in
    let z : c.fill.new.self ≡ zeros n = c.fill.ensures.after (λ y h. h) ∙ ap (λ k. replicate k 0) (length-take-le n c.args.s.now c.if-n-s.true) in
    rw z (sym (stored_front c.args.s.now (zeros n) (omega (arith, length_zeros n)) ∙ rw (length_zeros n)))

pub returns-else-n-s : goal.returns-else-n-s
returns-else-n-s c = let n = c.args.n in sym (stored_out _ 0 (zeros n) (omega (arith, length_zeros n)))
