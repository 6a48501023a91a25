-- `run::put::text_in` meets its contract. Assumes nothing.
use native.Mathlib.Omega.{arith}
use mathlib.Core.List.{[]}
use Rattle.theorems.proofs.Laws.DecodeAt.{Bytes}
use Rattle.run.proofs.Putting.{text_whole, text_below}
use Rattle.run.proofs.put.text_in.Goals as goal

pub returns : goal.returns
returns c =
    let a = c.args in
    let p = c.requires in
    let bytes : Bytes a.bytes.now = record { byte = λ k. omega (arith, c.shared_slice_known-1.given k) } in
    (text_below [] [] a.bytes.now a.count (omega (arith, p.0)) p.1 bytes _ (c.text_of.ensures [] []), λ t u. text_whole t u a.bytes.now a.count (omega (arith, p.0)) p.1 bytes _ (c.text_of.ensures t u))
