-- `load::size::path_size` meets its contract. Assumes nothing.
use native.Mathlib.Omega.{arith}
use mathlib.Core.Path.{◌∙◌, ap}
use Rattle.load.specs.Load.{names_size}
use Rattle.load.proofs.Sizes.{path_none, path_some}
use Rattle.load.proofs.size.path_size.Goals as goal

pub returns-in-Some : goal.returns-in-Some
returns-in-Some c =
    let s = c.in-Some in
    (path_some c.args.text.now s.names.now s.n.now c.names_size.result s.ensures.cases.0 (c.names_size.ensures.0 ∙ ap (λ k. names_size k s.names.now) c.from.ensures), omega (arith, c.names_size.ensures.1))

pub returns-in-None : goal.returns-in-None
returns-in-None c = (path_none c.args.text.now c.in-None.ensures.cases, omega arith)
