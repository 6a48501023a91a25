-- `text::name_in` meets its contract. Assumes nothing.
use Prim.Native.Nat.{ℕ, ◌+◌}
use native.Mathlib.Omega.{arith}
use mathlib.Core.Path.{ap, ◌∙◌}
use lib.ListN.{drop}
use Rattle.memory.specs.Memory.{part_at}
use Rattle.rows.proofs.Texts.{name_empty, name_rest}
use Rattle.rows.proofs.text.name_in.Goals as goal

pub returns-in_default : goal.returns-in_default
returns-in_default c =
    let a = c.args in
    name_empty _ (omega arith) ∙ ap (drop 1) (c.part.ensures ∙ ap (λ (n : ℕ). part_at a.text.now a.at (1 + n)) c.byte.ensures.0)

pub returns-in-len1-up : goal.returns-in-len1-up
returns-in-len1-up c =
    let a = c.args in
    name_rest c.part.result.now ∙ ap (drop 1) (c.part.ensures ∙ ap (λ (n : ℕ). part_at a.text.now a.at (1 + n)) c.byte.ensures.0)
