-- `Chosen::span_of`: up to where the deeper rows end. Assumes nothing.
use native.Mathlib.Omega.{arith}
use mathlib.Core.Path.{◌∙◌}
use mathlib.Core.List.{[]}
use Rattle.write.proofs.Records.{span_few, span_is}
use Rattle.write.proofs.chosen.Chosen.span_of.Goals as goal

pub overflow_sub-result : goal.overflow_sub-result
overflow_sub-result c = (span_few [] [] c.args.self c.args.i c.from-depth.result c.end_of.result c.requires (c.from-depth.ensures ∙ c.depth_at.ensures) (c.end_of.ensures [] [])).0

pub overflow_cast-result : goal.overflow_cast-result
overflow_cast-result c =
    let s = span_few [] [] c.args.self c.args.i c.from-depth.result c.end_of.result c.requires (c.from-depth.ensures ∙ c.depth_at.ensures) (c.end_of.ensures [] []) in
    omega (arith, s.1)

pub returns : goal.returns
returns c = λ t u. span_is t u c.args.self c.args.i c.from-depth.result c.end_of.result c.requires (c.from-depth.ensures ∙ c.depth_at.ensures) (c.end_of.ensures t u)
