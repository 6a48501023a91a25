-- Whether bytes are a step list: the paper's reader finds a block. Assumes nothing.
use Rattle.std.specs.Prelude.{Bool, not, List, ℕ}
use Rattle.std.proofs.Math.Option.{Option, some}
use Rattle.paper.specs.Maybe.{◌>>=◌}
use Rattle.paper.specs.Syntax.{Block}
use Rattle.paper.specs.Decoder.{ended}
use Rattle.paper.specs.TableDecoder.{absent}
use Rattle.paper.specs.StepDecoder.{block_of}
use Rattle.paper.specs.DecodeFrom.{statements_from}
use Rattle.paper.specs.DecodeAt.{cursor}

unfoldable pub is_step_list_of : List ℕ → Bool
is_step_list_of b = not (absent (block_of b))

-- the block that records and a text are, if they are one's
unfoldable pub block_in : List ℕ → List ℕ → Option Block
block_in recs text = statements_from 0 (cursor recs text 0 0) >>= λ y. ended y.1 >>= λ _. some y.0

unfoldable pub whole_in : List ℕ → List ℕ → Bool
whole_in recs text = not (absent (block_in recs text))
