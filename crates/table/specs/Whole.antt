-- Whether bytes are a table: the paper's reader finds a store. Assumes nothing.
use Rattle.std.specs.Prelude.{ℕ, Bool, not, List}
use Rattle.std.proofs.Math.Option.{Option, some}
use Rattle.paper.specs.Maybe.{◌>>=◌, require}
use Rattle.paper.specs.Store.{Store}
use Rattle.paper.specs.Decoder.{ended}
use Rattle.paper.specs.TableDecoder.{absent, distinct, table_of}
use Rattle.paper.specs.DecodeFrom.{entries_from}
use Rattle.paper.specs.DecodeAt.{cursor}

-- the paper's reader of tables finds a store
unfoldable pub is_table_of : List ℕ → Bool
is_table_of b = not (absent (table_of b))

-- the store that n records and a text are, if they are one's
unfoldable pub store_in : List ℕ → List ℕ → ℕ → Option Store
store_in recs text n = entries_from 1 n (cursor recs text 0 0) >>= λ y. ended y.1 >>= λ _. require (distinct y.0) >>= λ _. some y.0

unfoldable pub whole_in : List ℕ → List ℕ → ℕ → Bool
whole_in recs text n = not (absent (store_in recs text n))
