-- Bounds (document 01, "Bounds"): "tables of depth 32, 1,024 nodes and 16,384 text bytes". Assumes nothing.
use Rattle.std.specs.Prelude.{ℕ, ◌≤◌, length, leb}
use Rattle.paper.specs.Answer.{Answer, ok, demand, ◌>>=◌}
use Rattle.paper.specs.Limits.{most_depth, most_nodes, most_text}
use Rattle.paper.specs.Syntax.{Path}
use Rattle.paper.specs.Store.{Store, Value, bind}
use Rattle.paper.specs.Layout.{rows, deepest, texts}

-- within the bounds: every node has a row, and every text byte is a row's
pub record Bounded (s : Store) : Type 0 where
  pub depth : deepest (rows 1 s) ≤ most_depth
  pub nodes : length (rows 1 s) ≤ most_nodes
  pub text : length (texts (rows 1 s)) ≤ most_text

-- "depth, nodes, text over the bound", 16, 17, 18, in this order
unfoldable pub bounded : ℕ → Store → Answer Store
bounded p s =
    let xs = rows 1 s in do
      _ ← demand (leb (deepest xs) most_depth) 16 p
      _ ← demand (leb (length xs) most_nodes) 17 p
      _ ← demand (leb (length (texts xs)) most_text) 18 p
      ok s

-- "measured on the store after each single put": bind, and then the bounds
unfoldable pub assign : ℕ → Path → Value → Store → Answer Store
assign p r v s = do
  s ← bind p r v s
  bounded p s
