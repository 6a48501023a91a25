use Prim.Native.Nat.{ℕ, ◌+◌, ◌≤◌}
use lib.ListN.{drop}
use Rattle.std.specs.Prelude.{Result}
use Rattle.refusal.specs.declared.Reason.{Reason}
use Rattle.run.specs.Paths.{DescendsFrom}
use Rattle.run.specs.Known.{rows_of, names_of}
use Rattle.run.proofs.place.descend.Given as goal

-- where the path's other names lead from here, all of them lead from the first row
abbrev pub invariant-loop-k : goal.invariant-loop-k
invariant-loop-k l =
    record {
      stands : l.at ≤ l.store.rows.count;
      near : l.depth ≤ 64 + l.k;
      few : l.k ≤ l.path.count;
      so_far : (r : Result ℕ Reason) → DescendsFrom (rows_of l.texts l.store) l.at l.depth (drop l.k (names_of l.texts l.path)) r
          → DescendsFrom (rows_of l.texts l.store) l.lo l.d (drop l.j (names_of l.texts l.path)) r;
    }
