use Prim.Native.Nat.{ℕ, ◌-◌, ◌≤◌}
use lib.ListN.{length, drop}
use Rattle.std.specs.Prelude.{Option as RustOption}
use Rattle.paper.specs.Decoder.{names_of}
use Rattle.texts.specs.Text.{EndIs}
use Rattle.texts.proofs.names_end.Given as goal

-- whatever is read from here on gives, with the names passed, what is read from the start
abbrev pub invariant-loop : goal.invariant-loop
invariant-loop l =
    record {
      within : l.end ≤ length l.text;
      so_far : (r : RustOption ℕ) → EndIs (names_of (l.n - l.counter) (drop l.end l.text)) l.text l.end r → EndIs (names_of l.n (drop l.p l.text)) l.text l.p r;
    }
