-- Rows written: one row, a part of the rows replaced, rows copied to another depth. Assumes nothing.
use Rattle.std.specs.Prelude.{ℕ, zero, suc, ◌+◌, ◌-◌, ◌*◌, ◌%◌, Bool, ◌&&◌, List, [], ◌++◌, length, take, leb}
use Rattle.paper.specs.Bytes.{when◌then◌else◌}
use Rattle.paper.specs.Layout.{Row, text_of, little}
use Rattle.memory.specs.Memory.{word_at, stored, slid}
use Rattle.rows.specs.View.{label_of, value_of}

-- a number of the row at index i: n bytes from byte f of the row on; 0 where no work slice has such a row
unfoldable pub field_at : ℕ → List ℕ → ℕ → ℕ → ℕ
field_at n w i f = when leb i 4095 then word_at n w (i * 16 + f) else 0

-- the row at index i, by its numbers
unfoldable pub row_here : List ℕ → List ℕ → List ℕ → ℕ → Row
row_here t u w i =
    let l = label_of t u (field_at 2 w i 4) in
    record {
      first = field_at 2 w i 0;
      second = field_at 2 w i 2;
      label = l;
      span = field_at 2 w i 6;
      value = value_of t u (field_at 2 w i 0) (field_at 8 w i 8) (field_at 2 w i 6 - length (text_of l));
      last = [];
    }

-- a row's bytes: kind, depth, place of the name, text bytes, value
unfoldable pub row_bytes : ℕ → ℕ → ℕ → ℕ → ℕ → List ℕ
row_bytes k d p m v = little 2 k ++ (little 2 d ++ (little 2 p ++ (little 2 m ++ little 8 v)))

unfoldable pub row_stored : List ℕ → ℕ → List ℕ → List ℕ
row_stored w i b = when leb i 4095 then stored w (i * 16) b else w

-- the rows from i up to e, of n, can be replaced by m rows
unfoldable pub fits_in : List ℕ → ℕ → ℕ → ℕ → List ℕ → ℕ → Bool
fits_in w n i e s m = leb i e && (leb e n && (leb (n + m) 4096 && (leb ((n + m) * 16) (length w) && leb (m * 16) (length s))))

-- then those behind are moved first, and the new ones copied between
unfoldable pub spliced : List ℕ → ℕ → ℕ → ℕ → List ℕ → ℕ → List ℕ
spliced w n i e s m =
    when fits_in w n i e s m
    then stored (slid w (e * 16) ((i + m) * 16) ((n - e) * 16)) (i * 16) (take (m * 16) s)
    else w

-- a depth counted from another beginning
unfoldable pub moved : ℕ → ℕ → ℕ → ℕ
moved from to d = (d + to - from) % 65536

-- the bytes of k rows from index i on, each moved
unfoldable pub lifted : List ℕ → ℕ → ℕ → ℕ → ℕ → List ℕ
lifted w from to i zero = []
lifted w from to i (suc k) =
    row_bytes (field_at 2 w i 0) (moved from to (field_at 2 w i 2)) (field_at 2 w i 4) (field_at 2 w i 6) (field_at 8 w i 8) ++ lifted w from to (suc i) k

-- the rows from p up to e of w, copied to the rows of s from q on
unfoldable pub lifts_in : List ℕ → ℕ → ℕ → List ℕ → ℕ → ℕ → Bool
lifts_in w p e s q to = leb p e && (leb e 4096 && (leb (e * 16) (length w) && (leb (q + (e - p)) 4096 && (leb ((q + (e - p)) * 16) (length s) && leb to 65535))))

unfoldable pub lift_stored : List ℕ → ℕ → ℕ → List ℕ → ℕ → ℕ → ℕ → List ℕ
lift_stored w p e s q from to = when lifts_in w p e s q to then stored s (q * 16) (lifted w from to p (e - p)) else s
