-- The end of the records and of the text, at places. Assumes nothing.
use Prim.Native.Nat.{ℕ, ◌≤◌, ◌<◌}
use mathlib.Core.Path.{◌≡◌}
use mathlib.Core.Bool.{true, false}
use mathlib.Core.List.{List}
use mathlib.Core.Option.{none, some}
use lib.ListN.{length, drop, drop_of_length-le}
use lib.Seq.{drop-cons}
use Rattle.paper.specs.Scanner.{empty}
use Rattle.paper.specs.Maybe.{◌>>=◌, require}
use Rattle.paper.specs.Decoder.{ended}
use Rattle.paper.specs.DecodeAt.{cursor}

pub empty_yes : (s : List ℕ) (i : ℕ) → length s ≤ i → empty (drop i s) ≡ true
empty_yes s i h = rw (drop_of_length-le s h)

pub empty_no : (s : List ℕ) (i : ℕ) → i < length s → empty (drop i s) ≡ false
empty_no s i h = rw (drop-cons s i 0 h)

module _ (recs text : List ℕ) (i p : ℕ) where
  pub ended_more : i < length recs → ended (cursor recs text i p) ≡ none
  unfolding ended cursor ◌>>=◌ require
  ended_more h = rw (empty_no recs i h)

  pub ended_text : length recs ≤ i → p < length text → ended (cursor recs text i p) ≡ none
  unfolding ended cursor ◌>>=◌ require
  ended_text l h = rw (empty_yes recs i l, empty_no text p h)

  pub ended_all : length recs ≤ i → length text ≤ p → ended (cursor recs text i p) ≡ some tt
  unfolding ended cursor ◌>>=◌ require
  ended_all l h = rw (empty_yes recs i l, empty_yes text p h)
