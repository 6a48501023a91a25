-- The table of a component's attributes, from the records and the text that they have in a whole table: the records one less deep, and
-- the places in the text less by where the component's own begins. Assumes nothing.
use Rattle.std.specs.Prelude.{ℕ, zero, suc, ◌+◌, ◌-◌, ◌*◌, ◌≤◌, ◌<◌, ◌&&◌, List, [], ◌++◌, length, take, drop, get_or, leb, ltb, eqb}
use Rattle.paper.specs.Bytes.{when◌then◌else◌}
use Rattle.paper.specs.Layout.{little}
use Rattle.paper.specs.DecodeAt.{word, headed}

-- a name's place; 65,535 is none
unfoldable pub moved_label : ℕ → ℕ → ℕ
moved_label from l = when eqb l 65535 then l else l - from

-- a value, which is a place for kinds 4 to 6
unfoldable pub moved_value : ℕ → ℕ → ℕ → ℕ
moved_value from k v = when leb 4 k && leb k 6 then v - from else v

-- the record at i
unfoldable pub lowered : List ℕ → ℕ → ℕ → List ℕ
lowered recs i from =
    little 2 (word 2 recs i) ++ (little 2 (word 2 recs (i + 2) - 1) ++ (little 2 (moved_label from (word 2 recs (i + 4))) ++
    (little 2 (word 2 recs (i + 6)) ++ little 8 (moved_value from (word 2 recs i) (word 8 recs (i + 8))))))

-- the n records from i on
unfoldable pub lowered_all : List ℕ → ℕ → ℕ → ℕ → List ℕ
lowered_all recs i from zero = []
lowered_all recs i from (suc n) = lowered recs i from ++ lowered_all recs (i + 16) from n

-- where the text of the attributes of the component at i begins
unfoldable pub text_from : List ℕ → List ℕ → ℕ → ℕ
text_from recs text i = word 2 recs (i + 4) + 1 + get_or text (word 2 recs (i + 4)) 0

-- where the text of the records before j ends: where that of the next begins, or at the end
unfoldable pub text_to : List ℕ → List ℕ → ℕ → ℕ
text_to recs text j = when ltb j (length recs) then word 2 recs (j + 4) else length text

-- the bytes of the table of the component at i
unfoldable pub lowered_table : List ℕ → List ℕ → ℕ → List ℕ
lowered_table recs text i =
    let n = word 2 recs (i + 6) - 1 in
    let from = text_from recs text i in
    let to = text_to recs text (i + 16 + 16 * n) in
    headed 2 n (24 + 16 * n) (lowered_all recs (i + 16) from n) (take (to - from) (drop from text))

-- a component at i whose records and text lie within the bounds
pub record Lowerable (recs text : List ℕ) (i : ℕ) : Type 0 where
  pub within : i + 16 + 16 * (word 2 recs (i + 6) - 1) ≤ length recs
  pub some : 1 ≤ word 2 recs (i + 6)
  pub few : word 2 recs (i + 6) ≤ 1025
  pub next : i + 16 + 16 * (word 2 recs (i + 6) - 1) < length recs → i + 16 + 16 * (word 2 recs (i + 6) - 1) + 16 ≤ length recs
  pub on : text_from recs text i ≤ text_to recs text (i + 16 + 16 * (word 2 recs (i + 6) - 1))
  pub end : text_to recs text (i + 16 + 16 * (word 2 recs (i + 6) - 1)) ≤ length text
  pub short : length text ≤ 16384
