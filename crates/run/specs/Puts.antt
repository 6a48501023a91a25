-- What puts come to: the store, and its size. Assumes nothing.
use Rattle.std.specs.Prelude.{ℕ, ◌+◌, ◌-◌, ◌≤◌, ◌<◌, max, ◌≡◌, List, [], ◌∷◌, ◌++◌, length, take, drop, Result, Ok, Err}
use Rattle.paper.specs.Answer.{Answer, ok, refused}
use Rattle.paper.specs.Syntax.{Name, Path}
use Rattle.paper.specs.Store.{Store, Value, put}
use Rattle.paper.specs.Bounds.{Bounded, assign}
use Rattle.paper.specs.Meaning.{copy}
use Rattle.paper.specs.Layout.{Row, deepest}
use Rattle.refusal.specs.Refused.{number_of}
use Rattle.refusal.specs.declared.Reason.{Reason}
use Rattle.rows.specs.View.{view}
use Rattle.rows.specs.Search.{text_bytes}
use Rattle.rows.specs.Flat.{flat, flat_value, Low}
use Rattle.run.specs.declared.size.Size.{Size}
use Rattle.run.specs.declared.put.Grown.{Grown}

-- rows of which a part gave way to others
pub record Replaced (xs new : List Row) (i e text : ℕ) (ys : List Row) (text' : ℕ) : Type 0 where
  pub rows : ys ≡ take i xs ++ (new ++ drop e xs)
  pub bytes : text ≡ text_bytes xs → text' ≡ text_bytes ys

abbrev pub ReplacedIs : ℕ → ℕ → ℕ → ℕ → ℕ → List ℕ → List ℕ → List ℕ → Grown → Type 0
ReplacedIs n i e m text w s w' r = (r.rows ≡ i + (m + (n - e))) × ((t u : List ℕ) → Replaced (view t u w n) (view t u s m) i e text (view t u w' r.rows) r.text)

-- a put among the attributes of depth d that begin at row lo
pub record Put (xs new ys : List Row) (lo d : ℕ) (name : Name) (text text' : ℕ) : Type 0 where
  pub is : (pre q : List Row) (c : Store) (v : Value) → Low d q → length pre ≡ lo → xs ≡ pre ++ (flat d c ++ q) → new ≡ flat_value d name v → ys ≡ pre ++ (flat d (put c name v) ++ q)
  pub bytes : text ≡ text_bytes xs → text' ≡ text_bytes ys
  pub most : deepest ys ≤ max (deepest xs) (deepest new)
  pub least : deepest new ≤ deepest ys

abbrev pub PutsIn : List ℕ → List ℕ → ℕ → ℕ → ℕ → Name → ℕ → ℕ → List ℕ → List ℕ → List ℕ → Grown → Type 0
PutsIn t u n lo d name m text w s w' r = Put (view t u w n) (view t u s m) (view t u w' r.rows) lo d name text r.text

-- no put was made at a depth d that a table has not
abbrev pub RanKept : ℕ → Result Size Reason → Type 0
RanKept d (Ok size) = d ≤ 32
RanKept d (Err reason) = Unit {0}

-- ---- the bounds

-- rows over a bound, by its number: 16, 17, 18 in this order
pub data Over (xs : List Row) : ℕ → Type 0 where
  too_deep : 32 < deepest xs → Over xs 16
  too_many : deepest xs ≤ 32 → 1024 < length xs → Over xs 17
  too_long : deepest xs ≤ 32 → length xs ≤ 1024 → 16384 < text_bytes xs → Over xs 18

-- rows within the bounds
pub record Within (xs ys : List Row) (text : ℕ) : Type 0 where
  pub rows : ys ≡ xs
  pub bytes : text ≡ text_bytes xs
  pub depth : deepest xs ≤ 32
  pub nodes : length xs ≤ 1024
  pub short : text_bytes xs ≤ 16384

abbrev pub BoundedIs : List Row → (ℕ → List Row) → Result Size Reason → Type 0
BoundedIs xs ys (Ok size) = Within xs (ys size.rows) size.text
BoundedIs xs ys (Err reason) = Over xs (number_of reason)

abbrev pub PutsBounded : List ℕ → List ℕ → ℕ → ℕ → ℕ → Name → ℕ → ℕ → List ℕ → List ℕ → List ℕ → Result Size Reason → Type 0
PutsBounded t u n lo d name m text w s w' r =
    (pre q : List Row) (c : Store) (v : Value) → Low d q → length pre ≡ lo → view t u w n ≡ pre ++ (flat d c ++ q) → view t u s m ≡ flat_value d name v
    → text ≡ text_bytes (view t u w n) → deepest (view t u w n) ≤ 32 → BoundedIs (pre ++ (flat d (put c name v) ++ q)) (view t u w') r

-- ---- the store

-- rows and a number of text bytes are a store's, which is within the bounds
pub record Held (xs : List Row) (text : ℕ) (s : Store) : Type 0 where
  pub rows : xs ≡ flat 1 s
  pub bytes : text ≡ text_bytes xs
  pub bounds : Bounded s

-- what became of a step at place p, of what the paper says; ys are the rows then
abbrev pub RanIs : ℕ → (ℕ → List Row) → Answer Store → Result Size Reason → Type 0
RanIs p ys a (Ok size) = (s : Store) × (a ≡ ok s) × Held (ys size.rows) size.text s
RanIs p ys a (Err reason) = a ≡ refused (number_of reason) p

-- bind, and then the bounds, at the path ns and then name
abbrev pub Assigns : List ℕ → List ℕ → ℕ → Path → Name → ℕ → ℕ → List ℕ → List ℕ → List ℕ → Result Size Reason → Type 0
Assigns t u n ns name m text w s w' r =
    (st : Store) (v : Value) (p : ℕ) → Held (view t u w n) text st → view t u s m ≡ flat_value (1 + length ns) name v → RanIs p (view t u w') (assign p (ns ++ (name ∷ [])) v st) r

-- the attributes of c, one by one
abbrev pub Copies : List ℕ → List ℕ → ℕ → Path → ℕ → ℕ → List ℕ → List ℕ → List ℕ → Result Size Reason → Type 0
Copies t u n ns m text w s w' r =
    (st c : Store) (p : ℕ) → Held (view t u w n) text st → view t u s m ≡ flat (1 + length ns) c → RanIs p (view t u w') (copy p ns c st) r
