-- What it is that a path leads somewhere among the rows of a store. Assumes nothing.
use Rattle.std.specs.Prelude.{ℕ, suc, ◌+◌, ◌≤◌, ◌<◌, ◌≡◌, List, [], ◌∷◌, ◌++◌, length, take, Result, Ok, Err}
use Rattle.std.specs.Prelude as Std
use Rattle.std.proofs.Math.Option.{Option, none, some}
use Rattle.paper.specs.Answer.{Answer, ok, refused}
use Rattle.paper.specs.Syntax.{Name, Path}
use Rattle.paper.specs.Store.{Store, Value, component, put, find, resolve_in, bind}
use Rattle.paper.specs.Layout.{Row}
use Rattle.paper.specs.DecodeAt.{word}
use Rattle.refusal.specs.Refused.{number_of}
use Rattle.refusal.specs.declared.Reason.{Reason}
use Rattle.rows.specs.View.{name_of, groups}
use Rattle.rows.specs.Flat.{flat, flat_value, Low}

-- a path's names, from the places of their texts, each u16
unfoldable pub names : List ℕ → List ℕ → List ℕ → ℕ → Path
names t u p k = groups 2 (λ b. name_of t u (word 2 b 0)) p k

-- a bind gives a store, and the rows pre, those of the store at depth d, and q are then `new`
pub record Bound (d : ℕ) (pre q : List Row) (out : Answer Store) (new : List Row) : Type 0 where
  pub store : Store
  pub is : out ≡ ok store
  pub rows : pre ++ (flat d store ++ q) ≡ new

-- From the attributes of s, of depth d, which stand in the rows xs between pre and q, the path ns leads to a component whose attributes
-- begin at row lo; a bind there changes them alone.
pub record Reached (xs : List Row) (d : ℕ) (ns : Path) (pre q : List Row) (s : Store) (lo : ℕ) : Type 0 where
  pub inner : Store
  pub before : List Row
  pub after : List Row
  pub at : length before ≡ lo
  pub low : Low (d + length ns) after
  pub rows : xs ≡ before ++ (flat (d + length ns) inner ++ after)
  pub binds : (p : ℕ) (m : Name) (v : Value) → Bound d pre q (bind p (ns ++ (m ∷ [])) v s) (before ++ (flat (d + length ns) (put inner m v) ++ after))
  pub finds : (m : Name) (r : Path) → find (ns ++ (m ∷ r)) (component s) ≡ find (m ∷ r) (component inner)

-- the path leads nowhere, for which a bind gives the number k
pub record Missing (k : ℕ) (ns : Path) (s : Store) : Type 0 where
  pub binds : (p : ℕ) (m : Name) (v : Value) → bind p (ns ++ (m ∷ [])) v s ≡ refused k p
  pub finds : (m : Name) (r : Path) → find (ns ++ (m ∷ r)) (component s) ≡ none

-- "on the target's path a name is absent / no component", 14, 15
abbrev pub Descends : List Row → ℕ → Path → List Row → List Row → Store → Result ℕ Reason → Type 0
Descends xs d ns pre q s (Ok lo) = Reached xs d ns pre q s lo
Descends xs d ns pre q s (Err reason) = Missing (number_of reason) ns s

-- a place that is given stands among the n rows, or behind the last
abbrev pub PlaceIn : ℕ → Result ℕ Reason → Type 0
PlaceIn n (Ok lo) = lo ≤ n
PlaceIn n (Err reason) = Unit {0}

-- the same for every store whose attributes, of depth d, begin at row lo
abbrev pub DescendsFrom : List Row → ℕ → ℕ → Path → Result ℕ Reason → Type 0
DescendsFrom xs lo d ns r = (pre q : List Row) (s : Store) → Low d q → length pre ≡ lo → xs ≡ pre ++ (flat d s ++ q) → Descends xs d ns pre q s r

-- ---- find

-- a value stands at row i
pub record StandsAt (xs : List Row) (v : Value) (i : ℕ) : Type 0 where
  pub name : Name
  pub depth : ℕ
  pub before : List Row
  pub after : List Row
  pub at : length before ≡ i
  pub low : Low (suc depth) after
  pub rows : xs ≡ before ++ (flat_value depth name v ++ after)

-- "a lookup finds a value or finds nothing"
abbrev pub FindIs : List Row → Option Value → Std.Option ℕ → Type 0
FindIs xs o (Std.Some i) = (v : Value) × (o ≡ some v) × StandsAt xs v i
FindIs xs o Std.None = o ≡ none

-- what is found stands among the n rows
abbrev pub FoundIn : ℕ → Std.Option ℕ → Type 0
FoundIn n (Std.Some i) = i < n
FoundIn n Std.None = Unit {0}

-- the same from the attributes of depth d that begin at row lo; and from the root
abbrev pub FindsFrom : List Row → ℕ → ℕ → Path → Std.Option ℕ → Type 0
FindsFrom xs lo d r o = (pre q : List Row) (s : Store) → Low d q → length pre ≡ lo → xs ≡ pre ++ (flat d s ++ q) → FindIs xs (find r (component s)) o

abbrev pub FindsIn : List Row → Path → Std.Option ℕ → Type 0
FindsIn xs r o = (s : Store) → xs ≡ flat 1 s → FindIs xs (find r (component s)) o

-- resolve, with the first k names of every scope that begins with these
abbrev pub ResolvesIn : List Row → ℕ → Path → Path → Std.Option ℕ → Type 0
ResolvesIn xs k ns r o = (s : Store) (scope : Path) → xs ≡ flat 1 s → take k scope ≡ ns → FindIs xs (resolve_in k scope r s) o
