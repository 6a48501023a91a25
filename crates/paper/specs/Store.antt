-- Stores (document 01, "Meaning"; document 002, Definitions 6 to 16). Assumes nothing.
use Rattle.std.specs.Prelude.{ℕ, zero, suc, true, false, [], ◌∷◌, ◌++◌, length, take}
use Rattle.std.proofs.Math.Option.{Option, none, some}
use Rattle.paper.specs.Bytes.{same}
use Rattle.paper.specs.Answer.{Answer, ok, refused, ◌>>=◌}
use Rattle.paper.specs.Syntax.{Name, Path, Basic}

-- Definition 6: "A store is an ordered list of names with values; a value is basic or a store."
mutual
  pub data Store : Type 0 where
    ∅ : Store
    entry : Name → Value → Store → Store

  pub data Value : Type 0 where
    basic : Basic → Value
    component : Store → Value

-- Definition 12, put: "a present name keeps its position and gets the new value; a new name goes to the end"
unfoldable pub put : Store → Name → Value → Store
put ∅ n v = entry n v ∅
put (entry m w s) n v = elim (same m n) [ true ↦ entry n v s | false ↦ entry m w (put s n v) ]

-- what a store has under one name
unfoldable pub lookup : Store → Name → Option Value
lookup ∅ n = none
lookup (entry m w s) n = elim (same m n) [ true ↦ some w | false ↦ lookup s n ]

-- Definition 14, find: "follow the path; a lookup finds a value or finds nothing"
unfoldable pub find : Path → Value → Option Value
find [] v = some v
find (n ∷ r) (basic b) = none
find (n ∷ r) (component s) = elim (lookup s n) [ none ↦ none | some w ↦ find r w ]

-- Definition 16, resolve: "find scope joined with the whole reference. If nothing is there, the last name of the scope is dropped
-- and the search is made again, down to the root." The scope's first k names are left.
unfoldable pub resolve_in : ℕ → Path → Path → Store → Option Value
resolve_in zero scope r s = find r (component s)
resolve_in (suc k) scope r s =
    elim (find (take (suc k) scope ++ r) (component s)) [ some v ↦ some v | none ↦ resolve_in k scope r s ]

unfoldable pub resolve : Path → Path → Store → Option Value
resolve scope r s = resolve_in (length scope) scope r s

-- Definition 13, bind: "all names but the last must lead through components; then put". "on the target's path a name is absent / no
-- component", 14, 15; "target is the root itself", 21. p is the step's place.
unfoldable pub bind : ℕ → Path → Value → Store → Answer Store
bind p [] v s = refused 21 p
bind p (n ∷ []) v s = ok (put s n v)
bind p (n ∷ m ∷ r) v s =
    elim (lookup s n) [
      | none ↦ refused 14 p
      | some w ↦ elim w [
        | basic b ↦ refused 15 p
        | component c ↦ do
          c ← bind p (m ∷ r) v c
          ok (put s n (component c))
      ]
    ]
