-- For the bridge to the second implementation: bytes written in hex, and two answers that a computed test finds alike. Assumes nothing.
use Prim.Native.Nat.{ℕ, ◌+◌, ◌*◌, ◌-◌}
use Prim.Native.Char.{Char, code}
use Prim.Native.String.{String, [], ◌∷◌}
use mathlib.Core.Path.{◌≡◌, refl}
use mathlib.Core.Bool.{Bool, true, false, ◌&&◌, false≢true}
use mathlib.Core.List.{List, [] as []ᴸ, ◌∷◌ as ◌∷ᴸ◌}
use lib.Dec.{leb, eqb}
use borrow.Author.Tests.{eqb-true}
use Rattle.paper.specs.Bytes.{same}
use Rattle.paper.specs.Answer.{Answer, ok, refused}

abbrev pub digit : Char → ℕ
digit c = elim (leb (code c) 57) [ true ↦ code c - 48 | false ↦ code c - 87 ]

-- lower case; a byte is two digits
abbrev pub hex : String → List ℕ
hex [] = []ᴸ
hex (c ∷ []) = []ᴸ
hex (c ∷ d ∷ s) = (digit c * 16 + digit d) ∷ᴸ hex s

abbrev pub alike : Answer (List ℕ) → Answer (List ℕ) → Bool
alike (ok a) (ok b) = same a b
alike (ok a) (refused n p) = false
alike (refused n p) (ok b) = false
alike (refused n p) (refused m q) = eqb n m && eqb p q

both : (a b : Bool) → (a && b) ≡ true → (a ≡ true) × (b ≡ true)
both true b e = (refl, e)
both false b e = absurd (false≢true e)

same_bytes : (a b : List ℕ) → same a b ≡ true → a ≡ b
same_bytes []ᴸ []ᴸ e = refl
same_bytes []ᴸ (y ∷ᴸ b) e = absurd (false≢true e)
same_bytes (x ∷ᴸ a) []ᴸ e = absurd (false≢true e)
same_bytes (x ∷ᴸ a) (y ∷ᴸ b) e = let h = both _ _ e in let p = eqb-true x y h.0 in let q = same_bytes a b h.1 in cc

-- the test is an equation: compared so, the answers are computed once
pub agree : (a b : Answer (List ℕ)) → alike a b ≡ true → a ≡ b
agree (ok a) (ok b) e = let p = same_bytes a b e in cc
agree (ok a) (refused n p) e = absurd (false≢true e)
agree (refused n p) (ok b) e = absurd (false≢true e)
agree (refused n p) (refused m q) e = let h = both _ _ e in let i = eqb-true n m h.0 in let j = eqb-true p q h.1 in cc
