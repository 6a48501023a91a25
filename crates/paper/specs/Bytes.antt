-- Bytes: quoted text as bytes (ASCII only), tests on a byte, and a choice by a test. Assumes nothing.
use Rattle.std.specs.Prelude.{ℕ, Bool, true, false, ◌&&◌, ◌||◌, List, [] as []ᴸ, ◌∷◌ as ◌∷ᴸ◌, leb, eqb, get_or}
use Prim.Native.Char.{Char, code}
use Prim.Native.String.{String, [], ◌∷◌}

-- a text's bytes
abbrev pub bytes : String → List ℕ
bytes [] = []ᴸ
bytes (c ∷ s) = code c ∷ᴸ bytes s

-- the byte at place i; past the end stands 256, which is no byte and in no class
abbrev pub at : List ℕ → ℕ → ℕ
at s i = get_or s i 256

-- the byte b is the character c; is one of the text's; lies from c to d
abbrev pub is : Char → ℕ → Bool
is c b = eqb (code c) b

abbrev pub among : String → ℕ → Bool
among [] b = false
among (c ∷ s) b = is c b || among s b

abbrev pub between : Char → Char → ℕ → Bool
between c d b = leb (code c) b && leb b (code d)

-- two lists of bytes are the same
abbrev pub same : List ℕ → List ℕ → Bool
same []ᴸ []ᴸ = true
same []ᴸ (y ∷ᴸ t) = false
same (x ∷ᴸ s) []ᴸ = false
same (x ∷ᴸ s) (y ∷ᴸ t) = eqb x y && same s t

infix 10 when◌then◌else◌
-- both branches are computed: no recursive call stands in one, unless it waits behind a λ
unfoldable pub when◌then◌else◌ {ℓ} : {A : Type ℓ} → Bool → A → A → A
when true then a else b = a
when false then a else b = b
