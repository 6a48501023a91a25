-- Which sources describe which block, and which are refused with what and where (document 01, "Grammar", "Order"): "the leftmost of 2 to 6".
-- The reader answers exactly this (proofs/ReadExactly), so that it need not be read. Assumes nothing.
use Rattle.std.specs.Prelude.{ℕ, suc, ◌+◌, ◌≤◌, ◌<◌, ◌≡◌, Bool, true, false, ◌||◌, List, [], ◌∷◌, ◌++◌, length}
use Prim.Native.Char.{code}
use Rattle.std.proofs.Math.Option.{Option, none, some}
use Rattle.paper.specs.Limits.{most_source, most_open, most_names}
use Rattle.paper.specs.Syntax.{Path, Block}
use Rattle.paper.specs.Tokens.{Token, name, mark, end, is_name, is_mark, Here}
use Rattle.paper.specs.Written.{Next, NoNext}
use Rattle.paper.specs.Grammar.{Spelt, spell, says, Free, Legal, Formed, openings}

-- ---- the tokens of a source

abbrev pub start : List ℕ → Here
start source = record { place = 0; rest = source }

-- the next tokens from `at` on are these, each with its place, up to `mid`; none of them is the end
pub data Passes : Here → List (Token × ℕ) → Here → Type 0 where
  none_yet : {at : Here} → Passes at [] at
  and_then : {at h after mid : Here} {t : Token} {ts : List (Token × ℕ)} → Next at t h after → (t ≡ end → ⊥) → Passes after ts mid → Passes at ((t, h.place) ∷ ts) mid

-- the tokens alone
abbrev pub kinds : List (Token × ℕ) → List Token
kinds [] = []
kinds (t ∷ ts) = t.0 ∷ kinds ts

-- ---- what is accepted

-- a token that is to stand at o stands at q
abbrev pub Sits : Option ℕ → ℕ → Type 0
Sits none q = Unit {0}
Sits (some p) q = p ≡ q

-- the tokens are those spelt, and stand where they are to stand
abbrev pub Fits : List (Token × ℕ) → List Spelt → Type 0
Fits [] [] = Unit {0}
Fits [] (x ∷ xs) = ⊥
Fits (t ∷ ts) [] = ⊥
Fits (t ∷ ts) (x ∷ xs) = (t.0 ≡ x.0) × Sits x.1 t.1 × Fits ts xs

-- the source describes b: its tokens, up to its end, are b's, where b says that they stand, and the limits are kept
pub record Describes (source : List ℕ) (b : Block) : Type 0 where
  pub size : length source ≤ most_source
  pub legal : Legal b
  pub nested : openings b ≤ most_open
  pub list : List (Token × ℕ)
  pub mid : Here
  pub h : Here
  pub after : Here
  pub passes : Passes (start source) list mid
  pub ended : Next mid end h after
  pub spelt : Fits list (spell b)

-- ---- what is refused

-- the tokens begin what some block says, the end after it: "for 3 the grammar is read without its limits of 32"
pub record Begins (ts : List Token) : Type 0 where
  pub it : Block
  pub rest : List Token
  pub formed : Formed it
  pub eq : says it ++ (end ∷ []) ≡ ts ++ rest

-- how many of the tokens pass the test
unfoldable pub counted : (Token → Bool) → List Token → ℕ
counted p [] = 0
counted p (t ∷ ts) = elim (p t) [ true ↦ suc (counted p ts) | false ↦ counted p ts ]

unfoldable pub opens : Token → Bool
opens t = is_mark "{" t || is_mark "[" t

unfoldable pub closes : Token → Bool
closes t = is_mark "}" t || is_mark "]" t

-- after the tokens n braces and brackets are open
abbrev pub Open : ℕ → List Token → Type 0
Open n ts = counted opens ts ≡ n + counted closes ts

-- names, each followed by `:`
abbrev pub joined : Path → List Token
joined [] = []
joined (n ∷ r) = name n ∷ mark (code ":") ∷ joined r

-- the tokens end in n such names
pub record Joined (n : ℕ) (ts : List Token) : Type 0 where
  pub front : List Token
  pub names : Path
  pub count : length names ≡ n
  pub free : Free names
  pub eq : ts ≡ front ++ joined names

-- after the tokens before it, the token t is refused: "token, or the end, cannot continue", 3; "a 33rd opening", 5; "33rd name of a reference", 6
pub data Fault (before : List Token) (t : Token) : ℕ → Type 0 where
  cannot : (Begins (before ++ (t ∷ [])) → ⊥) → Fault before t 3
  opening : Begins (before ++ (t ∷ [])) → opens t ≡ true → Open most_open before → Fault before t 5
  another_name : Begins (before ++ (t ∷ [])) → is_name t ≡ true → Joined most_names before → Fault before t 6

-- none of the tokens is refused
abbrev pub Fine : List Token → Type 0
Fine ts = (xs ys : List Token) (t : Token) (n : ℕ) → ts ≡ xs ++ (t ∷ ys) → Fault xs t n → ⊥

-- what stands at mid, after the tokens before it, is refused with n at p: there is no token, or it is refused
pub data Refuses (before : List Token) (mid : Here) : ℕ → ℕ → Type 0 where
  no_next : {n p : ℕ} → NoNext mid n p → Refuses before mid n p
  not_here : {t : Token} {h after : Here} {n : ℕ} → Next mid t h after → Fault before t n → Refuses before mid n h.place

-- the first of 2 to 6 that applies to the source is n, at p
pub record First (source : List ℕ) (n p : ℕ) : Type 0 where
  pub list : List (Token × ℕ)
  pub mid : Here
  pub passes : Passes (start source) list mid
  pub fine : Fine (kinds list)
  pub refuses : Refuses (kinds list) mid n p

-- "description over 32,768 bytes", 1; else "the leftmost of 2 to 6"
pub data Refused (source : List ℕ) : ℕ → ℕ → Type 0 where
  too_long : most_source < length source → Refused source 1 0
  leftmost : {n p : ℕ} → length source ≤ most_source → First source n p → Refused source n p
