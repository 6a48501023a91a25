-- The grammar (document 01, "Grammar") as a printer: the tokens that say a block, a line a production. A token whose place the abstract
-- syntax names is spelt with that place. What a source says is read back by the reader, and nothing else is (proofs/ReadExactly).
-- Assumes nothing.
use Rattle.std.specs.Prelude.{ℕ, suc, ◌≤◌, max, ◌≡◌, true, false, List, [], ◌∷◌, ◌++◌, length}
use Prim.Native.Char.{Char, code}
use Prim.Native.String.{String}
use Rattle.std.proofs.Math.Option.{Option, none, some}
use Rattle.paper.specs.Bytes.{bytes}
use Rattle.paper.specs.Limits.{most_names}
use Rattle.paper.specs.Syntax.{Path, Basic, boolean, null, integer, decimal, string, reference, vector, Basics, εⱽ, ◌∷ⱽ◌, Block, εᴮ, ◌∷ᴮ◌, Statement, assign, Value, basic, link, extends, Prototypes, εᴾ, named, block}
use Rattle.paper.specs.Tokens.{reserved, member, Token, name, literal, mark}

-- a token, with the place where it has to stand, or with none where any place will do
abbrev pub Spelt : Type 0
Spelt = Token × Option ℕ

abbrev pub sign : Char → Spelt
sign c = (mark (code c), none)

abbrev pub word : String → Spelt
word w = (name (bytes w), none)

-- ---- "Reference: 1 to 32 names joined by `:`.": the first at o; how many is asked below

abbrev pub then_names : Path → List Spelt → List Spelt
then_names [] s = []
then_names (n ∷ r) s = sign ":" ∷ s

abbrev pub spell_path : Option ℕ → Path → List Spelt
spell_path o [] = []
spell_path o (n ∷ r) = (name n, o) ∷ then_names r (spell_path none r)

-- ---- "Basic: true, false, NULL, integer, decimal, string, `DATA` reference, or `[` basics joined by `,` `]`, possibly empty."

abbrev pub then_basics : Basics → List Spelt → List Spelt
then_basics εⱽ s = s
then_basics (b ∷ⱽ bs) s = sign "," ∷ s

abbrev mutual
  pub spell_basic : Basic → List Spelt
  spell_basic (boolean true) = word "true" ∷ []
  spell_basic (boolean false) = word "false" ∷ []
  spell_basic null = word "NULL" ∷ []
  spell_basic (integer z) = (literal (integer z), none) ∷ []
  spell_basic (decimal t) = (literal (decimal t), none) ∷ []
  spell_basic (string t) = (literal (string t), none) ∷ []
  spell_basic (reference r) = word "DATA" ∷ spell_path none r
  spell_basic (vector bs) = sign "[" ∷ spell_basics bs

  -- joined by `,`, and the `]`
  pub spell_basics : Basics → List Spelt
  spell_basics εⱽ = sign "]" ∷ []
  spell_basics (b ∷ⱽ bs) = spell_basic b ++ then_basics bs (spell_basics bs)

-- ---- statements

-- the place of a statement's target, where its value names it
abbrev pub target : Value → Option ℕ
target (basic p b) = some p
target (link p r) = none
target (extends p ps) = some p

-- what stands after a prototype: `,` and the others, or what stands after the last
abbrev pub then_prototypes : List Spelt → Prototypes → List Spelt → List Spelt
then_prototypes last εᴾ s = last
then_prototypes last (named p r ps) s = sign "," ∷ s
then_prototypes last (block b ps) s = sign "," ∷ s

-- "Description: statements. Statement: reference, value." "basic and `;`; a reference (link) and `;`; or `extends` and one or more
-- prototypes joined by `,`. A prototype is a reference or `{` statements `}`. After a last prototype that is a reference stands `;`, after a block none."
abbrev mutual
  pub spell : Block → List Spelt
  spell εᴮ = []
  spell (a ∷ᴮ b) = spell_statement a ++ spell b

  pub spell_statement : Statement → List Spelt
  spell_statement (assign r v) = spell_path (target v) r ++ spell_value v

  pub spell_value : Value → List Spelt
  spell_value (basic p b) = spell_basic b ++ (sign ";" ∷ [])
  spell_value (link p r) = spell_path (some p) r ++ (sign ";" ∷ [])
  spell_value (extends p ps) = word "extends" ∷ spell_prototypes ps

  pub spell_prototypes : Prototypes → List Spelt
  spell_prototypes εᴾ = []
  spell_prototypes (named p r ps) = spell_path (some p) r ++ then_prototypes (sign ";" ∷ []) ps (spell_prototypes ps)
  spell_prototypes (block b ps) = sign "{" ∷ (spell b ++ (sign "}" ∷ then_prototypes [] ps (spell_prototypes ps)))

-- the tokens alone, wherever they stand
abbrev pub plain : List Spelt → List Token
plain [] = []
plain (x ∷ xs) = x.0 ∷ plain xs

abbrev pub says : Block → List Token
says b = plain (spell b)

-- ---- what the grammar asks of a block: names that are not reserved, `Few` of them to a reference, and one prototype at least

abbrev pub Free : Path → Type 0
Free [] = Unit {0}
Free (n ∷ r) = (member n reserved ≡ false) × Free r

pub record Reference (Few : ℕ → Type 0) (r : Path) : Type 0 where
  pub some : 1 ≤ length r
  pub few : Few (length r)
  pub free : Free r

abbrev mutual
  pub AllowedBasic : (ℕ → Type 0) → Basic → Type 0
  AllowedBasic Few (boolean b) = Unit {0}
  AllowedBasic Few null = Unit {0}
  AllowedBasic Few (integer z) = Unit {0}
  AllowedBasic Few (decimal t) = Unit {0}
  AllowedBasic Few (string t) = Unit {0}
  AllowedBasic Few (reference r) = Reference Few r
  AllowedBasic Few (vector bs) = AllowedBasics Few bs

  pub AllowedBasics : (ℕ → Type 0) → Basics → Type 0
  AllowedBasics Few εⱽ = Unit {0}
  AllowedBasics Few (b ∷ⱽ bs) = AllowedBasic Few b × AllowedBasics Few bs

abbrev pub Some : Prototypes → Type 0
Some εᴾ = ⊥
Some (named p r ps) = Unit {0}
Some (block b ps) = Unit {0}

abbrev mutual
  pub Allowed : (ℕ → Type 0) → Block → Type 0
  Allowed Few εᴮ = Unit {0}
  Allowed Few (a ∷ᴮ b) = AllowedStatement Few a × Allowed Few b

  pub AllowedStatement : (ℕ → Type 0) → Statement → Type 0
  AllowedStatement Few (assign r v) = Reference Few r × AllowedValue Few v

  pub AllowedValue : (ℕ → Type 0) → Value → Type 0
  AllowedValue Few (basic p b) = AllowedBasic Few b
  AllowedValue Few (link p r) = Reference Few r
  AllowedValue Few (extends p ps) = Some ps × AllowedPrototypes Few ps

  pub AllowedPrototypes : (ℕ → Type 0) → Prototypes → Type 0
  AllowedPrototypes Few εᴾ = Unit {0}
  AllowedPrototypes Few (named p r ps) = Reference Few r × AllowedPrototypes Few ps
  AllowedPrototypes Few (block b ps) = Allowed Few b × AllowedPrototypes Few ps

-- "1 to 32 names"; and "without its limits of 32"
abbrev pub AtMost32 : ℕ → Type 0
AtMost32 n = n ≤ most_names

abbrev pub AnyNumber : ℕ → Type 0
AnyNumber n = Unit {0}

abbrev pub Legal : Block → Type 0
Legal = Allowed AtMost32

abbrev pub Formed : Block → Type 0
Formed = Allowed AnyNumber

-- ---- "At most 32 braces and brackets are open at once": how many are

abbrev mutual
  pub brackets : Basic → ℕ
  brackets (boolean b) = 0
  brackets null = 0
  brackets (integer z) = 0
  brackets (decimal t) = 0
  brackets (string t) = 0
  brackets (reference r) = 0
  brackets (vector bs) = suc (brackets_in bs)

  pub brackets_in : Basics → ℕ
  brackets_in εⱽ = 0
  brackets_in (b ∷ⱽ bs) = max (brackets b) (brackets_in bs)

abbrev mutual
  pub openings : Block → ℕ
  openings εᴮ = 0
  openings (a ∷ᴮ b) = max (openings_a a) (openings b)

  pub openings_a : Statement → ℕ
  openings_a (assign r v) = openings_v v

  pub openings_v : Value → ℕ
  openings_v (basic p b) = brackets b
  openings_v (link p r) = 0
  openings_v (extends p ps) = openings_p ps

  pub openings_p : Prototypes → ℕ
  openings_p εᴾ = 0
  openings_p (named p r ps) = openings_p ps
  openings_p (block b ps) = max (suc (openings b)) (openings_p ps)
