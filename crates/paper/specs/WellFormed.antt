-- Well-formed tables and step lists (document 01, "Layouts"): the bytes that some store, or some block, is laid out as. Assumes nothing.
use Rattle.std.specs.Prelude.{ℕ, ◌≤◌, ◌<◌, ◌≡◌, false, List, [], ◌∷◌, length, T}
use Rattle.std.proofs.Math.Option.{none}
use Rattle.paper.specs.Limits.{most_source, most_name, most_string, most_names, most_open}
use Rattle.paper.specs.Syntax.{Name, Path, Basic, boolean, null, integer, decimal, string, reference, vector, Basics, εⱽ, ◌∷ⱽ◌, Block, εᴮ, ◌∷ᴮ◌, Statement, assign, Value, basic, link, extends, Prototypes, εᴾ, named, block}
use Rattle.paper.specs.Tokens.{reserved, member, in_range, name, literal}
use Rattle.paper.specs.Written.{Written}
use Rattle.paper.specs.Grammar.{Some, openings}
use Rattle.paper.specs.Store.{Store, ∅, entry, component, lookup}
use Rattle.paper.specs.Store as S
use Rattle.paper.specs.Bounds.{Bounded}
use Rattle.paper.specs.Layout.{table}
use Rattle.paper.specs.Steps.{steps}
use Rattle.paper.specs.StepLayout.{IsListed, step_list}

-- ---- names, paths, basics

-- "names and decimals as under Tokens and not reserved"
pub record IsName (n : Name) : Type 0 where
  pub written : Written n (name n)
  pub short : length n ≤ most_name
  pub free : member n reserved ≡ false

pub record IsDecimal (t : List ℕ) : Type 0 where
  pub written : Written t (literal (decimal t))
  pub short : length t ≤ most_string

abbrev pub AreNames : Path → Type 0
AreNames [] = Unit {0}
AreNames (n ∷ r) = IsName n × AreNames r

-- "paths of 1 to 32 names"
pub record IsPath (r : Path) : Type 0 where
  pub some : 1 ≤ length r
  pub few : length r ≤ most_names
  pub names : AreNames r

-- "strings any bytes up to 4,095"
abbrev mutual
  pub IsBasic : Basic → Type 0
  IsBasic (boolean b) = Unit {0}
  IsBasic null = Unit {0}
  IsBasic (integer z) = T (in_range z)
  IsBasic (decimal t) = IsDecimal t
  IsBasic (string t) = length t ≤ most_string
  IsBasic (reference r) = IsPath r
  IsBasic (vector bs) = AreBasic bs

  pub AreBasic : Basics → Type 0
  AreBasic εⱽ = Unit {0}
  AreBasic (b ∷ⱽ bs) = IsBasic b × AreBasic bs

-- ---- tables

-- "no name twice in one component", in a store and in all that it holds
abbrev mutual
  pub IsStore : Store → Type 0
  IsStore ∅ = Unit {0}
  IsStore (entry n v s) = IsName n × (lookup s n ≡ none) × IsValue v × IsStore s

  pub IsValue : S.Value → Type 0
  IsValue (S.basic b) = IsBasic b
  IsValue (component s) = IsStore s

-- such a store, with "all limits kept"
pub record IsBounded (s : Store) : Type 0 where
  pub store : IsStore s
  pub bounds : Bounded s

-- the bytes b are the table of the store s: "exactly this, the input slice as long as its total length, all limits kept"
pub record IsTable (b : List ℕ) (s : Store) : Type 0 where
  pub laid_out : b ≡ table s
  pub held : IsBounded s

-- ---- step lists

-- "places below 32,768"
abbrev pub IsPlace : ℕ → Type 0
IsPlace p = p < most_source

-- "steps nested as the grammar nests": the steps of a block
abbrev mutual
  pub IsBlock : Block → Type 0
  IsBlock εᴮ = Unit {0}
  IsBlock (a ∷ᴮ b) = IsStatement a × IsBlock b

  pub IsStatement : Statement → Type 0
  IsStatement (assign r v) = IsPath r × IsValueOf v

  pub IsValueOf : Value → Type 0
  IsValueOf (basic p b) = IsPlace p × IsBasic b
  IsValueOf (link p r) = IsPlace p × IsPath r
  IsValueOf (extends p ps) = IsPlace p × Some ps × ArePrototypes ps

  pub ArePrototypes : Prototypes → Type 0
  ArePrototypes εᴾ = Unit {0}
  ArePrototypes (named p r ps) = IsPlace p × IsPath r × ArePrototypes ps
  ArePrototypes (block b ps) = IsBlock b × ArePrototypes ps

-- the bytes b are the step list of the block d, "with at most 32 enters and vectors open"
pub record IsStepList (b : List ℕ) (d : Block) : Type 0 where
  pub laid_out : b ≡ step_list (steps d)
  pub blocks : IsBlock d
  pub nested : openings d ≤ most_open
  pub listed : IsListed (steps d)
