-- No block is spelt with the end in it. Assumes nothing.
use Prim.Native.Nat.{ℕ}
use mathlib.Core.Path.{◌≡◌, refl, sym, ◌∙◌, ap}
use mathlib.Core.Bool.{true, false, true≢false}
use mathlib.Core.List.{List, [], ◌∷◌, ◌++◌}
use mathlib.Core.Option.{Option, none, some}
use Rattle.paper.specs.Syntax.{Path, Basic, boolean, null, integer, decimal, string, reference, vector, Basics, εⱽ, ◌∷ⱽ◌, Block, εᴮ, ◌∷ᴮ◌, Statement, assign, Value, basic, link, extends, Prototypes, εᴾ, named, block}
use Rattle.paper.specs.Tokens.{Token, name, literal, mark, end}
use Rattle.paper.specs.Reader.{is_end}
use Rattle.paper.specs.Grammar.{Spelt, spell_path, then_basics, spell_basic, spell_basics, target, then_prototypes, spell, spell_statement, spell_value, spell_prototypes}

abbrev pub Proper : List Spelt → Type 0
Proper [] = Unit {0}
Proper (x ∷ xs) = (is_end x.0 ≡ false) × Proper xs

proper_join : (xs ys : List Spelt) → Proper xs → Proper ys → Proper (xs ++ ys)
proper_join [] ys h k = k
proper_join (x ∷ xs) ys h k = (h.0, proper_join xs ys h.1 k)

sign_proper : (m : ℕ) → is_end (mark m) ≡ false
unfolding is_end
sign_proper m = refl

name_proper : (n : List ℕ) → is_end (name n) ≡ false
unfolding is_end
name_proper n = refl

literal_proper : (b : Basic) → is_end (literal b) ≡ false
unfolding is_end
literal_proper b = refl

path_proper : (o : Option ℕ) (r : Path) → Proper (spell_path o r)
path_proper o [] = tt
path_proper o (n ∷ []) = (name_proper n, tt)
path_proper o (n ∷ m ∷ r) = (name_proper n, (sign_proper _, path_proper none (m ∷ r)))

then_basics_proper : (bs : Basics) (s : List Spelt) → Proper s → Proper (then_basics bs s)
then_basics_proper εⱽ s h = h
then_basics_proper (b ∷ⱽ bs) s h = (sign_proper _, h)

mutual
  basic_proper : (b : Basic) → Proper (spell_basic b)
  basic_proper (boolean true) = (name_proper _, tt)
  basic_proper (boolean false) = (name_proper _, tt)
  basic_proper null = (name_proper _, tt)
  basic_proper (integer z) = (literal_proper _, tt)
  basic_proper (decimal t) = (literal_proper _, tt)
  basic_proper (string t) = (literal_proper _, tt)
  basic_proper (reference r) = (name_proper _, path_proper none r)
  basic_proper (vector bs) = (sign_proper _, basics_proper bs)

  basics_proper : (bs : Basics) → Proper (spell_basics bs)
  basics_proper εⱽ = (sign_proper _, tt)
  basics_proper (b ∷ⱽ bs) = proper_join (spell_basic b) _ (basic_proper b) (then_basics_proper bs _ (basics_proper bs))

then_prototypes_proper : (l : List Spelt) (ps : Prototypes) (s : List Spelt) → Proper l → Proper s → Proper (then_prototypes l ps s)
then_prototypes_proper l εᴾ s g h = g
then_prototypes_proper l (named p r ps) s g h = (sign_proper _, h)
then_prototypes_proper l (block b ps) s g h = (sign_proper _, h)

mutual
  pub block_proper : (b : Block) → Proper (spell b)
  block_proper εᴮ = tt
  block_proper (a ∷ᴮ b) = proper_join (spell_statement a) _ (statement_proper a) (block_proper b)

  statement_proper : (a : Statement) → Proper (spell_statement a)
  statement_proper (assign r v) = proper_join (spell_path (target v) r) _ (path_proper (target v) r) (value_proper v)

  value_proper : (v : Value) → Proper (spell_value v)
  value_proper (basic p b) = proper_join (spell_basic b) _ (basic_proper b) (sign_proper _, tt)
  value_proper (link p r) = proper_join (spell_path (some p) r) _ (path_proper (some p) r) (sign_proper _, tt)
  value_proper (extends p ps) = (name_proper _, prototypes_proper ps)

  prototypes_proper : (ps : Prototypes) → Proper (spell_prototypes ps)
  prototypes_proper εᴾ = tt
  prototypes_proper (named p r ps) = proper_join (spell_path (some p) r) _ (path_proper (some p) r) (then_prototypes_proper _ ps _ (sign_proper _, tt) (prototypes_proper ps))
  prototypes_proper (block b ps) = (sign_proper _, proper_join (spell b) _ (block_proper b) (sign_proper _, then_prototypes_proper [] ps _ tt (prototypes_proper ps)))

pub proper_no_end : (t : Token) → is_end t ≡ false → t ≡ end → ⊥
unfolding is_end
proper_no_end t e z = true≢false (sym (ap is_end z) ∙ e)
