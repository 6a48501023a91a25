-- Theorem 1, checked: the descriptions of document 01 that are marked P, as one list with one proof, by the valuation functions and by
-- the steps; and description 13 in its bytes, with its step list's figures. All of it computes. Assumes nothing.
pub mod Edges
pub mod Decoding
pub mod Alike
use Prim.Native.Nat.{ℕ}
use Prim.Native.String.{String}
use mathlib.Core.Path.{◌≡◌, refl}
use mathlib.Core.List.{List, [], ◌∷◌, map}
use lib.IntN.{pos}
use lib.ListN.{length}
use Rattle.paper.specs.Bytes.{bytes}
use Rattle.paper.specs.Answer.{Answer, ok, refused, ◌>>=◌}
use Rattle.paper.specs.Syntax.{integer}
use Rattle.paper.specs.Store.{Store, ∅, entry, basic, component}
use Rattle.paper.specs.Meaning.{main}
use Rattle.paper.specs.Layout.{texts}
use Rattle.paper.specs.Steps.{Step}
use Rattle.paper.specs.StepLayout.{all_rows, step_list}
use Rattle.paper.specs.Operations.{evaluated, executed, resolved, translated, resolve}
use Rattle.paper.proofs.Open.{all}

-- `"x" ≔ 1 ⨾ s`: x is 1, and then s;  `"x" ≔⟨ c ⟩⨾ s`: x is the component c
infixr 20 ◌≔◌⨾◌
infixr 20 ◌≔⟨◌⟩⨾◌
abbrev pub ◌≔◌⨾◌ : String → ℕ → Store → Store
n ≔ k ⨾ s = entry (bytes n) (basic (integer (pos k))) s

abbrev pub ◌≔⟨◌⟩⨾◌ : String → Store → Store → Store
n ≔⟨ c ⟩⨾ s = entry (bytes n) (component c) s

pub data Case : Type 0 where
  gives : String → Store → Case
  refuses : String → ℕ → ℕ → Case
  over : Store → String → Store → Case

abbrev pub cases : List Case
cases =
    refuses "" 19 0
    ∷ refuses "sfConfig 1;" 20 0
    ∷ gives "sfConfig extends { x 1; y 2; x 3; }" ("x" ≔ 3 ⨾ "y" ≔ 2 ⨾ ∅)
    ∷ gives "sfConfig extends { a extends sfConfig; }" ("a" ≔⟨ "a" ≔⟨ ∅ ⟩⨾ ∅ ⟩⨾ ∅)
    ∷ gives "a extends { x 1; } sfConfig extends { a extends a, { y 2; } }" ("a" ≔⟨ "y" ≔ 2 ⨾ ∅ ⟩⨾ ∅)
    ∷ gives "a 1; sfConfig extends { a a; }" ("a" ≔ 1 ⨾ ∅)
    ∷ gives "a extends { b 1; } sfConfig extends { a extends { c 2; } v a:b; }" ("a" ≔⟨ "c" ≔ 2 ⨾ ∅ ⟩⨾ "v" ≔ 1 ⨾ ∅)
    ∷ gives "p extends { q extends { a 1; b 2; } } sfConfig extends { r extends p, { q extends { b 3; } } }" ("r" ≔⟨ "q" ≔⟨ "b" ≔ 3 ⨾ ∅ ⟩⨾ ∅ ⟩⨾ ∅)
    ∷ gives "p extends { x 1; y 2; } sfConfig extends { a extends { y 9; }, p; }" ("a" ≔⟨ "y" ≔ 2 ⨾ "x" ≔ 1 ⨾ ∅ ⟩⨾ ∅)
    ∷ gives "sfConfig extends { x 1; a sfConfig; b sfConfig; }" ("x" ≔ 1 ⨾ "a" ≔⟨ "x" ≔ 1 ⨾ ∅ ⟩⨾ "b" ≔⟨ "x" ≔ 1 ⨾ "a" ≔⟨ "x" ≔ 1 ⨾ ∅ ⟩⨾ ∅ ⟩⨾ ∅)
    ∷ refuses "sfConfig extends { a b; b 1; }" 11 21
    ∷ refuses "sfConfig extends { x:y 1; }" 14 19
    ∷ refuses "sfConfig extends { x 1; x:y 2; }" 15 24
    ∷ over ("x" ≔ 1 ⨾ ∅) "y x;" ("x" ≔ 1 ⨾ "y" ≔ 1 ⨾ ∅)
    ∷ []

abbrev pub expected : Case → Answer Store
expected (gives d s) = ok s
expected (refuses d n p) = refused n p
expected (over s d t) = ok t

-- by the valuation functions, and by the steps
abbrev pub meant : Case → Answer Store
meant (gives d s) = evaluated (bytes d) ∅ >>= main
meant (refuses d n p) = evaluated (bytes d) ∅ >>= main
meant (over s d t) = evaluated (bytes d) s

abbrev pub stepped : Case → Answer Store
stepped (gives d s) = resolved (bytes d)
stepped (refuses d n p) = resolved (bytes d)
stepped (over s d t) = executed (bytes d) s

-- description 13, and its table: header, record, text
abbrev pub thirteen : List ℕ
thirteen = bytes "sfConfig extends { x 1; }"

abbrev pub thirteen_table : List ℕ
thirteen_table =
    0x02 ∷ 0 ∷ 0 ∷ 0 ∷ 0x2a ∷ 0 ∷ 0 ∷ 0 ∷ 0x01 ∷ 0 ∷ 0 ∷ 0 ∷ 0x18 ∷ 0 ∷ 0 ∷ 0 ∷ 0x02 ∷ 0 ∷ 0 ∷ 0 ∷ 0x28 ∷ 0 ∷ 0 ∷ 0
    ∷ 0x03 ∷ 0 ∷ 0x01 ∷ 0 ∷ 0 ∷ 0 ∷ 0x01 ∷ 0 ∷ 0x01 ∷ 0 ∷ 0 ∷ 0 ∷ 0 ∷ 0 ∷ 0 ∷ 0
    ∷ 0x01 ∷ 0x78 ∷ []

-- how many steps, how many bytes of text, and how many bytes in all
abbrev pub figures_of : Answer (List Step) → Answer (ℕ × ℕ × ℕ)
figures_of a = a >>= λ is. ok (length (all_rows is), length (texts (all_rows is)), length (step_list is))

pub record Checked : Type 0 where
  pub by_meaning : map meant cases ≡ map expected cases
  pub by_steps : map stepped cases ≡ map expected cases
  pub in_bytes : resolve thirteen ≡ ok thirteen_table
  -- "Its step list has 5 steps, 13 text bytes, 137 in all."
  pub figures : figures_of (translated thirteen) ≡ ok (5, 13, 137)

pub checked : Checked
unfolding all
checked = record { by_meaning = refl; by_steps = refl; in_bytes = refl; figures = refl }
