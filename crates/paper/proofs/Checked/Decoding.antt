-- The readers of tables and step lists, and the operations, computed: what is read back, and bytes with one damage that are not read.
-- Assumes nothing.
use Prim.Native.Nat.{ℕ}
use Prim.Native.String.{String}
use mathlib.Core.Path.{◌≡◌, refl}
use mathlib.Core.Bool.{Bool, true, false}
use mathlib.Core.List.{List, [], ◌∷◌, map}
use mathlib.Core.Option.{Option, none, some}
use lib.IntN.{pos, negsuc}
use lib.ListN.{set}
use Rattle.paper.specs.Bytes.{bytes, same}
use Rattle.paper.specs.Answer.{Answer, ok, refused, ◌>>=◌}
use Rattle.paper.specs.Syntax.{boolean, null, integer, decimal, string, reference, vector, εⱽ, ◌∷ⱽ◌, Block}
use Rattle.paper.specs.Reader.{read}
use Rattle.paper.specs.Store.{Store, ∅, entry, basic, component}
use Rattle.paper.specs.Layout.{table}
use Rattle.paper.specs.Steps.{steps}
use Rattle.paper.specs.StepLayout.{step_list}
use Rattle.paper.specs.TableDecoder.{table_of}
use Rattle.paper.specs.StepDecoder.{block_of}
use Rattle.paper.specs.Operations.{translate_op, run_op, main_op, resolve_op}
use Rattle.paper.proofs.Open.{all}

-- description 13's table
abbrev one : List ℕ
one =
    0x02 ∷ 0 ∷ 0 ∷ 0 ∷ 0x2a ∷ 0 ∷ 0 ∷ 0 ∷ 0x01 ∷ 0 ∷ 0 ∷ 0 ∷ 0x18 ∷ 0 ∷ 0 ∷ 0 ∷ 0x02 ∷ 0 ∷ 0 ∷ 0 ∷ 0x28 ∷ 0 ∷ 0 ∷ 0
    ∷ 0x03 ∷ 0 ∷ 0x01 ∷ 0 ∷ 0 ∷ 0 ∷ 0x01 ∷ 0 ∷ 0x01 ∷ 0 ∷ 0 ∷ 0 ∷ 0 ∷ 0 ∷ 0 ∷ 0 ∷ 0x01 ∷ 0x78 ∷ []

reads_one : table_of one ≡ some (entry (bytes "x") (basic (integer (pos 1))) ∅)
unfolding all
reads_one = refl

-- a store with a value of every kind
abbrev store : Store
store =
    entry (bytes "a") (component (entry (bytes "b") (basic (integer (negsuc 4))) (entry (bytes "c") (component ∅) ∅)))
    (entry (bytes "t") (basic (boolean true)) (entry (bytes "n") (basic null) (entry (bytes "d") (basic (decimal (bytes "1.5e3")))
    (entry (bytes "s") (basic (string (bytes "hi\n"))) (entry (bytes "r") (basic (reference (bytes "a" ∷ bytes "b" ∷ [])))
    (entry (bytes "v") (basic (vector (integer (pos 1) ∷ⱽ vector εⱽ ∷ⱽ vector (string [] ∷ⱽ εⱽ) ∷ⱽ εⱽ))) ∅))))))

reads_back : table_of (table store) ≡ some store
unfolding all
reads_back = refl

-- one byte of description 13's table changed: the place, and the new byte
abbrev changed : ℕ × ℕ → Option Store
changed x = table_of (set one x.0 x.1)

none_read : map changed (
    (0, 1) ∷ (4, 41) ∷ (8, 2) ∷ (12, 25) ∷ (16, 3) ∷ (20, 41) ∷ (24, 7) ∷ (24, 8) ∷ (24, 2) ∷ (24, 4) ∷ (26, 2) ∷ (28, 1) ∷ (30, 0) ∷ (30, 2) ∷ (40, 2) ∷ (40, 0) ∷ (41, 0x30) ∷ (0, 256) ∷ [])
    ≡ none ∷ none ∷ none ∷ none ∷ none ∷ none ∷ none ∷ none ∷ none ∷ none ∷ none ∷ none ∷ none ∷ none ∷ none ∷ none ∷ none ∷ none ∷ []
unfolding all
none_read = refl

-- and those that are tables still: another integer, another name, a boolean
some_read : map changed ((32, 9) ∷ (41, 0x79) ∷ (24, 1) ∷ [])
    ≡ some (entry (bytes "x") (basic (integer (pos 9))) ∅) ∷ some (entry (bytes "y") (basic (integer (pos 1))) ∅) ∷ some (entry (bytes "x") (basic (boolean true)) ∅) ∷ []
unfolding all
some_read = refl

-- with value 0 too: a component, a vector
kinds_read : map (λ k. table_of (set (set one 24 k) 32 0)) (0 ∷ 7 ∷ [])
    ≡ some (entry (bytes "x") (component ∅) ∅) ∷ some (entry (bytes "x") (basic (vector εⱽ)) ∅) ∷ []
unfolding all
kinds_read = refl

-- a name twice, a reserved word for a name
twice : (table_of (table (entry (bytes "x") (basic null) (entry (bytes "x") (basic null) ∅))) ≡ none) × (table_of (table (entry (bytes "DATA") (basic null) ∅)) ≡ none)
unfolding all
twice = (refl, refl)

-- the step list of a description is read as a block with that step list
abbrev again : List ℕ → Option Block → Bool
again list none = false
again list (some b) = same (step_list (steps b)) list

abbrev read_again : String → Answer Bool
read_again s = ◌>>=◌ (read (bytes s)) λ b. ok (again (step_list (steps b)) (block_of (step_list (steps b))))

reads_steps : map read_again (
    "" ∷ "x 1;" ∷ "sfConfig extends { x 1; y 2; x 3; }"
    ∷ "a extends { b [1,[2,\"x\"],DATA b:c, NULL, -1.5e+3, [], true]; } v a:b; sfConfig extends a, { c a:b; d extends {}, {}, a; }" ∷ [])
    ≡ ok true ∷ ok true ∷ ok true ∷ ok true ∷ []
unfolding all
reads_steps = refl

-- the operations, on description 13
operations : (resolve_op (bytes "sfConfig extends { x 1; }") 32792 65536 65536 65536 ≡ ok one)
    × (◌>>=◌ (translate_op (bytes "sfConfig extends { x 1; }") 53272 65536) (λ b. ◌>>=◌ (run_op b (table ∅) 32792 65536 65536) (λ t. main_op t 32792)) ≡ ok one)
    × (resolve_op (bytes "sfConfig extends { x 1; }") 32791 65536 65536 65536 ≡ refused 8 0)
    × (run_op one one 32792 65536 65536 ≡ refused 9 0)
    × (main_op (1 ∷ []) 32792 ≡ refused 10 0)
    × (main_op (table ∅) 32792 ≡ refused 19 0)
unfolding all
operations = (refl, refl, refl, refl, refl, refl)
