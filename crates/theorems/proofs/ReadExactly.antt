-- Theorem 7, read exactly: a source is read exactly when it describes a block, as that block and no other; and it is refused exactly with
-- the first of 1 to 6 that applies, at its place. Neither side's plain words (specs/Described) mention the reader. Assumes nothing.
pub mod Sequence
pub mod Printed
pub mod Proper
pub mod Sound
pub mod Complete
pub mod Exact
pub mod Late
pub mod Continues
pub mod Limits
pub mod Stuck
pub mod Refusals
pub mod Leftmost
use Prim.Native.Nat.{ℕ}
use mathlib.Core.Path.{◌≡◌, refl, sym, ◌∙◌, subst}
use mathlib.Core.Bool.{Bool, true, false}
use mathlib.Core.List.{List}
use mathlib.Core.Logic.{◌↔◌}
use lib.ListN.{length}
use lib.Dec.{leb}
use borrow.Author.Tests.{leb-true, leb-false}
use Rattle.paper.specs.Answer.{Answer, ok, refused}
use Rattle.paper.specs.Syntax.{Block}
use Rattle.paper.specs.Described.{Describes, Refused, too_long, leftmost}
use Rattle.paper.specs.Reader.{read}
use Exact.{reads_exactly, describes_one}
use Refusals.{refused_first, too_big}
use Leftmost as L

same_number : {X : Type 0} {n p m q : ℕ} → ◌≡◌ {A = Answer X} (refused n p) (refused m q) → n ≡ m
same_number e = cc

same_place : {X : Type 0} {n p m q : ℕ} → ◌≡◌ {A = Answer X} (refused n p) (refused m q) → p ≡ q
same_place e = cc

refuses_exactly : (source : List ℕ) (n p : ℕ) → (read source ≡ refused n p) ↔ Refused source n p
refuses_exactly source n p = (λ e. to (leb (length source) 32768) refl e, back)
  where
    to : (c : Bool) → leb (length source) 32768 ≡ c → read source ≡ refused n p → Refused source n p
    to true c e = let l = leb-true (length source) 32768 c in leftmost l ((L.leftmost source n p).0 ((refused_first source n p l).0 e))
    to false c e =
        let l = leb-false (length source) 32768 c in
        let i = sym (too_big source l) ∙ e in
        subst (λ m. Refused source m p) (same_number i) (subst (λ q. Refused source 1 q) (same_place i) (too_long l))

    back : {n p : ℕ} → Refused source n p → read source ≡ refused n p
    back (too_long l) = too_big source l
    back (leftmost {n} {p} l f) = (refused_first source n p l).1 ((L.leftmost source n p).1 f)

pub record ReadExactly : Type 0 where
  pub accepted : (source : List ℕ) (b : Block) → (read source ≡ ok b) ↔ Describes source b
  pub one : (source : List ℕ) (b c : Block) → Describes source b → Describes source c → b ≡ c
  pub refused : (source : List ℕ) (n p : ℕ) → (read source ≡ refused n p) ↔ Refused source n p

pub read_exactly : ReadExactly
read_exactly = record { accepted = reads_exactly; one = describes_one; refused = refuses_exactly }
