-- Any two results that the contract of `main` allows for the same arguments are one: the answer as the code gives it,
-- and the bytes of the output. Assumes nothing.
use Prim.Native.Nat.{ℕ}
use mathlib.Core.Path.{◌≡◌, ap}
use mathlib.Core.List.{List}
use Rattle.std.specs.Prelude.{Result}
use Rattle.paper.specs.Lent.{Outcome}
use Rattle.paper.specs.Determines.{Determines, ◌&◌}
use Rattle.refusal.specs.declared.Refusal.{Refusal}
use Rattle.refusal.proofs.One.{answered_one}
use Rattle.main_table.specs.Main.{outcome}
use Rattle.main_table.proofs.operation.main.Reads as Main

pub record Returned : Type 0 where
  pub answer : Result ℕ Refusal
  pub output : List ℕ

abbrev pub returned : Result ℕ Refusal → List ℕ → Returned
returned r o = record { answer = r; output = o }

pub one : (r r' : Result ℕ Refusal) (o o' : List ℕ) → outcome r o ≡ outcome r' o' → returned r o ≡ returned r' o'
one r r' o o' e =
    let answer = answered_one r r' (ap (λ (x : Outcome). x.answer) e) in
    let output = ap (λ (x : Outcome). x.output) e in
    cc

pub determined : Determines Main.Post (λ _ (table, (out, _)). table.now & out.now)
    λ _ r (_, (out, _)). returned r out.now
determined _ _ _ _ r r' _ _ g e f = one r r' _ _ (cc)
