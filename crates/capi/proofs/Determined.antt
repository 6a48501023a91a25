-- Of each function, any two results that its contract allows for the same arguments are one: the answer, which in C is
-- the number itself, and the bytes of every slice that is lent. Assumes nothing.
use Prim.Native.Nat.{ℕ}
use mathlib.Core.List.{List, [], ◌∷◌}
use Rattle.paper.specs.Determines.{Determines, ◌&◌}
use Rattle.capi.specs.Called.{Called}
use Rattle.capi.proofs.sf_translate.Reads as Translate
use Rattle.capi.proofs.sf_run.Reads as Run
use Rattle.capi.proofs.sf_main.Reads as Main
use Rattle.capi.proofs.sf_resolve.Reads as Resolve

abbrev pub called : ℕ → List ℕ → List (List ℕ) → Called
called r o ws = record { result = r; output = o; works = ws }

pub record Determined : Type 0 where
  pub sf_translate : Determines Translate.Post (λ _ (src, (out, (work, _))). src.now & out.now & work.now)
      λ _ r (_, (out, (work, _))). called r out.now (work.now ∷ [])
  pub sf_run : Determines Run.Post
      (λ _ (steps, (table, (out, (work₁, (work₂, _))))). steps.now & table.now & out.now & work₁.now & work₂.now)
      λ _ r (_, (_, (out, (work₁, (work₂, _))))). called r out.now (work₁.now ∷ work₂.now ∷ [])
  pub sf_main : Determines Main.Post (λ _ (table, (out, _)). table.now & out.now)
      λ _ r (_, (out, _)). called r out.now []
  pub sf_resolve : Determines Resolve.Post
      (λ _ (src, (out, (work₁, (work₂, (work₃, _))))). src.now & out.now & work₁.now & work₂.now & work₃.now)
      λ _ r (_, (out, (work₁, (work₂, (work₃, _))))). called r out.now (work₁.now ∷ work₂.now ∷ work₃.now ∷ [])

pub determined : Determined
determined =
    record {
      sf_translate = λ _ _ _ _ _ _ _ _ g e f. cc;
      sf_run = λ _ _ _ _ _ _ _ _ g e f. cc;
      sf_main = λ _ _ _ _ _ _ _ _ g e f. cc;
      sf_resolve = λ _ _ _ _ _ _ _ _ g e f. cc;
    }
