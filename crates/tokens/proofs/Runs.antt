-- Laws of `span`, which is the library's `prefix_len`. Assumes nothing.
use Rattle.std.proofs.Common.{◌≡◌, ℕ, suc, ◌≤◌, Bool, true, false, List, [], ◌∷◌, length, get_or, refl, ap, arith}
use Rattle.std.specs.List.{prefix_len}
use Rattle.paper.specs.Scanner.{span}

pub span_is : (p : ℕ → Bool) (s : List ℕ) → prefix_len p s ≡ span p s
unfolding span
span_is p [] = refl
span_is p (b ∷ s) = go (p b) refl (span_is p s)
  where
    go : (c : Bool) → p b ≡ c → prefix_len p s ≡ span p s → prefix_len p (b ∷ s) ≡ span p (b ∷ s)
    go true e again = rw (e, span) (omega (arith, again))
    go false e again = rw (e, span)

-- of two tests that say the same
pub span_same : (p q : ℕ → Bool) → ((b : ℕ) → p b ≡ q b) → (s : List ℕ) → span p s ≡ span q s
unfolding span
span_same p q h [] = refl
span_same p q h (b ∷ s) = rw (h b, span) (go (q b) (span_same p q h s))
  where
    go : (c : Bool) → span p s ≡ span q s → ◌≡◌ {A = ℕ} (elim c [ true ↦ suc (span p s) | false ↦ 0 ]) (elim c [ true ↦ suc (span q s) | false ↦ 0 ])
    go true again = ap suc again
    go false again = refl

-- the first byte passes
pub span_some : (p : ℕ → Bool) (s : List ℕ) → 1 ≤ length s → p (get_or s 0 0) ≡ true → 1 ≤ span p s
unfolding span
span_some p [] h e = absurd (omega arith)
span_some p (b ∷ s) h e = rw (e, span) (omega arith)
