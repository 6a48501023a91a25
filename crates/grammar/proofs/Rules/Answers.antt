-- Laws of a reader's answers: one reader after another. Assumes nothing.
use Rattle.std.specs.Prelude.{Ok, Err}
use Prim.Native.Nat.{ℕ, zero, suc, ◌+◌, ◌*◌, ◌≤◌, ◌<◌}
use native.Mathlib.Omega.{arith}
use mathlib.Core.Path.{◌≡◌, sym, ap, ◌∙◌}
use mathlib.Core.List.{List, ◌++◌}
use lib.ListN.{length, length-append}
use Rattle.paper.specs.Answer.{Answer, ok, ◌>>=◌}
use Rattle.paper.specs.Tokens.{Here}
use Rattle.grammar.specs.Drafts.{Draft, text_size}
use Rattle.grammar.specs.Puts.{puts, Frame}
use Rattle.grammar.specs.Went.{Went, Answers, AheadIs, Ahead}
use Rattle.grammar.specs.declared.cursor.Cursor.{Cursor}
use Rattle.grammar.proofs.Rules.Puts.{frame_then, puts_append, size_append}

-- a bound above 0 is one more than another; above 1, two more
pub fuel : (P : ℕ → Type 0) (j : ℕ) → 0 < j → ((n : ℕ) → j ≤ suc n → P (suc n)) → (n : ℕ) → j ≤ n → P n
fuel P j h f zero le = absurd (omega arith)
fuel P j h f (suc n) le = f n le

pub fuel_two : (P : ℕ → Type 0) (j : ℕ) → 1 < j → ((n : ℕ) → j ≤ suc (suc n) → P (suc (suc n))) → (n : ℕ) → j ≤ n → P n
fuel_two P j h f zero le = absurd (omega arith)
fuel_two P j h f (suc zero) le = absurd (omega arith)
fuel_two P j h f (suc (suc n)) le = f n le

-- what a reader that begins after the drafts xs answers, as what one that begins before them answers
pub after : {A : Type 0} (f : A → List Draft) (s b₀ b₁ b₂ : List ℕ) (from mid : Cursor) (xs : List Draft) (r : Went)
    → b₁ ≡ puts b₀ from.count xs → mid.count ≡ from.count + length xs → mid.text ≡ from.text + text_size xs → Frame b₀ b₁
    → (g : Answer (A × Here)) → Answers f s b₁ b₂ mid r g → Answers (λ a. xs ++ f a) s b₀ b₂ from r g
after f s b₀ b₁ b₂ from mid xs (Ok to) e c t fr g w =
    record {
      it = w.it;
      is = w.is;
      count = omega (arith, w.count, length-append xs (f w.it));
      text = omega (arith, w.text, size_append xs (f w.it));
      work =
          w.work
          ∙ ap (λ (b : List ℕ). puts b mid.count (f w.it)) e
          ∙ ap (λ (k : ℕ). puts (puts b₀ from.count xs) k (f w.it)) c
          ∙ sym (puts_append xs (f w.it) b₀ from.count);
      frame = frame_then fr w.frame;
    }
after f s b₀ b₁ b₂ from mid xs (Err x) e c t fr g w = record { is = w.is; frame = frame_then fr w.frame }

-- a reader that only builds on what it was given
pub keep : {A B : Type 0} (f : A → List Draft) (h : B → A) (s b₀ b₁ : List ℕ) (from : Cursor) (r : Went) (g : Answer (B × Here))
    → Answers (λ b. f (h b)) s b₀ b₁ from r g → Answers f s b₀ b₁ from r (g >>= λ x. ok (h x.0, x.1))
unfolding ◌>>=◌
keep f h s b₀ b₁ from (Ok to) g w =
    record { it = h w.it; is = rw w.is; count = w.count; text = w.text; work = w.work; frame = w.frame }
keep f h s b₀ b₁ from (Err x) g w = record { is = rw w.is; frame = w.frame }

-- ---- what lies ahead

pub ahead_after : {s : List ℕ} {at x y : ℕ} {mid : Cursor} → AheadIs s at x y mid → (r : Went) → Ahead s mid.at mid.count mid.text r → Ahead s at x y r
ahead_after a (Ok to) b = record { on = omega (arith, a, b); within = b.within; few = omega (arith, a, b); light = omega (arith, a, b) }
ahead_after a (Err r) b = tt

pub ahead_back : (s : List ℕ) (at x y e u v : ℕ) (r : Went) → at ≤ e → u + at ≤ x + e → v + 3 * at ≤ y + 3 * e → Ahead s e u v r → Ahead s at x y r
ahead_back s at x y e u v (Ok to) h i j a = record { on = omega (arith, a); within = a.within; few = omega (arith, a); light = omega (arith, a) }
ahead_back s at x y e u v (Err r) h i j a = tt
