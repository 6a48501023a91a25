-- A header written number by number. Assumes nothing.
use Prim.Native.Nat.{ℕ, ◌+◌, ◌*◌, ◌%◌, ◌/◌, ◌≤◌}
use native.Mathlib.Omega.{arith}
use mathlib.Core.Path.{◌≡◌, refl, sym, ap, ◌∙◌}
use mathlib.Core.List.{List, [], ◌∷◌, ◌++◌}
use lib.ListN.{length, length-append}
use lib.Seq.{drop-length}
use Rattle.std.proofs.lemmas.List.{append_assoc, append-nil}
use Rattle.paper.specs.Layout.{little}
use Rattle.paper.specs.TableDecoder.{in_table}
use Rattle.paper.specs.StepDecoder.{in_steps}
use Rattle.theorems.proofs.Decoded.Parts.{length_little}
use Rattle.memory.specs.Memory.{stored}
use Rattle.memory.proofs.Laws.{then_stored, stored_front}
use Rattle.forms.specs.declared.form.Form.TheVariants.{Table, Steps}
use Rattle.forms.specs.Form.{size_of, form_of}
use Rattle.forms.specs.Header.{header_of}

-- four bytes keep what 32 bits keep
pub little_cut : (x : ℕ) → little 4 (x % 4294967296) ≡ little 4 x
unfolding little
little_cut x =
    let a : x % 4294967296 % 256 ≡ x % 256 = omega arith in
    let b : x % 4294967296 / 256 % 256 ≡ x / 256 % 256 = omega arith in
    let c : x % 4294967296 / 256 / 256 % 256 ≡ x / 256 / 256 % 256 = omega arith in
    let d : x % 4294967296 / 256 / 256 / 256 % 256 ≡ x / 256 / 256 / 256 % 256 = omega arith in
    (λ i. a i ∷ b i ∷ c i ∷ d i ∷ [])

-- one number more, behind those that stand
next : (w u v : List ℕ) (p : ℕ) (a : List ℕ) (x : ℕ) → u ≡ stored w 0 a → v ≡ stored u p (little 4 x) → p ≡ length a → p + 4 ≤ length w → v ≡ stored w 0 (a ++ little 4 x)
next w u v p a x e f q h = f ∙ ap (λ s. stored s p (little 4 x)) e ∙ then_stored w 0 p a (little 4 x) (omega arith) (rw (length_little 4 x) h)

-- as many bytes as there are
whole : (o b : List ℕ) → length b ≡ length o → stored o 0 b ≡ b
whole o b e = stored_front o b (omega arith) ∙ rw (e, drop-length o, append-nil b)

-- six numbers in 24 bytes are these bytes
pub six : (o o₁ o₂ o₃ o₄ o₅ o₆ : List ℕ) (x₁ x₂ x₃ x₄ x₅ x₆ : ℕ) → length o ≡ 24 → o₁ ≡ stored o 0 (little 4 x₁) → o₂ ≡ stored o₁ 4 (little 4 x₂) → o₃ ≡ stored o₂ 8 (little 4 x₃)
    → o₄ ≡ stored o₃ 12 (little 4 x₄) → o₅ ≡ stored o₄ 16 (little 4 x₅) → o₆ ≡ stored o₅ 20 (little 4 x₆)
    → o₆ ≡ little 4 x₁ ++ (little 4 x₂ ++ (little 4 x₃ ++ (little 4 x₄ ++ (little 4 x₅ ++ little 4 x₆))))
six o o₁ o₂ o₃ o₄ o₅ o₆ x₁ x₂ x₃ x₄ x₅ x₆ h e₁ e₂ e₃ e₄ e₅ e₆ =
    let a = little 4 x₁ in
    let b = little 4 x₂ in
    let c = little 4 x₃ in
    let d = little 4 x₄ in
    let f₂ = next o o₁ o₂ 4 a x₂ e₁ e₂ (simp length_little) (omega arith) in
    let f₃ = next o o₂ o₃ 8 (a ++ b) x₃ f₂ e₃ (simp (length-append, length_little)) (omega arith) in
    let f₄ = next o o₃ o₄ 12 ((a ++ b) ++ c) x₄ f₃ e₄ (simp (length-append, length_little)) (omega arith) in
    let f₅ = next o o₄ o₅ 16 (((a ++ b) ++ c) ++ d) x₅ f₄ e₅ (simp (length-append, length_little)) (omega arith) in
    let f₆ = next o o₅ o₆ 20 ((((a ++ b) ++ c) ++ d) ++ little 4 x₅) x₆ f₅ e₆ (simp (length-append, length_little)) (omega arith) in
    simp append_assoc at (f₆ ∙ whole o (((((a ++ b) ++ c) ++ d) ++ little 4 x₅) ++ little 4 x₆) (simp (length-append, length_little) (sym h)))

-- ---- the header of each form, in numbers

pub table_header : (n t : ℕ) → header_of Table n t ≡ little 4 2 ++ (little 4 (24 + 16 * n + t) ++ (little 4 n ++ (little 4 24 ++ (little 4 t ++ little 4 (24 + 16 * n)))))
unfolding header_of size_of form_of in_table
table_header n t = refl

pub list_header : (n t : ℕ) → header_of Steps n t ≡ little 4 1 ++ (little 4 (24 + 20 * n + t) ++ (little 4 n ++ (little 4 24 ++ (little 4 t ++ little 4 (24 + 20 * n)))))
unfolding header_of size_of form_of in_steps
list_header n t = refl
