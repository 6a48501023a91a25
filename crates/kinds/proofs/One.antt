-- No two kinds have one number, and no two steps. Assumes nothing.
use Prim.Native.Nat.{ℕ, ◌<◌}
use native.Mathlib.Omega.{arith}
use mathlib.Core.Path.{◌≡◌, refl, sym, ap, ◌∙◌}
use mathlib.Core.List.{List, [], ◌∷◌}
use mathlib.Core.Logic.{◌⊎◌, ⊎_elim}
use lib.ListN.{get_or}
use Rattle.std.specs.Prelude.{Result, Ok, Err}
use Rattle.kinds.specs.Numbers.{kind_number, step_number, DecodesKind, DecodesStep}
use Rattle.kinds.specs.declared.Kind.{Kind}
use Rattle.kinds.specs.declared.Kind.TheVariants.{Component, Boolean, Null, Integer, Decimal, Text, Reference, Vector}
use Rattle.kinds.specs.declared.Step.{Step}
use Rattle.kinds.specs.declared.Step.TheVariants.{Make, Take, Enter, Leave, Done, Set, Item, Link}
use Rattle.kinds.specs.declared.Unknown.{Unknown}

-- ---- kinds

kinds : List Kind
kinds = Component ∷ Boolean ∷ Null ∷ Integer ∷ Decimal ∷ Text ∷ Reference ∷ Vector ∷ []

kind_back : (k : Kind) → get_or kinds (kind_number k) Component ≡ k
unfolding kinds
kind_back Component = refl
kind_back Boolean = refl
kind_back Null = refl
kind_back Integer = refl
kind_back Decimal = refl
kind_back Text = refl
kind_back Reference = refl
kind_back Vector = refl

pub kind_one : (k m : Kind) → kind_number k ≡ kind_number m → k ≡ m
kind_one k m e = sym (kind_back k) ∙ ap (λ n. get_or kinds n Component) e ∙ kind_back m

kind_short : (k : Kind) → 7 < kind_number k → ⊥
kind_short Component h = omega arith
kind_short Boolean h = omega arith
kind_short Null h = omega arith
kind_short Integer h = omega arith
kind_short Decimal h = omega arith
kind_short Text h = omega arith
kind_short Reference h = omega arith
kind_short Vector h = omega arith

pub kind_of_one : (n m : ℕ) → n ≡ m → (r r' : Result Kind Unknown) → DecodesKind n r → DecodesKind m r' → r ≡ r'
kind_of_one n m e (Ok k) (Ok l) h g = ap Ok (kind_one k l (h ∙ e ∙ sym g))
kind_of_one n m e (Ok k) (Err u) h g = absurd (kind_short k (omega (arith, g.1)))
kind_of_one n m e (Err u) (Ok k) h g = absurd (kind_short k (omega (arith, h.1)))
kind_of_one n m e (Err u) (Err v) h g = let f : u.0 ≡ v.0 = h.0 ∙ e ∙ sym g.0 in ap (λ (n : ℕ). Err (record { 0 = n })) f

-- ---- steps

steps : List Step
steps = Make ∷ Make ∷ Take ∷ Enter ∷ Leave ∷ Done ∷ Set ∷ Item ∷ Link ∷ []

step_back : (s : Step) → get_or steps (step_number s) Make ≡ s
unfolding steps
step_back Make = refl
step_back Take = refl
step_back Enter = refl
step_back Leave = refl
step_back Done = refl
step_back Set = refl
step_back Item = refl
step_back Link = refl

pub step_one : (s t : Step) → step_number s ≡ step_number t → s ≡ t
step_one s t e = sym (step_back s) ∙ ap (λ n. get_or steps n Make) e ∙ step_back t

step_short : (s : Step) → (step_number s ≡ 0) ⊎ (8 < step_number s) → ⊥
step_short Make h = ⊎_elim (λ a. omega arith) (λ b. omega arith) h
step_short Take h = ⊎_elim (λ a. omega arith) (λ b. omega arith) h
step_short Enter h = ⊎_elim (λ a. omega arith) (λ b. omega arith) h
step_short Leave h = ⊎_elim (λ a. omega arith) (λ b. omega arith) h
step_short Done h = ⊎_elim (λ a. omega arith) (λ b. omega arith) h
step_short Set h = ⊎_elim (λ a. omega arith) (λ b. omega arith) h
step_short Item h = ⊎_elim (λ a. omega arith) (λ b. omega arith) h
step_short Link h = ⊎_elim (λ a. omega arith) (λ b. omega arith) h

pub step_of_one : (n m : ℕ) → n ≡ m → (r r' : Result Step Unknown) → DecodesStep n r → DecodesStep m r' → r ≡ r'
step_of_one n m e (Ok s) (Ok t) h g = ap Ok (step_one s t (h ∙ e ∙ sym g))
step_of_one n m e (Ok s) (Err u) h g = absurd (step_short s (rw (h, e) g.1))
step_of_one n m e (Err u) (Ok s) h g = absurd (step_short s (rw (g, ← e) h.1))
step_of_one n m e (Err u) (Err v) h g = let f : u.0 ≡ v.0 = h.0 ∙ e ∙ sym g.0 in ap (λ (n : ℕ). Err (record { 0 = n })) f
