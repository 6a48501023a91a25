-- The numbers of kinds and steps (document 01, "Layouts"). Assumes nothing.
use Rattle.std.specs.Prelude.{◌≡◌, ◌<◌, ◌⊎◌, ℕ, Result, MatchResult}
use Rattle.kinds.specs.declared.Kind.{Kind}
use Rattle.kinds.specs.declared.Kind.TheVariants.{Component, Boolean, Null, Integer, Decimal, Text, Reference, Vector}
use Rattle.kinds.specs.declared.Step.{Step}
use Rattle.kinds.specs.declared.Step.TheVariants.{Make, Take, Enter, Leave, Done, Set, Item, Link}
use Rattle.kinds.specs.declared.Unknown.{Unknown}

-- "Kinds: 0 component, 1 boolean, 2 null, 3 integer (two's complement), 4 decimal, 5 string, 6 data reference, 7 vector."
abbrev pub kind_number : Kind → ℕ
kind_number Component = 0
kind_number Boolean = 1
kind_number Null = 2
kind_number Integer = 3
kind_number Decimal = 4
kind_number Text = 5
kind_number Reference = 6
kind_number Vector = 7

-- "Steps: 1 make, 2 take, 3 enter, 4 leave, 5 done, 6 set, 7 item (vector elements after their set, spans as in tables),
-- 8 link (value is the linked path's place)."
abbrev pub step_number : Step → ℕ
step_number Make = 1
step_number Take = 2
step_number Enter = 3
step_number Leave = 4
step_number Done = 5
step_number Set = 6
step_number Item = 7
step_number Link = 8

-- the kind of this number, or the number where no kind has it
abbrev pub DecodesKind : ℕ → Result Kind Unknown → Type 0
DecodesKind n r = MatchResult r (λ kind. kind_number kind ≡ n) (λ e. (e.0 ≡ n) × (7 < n))

-- the step of this number, or the number where no step has it
abbrev pub DecodesStep : ℕ → Result Step Unknown → Type 0
DecodesStep n r = MatchResult r (λ step. step_number step ≡ n) (λ e. (e.0 ≡ n) × ((n ≡ 0) ⊎ (8 < n)))
