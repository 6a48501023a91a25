-- Drafts in the lent slice, as step records: the first 1,024, 20 bytes each. Assumes nothing.
use Rattle.std.specs.Prelude.{ℕ, suc, ◌*◌, ◌≡◌, List, [], ◌∷◌, ltb, length, drop}
use Rattle.std.proofs.lemmas.List.Edits.{sets}
use Rattle.paper.specs.Bytes.{when◌then◌else◌}
use Rattle.paper.specs.Layout.{Row, number, row_bytes}
use Rattle.paper.specs.StepLayout.{step_row}
use Rattle.kinds.specs.Numbers.{kind_number, step_number}
use Rattle.kinds.specs.declared.Step.{Step}
use Rattle.grammar.specs.Drafts.{Draft}
use Rattle.grammar.specs.declared.draft.Entry.{Entry}

abbrev pub entry_row : Entry → Row
entry_row e = step_row (step_number e.step) (kind_number e.kind) (number e.path) e.span (number e.value) e.place

-- a step with a path and no more
abbrev pub path_row : Step → ℕ → Row
path_row i p = step_row (step_number i) 0 (number p) 0 (number 0) p

-- the row as record number n, where it is one of those that are kept
unfoldable pub put_row : List ℕ → ℕ → Row → List ℕ
put_row b n x = when ltb n 1024 then sets b (20 * n) (row_bytes 0 x) else b

-- drafts from number n on
unfoldable pub puts : List ℕ → ℕ → List Draft → List ℕ
puts b n [] = b
puts b n (d ∷ ds) = puts (put_row b n d.row) (suc n) ds

-- only the room for drafts may differ
pub record Frame (b₀ b₁ : List ℕ) : Type 0 where
  pub long : length b₁ ≡ length b₀
  pub rest : drop 20480 b₁ ≡ drop 20480 b₀
