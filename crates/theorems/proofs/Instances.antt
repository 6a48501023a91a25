-- The premises are met: each field of the theorems' records that has a premise is used here, on a description of document 01, its table or
-- its step list; the fields that are equivalences are used in the direction that reads bytes. `compiled`, `checked` and `kept` have no
-- premise. Assumes nothing.
use Prim.Native.Nat.{ℕ, ◌≤◌, ◌<◌}
use mathlib.Core.Path.{◌≡◌, refl, ◌∙◌}
use mathlib.Core.List.{List, [], ◌∷◌}
use mathlib.Core.Logic.{◌⊎◌}
use lib.IntN.{pos}
use lib.Dec.{lit≤}
use Rattle.paper.specs.Bytes.{bytes}
use Rattle.paper.specs.Answer.{ok, refused}
use Rattle.paper.specs.Limits.{most_source, least_list, least_table, least_work}
use Rattle.paper.specs.Syntax.{Block, εᴮ, ◌∷ᴮ◌, assign, link, integer}
use Rattle.paper.specs.Tokens.{name}
use Rattle.paper.specs.Written.{Next, NoNext}
use Rattle.paper.specs.Described.{Describes, Refused}
use Rattle.paper.specs.Reader.{read}
use Rattle.paper.specs.Store.{Store, ∅, basic}
use Rattle.paper.specs.Meaning.{B⟦◌⟧}
use Rattle.paper.specs.Layout.{table}
use Rattle.paper.specs.WellFormed.{IsStore, IsTable, IsStepList, IsBounded}
use Rattle.paper.specs.Lent.{Lent, Enough}
use Rattle.paper.specs.Operations.{translate, resolve_op}
use Rattle.paper.specs.Allowed.{Translates, Runs, TakesMain, Resolves, Evaluates}
use Rattle.paper.proofs.Checked.{checked, ◌≔◌⨾◌, ◌≔⟨◌⟩⨾◌, thirteen, thirteen_table}
use Rattle.theorems.proofs.Decoded.{decoded}
use Rattle.theorems.proofs.Demands.{demands}
use Rattle.theorems.proofs.Demands.Exact.{run_rest, main_rest, translates_exactly, runs_exactly, takes_main_exactly, resolves_exactly, evaluates_exactly}
use Rattle.theorems.proofs.Legal.{legal}
use Rattle.theorems.proofs.Legal.Bounds.{of_table}
use Rattle.theorems.proofs.Legal.Read.{WellRead, Translated}
use Rattle.paper.proofs.Open.{all}
use Rattle.theorems.proofs.ReadExactly.{read_exactly}
use Rattle.theorems.proofs.Scanned.{scanned}
use Rattle.theorems.proofs.Scanned.Alone.{is_name}

-- ---- description 14: `y x;` over a table holding x 1

abbrev fourteen : List ℕ
fourteen = bytes "y x;"

abbrev meant : Block
meant = assign (bytes "y" ∷ []) (link 2 (bytes "x" ∷ [])) ∷ᴮ εᴮ

abbrev before : Store
before = "x" ≔ 1 ⨾ ∅

abbrev after : Store
after = "x" ≔ 1 ⨾ "y" ≔ 1 ⨾ ∅

is_read : read fourteen ≡ ok meant
unfolding all
is_read = refl

list : List ℕ
unfolding all
list = elim (translate fourteen) [ ok b ↦ b | refused n p ↦ [] ]

is_translated : translate fourteen ≡ ok list
unfolding all list
is_translated = refl

-- ---- decoded: description 13's bytes are a table, and this list is a step list

is_table : IsTable thirteen_table ("x" ≔ 1 ⨾ ∅)
unfolding all
is_table = (decoded.tables thirteen_table ("x" ≔ 1 ⨾ ∅)).0 refl

is_step_list : IsStepList list meant
unfolding all list
is_step_list = (decoded.step_lists list meant).0 refl

one_store : (s : Store) → IsTable thirteen_table s → s ≡ ("x" ≔ 1 ⨾ ∅)
one_store s h = decoded.one_store s ("x" ≔ 1 ⨾ ∅) thirteen_table h is_table

one_block : (d : Block) → IsStepList list d → d ≡ meant
one_block d h = decoded.one_block d meant list h is_step_list

-- ---- legal: the block read, its list, what it gives, its main component, and the bounds

is_legal : WellRead meant
is_legal = legal.read fourteen meant is_read

is_listed : Translated fourteen list
is_listed = legal.listed fourteen list is_translated

is_evaluated : B⟦ meant ⟧ [] before ≡ ok after
unfolding all
is_evaluated = refl

is_bounded : IsBounded before
is_bounded = of_table is_table

after_bounded : IsBounded after
after_bounded = legal.bounds meant before after is_legal.blocks is_bounded is_evaluated

after_store : IsStore after
after_store = legal.store meant [] before after is_legal.blocks tt is_bounded.store is_evaluated

put_again : IsStore after
unfolding all
put_again = legal.put before (bytes "y") (basic (integer (pos 1))) (is_name (bytes "y") refl refl) tt is_bounded.store

bound_again : IsStore after
unfolding all
bound_again = legal.bind 0 (bytes "y" ∷ []) (basic (integer (pos 1))) before after (is_name (bytes "y") refl refl, tt) tt is_bounded.store refl

main_bounded : IsBounded ∅
unfolding all
main_bounded = legal.main ("sfConfig" ≔⟨ ∅ ⟩⨾ ∅) ∅ (of_table ((decoded.tables (table ("sfConfig" ≔⟨ ∅ ⟩⨾ ∅)) ("sfConfig" ≔⟨ ∅ ⟩⨾ ∅)).0 refl)) refl

-- ---- demands: what is accepted and what is refused, of each operation

-- demand 2, on description 13, and resolve's three in turn
is_accepted : Resolves thirteen (ok thirteen_table)
is_accepted = (resolves_exactly thirteen (ok thirteen_table)).0 checked.in_bytes

is_resolved : resolve_op thirteen least_table least_work least_work least_work ≡ ok thirteen_table
unfolding all
is_resolved =
    demands.resolves_in_turn thirteen least_table least_work least_work least_work least_list least_work least_table least_work least_work
    (lit≤ tt) (lit≤ tt) (lit≤ tt) (lit≤ tt) (lit≤ tt) (lit≤ tt) (lit≤ tt) (lit≤ tt) (lit≤ tt) ∙ refl

-- demand 3, on description 14
is_run : Evaluates fourteen thirteen_table (ok (table after))
unfolding all list
is_run =
    (demands.evaluate_exactly fourteen thirteen_table least_list least_work least_table least_work least_work
    (lit≤ tt) (lit≤ tt) (lit≤ tt) (lit≤ tt) (lit≤ tt) (ok (table after))).0 refl

-- refusals with a number and a place: an integer out of range, a link that finds nothing, no sfConfig
unread : Translates (bytes "y 9223372036854775808;") (refused 4 2)
unfolding all
unread = (translates_exactly _ _).0 refl

unrun : Runs list (table ∅) (refused 11 2)
unfolding all list run_rest
unrun = (runs_exactly _ _ _).0 refl

no_main : TakesMain (table ∅) (refused 19 0)
unfolding all main_rest
no_main = (takes_main_exactly _ _).0 refl

unresolved : Resolves (bytes "") (refused 19 0)
unfolding all
unresolved = (resolves_exactly _ _).0 refl

unevaluated : Evaluates fourteen (table ∅) (refused 11 2)
unfolding all run_rest
unevaluated = (evaluates_exactly _ _ _).0 refl

abbrev Is : ℕ → ℕ → Type 0
Is m n = m ≡ n

numbers : ((1 ≤ 4) × (4 ≤ 7)) × ((9 ≤ 11) × (11 ≤ 18)) × (Is 19 10 ⊎ (Is 19 19 ⊎ Is 19 20)) × (((1 ≤ 19) × (19 ≤ 7)) ⊎ ((11 ≤ 19) × (19 ≤ 20))) × (((1 ≤ 11) × (11 ≤ 7)) ⊎ ((10 ≤ 11) × (11 ≤ 18)))
numbers =
    (demands.translate_numbers _ _ _ unread, demands.run_numbers _ _ _ _ unrun, demands.main_numbers _ _ _ no_main, demands.resolve_numbers _ _ _ unresolved, demands.evaluate_numbers _ _ _ _ unevaluated)

places : ((2 ≤ 22) × (2 ≤ most_source)) × (2 < most_source) × Is 0 0 × ((0 ≤ 0) × (0 ≤ most_source)) × ((2 ≤ 4) × (2 ≤ most_source))
places =
    (demands.translate_places _ _ _ unread, demands.run_places _ _ _ _ unrun, demands.main_places _ _ _ no_main, demands.resolve_places _ _ _ unresolved, demands.evaluate_places _ _ _ _ unevaluated)

-- bytes that are no table give 10, bytes that are no step list 9
no_table : (s : Store) → IsTable [] s → ⊥
unfolding all list run_rest
no_table = (demands.run_10 list [] meant is_step_list).0 ((runs_exactly _ _ _).0 refl)

no_list : (d : Block) → IsStepList [] d → ⊥
unfolding all run_rest
no_list = (demands.run_9 [] []).0 ((runs_exactly _ _ _).0 refl)

no_whole : (s : Store) → IsTable [] s → ⊥
unfolding all main_rest
no_whole = (demands.main_10 []).0 ((takes_main_exactly _ _).0 refl)

-- a slice too short gives 8, of each operation
short : Lent (Enough least_list [] ([] ∷ [])) (Translates fourteen) (refused 8 0)
    × Lent (Enough least_table [] ([] ∷ [] ∷ [])) (Runs list thirteen_table) (refused 8 0)
    × Lent (Enough least_table [] []) (TakesMain thirteen_table) (refused 8 0)
    × Lent (Enough least_table [] ([] ∷ [] ∷ [] ∷ [])) (Resolves thirteen) (refused 8 0)
unfolding all
short = (
  (demands.translate_exactly fourteen [] [] (refused 8 0)).0 refl,
  (demands.run_exactly list thirteen_table [] [] [] (refused 8 0)).0 refl,
  (demands.main_exactly thirteen_table [] (refused 8 0)).0 refl,
  (demands.resolve_exactly thirteen [] [] [] [] (refused 8 0)).0 refl,
)

-- ---- scanned and read exactly

first_token : Next (record { place = 0; rest = fourteen }) (name (bytes "y")) (record { place = 0; rest = fourteen }) (record { place = 1; rest = bytes " x;" })
unfolding all
first_token = (scanned.a_token _ _ _ _).0 refl

no_token : NoNext (record { place = 0; rest = bytes " #" }) 2 1
unfolding all
no_token = (scanned.no_token _ _ _).0 refl

described : Describes fourteen meant
described = (read_exactly.accepted fourteen meant).0 is_read

one_meaning : (b : Block) → Describes fourteen b → b ≡ meant
one_meaning b h = read_exactly.one fourteen b meant h described

-- 2, 3 and 4 at their places; 5 and 6 stand in Checked/Edges as answers of the reader
refusals : Refused (bytes "y x; #") 2 5 × Refused (bytes "y x y") 3 4 × Refused (bytes "y 9223372036854775808;") 4 2
unfolding all
refusals = ((read_exactly.refused _ _ _).0 refl, (read_exactly.refused _ _ _).0 refl, (read_exactly.refused _ _ _).0 refl)
