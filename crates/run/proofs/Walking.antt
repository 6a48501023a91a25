-- The ways through `descend`, from what its calls answer. Assumes nothing.
use Prim.Native.Nat.{ℕ, suc, ◌+◌, ◌-◌, ◌*◌, ◌≤◌, ◌<◌}
use native.Mathlib.Omega.{arith}
use native.Mathlib.Numerals.{add-one}
use mathlib.Core.Path.{◌≡◌, sym, ap, ◌∙◌, subst}
use mathlib.Core.List.{List, [], ◌∷◌}
use mathlib.Core.Option.{Option, none, some}
use native.Mathlib.Nat.{zero-add}
use lib.ListN.{length, take, drop, get_or, length-drop}
use lib.Seq.{get_or-take, get_or-drop}
use Rattle.paper.specs.Syntax.{Name, Path}
use Rattle.paper.specs.Layout.{Row}
use Rattle.paper.specs.DecodeAt.{word}
use Rattle.memory.specs.Memory.{word_at}
use Rattle.memory.proofs.Laws.{word_in, same_word}
use Rattle.rows.specs.View.{name_of, groups, view, rows_in}
use Rattle.rows.specs.Search.{seek}
use Rattle.rows.specs.Change.{field_at, row_here}
use Rattle.rows.proofs.Searches.{seek_in}
use Rattle.rows.proofs.Groups.{groups_cons, groups_end}
use Rattle.rows.proofs.Views.{kept_is, length_view, view_cons}
use Rattle.refusal.specs.declared.Reason.{Reason}
use Rattle.refusal.specs.declared.Reason.TheVariants.{TargetAbsent, TargetIsNoComponent}
use Rattle.std.specs.Prelude.{Result, Ok, Err}
use Rattle.run.specs.Paths.{names, Descends, DescendsFrom}
use Rattle.run.proofs.Leading.{first_of, ends, absent_here, stuck_here, on_from_here}

-- ---- a path's names

pub name_here : (t u p : List ℕ) (k j : ℕ) → j < k → k * 2 ≤ length p → drop j (names t u p k) ≡ name_of t u (word_at 2 p (j * 2)) ∷ drop (suc j) (names t u p k)
unfolding names
name_here t u p k j h l =
    let e : word 2 (take 2 (drop (j * 2) p)) 0 ≡ word 2 p (j * 2) =
    same_word 2 (take 2 (drop (j * 2) p)) p 0 (j * 2) (λ i m. get_or-take 2 (drop (j * 2) p) (0 + i) 0 (omega arith) ∙ get_or-drop (j * 2) p (0 + i) 0 ∙ ap (λ a. get_or p (j * 2 + a) 0) (zero-add i)) in
    groups_cons 2 (λ b. name_of t u (word 2 b 0)) k j p h ∙ ap (λ a. name_of t u a ∷ drop (suc j) (groups 2 (λ b. name_of t u (word 2 b 0)) p k)) (e ∙ sym (word_in 2 p (j * 2) (omega arith)))

pub names_end : (t u p : List ℕ) (k j : ℕ) → k ≤ j → drop j (names t u p k) ≡ []
unfolding names
names_end t u p k j h = groups_end 2 (λ b. name_of t u (word 2 b 0)) k j p h

-- ---- what a look answers

module _ (t u w : List ℕ) (n : ℕ) (many : n ≤ 4096) (room : n * 16 ≤ length w) where
  pub rows_view : rows_in t u w n ≡ view t u w n
  unfolding rows_in
  rows_view = ap (view t u w) (kept_is w n many room)

  -- a row that was found stands among the rows
  pub sought_in : (nm : Name) (d lo i : ℕ) → some i ≡ seek nm d (drop lo (rows_in t u w n)) lo → i < n
  sought_in nm d lo i e =
      let l = seek_in nm d (drop lo (view t u w n)) lo i (ap (λ r. seek nm d (drop lo r) lo) (sym rows_view) ∙ sym e) in
      let k : length (drop lo (view t u w n)) ≡ n - lo = length-drop lo (view t u w n) ∙ ap (λ j. j - lo) (length_view t u w n) in
      omega (arith, l.0, l.1, k)

  pub kind_here : (i : ℕ) → i < n → first_of (drop i (view t u w n)) ≡ field_at 2 w i 0
  unfolding row_here
  kind_here i h = ap first_of (view_cons t u w n i h many room)

  module _ (p : List ℕ) (lo d j k : ℕ) (enough : k * 2 ≤ length p) where
    abbrev ns : Path
    ns = drop j (names t u p k)

    abbrev xs : List Row
    xs = view t u w n

    pub walk_end : j ≡ k → DescendsFrom xs lo d ns (Ok lo)
    walk_end e pre q s low l is = subst (λ r. Descends xs d r pre q s (Ok lo)) (sym (names_end t u p k j (omega arith))) (ends xs d pre q s low is lo l)

    module _ (more : j < k) (nm : Name) (called : nm ≡ name_of t u (word_at 2 p (j * 2))) where
      this : nm ∷ drop (suc j) (names t u p k) ≡ ns
      this = ap (λ a. a ∷ drop (suc j) (names t u p k)) called ∙ sym (name_here t u p k j more enough)

      seeks : {o : Option ℕ} → o ≡ seek nm d (drop lo (rows_in t u w n)) lo → seek nm d (drop lo xs) lo ≡ o
      seeks e = ap (λ r. seek nm d (drop lo r) lo) (sym rows_view) ∙ sym e

      pub walk_absent : none ≡ seek nm d (drop lo (rows_in t u w n)) lo → DescendsFrom xs lo d ns (Err TargetAbsent)
      walk_absent e pre q s low l is = subst (λ r. Descends xs d r pre q s (Err TargetAbsent)) this (absent_here xs d pre q s low is nm (drop (suc j) (names t u p k)) lo l (seeks e))

      module _ (i : ℕ) (e : some i ≡ seek nm d (drop lo (rows_in t u w n)) lo) where
        pub walk_stuck : (field_at 2 w i 0 ≡ 0 → ⊥) → DescendsFrom xs lo d ns (Err TargetIsNoComponent)
        walk_stuck z pre q s low l is =
            subst (λ r. Descends xs d r pre q s (Err TargetIsNoComponent)) this
            (stuck_here xs d pre q s low is nm (drop (suc j) (names t u p k)) lo l i (seeks e) (λ f. z (sym (kind_here i (sought_in nm d lo i e)) ∙ f)))

        pub walk_on : (o : Result ℕ Reason) → field_at 2 w i 0 ≡ 0 → DescendsFrom xs (i + 1) (d + 1) (drop (j + 1) (names t u p k)) o → DescendsFrom xs lo d ns o
        walk_on o z again pre q s low l is =
            let ed : d + 1 ≡ suc d = add-one d in
            let ej : j + 1 ≡ suc j = add-one j in
            let go : DescendsFrom xs (i + 1) (suc d) (drop (suc j) (names t u p k)) o = subst (λ a. DescendsFrom xs (i + 1) (suc d) (drop a (names t u p k)) o) ej (subst (λ a. DescendsFrom xs (i + 1) a (drop (j + 1) (names t u p k)) o) ed again) in
            subst (λ r. Descends xs d r pre q s o) this
            (on_from_here xs d pre q s low is nm (drop (suc j) (names t u p k)) lo l i o (seeks e) (kind_here i (sought_in nm d lo i e) ∙ z) go)
