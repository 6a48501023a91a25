-- The ways through `find` and `resolve`, from what their calls answer. Assumes nothing.
use Prim.Native.Nat.{ℕ, zero, suc, ◌+◌, ◌-◌, ◌*◌, ◌≤◌}
use native.Mathlib.Omega.{arith}
use mathlib.Core.Path.{◌≡◌, refl, sym, ap, ◌∙◌, subst}
use mathlib.Core.List.{List, [], ◌∷◌, ◌++◌, append_assoc, append-nil}
use mathlib.Core.Option.{none}
use lib.ListN.{length, take, drop, length-append, take-append-drop}
use lib.Seq.{drop_at, take-take}
use Rattle.paper.specs.Syntax.{Name, Path}
use Rattle.paper.specs.Store.{Store, component, find, resolve_in}
use Rattle.paper.specs.Layout.{Row}
use Rattle.paper.specs.DecodeAt.{word}
use Rattle.memory.specs.Memory.{word_at}
use Rattle.std.specs.Prelude as Std
use Rattle.rows.specs.View.{name_of, groups, view, rows_in}
use Rattle.rows.specs.Search.{seek, found}
use Rattle.rows.specs.Flat.{flat, flat_value, Low}
use Rattle.rows.proofs.Groups.{length_groups}
use Rattle.rows.proofs.Trees.{Spot, Spot.absent, Spot.present, spot}
use Rattle.refusal.specs.Refused.{number_of}
use Rattle.refusal.specs.declared.Reason.{Reason}
use Rattle.std.specs.Prelude.{Result, Ok, Err}
use Rattle.std.specs.Result.{result_ok}
use Rattle.run.specs.Paths.{names, Reached, Missing, DescendsFrom, FoundIn, FindIs, FindsFrom, FindsIn, ResolvesIn}
use Rattle.run.proofs.Leading.{find_first, find_none, none≢some, some_is}
use Rattle.run.proofs.Walking.{name_here, names_end, rows_view, sought_in}

-- ---- what `ok` leaves of an answer

pub was_ok : (r : Result ℕ Reason) (x : ℕ) → result_ok r ≡ Std.Some x → r ≡ Ok x
was_ok (Ok y) x e = cc
was_ok (Err y) x e = cc

pub was_err : (r : Result ℕ Reason) {P : Type 0} → result_ok r ≡ Std.None → ((reason : Reason) → r ≡ Err reason → P) → P
was_err (Ok y) e f = let z : ◌≡◌ {A = ℕ} 0 1 = cc in absurd (omega arith)
was_err (Err y) e f = f y refl

-- ---- a path's names, its last one apart

pub length_names : (t u p : List ℕ) (k : ℕ) → length (names t u p k) ≡ k
unfolding names
length_names t u p k = length_groups 2 (λ b. name_of t u (word 2 b 0)) p k

pub some_names : (t u p : List ℕ) (k : ℕ) → 1 ≤ k → 1 ≤ length (names t u p k)
some_names t u p k h = omega (arith, length_names t u p k)

-- fewer of them are the first of them
pub names_take : (t u p : List ℕ) (k j : ℕ) → j ≤ k → take j (names t u p k) ≡ names t u p j
unfolding names groups
names_take t u p k j h = go (λ b. name_of t u (word 2 b 0)) p k j h
  where
    go : (f : List ℕ → Name) (p : List ℕ) (k j : ℕ) → j ≤ k → take j (groups 2 f p k) ≡ groups 2 f p j
    go f p k zero h = refl
    go f p zero (suc j) h = absurd (omega arith)
    go f p (suc k) (suc j) h = ap (λ r. f (take 2 p) ∷ r) (go f (drop 2 p) k j (omega arith))

pub names_last : (t u p : List ℕ) (m : ℕ) → 1 ≤ m → m * 2 ≤ length p → names t u p m ≡ names t u p (m - 1) ++ (name_of t u (word_at 2 p ((m - 1) * 2)) ∷ [])
names_last t u p m h l =
    let j : ℕ = m - 1 in
    let e : drop j (names t u p m) ≡ name_of t u (word_at 2 p (j * 2)) ∷ [] = name_here t u p m j (omega arith) l ∙ ap (λ r. name_of t u (word_at 2 p (j * 2)) ∷ r) (names_end t u p m (suc j) (omega arith)) in
    sym (take-append-drop j (names t u p m)) ∙ (λ i. names_take t u p m j (omega arith) i ++ e i)

-- a path that is not empty
finds_path : (ns r : Path) (s inner : Store) → 1 ≤ length r → ((m : Name) (r : Path) → find (ns ++ (m ∷ r)) (component s) ≡ find (m ∷ r) (component inner)) → find (ns ++ r) (component s) ≡ find r (component inner)
finds_path ns [] s inner h f = absurd (omega arith)
finds_path ns (m ∷ r) s inner h f = f m r

none_path : (ns r : Path) (s : Store) → 1 ≤ length r → ((m : Name) (r : Path) → find (ns ++ (m ∷ r)) (component s) ≡ none) → find (ns ++ r) (component s) ≡ none
none_path ns [] s h f = absurd (omega arith)
none_path ns (m ∷ r) s h f = f m r

module _ (t u w : List ℕ) (n : ℕ) (many : n ≤ 4096) (room : n * 16 ≤ length w) where
  abbrev xs : List Row
  xs = view t u w n

  pub found_in : (lo d : ℕ) (x : Name) (o : Std.Option ℕ) → found o ≡ seek x d (drop lo (rows_in t u w n)) lo → FoundIn n o
  found_in lo d x (Std.Some i) e = sought_in t u w n many room x d lo i e
  found_in lo d x Std.None e = tt

  -- ---- one name, looked for
  child_finds : (lo d : ℕ) (x : Name) (pre q : List Row) (s : Store) → Low d q → length pre ≡ lo → xs ≡ pre ++ (flat d s ++ q) → (o : Std.Option ℕ) → found o ≡ seek x d (drop lo (rows_in t u w n)) lo → FindIs xs (find (x ∷ []) (component s)) o
  unfolding find
  child_finds lo d x pre q s low l is o h = go o (spot x d q low s lo) (h ∙ ap (λ r. seek x d r lo) look)
    where
      look : drop lo (rows_in t u w n) ≡ flat d s ++ q
      look = ap (drop lo) (rows_view t u w n many room ∙ is) ∙ drop_at pre (flat d s ++ q) lo l

      go : (o : Std.Option ℕ) → Spot x d s q lo → found o ≡ seek x d (flat d s ++ q) lo → FindIs xs (find (x ∷ []) (component s)) o
      go (Std.Some i) (absent f k g) e = absurd (none≢some (sym k ∙ sym e))
      go Std.None (absent f k g) e = find_none x [] s f
      go Std.None (present v a z f k y m g) e = absurd (none≢some (e ∙ k))
      go (Std.Some i) (present v a z f k y m g) e =
          let ei : i ≡ length a + lo = some_is (e ∙ k) in (
            v,
            find_first x [] s v f,
            record {
              name = x;
              depth = d;
              before = pre ++ a;
              after = z ++ q;
              at = length-append pre a ∙ omega (arith, ei, l);
              low = m;
              rows = is ∙ ap (λ r. pre ++ (r ++ q)) y ∙ ap (λ r. pre ++ r) (append_assoc a (flat_value d x v ++ z) q ∙ ap (λ r. a ++ r) (append_assoc (flat_value d x v) z q)) ∙ sym (append_assoc pre a (flat_value d x v ++ (z ++ q)));
            },
          )

  -- ---- a reference, from some attributes on
  module _ (p : List ℕ) (m lo d : ℕ) (enough : m * 2 ≤ length p) (some-name : 1 ≤ m) where
    abbrev r : Path
    r = names t u p m

    pub from_none : (k : ℕ) (pre q : List Row) (s : Store) → Missing k (names t u p (m - 1)) s → find r (component s) ≡ none
    from_none k pre q s h = ap (λ a. find a (component s)) (names_last t u p m some-name enough) ∙ h.finds (name_of t u (word_at 2 p ((m - 1) * 2))) []

    pub from_nowhere : (reason : Reason) → DescendsFrom xs lo d (names t u p (m - 1)) (Err reason) → FindsFrom xs lo d r Std.None
    from_nowhere reason h pre q s low l is = from_none (number_of reason) pre q s (h pre q s low l is)

    pub from_child : (inner : ℕ) (x : Name) (o : Std.Option ℕ) → DescendsFrom xs lo d (names t u p (m - 1)) (Ok inner) → x ≡ name_of t u (word_at 2 p ((m - 1) * 2)) → found o ≡ seek x (d + (m - 1)) (drop inner (rows_in t u w n)) inner → FindsFrom xs lo d r o
    from_child inner x o h c e pre q s low l is =
        let R : Reached xs d (names t u p (m - 1)) pre q s inner = h pre q s low l is in
        let k : d + length (names t u p (m - 1)) ≡ d + (m - 1) = ap (λ a. d + a) (length_names t u p (m - 1)) in
        let f : find r (component s) ≡ find (x ∷ []) (component R.inner) =
        ap (λ a. find a (component s)) (names_last t u p m some-name enough ∙ ap (λ a. names t u p (m - 1) ++ (a ∷ [])) (sym c)) ∙ R.finds x [] in
        subst (λ a. FindIs xs a o) (sym f)
        (child_finds inner (d + (m - 1)) x R.before R.after R.inner (subst (λ a. Low a R.after) k R.low) R.at (subst (λ a. xs ≡ R.before ++ (flat a R.inner ++ R.after)) k R.rows) o e)

  -- ---- scope joined with the reference
  module _ (ns r : Path) (some-name : 1 ≤ length r) where
    rooted : (s : Store) → xs ≡ flat 1 s → xs ≡ [] ++ (flat 1 s ++ [])
    rooted s e = e ∙ sym (append-nil (flat 1 s))

    pub in_nowhere : (reason : Reason) → DescendsFrom xs 0 1 ns (Err reason) → FindsIn xs (ns ++ r) Std.None
    in_nowhere reason h s e = none_path ns r s some-name (h [] [] s tt refl (rooted s e)).finds

    pub in_found : (k lo : ℕ) (o : Std.Option ℕ) → length ns ≡ k → DescendsFrom xs 0 1 ns (Ok lo) → FindsFrom xs lo (1 + k) r o → FindsIn xs (ns ++ r) o
    in_found k lo o c h f s e =
        let R : Reached xs 1 ns [] [] s lo = h [] [] s tt refl (rooted s e) in
        let j : 1 + length ns ≡ 1 + k = ap (λ a. 1 + a) c in
        subst (λ a. FindIs xs a o) (sym (finds_path ns r s R.inner some-name R.finds))
        (f R.before R.after R.inner (subst (λ a. Low a R.after) j R.low) R.at (subst (λ a. xs ≡ R.before ++ (flat a R.inner ++ R.after)) j R.rows))

  -- ---- scope after scope
  module _ (p : List ℕ) (r : Path) where
    pub resolve_here : (k i : ℕ) → FindsIn xs (names t u p k ++ r) (Std.Some i) → ResolvesIn xs k (names t u p k) r (Std.Some i)
    unfolding resolve_in names groups
    resolve_here zero i h s scope e c = h s e
    resolve_here (suc k) i h s scope e c =
        let f = h s e in
        (f.0, rw (c, f.1, resolve_in), f.2)

    pub resolve_ends : (k : ℕ) → k ≡ 0 → FindsIn xs (names t u p k ++ r) Std.None → ResolvesIn xs k (names t u p k) r Std.None
    unfolding resolve_in names groups
    resolve_ends zero z h s scope e c = h s e
    resolve_ends (suc k) z h s scope e c = absurd (omega arith)

    pub resolve_again : (k : ℕ) (o : Std.Option ℕ) → (k ≡ 0 → ⊥) → FindsIn xs (names t u p k ++ r) Std.None → ResolvesIn xs (k - 1) (names t u p (k - 1)) r o → ResolvesIn xs k (names t u p k) r o
    unfolding resolve_in
    resolve_again zero o z h again s scope e c = absurd (z refl)
    resolve_again (suc k) o z h again s scope e c =
        let d : take k scope ≡ names t u p k = sym (take-take k (suc k) scope (omega arith)) ∙ ap (take k) c ∙ names_take t u p (suc k) k (omega arith) in
        let q : suc k - 1 ≡ k = omega arith in
        let g : ResolvesIn xs k (names t u p k) r o = subst (λ j. ResolvesIn xs j (names t u p j) r o) q again in
        let f : find (take (suc k) scope ++ r) (component s) ≡ none = ap (λ a. find (a ++ r) (component s)) c ∙ h s e in
        subst (λ a. FindIs xs a o) (sym (rw (f, resolve_in) refl)) (g s scope e d)
