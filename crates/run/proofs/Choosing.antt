-- The table of `sfConfig`, from the rows of the whole store. Assumes nothing.
use Prim.Native.Nat.{ℕ, ◌+◌, ◌≤◌, ◌<◌}
use native.Mathlib.Omega.{arith}
use mathlib.Core.Path.{◌≡◌, refl, sym, ◌∙◌, ap, subst}
use mathlib.Core.List.{List, [], ◌∷◌, ◌++◌, append-nil}
use mathlib.Core.Option.{Option, none, some}
use lib.ListN.{length, drop}
use lib.Seq.{drop_at}
use Rattle.paper.specs.Bytes.{bytes}
use Rattle.paper.specs.Answer.{ok, refused, ◌>>=◌}
use Rattle.paper.specs.Answer as Paper
use Rattle.paper.specs.Syntax.{Name, Basic}
use Rattle.paper.specs.Store.{Store, basic, component, lookup, find}
use Rattle.paper.specs.Meaning.{main}
use Rattle.paper.specs.Layout.{Row, table}
use Rattle.theorems.proofs.Laws.Gives.{Gives, gives, known, gives_bind, gives_ok}
use Rattle.theorems.proofs.Legal.Bounds.{Main, Main.absent, Main.no_component, mains, main_numbers}
use Rattle.memory.specs.Memory.{stored}
use Rattle.rows.specs.View.{view, rows_in}
use Rattle.rows.specs.Search.{seek, deeper}
use Rattle.rows.specs.Change.{field_at}
use Rattle.rows.specs.Flat.{flat}
use Rattle.rows.proofs.Trees.{Spot, Spot.absent, Spot.present, spot, deeper_flat, deeper_low, head}
use Rattle.write.specs.Tabled.{tabled, chosen, fitted}
use Rattle.write.proofs.Stores.{chosen_component}
use Rattle.refusal.specs.Refused.{number_of}
use Rattle.refusal.specs.declared.Reason.{Reason}
use Rattle.refusal.specs.declared.Reason.TheVariants.{MainAbsent, MainIsNoComponent}
use Rattle.refusal.specs.declared.Refusal.{Refusal}
use Rattle.std.specs.Prelude.{Result, Ok, Err}
use Rattle.run.specs.declared.wanted.Wanted.{Wanted}
use Rattle.run.specs.declared.wanted.Wanted.TheVariants.{Whole, Main as TheMain}
use Rattle.run.specs.Runs.{store_of, main_of, AnsweredIs, MainIs, run_main_op, runs_main}
use Rattle.run.specs.Wanted.{wanted_of, lent, settled}
use Rattle.run.proofs.Leading.{find_first, find_none, none≢some, first_of, Hit, Hit.hit_basic, Hit.hit_component, hit_here}
use Rattle.run.proofs.Walking.{rows_view, sought_in, kind_here}
use Rattle.run.proofs.Ending.{whole_refused, refused_as, refused_is, done_is, Given, store_gives, run_gives, rest_is}

abbrev sf_config : Name
sf_config = bytes "sfConfig"

-- ---- the paper's main

module _ (s : Store) where
  no_main : lookup s sf_config ≡ none → main s ≡ refused 19 0
  unfolding main
  no_main h = rw (find_none sf_config [] s h, main)

  plain_main : (b : Basic) → lookup s sf_config ≡ some (basic b) → main s ≡ refused 20 0
  unfolding main find
  plain_main b h = rw (find_first sf_config [] s (basic b) h, main)

  some_main : (c : Store) → lookup s sf_config ≡ some (component c) → main s ≡ ok c
  unfolding main find
  some_main c h = rw (find_first sf_config [] s (component c) h, main)

-- ---- where its rows stand

module _ (t u w : List ℕ) (n : ℕ) (few : n ≤ 1024) (room : 65536 ≤ length w) where
  abbrev xs : List Row
  xs = view t u w n

  all_rows : rows_in t u w n ≡ view t u w n
  all_rows = rows_view t u w n (omega arith) (omega arith)

  looks : (o : Option ℕ) → o ≡ seek sf_config 1 (drop 0 (rows_in t u w n)) 0 → seek sf_config 1 (drop 0 (view t u w n)) 0 ≡ o
  looks o e = ap (λ r. seek sf_config 1 (drop 0 r) 0) (sym all_rows) ∙ sym e

  pub main_inside : (i : ℕ) → some i ≡ seek sf_config 1 (drop 0 (rows_in t u w n)) 0 → i < n
  main_inside i e = sought_in t u w n (omega arith) (omega arith) sf_config 1 0 i e

  module _ (s : Store) (is : view t u w n ≡ flat 1 s) where
    all_are : view t u w n ≡ flat 1 s ++ []
    all_are = is ∙ sym (append-nil (flat 1 s))

    main_absent : none ≡ seek sf_config 1 (drop 0 (rows_in t u w n)) 0 → main s ≡ refused 19 0
    main_absent e = go (spot sf_config 1 [] tt s 0)
      where
        go : Spot sf_config 1 s [] 0 → main s ≡ refused 19 0
        go (absent f k g) = no_main s f
        go (present v a z f k r l g) = absurd (none≢some (sym (looks none e) ∙ ap (λ x. seek sf_config 1 x 0) all_are ∙ k))

    module _ (i : ℕ) (e : some i ≡ seek sf_config 1 (drop 0 (rows_in t u w n)) 0) where
      kind_is : first_of (drop i (view t u w n)) ≡ field_at 2 w i 0
      kind_is = kind_here t u w n (omega arith) (omega arith) i (main_inside i e)

      hit : Hit (view t u w n) 1 [] [] s tt all_are sf_config [] 0 refl i
      hit = hit_here (view t u w n) 1 [] [] s tt all_are sf_config [] 0 refl i (looks (some i) e)

      main_plain : (field_at 2 w i 0 ≡ 0 → ⊥) → main s ≡ refused 20 0
      main_plain nz = go hit
        where
          go : Hit (view t u w n) 1 [] [] s tt all_are sf_config [] 0 refl i → main s ≡ refused 20 0
          go (hit_basic b f o) = plain_main s b f
          go (hit_component c a z f g o l r k) = absurd (nz (sym kind_is ∙ o))

      main_found : field_at 2 w i 0 ≡ 0 → (end : ℕ) → end ≡ i + 1 + deeper 2 (drop (i + 1) (rows_in t u w n)) → (c : Store) × (main s ≡ ok c) × (tabled 1 (chosen t u w n (i + 1) end) ≡ table c)
      main_found zr end q = go hit
        where
          go : Hit (view t u w n) 1 [] [] s tt all_are sf_config [] 0 refl i → (c : Store) × (main s ≡ ok c) × (tabled 1 (chosen t u w n (i + 1) end) ≡ table c)
          go (hit_basic b f o) = absurd (omega (arith, kind_is, o, zr))
          go (hit_component c a z f g o l r k) =
              let pre : List Row = a ++ (head 1 sf_config (component c) ∷ []) in
              let x : rows_in t u w n ≡ pre ++ (flat 2 c ++ (z ++ [])) = all_rows ∙ r in
              let d : deeper 2 (drop (i + 1) (rows_in t u w n)) ≡ length (flat 2 c) + 0 = ap (λ y. deeper 2 (drop (i + 1) y)) x ∙ ap (deeper 2) (drop_at pre (flat 2 c ++ (z ++ [])) (i + 1) k)
              ∙ deeper_flat 2 2 c (z ++ []) (omega arith) ∙ ap (λ y. length (flat 2 c) + y) (deeper_low 2 (z ++ []) l) in
              (c, some_main s c f, chosen_component t u w n pre c (z ++ []) (i + 1) end (sym k) (omega (arith, q, d)) x)

  -- ---- the ways through `main_in`

  module _ (o : List ℕ) where
    main_refuses : (reason : Reason) → ((s : Store) → view t u w n ≡ flat 1 s → main s ≡ refused (number_of reason) 0) → MainIs t u w n o o (Err (record { reason = reason; place = 0 }))
    unfolding main_of ◌>>=◌
    main_refuses reason h s b is = refused_is (main_of (ok s)) o (record { reason = reason; place = 0 }) (rw (h s is))

    pub main_nothing : none ≡ seek sf_config 1 (drop 0 (rows_in t u w n)) 0 → MainIs t u w n o o (Err (record { reason = MainAbsent; place = 0 }))
    main_nothing e = main_refuses MainAbsent (λ s is. main_absent s is e)

    pub main_basic : (i : ℕ) → some i ≡ seek sf_config 1 (drop 0 (rows_in t u w n)) 0 → (field_at 2 w i 0 ≡ 0 → ⊥) → MainIs t u w n o o (Err (record { reason = MainIsNoComponent; place = 0 }))
    main_basic i e nz = main_refuses MainIsNoComponent (λ s is. main_plain s is i e nz)

    pub main_inner : (i : ℕ) → some i ≡ seek sf_config 1 (drop 0 (rows_in t u w n)) 0 → field_at 2 w i 0 ≡ 0 → (end : ℕ) → end ≡ i + 1 + deeper 2 (drop (i + 1) (rows_in t u w n)) → 32792 ≤ length o
        → (o' : List ℕ) (k : ℕ) → o' ≡ stored o 0 (tabled 1 (chosen t u w n (i + 1) end)) → k ≡ fitted (tabled 1 (chosen t u w n (i + 1) end)) o → MainIs t u w n o o' (Ok k)
    unfolding main_of ◌>>=◌
    main_inner i e zr end q h o' k f g s b is =
        let M = main_found s is i e zr end q in
        done_is (main_of (ok s)) M.0 (tabled 1 (chosen t u w n (i + 1) end)) o o' k (rw M.1) M.2 (mains s M.0 b M.1).bounds h f g

-- ---- and through `main_of`

pub mained_refused : (a : Paper.Answer Store) (o : List ℕ) (refusal : Refusal) → a ≡ refused_as refusal → AnsweredIs (main_of a) o o (Err refusal)
unfolding main_of ◌>>=◌
mained_refused a o refusal e = refused_is (main_of a) o refusal (rw e)

pub mained : (list start t u w o o' : List ℕ) (n : ℕ) (r : Result ℕ Refusal) → Given list start t u w n → MainIs t u w n o o' r → AnsweredIs (main_of (store_of list start)) o o' r
mained list start t u w o o' n r G M =
    subst (λ a. AnsweredIs (main_of a) o o' r) (sym G.is) (M G.store (gives_ok (store_gives list start) G.is) G.held.rows)

-- ---- run and main

past : (n : ℕ) → Main n → 8 < n
past n absent = omega arith
past n no_component = omega arith

module _ (list start : List ℕ) where
  pub main_settled : (o w₁ w₂ : List ℕ) → settled (main_of (store_of list start)) o w₁ w₂ ≡ runs_main list start o w₁ w₂
  unfolding settled lent runs_main run_main_op main_of
  main_settled o w₁ w₂ = ap (λ a. settled a o w₁ w₂) (rest_is list start (λ t. main t >>= λ c. ok (table c)))

  pub main_gives : Gives (λ n. 8 < n) (λ _. Unit {0}) (main_of (store_of list start))
  unfolding main_of
  main_gives =
      gives_bind _ (store_gives list start) (λ t h. gives_bind _ (known {P = λ _. Unit {0}} (main t) (λ c e. tt) (λ n p e. past n (main_numbers t n p h e))) (λ c _. gives tt))

  pub wanted_gives : (wanted : Wanted) → Gives (λ n. 8 < n) (λ _. Unit {0}) (wanted_of wanted (store_of list start))
  wanted_gives Whole = run_gives list start
  wanted_gives TheMain = main_gives

-- a refusal of the steps is one of what is wanted
pub wanted_refused : (wanted : Wanted) (a : Paper.Answer Store) (o : List ℕ) (refusal : Refusal) → a ≡ refused_as refusal → AnsweredIs (wanted_of wanted a) o o (Err refusal)
wanted_refused Whole a o refusal e = whole_refused a o refusal e
wanted_refused TheMain a o refusal e = mained_refused a o refusal e
