-- A part of the rows replaced is a put, and the bounds after it. Assumes nothing.
use Prim.Native.Nat.{ℕ, zero, suc, ◌+◌, ◌-◌, ◌*◌, ◌^◌, ◌≤◌, ◌<◌, max}
use native.Mathlib.Omega.{arith}
use mathlib.Core.Path.{◌≡◌, refl, sym, ap, ◌∙◌}
use mathlib.Core.List.{List, [], ◌∷◌, ◌++◌, append_assoc}
use mathlib.Core.Option.{none, some}
use lib.ListN.{length, take, drop, length-append, length-drop, take-append-drop}
use lib.Seq.{drop_at, take_at, drop-drop, take_all}
use Rattle.paper.specs.Syntax.{Name}
use Rattle.paper.specs.Store.{Store, Value, put}
use Rattle.paper.specs.Layout.{Row, deepest}
use Rattle.rows.specs.View.{view, rows_in}
use Rattle.rows.specs.Search.{seek, deeper, text_bytes}
use Rattle.rows.specs.Change.{spliced, row_here}
use Rattle.rows.specs.Flat.{flat, flat_value, Low}
use Rattle.rows.proofs.Searches.{deeper_in}
use Rattle.rows.proofs.Fields.{field_word}
use Rattle.rows.proofs.Views.{length_view, here_size, view_cons, view_end, view_splice}
use Rattle.theorems.proofs.Laws.DecodeAt.{Bytes}
use Rattle.paper.specs.DecodeAt.{word}
use Rattle.memory.proofs.Laws.{word_below}
use Rattle.rows.proofs.Trees.{head, beneath, flat_head, head_depth, deep_flat, deeper_deep, deeper_low, deeper_value, Spot, Spot.absent, Spot.present, spot, text_bytes-++, deepest-++}
use Rattle.run.specs.Puts.{Replaced, Put, Over, Over.too_deep, Over.too_many, Over.too_long, Within}
use Rattle.run.proofs.Leading.{none≢some, some_is}
use Rattle.run.proofs.Walking.{rows_view}

-- ---- three parts

parts : (xs : List Row) (i e : ℕ) → i ≤ e → xs ≡ take i xs ++ (take (e - i) (drop i xs) ++ drop e xs)
parts xs i e h =
    let k : i + (e - i) ≡ e = omega arith in
    sym (take-append-drop i xs) ∙ ap (λ r. take i xs ++ r) (sym (take-append-drop (e - i) (drop i xs)) ∙ ap (λ r. take (e - i) (drop i xs) ++ r) (drop-drop (e - i) i xs ∙ ap (λ j. drop j xs) k))

text_parts : (xs ys zs : List Row) → text_bytes (xs ++ (ys ++ zs)) ≡ text_bytes xs + (text_bytes ys + text_bytes zs)
text_parts xs ys zs = text_bytes-++ xs (ys ++ zs) ∙ ap (λ k. text_bytes xs + k) (text_bytes-++ ys zs)

deep_parts : (xs ys zs : List Row) → deepest (xs ++ (ys ++ zs)) ≡ max (deepest xs) (max (deepest ys) (deepest zs))
deep_parts xs ys zs = deepest-++ xs (ys ++ zs) ∙ ap (max (deepest xs)) (deepest-++ ys zs)

module _ (t u w s : List ℕ) (n m i e : ℕ) (few : n ≤ 1024) (new-few : m ≤ 1024) (ordered : i ≤ e) (inside : e ≤ n) (room : 32768 ≤ length w) (new-room : m * 16 ≤ length s) where
  abbrev xs : List Row
  xs = view t u w n

  abbrev new : List Row
  new = view t u s m

  pub replaced : (w' : List ℕ) (text old sum text' rows : ℕ) → old ≡ text_bytes (take (e - i) (drop i (rows_in t u w n))) → sum ≡ text + text_bytes new
      → w' ≡ spliced w n i e s m → text' ≡ sum - old → rows ≡ i + (m + (n - e)) → Replaced xs new i e text (view t u w' rows) text'
  replaced w' text old sum text' rows eo es ew et er =
      let q : view t u w' rows ≡ take i xs ++ (new ++ drop e xs) = (λ k. view t u (ew k) (er k)) ∙ view_splice t u w n i e s m ordered inside (omega arith) (omega arith) new-room in
      let o : old ≡ text_bytes (take (e - i) (drop i xs)) = eo ∙ ap (λ r. text_bytes (take (e - i) (drop i r))) (rows_view t u w n (omega arith) (omega arith)) in
      let k : sum ≡ text + text_bytes new = es in
      let a : text_bytes xs ≡ text_bytes (take i xs) + (text_bytes (take (e - i) (drop i xs)) + text_bytes (drop e xs)) = ap text_bytes (parts xs i e ordered) ∙ text_parts (take i xs) (take (e - i) (drop i xs)) (drop e xs) in
      let b : text_bytes (take i xs ++ (new ++ drop e xs)) ≡ text_bytes (take i xs) + (text_bytes new + text_bytes (drop e xs)) = text_parts (take i xs) new (drop e xs) in
      record { rows = q; bytes = λ h. omega (arith, o, k, a, b, h, et) ∙ sym (ap text_bytes q) }

-- ---- a put

-- in the middle of rows
middle : (xs x y z new : List Row) (i e : ℕ) → xs ≡ x ++ (y ++ z) → i ≡ length x → e ≡ length x + length y → take i xs ++ (new ++ drop e xs) ≡ x ++ (new ++ z)
middle xs x y z new i e is ei ee =
    let a : take i xs ≡ x = ap (take i) is ∙ take_at x (y ++ z) i (sym ei) in
    let b : drop e xs ≡ z = ap (drop e) (is ∙ sym (append_assoc x y z)) ∙ drop_at (x ++ y) z e (length-append x y ∙ sym ee) in
    λ k. a k ++ (new ++ b k)

module _ (xs new ys : List Row) (i e lo d text text' : ℕ) (name : Name) (ordered : i ≤ e) (R : Replaced xs new i e text ys text') where
  put_of : ((pre q : List Row) (c : Store) (v : Value) → Low d q → length pre ≡ lo → xs ≡ pre ++ (flat d c ++ q) → new ≡ flat_value d name v → ys ≡ pre ++ (flat d (put c name v) ++ q)) → Put xs new ys lo d name text text'
  put_of h =
      let a = deep_parts (take i xs) (take (e - i) (drop i xs)) (drop e xs) in
      let b = ap deepest (parts xs i e ordered) in
      let c = deep_parts (take i xs) new (drop e xs) in
      let f = ap deepest R.rows in
      record { is = h; bytes = R.bytes; most = omega (arith, a, b, c, f); least = omega (arith, c, f) }

  -- a present name
  pub put_hit : some i ≡ seek name d (drop lo xs) lo → e ≡ i + 1 + deeper (d + 1) (drop (i + 1) xs) → Put xs new ys lo d name text text'
  put_hit f g = put_of λ pre q c v low l is ev. go pre q c v low l is ev (spot name d q low c lo)
    where
      go : (pre q : List Row) (c : Store) (v : Value) → Low d q → length pre ≡ lo → xs ≡ pre ++ (flat d c ++ q) → new ≡ flat_value d name v → Spot name d c q lo → ys ≡ pre ++ (flat d (put c name v) ++ q)
      go pre q c v low l is ev (absent x k y) = absurd (none≢some (sym k ∙ ap (λ r. seek name d r lo) (sym (ap (drop lo) is ∙ drop_at pre (flat d c ++ q) lo l)) ∙ sym f))
      go pre q c v low l is ev (present o a z x k y lz g₂) =
          let ei : i ≡ length a + lo = some_is (f ∙ ap (λ r. seek name d r lo) (ap (drop lo) is ∙ drop_at pre (flat d c ++ q) lo l) ∙ k) in
          let ea : i ≡ length (pre ++ a) = omega (arith, ei, l, length-append pre a) in
          let old : List Row = flat_value d name o in
          let e₁ : xs ≡ (pre ++ a) ++ (old ++ (z ++ q)) =
          is ∙ ap (λ r. pre ++ (r ++ q)) y ∙ ap (λ r. pre ++ r) (append_assoc a (old ++ z) q ∙ ap (λ r. a ++ r) (append_assoc old z q)) ∙ sym (append_assoc pre a (old ++ (z ++ q))) in
          let e₂ : xs ≡ ((pre ++ a) ++ (head d name o ∷ [])) ++ (beneath d o ++ (z ++ q)) =
          e₁ ∙ ap (λ r. (pre ++ a) ++ (r ++ (z ++ q))) (flat_head d name o) ∙ sym (append_assoc (pre ++ a) (head d name o ∷ []) (beneath d o ++ (z ++ q))) in
          let n₁ : length ((pre ++ a) ++ (head d name o ∷ [])) ≡ i + 1 = length-append (pre ++ a) (head d name o ∷ []) ∙ omega arith in
          let d₁ : drop (i + 1) xs ≡ beneath d o ++ (z ++ q) = ap (drop (i + 1)) e₂ ∙ drop_at ((pre ++ a) ++ (head d name o ∷ [])) (beneath d o ++ (z ++ q)) (i + 1) n₁ in
          let s₁ : d + 1 ≡ suc d = omega arith in
          let g₁ : deeper (d + 1) (drop (i + 1) xs) ≡ length (beneath d o) = (λ j. deeper (s₁ j) (d₁ j)) ∙ deeper_value d o (z ++ q) lz in
          let n₂ : length old ≡ suc (length (beneath d o)) = ap length (flat_head d name o) in
          R.rows ∙ middle xs (pre ++ a) old (z ++ q) new i e e₁ ea (omega (arith, g, g₁, n₂, ea))
          ∙ ap (λ r. (pre ++ a) ++ (r ++ (z ++ q))) ev
          ∙ append_assoc pre a (flat_value d name v ++ (z ++ q))
          ∙ ap (λ r. pre ++ r) (ap (λ r. a ++ r) (sym (append_assoc (flat_value d name v) z q)) ∙ sym (append_assoc a (flat_value d name v ++ z) q) ∙ ap (λ r. r ++ q) (sym (g₂ v)))

  -- a new one
  pub put_miss : i ≡ e → none ≡ seek name d (drop lo xs) lo → e ≡ lo + deeper d (drop lo xs) → Put xs new ys lo d name text text'
  put_miss same f g = put_of λ pre q c v low l is ev. go pre q c v low l is ev (spot name d q low c lo)
    where
      go : (pre q : List Row) (c : Store) (v : Value) → Low d q → length pre ≡ lo → xs ≡ pre ++ (flat d c ++ q) → new ≡ flat_value d name v → Spot name d c q lo → ys ≡ pre ++ (flat d (put c name v) ++ q)
      go pre q c v low l is ev (present o a z x k y lz g₂) = absurd (none≢some (f ∙ ap (λ r. seek name d r lo) (ap (drop lo) is ∙ drop_at pre (flat d c ++ q) lo l) ∙ k))
      go pre q c v low l is ev (absent x k y) =
          let e₀ : drop lo xs ≡ flat d c ++ q = ap (drop lo) is ∙ drop_at pre (flat d c ++ q) lo l in
          let g₁ : deeper d (drop lo xs) ≡ length (flat d c) + deeper d q = ap (deeper d) e₀ ∙ deeper_deep d (flat d c) q (deep_flat d c) in
          let g₂ = deeper_low d q low in
          let n : length (pre ++ flat d c) ≡ length pre + length (flat d c) = length-append pre (flat d c) in
          let e₁ : xs ≡ (pre ++ flat d c) ++ ([] ++ q) = is ∙ sym (append_assoc pre (flat d c) q) in
          let z : length {A = Row} [] ≡ 0 = refl in
          R.rows ∙ middle xs (pre ++ flat d c) [] q new i e e₁ (omega (arith, same, g, g₁, g₂, n, l)) (omega (arith, g, g₁, g₂, n, l))
          ∙ ap (λ r. (pre ++ flat d c) ++ (r ++ q)) ev
          ∙ append_assoc pre (flat d c) (flat_value d name v ++ q)
          ∙ ap (λ r. pre ++ r) (sym (append_assoc (flat d c) (flat_value d name v) q) ∙ ap (λ r. r ++ q) (sym (y v)))

-- ---- the bounds

deepest_first : (x : Row) (xs : List Row) → deepest (x ∷ xs) ≡ max x.second (deepest xs)
unfolding deepest
deepest_first x xs = refl

-- a value is no deeper than the store that it was put into
deep_put : (d : ℕ) (pre q : List Row) (c : Store) (name : Name) (v : Value) → deepest (flat_value d name v) ≤ deepest (pre ++ (flat d (put c name v) ++ q))
deep_put d pre q c name v = go (spot name d [] tt c 0)
  where
    go : Spot name d c [] 0 → deepest (flat_value d name v) ≤ deepest (pre ++ (flat d (put c name v) ++ q))
    go (absent x k y) = omega (arith, deep_parts pre (flat d (put c name v)) q, ap deepest (y v) ∙ deepest-++ (flat d c) (flat_value d name v))
    go (present o a z x k y l g) = omega (arith, deep_parts pre (flat d (put c name v)) q, ap deepest (g v) ∙ deep_parts a (flat_value d name v) z)

module _ (t u w s w' : List ℕ) (n m lo d text : ℕ) (name : Name) (new-few : m ≤ 1024) (new-room : m * 16 ≤ length s) where
  whole_deep : (k : ℕ) → k ≡ deepest (take (m - 0) (drop 0 (rows_in t u s m))) → k ≡ deepest (view t u s m)
  whole_deep k e = e ∙ ap deepest (ap (take (m - 0)) (rows_view t u s m (omega arith) new-room) ∙ take_all (m - 0) (view t u s m) (rw (length_view t u s m) (omega arith)))

  module _ (k : ℕ) (ek : k ≡ deepest (take (m - 0) (drop 0 (rows_in t u s m)))) (pre q : List Row) (c : Store) (v : Value) (ev : view t u s m ≡ flat_value d name v) where
    pub over_depth : 32 < k → Over (pre ++ (flat d (put c name v) ++ q)) 16
    over_depth h = too_deep (omega (arith, h, whole_deep k ek, ap deepest ev, deep_put d pre q c name v))

    pub over_place : 32 < d → Over (pre ++ (flat d (put c name v) ++ q)) 16
    over_place h = too_deep (omega (arith, h, head_depth d name v, ap deepest (flat_head d name v) ∙ deepest_first (head d name v) (beneath d v), deep_put d pre q c name v))

    module _ (rows text' : ℕ) (P : Put (view t u w n) (view t u s m) (view t u w' rows) lo d name text text') (low : Low d q) (l : length pre ≡ lo) (is : view t u w n ≡ pre ++ (flat d c ++ q))
        (et : text ≡ text_bytes (view t u w n)) (shallow : deepest (view t u w n) ≤ 32) (here : k ≤ 32) where
      abbrev after : List Row
      after = pre ++ (flat d (put c name v) ++ q)

      ys_is : view t u w' rows ≡ after
      ys_is = P.is pre q c v low l is ev

      depth_ok : deepest after ≤ 32
      depth_ok = omega (arith, here, whole_deep k ek, shallow, P.most, ap deepest ys_is)

      count : length after ≡ rows
      count = ap length (sym ys_is) ∙ length_view t u w' rows

      bytes : text' ≡ text_bytes after
      bytes = P.bytes et ∙ ap text_bytes ys_is

      pub over_nodes : 1024 < rows → Over after 17
      over_nodes h = too_many depth_ok (omega (arith, h, count))

      pub over_text : rows ≤ 1024 → 16384 < text' → Over after 18
      over_text h g = too_long depth_ok (omega (arith, h, count)) (omega (arith, g, bytes))

      pub within : rows ≤ 1024 → text' ≤ 16384 → Within after (view t u w' rows) text'
      within h g = record { rows = ys_is; bytes = bytes; depth = depth_ok; nodes = omega (arith, h, count); short = omega (arith, g, bytes) }

-- ---- sums of text bytes are small

module _ (t u s : List ℕ) (m : ℕ) (new-few : m ≤ 4096) (new-room : m * 16 ≤ length s) (B : Bytes s) where
  size_below : (i : ℕ) → i < m → (row_here t u s i).span < 65536
  size_below i h =
      let p : 256 ^ 2 ≡ 65536 = refl in
      let q : (row_here t u s i).span ≡ word 2 s (i * 16 + 6) = here_size t u s i ∙ field_word 2 s i 6 (omega arith) (omega arith) in
      omega (arith, q, word_below 2 s (i * 16 + 6) B, p)

  sum_below : (k i : ℕ) → i + k ≡ m → text_bytes (drop i (view t u s m)) ≤ 65535 * k
  unfolding text_bytes
  sum_below zero i e = let q : text_bytes (drop i (view t u s m)) ≡ 0 = ap text_bytes (view_end t u s m i (omega arith)) in omega arith
  sum_below (suc k) i e =
      let q : text_bytes (drop i (view t u s m)) ≡ (row_here t u s i).span + text_bytes (drop (suc i) (view t u s m)) = ap text_bytes (view_cons t u s m i (omega arith) new-few new-room) in
      omega (arith, q, size_below i (omega arith), sum_below k (suc i) (omega arith))

  pub text_whole : (k : ℕ) → k ≡ text_bytes (take (m - 0) (drop 0 (rows_in t u s m))) → k ≡ text_bytes (view t u s m)
  text_whole k e = e ∙ ap text_bytes (ap (take (m - 0)) (rows_view t u s m new-few new-room) ∙ take_all (m - 0) (view t u s m) (rw (length_view t u s m) (omega arith)))

  pub text_below : (k : ℕ) → k ≡ text_bytes (take (m - 0) (drop 0 (rows_in t u s m))) → k ≤ 65535 * 4096
  text_below k e = omega (arith, text_whole k e, sum_below m 0 (omega arith))

-- ---- from what the code's calls answer

module _ (t u w : List ℕ) (n : ℕ) (many : n ≤ 4096) (room : n * 16 ≤ length w) where
  pub end_in : (lo d e : ℕ) → lo ≤ n → e ≡ lo + deeper d (drop lo (rows_in t u w n)) → (lo ≤ e) × (e ≤ n)
  end_in lo d e h g =
      let k : length (drop lo (rows_in t u w n)) ≡ n - lo = length-drop lo (rows_in t u w n) ∙ ap (λ j. j - lo) (ap length (rows_view t u w n many room) ∙ length_view t u w n) in
      (omega (arith, g), omega (arith, g, k, h, deeper_in d (drop lo (rows_in t u w n))))

  module _ (new ys : List Row) (lo d text text' : ℕ) (name : Name) where
    abbrev xs₀ : List Row
    xs₀ = view t u w n

    pub in_hit : (i e : ℕ) → i ≤ e → Replaced xs₀ new i e text ys text' → some i ≡ seek name d (drop lo (rows_in t u w n)) lo → e ≡ i + 1 + deeper (d + 1) (drop (i + 1) (rows_in t u w n)) → Put xs₀ new ys lo d name text text'
    in_hit i e o R f g =
        put_hit xs₀ new ys i e lo d text text' name o R (f ∙ ap (λ r. seek name d (drop lo r) lo) (rows_view t u w n many room)) (g ∙ ap (λ r. i + 1 + deeper (d + 1) (drop (i + 1) r)) (rows_view t u w n many room))

    pub in_miss : (e : ℕ) → Replaced xs₀ new e e text ys text' → none ≡ seek name d (drop lo (rows_in t u w n)) lo → e ≡ lo + deeper d (drop lo (rows_in t u w n)) → Put xs₀ new ys lo d name text text'
    in_miss e R f g =
        put_miss xs₀ new ys e e lo d text text' name (omega arith) R refl (f ∙ ap (λ r. seek name d (drop lo r) lo) (rows_view t u w n many room)) (g ∙ ap (λ r. lo + deeper d (drop lo r)) (rows_view t u w n many room))
