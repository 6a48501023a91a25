-- Bind and then the bounds; and the attributes of a store, one by one. Assumes nothing.
use Prim.Native.Nat.{ℕ, suc, ◌+◌, ◌-◌, ◌*◌, ◌≤◌, ◌<◌}
use native.Mathlib.Omega.{arith}
use mathlib.Core.Path.{◌≡◌, refl, sym, ap, ◌∙◌, subst}
use mathlib.Core.Bool.{Bool, true, false}
use mathlib.Core.List.{List, [], ◌∷◌, ◌++◌, append-nil}
use lib.ListN.{length, take, drop, length-append, length-drop}
use lib.Seq.{drop_at, take_at, drop-drop}
use lib.Dec.{eqb}
use borrow.Author.Tests.{le-leb, lt-leb}
use Rattle.paper.specs.Bytes.{when◌then◌else◌}
use Rattle.paper.specs.Answer.{Answer, refused, demand, ◌>>=◌}
use Rattle.paper.specs.Syntax.{Name, Path}
use Rattle.paper.specs.Store.{Store, ∅, entry, Value, put}
use Rattle.paper.specs.Bounds.{bounded, assign}
use Rattle.paper.specs.Meaning.{copy}
use Rattle.paper.specs.Layout.{number, text, Row, name_text, rows, deepest, texts}
use Rattle.rows.specs.View.{view, rows_in, label_of, label_text, name_of, seen, groups}
use Rattle.rows.specs.Search.{deeper, text_bytes}
use Rattle.rows.specs.Change.{field_at, row_here}
use Rattle.rows.specs.Flat.{flat, flat_value, Low}
use Rattle.rows.proofs.Groups.{groups_drop, groups_take, groups_own}
use Rattle.rows.proofs.Views.{length_view, here_label, view_cons, view_end}
use Rattle.rows.proofs.Trees.{head, beneath, flat_head, flat_entry, flat_none, head_label, deeper_value, low_rest, deepest_flat, text_bytes_flat, length_flat}
use Rattle.refusal.specs.declared.Reason.{Reason}
use Rattle.run.specs.declared.size.Size.{Size}
use Rattle.std.specs.Prelude.{Result, Ok, Err}
use Rattle.run.specs.Paths.{Reached, DescendsFrom}
use Rattle.run.specs.Puts.{Over, Over.too_deep, Over.too_many, Over.too_long, BoundedIs, PutsBounded, Held, RanIs, Assigns}
use Rattle.run.proofs.Walking.{rows_view}

-- ---- the bounds of a store

pub bounded_ran : (p : ℕ) (ys : ℕ → List Row) (s : Store) (r : Result Size Reason) → BoundedIs (flat 1 s) ys r → RanIs p ys (bounded p s) r
unfolding bounded demand ◌>>=◌
bounded_ran p ys s (Ok size) h =
    let a : deepest (rows 1 s) ≤ 32 = omega (arith, h.depth, deepest_flat 1 s) in
    let b : length (rows 1 s) ≤ 1024 = omega (arith, h.nodes, length_flat 1 s) in
    let c : length (texts (rows 1 s)) ≤ 16384 = omega (arith, h.short, text_bytes_flat 1 s) in
    rw (le-leb (deepest (rows 1 s)) 32 a, le-leb (length (rows 1 s)) 1024 b, le-leb (length (texts (rows 1 s))) 16384 c)
    (s, refl, record { rows = h.rows; bytes = h.bytes ∙ ap text_bytes (sym h.rows); bounds = record { depth = a; nodes = b; text = c } })
bounded_ran p ys s (Err reason) h = go h
  where
    go : {k : ℕ} → Over (flat 1 s) k → bounded p s ≡ refused k p
    go (too_deep d) =
        let a : 32 < deepest (rows 1 s) = omega (arith, d, deepest_flat 1 s) in
        rw (lt-leb (deepest (rows 1 s)) 32 a)
    go (too_many d n) =
        let a : deepest (rows 1 s) ≤ 32 = omega (arith, d, deepest_flat 1 s) in
        let b : 1024 < length (rows 1 s) = omega (arith, n, length_flat 1 s) in
        rw (le-leb (deepest (rows 1 s)) 32 a, lt-leb (length (rows 1 s)) 1024 b)
    go (too_long d n t) =
        let a : deepest (rows 1 s) ≤ 32 = omega (arith, d, deepest_flat 1 s) in
        let b : length (rows 1 s) ≤ 1024 = omega (arith, n, length_flat 1 s) in
        let c : 16384 < length (texts (rows 1 s)) = omega (arith, t, text_bytes_flat 1 s) in
        rw (le-leb (deepest (rows 1 s)) 32 a, le-leb (length (rows 1 s)) 1024 b, lt-leb (length (texts (rows 1 s))) 16384 c)

-- ---- bind, and then the bounds

module _ (t u w s w' : List ℕ) (n m k tb : ℕ) (ns : Path) (name : Name) (count : length ns ≡ k) where
  rooted : (st : Store) → view t u w n ≡ flat 1 st → view t u w n ≡ [] ++ (flat 1 st ++ [])
  rooted st e = e ∙ sym (append-nil (flat 1 st))

  held_deep : (st : Store) → Held (view t u w n) tb st → deepest (view t u w n) ≤ 32
  held_deep st h = omega (arith, ap deepest h.rows, deepest_flat 1 st, h.bounds.depth)

  pub assigns : (lo : ℕ) (r : Result Size Reason) → DescendsFrom (view t u w n) 0 1 ns (Ok lo) → PutsBounded t u n lo (1 + k) name m tb w s w' r → Assigns t u n ns name m tb w s w' r
  unfolding assign ◌>>=◌
  assigns lo r h b st v p held ev =
      let R : Reached (view t u w n) 1 ns [] [] st lo = h [] [] st tt refl (rooted st held.rows) in
      let j : 1 + length ns ≡ 1 + k = ap (λ a. 1 + a) count in
      let B = R.binds p name v in
      let x : BoundedIs (R.before ++ (flat (1 + k) (put R.inner name v) ++ R.after)) (view t u w') r =
      b R.before R.after R.inner v (subst (λ a. Low a R.after) j R.low) R.at (subst (λ a. view t u w n ≡ R.before ++ (flat a R.inner ++ R.after)) j R.rows) (ev ∙ ap (λ a. flat_value a name v) j) held.bytes (held_deep st held) in
      let y : R.before ++ (flat (1 + k) (put R.inner name v) ++ R.after) ≡ flat 1 B.store =
      ap (λ a. R.before ++ (flat a (put R.inner name v) ++ R.after)) (sym j) ∙ sym B.rows ∙ append-nil (flat 1 B.store) in
      rw B.is (bounded_ran p (view t u w') B.store r (subst (λ a. BoundedIs a (view t u w') r) y x))

  pub assigns_nowhere : (reason : Reason) → DescendsFrom (view t u w n) 0 1 ns (Err reason) → Assigns t u n ns name m tb w s w' (Err reason)
  unfolding assign ◌>>=◌
  assigns_nowhere reason h st v p held ev = rw ((h [] [] st tt refl (rooted st held.rows)).binds p name v)

-- ---- one attribute after another

-- where the copying stands: what is left of the attributes, and the store so far
pub record Mid (t u w s : List ℕ) (n m tb j : ℕ) (ns : Path) (p : ℕ) (all : Answer Store) : Type 0 where
  pub left : Store
  pub so_far : Store
  pub held : Held (view t u w n) tb so_far
  pub rest : drop j (view t u s m) ≡ flat (1 + length ns) left
  pub goes : all ≡ copy p ns left so_far

pub copy_start : (t u w s : List ℕ) (n m tb : ℕ) (ns : Path) (st c : Store) (p : ℕ) → Held (view t u w n) tb st → view t u s m ≡ flat (1 + length ns) c → Mid t u w s n m tb 0 ns p (copy p ns c st)
copy_start t u w s n m tb ns st c p h e = record { left = c; so_far = st; held = h; rest = e; goes = refl }

nil≢cons : {x : Row} {xs : List Row} → [] ≡ x ∷ xs → ⊥
nil≢cons e = let z : ◌≡◌ {A = ℕ} 0 1 = cc in absurd (omega arith)

pub copy_ends : (t u w s : List ℕ) (size : Size) (m j : ℕ) (ns : Path) (p : ℕ) (all : Answer Store) → m ≤ j → Mid t u w s size.rows m size.text j ns p all → RanIs p (view t u w) all (Ok size)
unfolding copy
copy_ends t u w s size m j ns p all h M = rw M.goes (go M.left (sym (view_end t u s m j h) ∙ M.rest))
  where
    go : (c : Store) → [] ≡ flat (1 + length ns) c → RanIs p (view t u w) (copy p ns c M.so_far) (Ok size)
    go ∅ e = (M.so_far, refl, M.held)
    go (entry x v c) e = absurd (nil≢cons (e ∙ flat_entry (1 + length ns) x v c ∙ ap (λ r. r ++ flat (1 + length ns) c) (flat_head (1 + length ns) x v)))

-- the rows of a part of a slice are a part of its rows
pub view_part : (t u s : List ℕ) (m j a : ℕ) → m * 16 ≤ length s → j + a ≤ m → view t u (drop (j * 16) s) a ≡ take a (drop j (view t u s m))
unfolding view
view_part t u s m j a room h =
    let q : m ≡ j + (a + (m - (j + a))) = omega arith in
    let r : drop j (groups 16 (seen t u) s m) ≡ groups 16 (seen t u) (drop (j * 16) s) (a + (m - (j + a))) = ap (λ i. drop j (groups 16 (seen t u) s i)) q ∙ groups_drop 16 (seen t u) j (a + (m - (j + a))) s in
    let l : a * 16 ≤ length (drop (j * 16) s) = simp length-drop (omega arith) in
    groups_own 16 (seen t u) a (drop (j * 16) s) l ∙ sym (ap (take a) r ∙ groups_take 16 (seen t u) a (m - (j + a)) (drop (j * 16) s) l)

-- a label that is a name's gives the name
pub label_there : (t u : List ℕ) (l : ℕ) (n : Name) → label_of t u l ≡ text (name_text n) → label_text t u l ≡ name_text n
unfolding label_of name_text when◌then◌else◌
label_there t u l n e = go (eqb l 65535) e
  where
    go : (c : Bool) → (when c then number 65535 else text (label_text t u l)) ≡ text (length n ∷ n) → label_text t u l ≡ length n ∷ n
    go true e = absurd (let z : ◌≡◌ {A = ℕ} 0 1 = cc in omega arith)
    go false e = cc

pub name_there : (t u : List ℕ) (l : ℕ) (n : Name) → label_text t u l ≡ name_text n → name_of t u l ≡ n
unfolding name_of name_text
name_there t u l n e = ap (drop 1) e

label_name : (t u : List ℕ) (l : ℕ) (n : Name) → label_of t u l ≡ text (name_text n) → name_of t u l ≡ n
label_name t u l n e = name_there t u l n (label_there t u l n e)

module _ (t u w s : List ℕ) (n m tb j e k : ℕ) (ns : Path) (p : ℕ) (count : length ns ≡ k) (many : m ≤ 4096) (room : m * 16 ≤ length s) (more : j < m)
    (ends : e ≡ j + 1 + deeper (k + 2) (drop (j + 1) (rows_in t u s m))) where
  -- the attribute that comes next
  pub record Next (name : Name) (all : Answer Store) : Type 0 where
    pub value : Value
    pub others : Store
    pub so_far : Store
    pub held : Held (view t u w n) tb so_far
    pub rows : view t u (drop (j * 16) s) (e - j) ≡ flat_value (1 + length ns) name value
    pub rest : drop e (view t u s m) ≡ flat (1 + length ns) others
    pub goes : all ≡ assign p (ns ++ (name ∷ [])) value so_far >>= copy p ns others

  abbrev d : ℕ
  d = 1 + length ns

  pub next : (name : Name) (all : Answer Store) → name ≡ name_of t u (field_at 2 s j 4) → Mid t u w s n m tb j ns p all → Next name all
  unfolding copy
  next name all called M = go M.left M.rest M.goes
    where
      here : drop j (view t u s m) ≡ row_here t u s j ∷ drop (suc j) (view t u s m)
      here = view_cons t u s m j more many room

      go : (c : Store) → drop j (view t u s m) ≡ flat d c → all ≡ copy p ns c M.so_far → Next name all
      go ∅ r g = absurd (nil≢cons (sym (flat_none d) ∙ sym r ∙ here))
      go (entry x v c) r g =
          let f : drop j (view t u s m) ≡ head d x v ∷ (beneath d v ++ flat d c) = r ∙ flat_entry d x v c ∙ ap (λ q. q ++ flat d c) (flat_head d x v) in
          let same : row_here t u s j ∷ drop (suc j) (view t u s m) ≡ head d x v ∷ (beneath d v ++ flat d c) = sym here ∙ f in
          let h : row_here t u s j ≡ head d x v = cc in
          let b : drop (suc j) (view t u s m) ≡ beneath d v ++ flat d c = cc in
          let nm : name ≡ x = called ∙ label_name t u (field_at 2 s j 4) x (sym (here_label t u s j) ∙ ap (λ y. y.label) h ∙ head_label d x v) in
          let e₁ : k + 2 ≡ suc d = omega arith in
          let e₂ : j + 1 ≡ suc j = omega arith in
          let lo : Low (suc d) (flat d c) = subst (Low (suc d)) (append-nil (flat d c)) (low_rest d c [] tt) in
          let e₃ : deeper (k + 2) (drop (j + 1) (rows_in t u s m)) ≡ length (beneath d v) =
          (λ i. deeper (e₁ i) (drop (e₂ i) (rows_view t u s m many room i))) ∙ ap (deeper (suc d)) b ∙ deeper_value d v (flat d c) lo in
          let n₁ : length (flat_value d x v) ≡ suc (length (beneath d v)) = ap length (flat_head d x v) in
          let n₂ : length (drop j (view t u s m)) ≡ m - j = length-drop j (view t u s m) ∙ ap (λ i. i - j) (length_view t u s m) in
          let n₃ : length (drop j (view t u s m)) ≡ length (flat_value d x v) + length (flat d c) = ap length (r ∙ flat_entry d x v c) ∙ length-append (flat_value d x v) (flat d c) in
          let ee : e - j ≡ length (flat_value d x v) = omega (arith, ends, e₃, n₁) in
          let le : j + (e - j) ≤ m = omega (arith, ee, n₂, n₃, more) in
          let ej : e ≡ j + (e - j) = omega (arith, ends) in
          record {
            value = v;
            others = c;
            so_far = M.so_far;
            held = M.held;
            rows = view_part t u s m j (e - j) room le ∙ ap (take (e - j)) (r ∙ flat_entry d x v c) ∙ take_at (flat_value d x v) (flat d c) (e - j) (sym ee) ∙ ap (λ y. flat_value d y v) (sym nm);
            rest = ap (λ i. drop i (view t u s m)) ej ∙ sym (drop-drop (e - j) j (view t u s m)) ∙ ap (drop (e - j)) (r ∙ flat_entry d x v c) ∙ drop_at (flat_value d x v) (flat d c) (e - j) (sym ee);
            goes = g ∙ ap (λ y. assign p (ns ++ (y ∷ [])) v M.so_far >>= copy p ns c) (sym nm);
          }

  -- how the copying goes on, or stops
  module _ (name : Name) (all : Answer Store) (N : Next name all) (w' : List ℕ) where
    pub goes_on : (size : Size) → RanIs p (view t u w') (assign p (ns ++ (name ∷ [])) N.value N.so_far) (Ok size) → Mid t u w' s size.rows m size.text e ns p all
    unfolding ◌>>=◌
    goes_on size h = record { left = N.others; so_far = h.0; held = h.2; rest = N.rest; goes = N.goes ∙ ap (λ a. a >>= copy p ns N.others) h.1 }

    pub stops : (reason : Reason) → RanIs p (view t u w') (assign p (ns ++ (name ∷ [])) N.value N.so_far) (Err reason) → RanIs p (view t u w') all (Err reason)
    unfolding ◌>>=◌
    stops reason h = rw (N.goes, h)
