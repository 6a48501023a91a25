-- Copies of a value's rows are the value's rows where it will stand. Assumes nothing.
use Prim.Native.Nat.{ℕ, suc, ◌+◌, ◌-◌, ◌*◌, ◌%◌, ◌^◌, ◌≤◌, ◌<◌, max}
use native.Mathlib.Omega.{arith}
use native.Mathlib.Nat.{zero-add}
use mathlib.Core.Path.{◌≡◌, refl, sym, ap, ap₂, ◌∙◌, subst}
use mathlib.Core.Bool.{Bool, true, false}
use mathlib.Core.List.{List, [], ◌∷◌, ◌++◌, map}
use lib.ListN.{length, take, drop, get_or, length-append, length-drop}
use lib.Seq.{drop_at, take_at, length-take-le, drop-drop, drop-append-add}
use lib.Dec.{ltb, leb}
use borrow.Author.Tests.{ne_eqb, leb-true}
use Rattle.paper.specs.Bytes.{when◌then◌else◌}
use Rattle.paper.specs.Syntax.{Name}
use Rattle.paper.specs.Store.{Store, Value, basic, component}
use Rattle.paper.specs.Layout.{Field, number, text, Row, name_text, text_of, row_text, table_row, kind, content, deepest}
use Rattle.theorems.proofs.Laws.DecodeAt.{Bytes}
use Rattle.memory.specs.Memory.{part_at, stored, within}
use Rattle.memory.proofs.Laws.{word_below, stored_in}
use Rattle.rows.specs.View.{groups, view, rows_in, byte_of, text_part, label_of, label_text, value_of}
use Rattle.rows.specs.Search.{deeper, text_bytes}
use Rattle.rows.specs.Change.{field_at, moved, row_bytes, row_stored, lift_stored, lifts_in, lifted, row_here}
use Rattle.rows.specs.Flat.{sized, flat, flat_value}
use Rattle.rows.proofs.Fields.{field_word, length_row}
use Rattle.rows.proofs.Changes.{length_lifted}
use Rattle.rows.proofs.Views.{length_view, seen_row, view_cons, view_row, view_lift, length_row_stored}
use Rattle.rows.proofs.Trees.{line, head, beneath, flat_head, head_depth, head_label, deeper_value, text_bytes-++, deepest-++, row_moved, moved_beneath}
use Rattle.run.specs.Paths.{StandsAt}
use Rattle.run.proofs.Walking.{rows_view}
use Rattle.run.proofs.Assigning.{view_part, label_there}

-- ---- what is stored in front leaves what lies behind

pub behind : (s : List ℕ) (at k : ℕ) (b : List ℕ) → at + length b ≤ k → k ≤ length s → drop k (stored s at b) ≡ drop k s
behind s at k b h l =
    let x : List ℕ = take at s ++ b in
    let n : length x ≡ at + length b = length-append (take at s) b ∙ ap (λ j. j + length b) (length-take-le at s (omega arith)) in
    let e : stored s at b ≡ x ++ drop (at + length b) s = stored_in s at b (omega arith) in
    let q : k ≡ length x + (k - (at + length b)) = omega arith in
    let r : at + length b + (k - (at + length b)) ≡ k = omega arith in
    ap (drop k) e ∙ ap (λ j. drop j (x ++ drop (at + length b) s)) q ∙ drop-append-add x (drop (at + length b) s) (k - (at + length b))
    ∙ drop-drop (k - (at + length b)) (at + length b) s ∙ ap (λ j. drop j s) r

either_behind : (c : Bool) (s x : List ℕ) (k : ℕ) → drop k x ≡ drop k s → drop k (when c then x else s) ≡ drop k s
unfolding when◌then◌else◌
either_behind true s x k e = e
either_behind false s x k e = refl

pub lift_behind : (w : List ℕ) (p e : ℕ) (s : List ℕ) (q from to : ℕ) → q + (e - p) ≤ 2048 → 32768 ≤ length s → drop 32768 (lift_stored w p e s q from to) ≡ drop 32768 s
unfolding lift_stored
lift_behind w p e s q from to h l =
    let n = length_lifted w from to p (e - p) in
    either_behind (lifts_in w p e s q to) s (stored s (q * 16) (lifted w from to p (e - p))) 32768 (behind s (q * 16) 32768 (lifted w from to p (e - p)) (omega (arith, n, h)) l)

pub row_behind : (s : List ℕ) (i : ℕ) (k d p m v : ℕ) → i ≤ 2047 → 32768 ≤ length s → drop 32768 (row_stored s i (row_bytes k d p m v)) ≡ drop 32768 s
unfolding row_stored
row_behind s i k d p m v h l =
    let n = length_row k d p m v in
    either_behind (leb i 4095) s (stored s (i * 16) (row_bytes k d p m v)) 32768 (behind s (i * 16) 32768 (row_bytes k d p m v) (omega (arith, n, h)) l)

-- ---- a name's length byte

part_length : (s : List ℕ) (p k : ℕ) (x : ℕ) (n : List ℕ) → part_at s p (1 + k) ≡ x ∷ n → length n ≡ k
unfolding part_at
part_length s p k x n e = go (within (length s) p (1 + k)) refl e
  where
    go : (c : Bool) → within (length s) p (1 + k) ≡ c → elim c [ true ↦ take (1 + k) (drop p s) | false ↦ [] ] ≡ x ∷ n → length n ≡ k
    go true q f =
        let l : length (take (1 + k) (drop p s)) ≡ 1 + k = length-take-le (1 + k) (drop p s) (simp length-drop (omega (arith, leb-true (p + (1 + k)) (length s) q))) in
        let m : length (take (1 + k) (drop p s)) ≡ suc (length n) = ap length f in
        omega arith
    go false q f = absurd (let z : ◌≡◌ {A = ℕ} 0 1 = cc in omega arith)

pub byte_label : (t u : List ℕ) (p : ℕ) (n : Name) → label_text t u p ≡ name_text n → byte_of t u p ≡ length n
unfolding label_text text_part byte_of name_text when◌then◌else◌
byte_label t u p n e = go (ltb p 32768) e
  where
    go : (c : Bool) → (when c then part_at t p (1 + (when c then get_or t p 0 else get_or u (p - 32768) 0)) else part_at u (p - 32768) (1 + (when c then get_or t p 0 else get_or u (p - 32768) 0))) ≡ length n ∷ n → (when c then get_or t p 0 else get_or u (p - 32768) 0) ≡ length n
    go true e = sym (part_length t p (get_or t p 0) (length n) n e)
    go false e = sym (part_length u (p - 32768) (get_or u (p - 32768) 0) (length n) n e)

-- ---- measures

deepest_cons : (x : Row) (xs : List Row) → deepest (x ∷ xs) ≡ max x.second (deepest xs)
unfolding deepest
deepest_cons x xs = refl

row_same : (d₀ d : ℕ) (x : Row) → row_moved (suc d₀) (suc d) x ≡ row_moved d₀ d x
unfolding row_moved moved
row_same d₀ d x =
    let e : (x.second + suc d - suc d₀) % 65536 ≡ (x.second + d - d₀) % 65536 = ap (λ k. k % 65536) {x = x.second + suc d - suc d₀} {y = x.second + d - d₀} (omega arith) in
    ap (λ k. record { first = x.first; second = k; label = x.label; span = x.span; value = x.value; last = x.last }) e

-- the rows beneath a value, counted from one deeper than it
beneath_moved : (d₀ d : ℕ) (v : Value) → deepest (beneath d₀ v) + d < 60000 → map (row_moved (suc d₀) (suc d)) (beneath d₀ v) ≡ beneath d v
beneath_moved d₀ d v h =
    let a : d₀ + 0 ≡ d₀ = omega arith in
    let b : d + 0 ≡ d = omega arith in
    let r : deepest (beneath (d₀ + 0) v) + d < 65536 = subst (λ k. deepest (beneath k v) + d < 65536) (sym a) (omega (arith, h)) in
    map_same (beneath d₀ v) ∙ ap (λ k. map (row_moved d₀ d) (beneath k v)) (sym a) ∙ moved_beneath d₀ d 0 v r ∙ ap (λ k. beneath k v) b
  where
    map_same : (xs : List Row) → map (row_moved (suc d₀) (suc d)) xs ≡ map (row_moved d₀ d) xs
    map_same [] = refl
    map_same (x ∷ xs) = ap₂ ◌∷◌ (row_same d₀ d x) (map_same xs)

-- ---- a value's own row, at another depth and under another name

one_more : (n x : List ℕ) → suc (length (n ++ x)) ≡ suc (length n) + length x
one_more n x = let e = length-append n x in omega arith

head_size : (d : ℕ) (n : Name) (v : Value) → (head d n v).span ≡ suc (length n) + length (text_of (head d n v).value)
unfolding head line sized table_row row_text name_text text_of
head_size d n (basic b) = one_more n (text_of (content b))
head_size d n (component c) = one_more n []

head_again : (d d₀ : ℕ) (n n₀ : Name) (v : Value)
    → head d n v ≡ record { first = (head d₀ n₀ v).first; second = d; label = text (name_text n); span = suc (length n) + length (text_of (head d₀ n₀ v).value); value = (head d₀ n₀ v).value; last = [] }
unfolding head line sized table_row row_text name_text text_of
head_again d d₀ n n₀ (basic b) = ap (λ k. record { first = kind b; second = d; label = text (length n ∷ n); span = k; value = content b; last = [] }) (one_more n (text_of (content b)))
head_again d d₀ n n₀ (component c) = ap (λ k. record { first = 0; second = d; label = text (length n ∷ n); span = k; value = number 0; last = [] }) (one_more n [])

renamed : (size new old a b c : ℕ) → old ≡ a → new ≡ b → size ≡ suc a + c → size ≤ 16384 → new < 256 → (size + new - old) % 65536 ≡ suc b + c
renamed size new old a b c eo en es h l =
    let q : size + new - old ≡ suc b + c = omega arith in
    let r : suc b + c < 65536 = omega arith in
    ap (λ k. k % 65536) q ∙ omega arith

-- ---- a value that stands at a row

module _ (t u w : List ℕ) (n j : ℕ) (few : n ≤ 1024) (room : n * 16 ≤ length w) (inside : j < n) (B : Bytes w) where
  abbrev xs : List Row
  xs = view t u w n

  field_below : (k f : ℕ) → f + k ≤ 16 → field_at k w j f < 256 ^ k
  field_below k f h = let e = field_word k w j f (omega arith) (omega arith) in let b = word_below k w (j * 16 + f) B in subst (λ x. x < 256 ^ k) (sym e) b

  module _ (v : Value) (S : StandsAt xs v j) (shallow : deepest xs ≤ 32) where
    abbrev d₀ : ℕ
    d₀ = S.depth

    from_j : drop j xs ≡ head d₀ S.name v ∷ (beneath d₀ v ++ S.after)
    from_j =
        ap (drop j) (S.rows ∙ ap (λ r. S.before ++ (r ++ S.after)) (flat_head d₀ S.name v)) ∙ drop_at S.before (head d₀ S.name v ∷ (beneath d₀ v ++ S.after)) j S.at

    pub here : row_here t u w j ≡ head d₀ S.name v
    here = let e : row_here t u w j ∷ drop (suc j) xs ≡ head d₀ S.name v ∷ (beneath d₀ v ++ S.after) = sym (view_cons t u w n j inside (omega arith) room) ∙ from_j in cc

    behind_j : drop (suc j) xs ≡ beneath d₀ v ++ S.after
    behind_j = let e : row_here t u w j ∷ drop (suc j) xs ≡ head d₀ S.name v ∷ (beneath d₀ v ++ S.after) = sym (view_cons t u w n j inside (omega arith) room) ∙ from_j in cc

    pub own_depth : field_at 2 w j 2 ≡ d₀
    unfolding row_here
    own_depth = ap (λ x. x.second) here ∙ head_depth d₀ S.name v

    deep_beneath_few : deepest (beneath d₀ v) ≤ 32
    deep_beneath_few =
        let e : xs ≡ S.before ++ (head d₀ S.name v ∷ (beneath d₀ v ++ S.after)) = S.rows ∙ ap (λ r. S.before ++ (r ++ S.after)) (flat_head d₀ S.name v) in
        let a = ap deepest e ∙ deepest-++ S.before (head d₀ S.name v ∷ (beneath d₀ v ++ S.after)) in
        let b : deepest (head d₀ S.name v ∷ (beneath d₀ v ++ S.after)) ≡ max (head d₀ S.name v).second (max (deepest (beneath d₀ v)) (deepest S.after)) = deepest_cons (head d₀ S.name v) (beneath d₀ v ++ S.after) ∙ ap (max (head d₀ S.name v).second) (deepest-++ (beneath d₀ v) S.after) in
        omega (arith, shallow, a, b)

    -- the end that was found, and the rows up to it
    module _ (e : ℕ) (ends : e ≡ j + 1 + deeper (field_at 2 w j 2 + 1) (drop (j + 1) (rows_in t u w n))) where
      count : e - (j + 1) ≡ length (beneath d₀ v)
      count =
          let a : field_at 2 w j 2 + 1 ≡ suc d₀ = omega (arith, own_depth) in
          let b : j + 1 ≡ suc j = omega arith in
          let c : deeper (field_at 2 w j 2 + 1) (drop (j + 1) (rows_in t u w n)) ≡ length (beneath d₀ v) =
          (λ i. deeper (a i) (drop (b i) (rows_view t u w n (omega arith) room i))) ∙ ap (deeper (suc d₀)) behind_j ∙ deeper_value d₀ v S.after S.low in
          omega (arith, ends, c)

      within_n : e ≤ n
      within_n =
          let a : length (drop (suc j) xs) ≡ n - suc j = length-drop (suc j) xs ∙ ap (λ i. i - suc j) (length_view t u w n) in
          let b : length (drop (suc j) xs) ≡ length (beneath d₀ v) + length S.after = ap length behind_j ∙ length-append (beneath d₀ v) S.after in
          omega (arith, a, b, count, inside)

      rows_up_to : take (e - (j + 1)) (drop (j + 1) (view t u w e)) ≡ beneath d₀ v
      rows_up_to =
          let a : j + 1 + (e - (j + 1)) ≡ e = omega (arith, ends) in
          let p : take (e - (j + 1)) (drop (j + 1) (view t u w e)) ≡ view t u (drop ((j + 1) * 16) w) (e - (j + 1)) = sym (view_part t u w e (j + 1) (e - (j + 1)) (omega (arith, within_n, room)) (omega (arith, a))) in
          let q : view t u (drop ((j + 1) * 16) w) (e - (j + 1)) ≡ take (e - (j + 1)) (drop (j + 1) xs) = view_part t u w n (j + 1) (e - (j + 1)) room (omega (arith, a, within_n)) in
          let b : j + 1 ≡ suc j = omega arith in
          p ∙ q ∙ ap (λ i. take (e - (j + 1)) (drop i xs)) b ∙ ap (take (e - (j + 1))) behind_j ∙ take_at (beneath d₀ v) S.after (e - (j + 1)) (sym count)

      -- copied to another depth
      moved_rows : (d : ℕ) → d ≤ 200 → map (row_moved (field_at 2 w j 2 + 1) (d + 1)) (beneath d₀ v) ≡ beneath d v
      moved_rows d l =
          let a : field_at 2 w j 2 + 1 ≡ suc d₀ = omega (arith, own_depth) in
          let b : d + 1 ≡ suc d = omega arith in
          (λ i. map (row_moved (a i) (b i)) (beneath d₀ v)) ∙ beneath_moved d₀ d v (omega (arith, deep_beneath_few))

      pub lifted_rows : (s : List ℕ) (q d : ℕ) → d ≤ 200 → q ≤ 1 → 32768 ≤ length s → view t u (lift_stored w (j + 1) e s q (field_at 2 w j 2 + 1) (d + 1)) (q + (e - (j + 1))) ≡ view t u s q ++ beneath d v
      lifted_rows s q d l lq ls =
          view_lift t u w (j + 1) e s q (field_at 2 w j 2 + 1) (d + 1) B (omega (arith, ends)) (omega (arith, within_n)) (omega (arith, within_n, room)) (omega (arith, within_n)) (omega (arith, within_n)) (omega arith)
          ∙ ap (λ r. view t u s q ++ map (row_moved (field_at 2 w j 2 + 1) (d + 1)) r) rows_up_to ∙ ap (λ r. view t u s q ++ r) (moved_rows d l)

      pub attributes_taken : (c : Store) (s : List ℕ) (d : ℕ) → v ≡ component c → 1 ≤ d → d ≤ 200 → 32768 ≤ length s → view t u (lift_stored w (j + 1) e s 0 (field_at 2 w j 2 + 1) d) (e - (j + 1)) ≡ flat d c
      unfolding beneath view groups
      attributes_taken c s d is l₁ l₂ ls =
          let a : d - 1 + 1 ≡ d = omega arith in
          let b : suc (d - 1) ≡ d = omega arith in
          let z : 0 + (e - (j + 1)) ≡ e - (j + 1) = zero-add (e - (j + 1)) in
          (λ i. view t u (lift_stored w (j + 1) e s 0 (field_at 2 w j 2 + 1) (sym a i)) (sym z i)) ∙ lifted_rows s 0 (d - 1) (omega arith) (omega arith) ls ∙ ap (beneath (d - 1)) is ∙ ap (λ k. flat k c) b

      -- under another name
      module _ (name : Name) (label size new old d : ℕ) (s : List ℕ) (named : label_text t u label ≡ name_text name) (low-label : label < 32768) (short : text_bytes xs ≤ 16384) (l : d ≤ 200) (ls : 32768 ≤ length s)
          (en : new ≡ byte_of t u label) (small : new < 256) (eo : old ≡ byte_of t u (field_at 2 w j 4)) (es : size ≡ (field_at 2 w j 6 + new - old) % 65536) where
        abbrev nm : Name
        nm = S.name

        abbrev content_of : Field
        content_of = (head d₀ nm v).value

        old_label : label_of t u (field_at 2 w j 4) ≡ text (name_text nm)
        unfolding row_here
        old_label = ap (λ x. x.label) here ∙ head_label d₀ nm v

        old_length : old ≡ length nm
        old_length = eo ∙ byte_label t u (field_at 2 w j 4) nm (label_there t u (field_at 2 w j 4) nm old_label)

        new_length : new ≡ length name
        new_length = en ∙ byte_label t u label name named

        old_size : field_at 2 w j 6 ≡ suc (length nm) + length (text_of content_of)
        unfolding row_here
        old_size = ap (λ x. x.span) here ∙ head_size d₀ nm v

        -- a row's text is no longer than all of it
        no_more : field_at 2 w j 6 ≤ 16384
        unfolding row_here text_bytes
        no_more =
            let a = ap text_bytes (S.rows ∙ ap (λ r. S.before ++ (r ++ S.after)) (flat_head d₀ nm v)) ∙ text_bytes-++ S.before (head d₀ nm v ∷ (beneath d₀ v ++ S.after)) in
            let b : field_at 2 w j 6 ≡ (head d₀ nm v).span = ap (λ x. x.span) here in
            omega (arith, a, b, short)

        size_is : size ≡ suc (length name) + length (text_of content_of)
        size_is = es ∙ renamed (field_at 2 w j 6) new old (length nm) (length name) (length (text_of content_of)) old_length new_length old_size no_more small

        label_is : label_of t u label ≡ text (name_text name)
        unfolding label_of when◌then◌else◌
        label_is = rw (ne_eqb label 65535 (λ e. omega arith)) (ap text named)

        value_is : value_of t u (field_at 2 w j 0) (field_at 8 w j 8) (size - length (text_of (label_of t u label))) ≡ content_of
        unfolding row_here text_of name_text
        value_is =
            let a : length (text_of (label_of t u label)) ≡ suc (length name) = ap (λ f. length (text_of f)) label_is in
            let b : length (text_of (label_of t u (field_at 2 w j 4))) ≡ suc (length nm) = ap (λ f. length (text_of f)) old_label in
            let c : size - length (text_of (label_of t u label)) ≡ field_at 2 w j 6 - length (text_of (label_of t u (field_at 2 w j 4))) = omega (arith, a, b, size_is, old_size) in
            ap (value_of t u (field_at 2 w j 0) (field_at 8 w j 8)) c ∙ ap (λ x. x.value) here

        kind_is : field_at 2 w j 0 ≡ (head d₀ nm v).first
        unfolding row_here
        kind_is = ap (λ x. x.first) here

        head_is : seen_row t u (field_at 2 w j 0) d label size (field_at 8 w j 8) ≡ head d name v
        unfolding seen_row
        head_is = (λ i. record { first = kind_is i; second = d; label = label_is i; span = size_is i; value = value_is i; last = [] }) ∙ sym (head_again d d₀ name nm v)

        pub value_taken : view t u (lift_stored w (j + 1) e (row_stored s 0 (row_bytes (field_at 2 w j 0) d label size (field_at 8 w j 8))) 1 (field_at 2 w j 2 + 1) (d + 1)) (e - j) ≡ flat_value d name v
        unfolding view groups
        value_taken =
            let s₁ = row_stored s 0 (row_bytes (field_at 2 w j 0) d label size (field_at 8 w j 8)) in
            let z : 1 + (e - (j + 1)) ≡ e - j = omega (arith, ends) in
            let p : 256 ^ 2 ≡ 65536 = refl in
            let q : 256 ^ 8 ≡ 18446744073709551616 = refl in
            let r : view t u s₁ (0 + 1) ≡ view t u s 0 ++ (seen_row t u (field_at 2 w j 0) d label size (field_at 8 w j 8) ∷ []) =
            view_row t u (field_at 2 w j 0) d label size (field_at 8 w j 8) (omega (arith, field_below 2 0 (omega arith), p)) (omega arith) (omega arith) (omega (arith, es)) (field_below 8 8 (omega arith)) s 0 (omega arith) (omega arith) in
            ap (view t u (lift_stored w (j + 1) e s₁ 1 (field_at 2 w j 2 + 1) (d + 1))) (sym z)
            ∙ lifted_rows s₁ 1 d l (omega arith) (rw (length_row_stored s 0 (row_bytes (field_at 2 w j 0) d label size (field_at 8 w j 8))) ls)
            ∙ ap (λ x. x ++ beneath d v) (r ∙ ap (λ x. x ∷ []) head_is) ∙ sym (flat_head d name v)
