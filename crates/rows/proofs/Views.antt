-- The rows of a slice: as they are seen, and after a row is written, a part replaced, rows copied. Assumes nothing.
use Prim.Native.Nat.{ℕ, zero, suc, ◌+◌, ◌-◌, ◌*◌, ◌^◌, ◌≤◌, ◌<◌}
use native.Mathlib.Nat.{zero-add, le_of_eq}
use native.Mathlib.Omega.{arith}
use mathlib.Core.Path.{◌≡◌, refl, sym, ap, ◌∙◌}
use mathlib.Core.Bool.{Bool, true, false}
use mathlib.Core.Logic.{⊎_elim}
use mathlib.Core.List.{List, [], ◌∷◌, ◌++◌, append_assoc, map}
use lib.ListN.{length, take, drop, get_or, get_or-append}
use lib.Seq.{get_or-take, get_or-drop, get_or-append-add, take_at, drop_at, take-take, take-append-le, length-take-le}
use lib.Dec.{leb}
use borrow.Author.Tests.{le-leb, lt-leb}
use Rattle.paper.specs.Bytes.{when◌then◌else◌}
use Rattle.paper.specs.Layout.{Row, text_of, little}
use Rattle.theorems.proofs.Laws.DecodeAt.{Bytes}
use Rattle.paper.specs.DecodeAt.{word}
use Rattle.theorems.proofs.Decoded.Parts.{length_little}
use Rattle.memory.specs.Memory.{stored, slid}
use Rattle.memory.proofs.Laws.{same_word, word_below, word_little, length_own, length_stored, stored_in, slid_in, slid_out, fit}
use Rattle.rows.specs.View.{label_of, value_of, seen, groups, view, kept}
use Rattle.rows.specs.Change.{field_at, row_here, row_bytes, row_stored, fits_in, spliced, moved, lifted, lifts_in, lift_stored}
use Rattle.rows.proofs.Fields.{field_word, length_row, row_in}
use Rattle.rows.proofs.Groups.{length_groups, groups_cons, groups_end, groups_append, groups_front, groups_own, groups_splice}
use Rattle.rows.proofs.Changes.{fit_spliced, lifted_is, length_lifted}
use Rattle.rows.proofs.Trees.{row_moved}

-- ---- how many rows a slice is taken to have

pub kept_is : (w : List ℕ) (n : ℕ) → n ≤ 4096 → n * 16 ≤ length w → kept w n ≡ n
unfolding kept when◌then◌else◌
kept_is w n h l = rw (le-leb n 4096 h, le-leb (n * 16) (length w) l)

pub kept_many : (w : List ℕ) (n : ℕ) → 4096 < n → kept w n ≡ 0
unfolding kept when◌then◌else◌
kept_many w n h = rw (lt-leb n 4096 h)

pub kept_short : (w : List ℕ) (n : ℕ) → n ≤ 4096 → length w < n * 16 → kept w n ≡ 0
unfolding kept when◌then◌else◌
kept_short w n h l = rw (le-leb n 4096 h, lt-leb (n * 16) (length w) l)

pub length_view : (t u w : List ℕ) (n : ℕ) → length (view t u w n) ≡ n
unfolding view
length_view t u w n = length_groups 16 (seen t u) w n

-- ---- one row

-- a number in a row's own bytes stands in the slice
row_word : (w : List ℕ) (b n f : ℕ) → f + n ≤ 16 → word n (take 16 (drop b w)) f ≡ word n w (b + f)
row_word w b n f h =
    same_word n (take 16 (drop b w)) w f (b + f)
    (λ k l. let q : b + (f + k) ≡ b + f + k = omega arith in get_or-take 16 (drop b w) (f + k) 0 (omega arith) ∙ get_or-drop b w (f + k) 0 ∙ ap (λ (j : ℕ). get_or w j 0) q)

row_field : (w : List ℕ) (i n f : ℕ) → i ≤ 4095 → i * 16 + 16 ≤ length w → f + n ≤ 16 → word n (take 16 (drop (i * 16) w)) f ≡ field_at n w i f
row_field w i n f h l m = row_word w (i * 16) n f m ∙ sym (field_word n w i f h (omega arith))

pub seen_here : (t u w : List ℕ) (i : ℕ) → i ≤ 4095 → i * 16 + 16 ≤ length w → seen t u (take 16 (drop (i * 16) w)) ≡ row_here t u w i
unfolding seen row_here
seen_here t u w i h l =
    rw (row_field w i 2 0 h l (omega arith), row_field w i 2 2 h l (omega arith), row_field w i 2 4 h l (omega arith), row_field w i 2 6 h l (omega arith), row_field w i 8 8 h l (omega arith))

-- its fields, one by one
module _ (t u w : List ℕ) (i : ℕ) where
  pub here_kind : (row_here t u w i).first ≡ field_at 2 w i 0
  unfolding row_here
  here_kind = refl

  pub here_depth : (row_here t u w i).second ≡ field_at 2 w i 2
  unfolding row_here
  here_depth = refl

  pub here_label : (row_here t u w i).label ≡ label_of t u (field_at 2 w i 4)
  unfolding row_here
  here_label = refl

  pub here_size : (row_here t u w i).span ≡ field_at 2 w i 6
  unfolding row_here
  here_size = refl

  pub here_value : (row_here t u w i).value ≡ value_of t u (field_at 2 w i 0) (field_at 8 w i 8) (field_at 2 w i 6 - length (text_of (label_of t u (field_at 2 w i 4))))
  unfolding row_here
  here_value = refl

-- the rows from i on
pub view_cons : (t u w : List ℕ) (n i : ℕ) → i < n → n ≤ 4096 → n * 16 ≤ length w → drop i (view t u w n) ≡ row_here t u w i ∷ drop (suc i) (view t u w n)
unfolding view
view_cons t u w n i h m l =
    groups_cons 16 (seen t u) n i w h ∙ ap (λ x. x ∷ drop (suc i) (groups 16 (seen t u) w n)) (seen_here t u w i (omega arith) (omega arith))

pub view_end : (t u w : List ℕ) (n i : ℕ) → n ≤ i → drop i (view t u w n) ≡ []
unfolding view
view_end t u w n i h = groups_end 16 (seen t u) n i w h

-- ---- a row as it is written, and as it is seen

-- what a row says, by its numbers
unfoldable pub seen_row : List ℕ → List ℕ → ℕ → ℕ → ℕ → ℕ → ℕ → Row
seen_row t u k d p m v =
    let l = label_of t u p in
    record { first = k; second = d; label = l; span = m; value = value_of t u k v (m - length (text_of l)); last = [] }

pub here_seen : (t u w : List ℕ) (i : ℕ) → row_here t u w i ≡ seen_row t u (field_at 2 w i 0) (field_at 2 w i 2) (field_at 2 w i 4) (field_at 2 w i 6) (field_at 8 w i 8)
unfolding row_here seen_row
here_seen t u w i = refl

-- a number in the first of two runs of bytes
word_front : (n : ℕ) (a b : List ℕ) → n ≤ length a → word n (a ++ b) 0 ≡ word n a 0
word_front n a b h = same_word n (a ++ b) a 0 0 (λ k l. rw (zero-add k) (get_or-append a b 0 k (omega arith)))

-- and in the second
word_past : (n : ℕ) (a b : List ℕ) (i j : ℕ) → i ≡ length a + j → word n (a ++ b) i ≡ word n b j
word_past n a b i j e =
    same_word n (a ++ b) b i j (λ k l. let q : i + k ≡ length a + (j + k) = omega arith in ap (λ (x : ℕ). get_or (a ++ b) x 0) q ∙ get_or-append-add a b (j + k) 0)

little_front : (n x : ℕ) (b : List ℕ) → x < 256 ^ n → word n (little n x ++ b) 0 ≡ x
little_front n x b h = word_front n (little n x) b (le_of_eq (sym (length_little n x))) ∙ word_little n x h

module _ (t u : List ℕ) (k d p m v : ℕ) (hk : k < 65536) (hd : d < 65536) (hp : p < 65536) (hm : m < 65536) (hv : v < 18446744073709551616) where
  pub seen_bytes : seen t u (row_bytes k d p m v) ≡ seen_row t u k d p m v
  unfolding seen seen_row row_bytes
  seen_bytes =
      let b₄ = little 2 m ++ little 8 v in
      let b₃ = little 2 p ++ b₄ in
      let b₂ = little 2 d ++ b₃ in
      let lk = length_little 2 k in
      let ld = length_little 2 d in
      let lp = length_little 2 p in
      let lm = length_little 2 m in
      let e₀ : word 2 (little 2 k ++ b₂) 0 ≡ k = little_front 2 k b₂ hk in
      let e₂ : word 2 (little 2 k ++ b₂) 2 ≡ d = word_past 2 (little 2 k) b₂ 2 0 (omega arith) ∙ little_front 2 d b₃ hd in
      let e₄ : word 2 (little 2 k ++ b₂) 4 ≡ p = word_past 2 (little 2 k) b₂ 4 2 (omega arith) ∙ word_past 2 (little 2 d) b₃ 2 0 (omega arith) ∙ little_front 2 p b₄ hp in
      let e₆ : word 2 (little 2 k ++ b₂) 6 ≡ m =
      word_past 2 (little 2 k) b₂ 6 4 (omega arith) ∙ word_past 2 (little 2 d) b₃ 4 2 (omega arith) ∙ word_past 2 (little 2 p) b₄ 2 0 (omega arith) ∙ little_front 2 m (little 8 v) hm in
      let e₈ : word 8 (little 2 k ++ b₂) 8 ≡ v =
      word_past 8 (little 2 k) b₂ 8 6 (omega arith) ∙ word_past 8 (little 2 d) b₃ 6 4 (omega arith) ∙ word_past 8 (little 2 p) b₄ 4 2 (omega arith)
      ∙ word_past 8 (little 2 m) (little 8 v) 2 0 (omega arith) ∙ word_little 8 v hv in
      λ i. record { first = e₀ i; second = e₂ i; label = label_of t u (e₄ i); span = e₆ i; value = value_of t u (e₀ i) (e₈ i) (e₆ i - length (text_of (label_of t u (e₄ i)))); last = [] }

  -- a row written behind the others
  pub view_row : (w : List ℕ) (i : ℕ) → i ≤ 4095 → (i + 1) * 16 ≤ length w → view t u (row_stored w i (row_bytes k d p m v)) (i + 1) ≡ view t u w i ++ (seen_row t u k d p m v ∷ [])
  unfolding view groups
  view_row w i h l =
      let b = row_bytes k d p m v in
      let lb : length b ≡ 16 = length_row k d p m v in
      let r = drop (i * 16 + length b) w in
      let e : row_stored w i b ≡ take (i * 16) w ++ (b ++ r) = row_in w i b h ∙ stored_in w (i * 16) b (omega arith) ∙ append_assoc (take (i * 16) w) b r in
      let x : seen t u (take 16 (b ++ r)) ≡ seen_row t u k d p m v = ap (seen t u) (take_at b r 16 lb) ∙ seen_bytes in
      let a : groups 16 (seen t u) (take (i * 16) w) i ≡ groups 16 (seen t u) w i = sym (groups_own 16 (seen t u) i w (omega arith)) in
      ap (λ y. groups 16 (seen t u) y (i + 1)) e
      ∙ groups_append 16 (seen t u) i 1 (take (i * 16) w) (b ++ r) (length-take-le (i * 16) w (omega arith))
      ∙ (λ j. a j ++ (x j ∷ []))

-- ---- a part replaced

-- two stores, the second right before the first
shape : (w y z : List ℕ) (p m pm : ℕ) → pm ≡ p + m → length y ≡ m → pm + length z ≤ length w → stored (stored w pm z) p y ≡ take p w ++ (y ++ (z ++ drop (pm + length z) w))
shape w y z p m pm e ly h =
    let r = drop (pm + length z) w in
    let x = take pm w ++ (z ++ r) in
    let lp : length (take pm w) ≡ pm = length-take-le pm w (omega arith) in
    let q : stored w pm z ≡ x = stored_in w pm z h ∙ append_assoc (take pm w) z r in
    let lx : length x ≡ length w = sym (ap length q) ∙ length_stored w pm z in
    let e₁ : p + length y ≡ pm = omega arith in
    ap (λ l. stored l p y) q ∙ stored_in x p y (omega arith) ∙ append_assoc (take p x) y (drop (p + length y) x)
    ∙ ap (λ l. l ++ (y ++ drop (p + length y) x)) (take-append-le p (take pm w) (z ++ r) (omega arith) ∙ take-take p pm w (omega arith))
    ∙ ap (λ l. take p w ++ (y ++ l)) (ap (λ (j : ℕ). drop j x) e₁ ∙ drop_at (take pm w) (z ++ r) pm lp)

pub view_splice : (t u w : List ℕ) (n i e : ℕ) (s : List ℕ) (m : ℕ) → i ≤ e → e ≤ n → n + m ≤ 4096 → (n + m) * 16 ≤ length w → m * 16 ≤ length s
    → view t u (spliced w n i e s m) (i + (m + (n - e))) ≡ take i (view t u w n) ++ (view t u s m ++ drop e (view t u w n))
unfolding view
view_splice t u w n i e s m h₁ h₂ h₃ h₄ h₅ =
    let y = take (m * 16) s in
    let z = take ((n - e) * 16) (drop (e * 16) w) in
    let ly : length y ≡ m * 16 = length-take-le (m * 16) s h₅ in
    let lz : length z ≡ (n - e) * 16 = length_own w (e * 16) ((n - e) * 16) (omega arith) in
    let o : spliced w n i e s m ≡ take (i * 16) w ++ (y ++ (z ++ drop ((i + m) * 16 + length z) w)) =
    fit_spliced w n i e s m (record { order = h₁; inside = h₂; few = h₃; room = h₄; given = h₅ })
    ∙ ap (λ x. stored x (i * 16) y) (slid_in w (e * 16) ((i + m) * 16) ((n - e) * 16) (omega arith))
    ∙ shape w y z (i * 16) (m * 16) ((i + m) * 16) (omega arith) ly (omega arith) in
    let q : e + (n - e) ≡ n = omega arith in
    groups_splice 16 (seen t u) i e m (n - e) w s (spliced w n i e s m) (drop ((i + m) * 16 + length z) w) (omega arith) h₁ h₅ o
    ∙ ap (λ (j : ℕ). take i (groups 16 (seen t u) w j) ++ (groups 16 (seen t u) s m ++ drop e (groups 16 (seen t u) w j))) q

length_either : (b : Bool) (x y : List ℕ) (n : ℕ) → length x ≡ n → length y ≡ n → length (when b then x else y) ≡ n
unfolding when◌then◌else◌
length_either true x y n p q = p
length_either false x y n p q = q

pub length_row_stored : (w : List ℕ) (i : ℕ) (b : List ℕ) → length (row_stored w i b) ≡ length w
unfolding row_stored
length_row_stored w i b = length_either (leb i 4095) (stored w (i * 16) b) w (length w) (length_stored w (i * 16) b) refl

length_slid : (s : List ℕ) (from to n : ℕ) → length (slid s from to n) ≡ length s
length_slid s from to n =
    ⊎_elim (λ h. ap length (slid_in s from to n h) ∙ length_stored s to (take n (drop from s))) (λ h. ap length (slid_out s from to n h)) (fit (from + n) (length s))

pub length_spliced : (w : List ℕ) (n i e : ℕ) (s : List ℕ) (m : ℕ) → length (spliced w n i e s m) ≡ length w
unfolding spliced
length_spliced w n i e s m =
    let x = slid w (e * 16) ((i + m) * 16) ((n - e) * 16) in
    length_either (fits_in w n i e s m) (stored x (i * 16) (take (m * 16) s)) w (length w) (length_stored x (i * 16) (take (m * 16) s) ∙ length_slid w (e * 16) ((i + m) * 16) ((n - e) * 16)) refl

-- ---- rows copied to another depth

pub length_lift : (w : List ℕ) (p e : ℕ) (s : List ℕ) (q from to : ℕ) → length (lift_stored w p e s q from to) ≡ length s
unfolding lift_stored
length_lift w p e s q from to =
    let b = lifted w from to p (e - p) in
    length_either (lifts_in w p e s q to) (stored s (q * 16) b) s (length s) (length_stored s (q * 16) b) refl

view_none : (t u x : List ℕ) → view t u x zero ≡ []
unfolding view groups
view_none t u x = refl

view_first : (t u b l : List ℕ) (k : ℕ) → length b ≡ 16 → view t u (b ++ l) (suc k) ≡ seen t u b ∷ view t u l k
unfolding view groups
view_first t u b l k h = λ i. seen t u (take_at b l 16 h i) ∷ groups 16 (seen t u) (drop_at b l 16 h i) k

view_behind : (t u s b r : List ℕ) (q k : ℕ) → q * 16 ≤ length s → length b ≡ k * 16 → view t u (take (q * 16) s ++ (b ++ r)) (q + k) ≡ view t u s q ++ view t u b k
unfolding view
view_behind t u s b r q k h l =
    let a : groups 16 (seen t u) (take (q * 16) s) q ≡ groups 16 (seen t u) s q = sym (groups_own 16 (seen t u) q s h) in
    groups_append 16 (seen t u) q k (take (q * 16) s) (b ++ r) (length-take-le (q * 16) s h) ∙ (λ i. a i ++ groups_front 16 (seen t u) k b r l i)

module _ (t u w : List ℕ) (from to e : ℕ) (B : Bytes w) (few : e ≤ 4096) (room : e * 16 ≤ length w) where
  below_two : (i f : ℕ) → i < e → f + 2 ≤ 16 → field_at 2 w i f < 65536
  below_two i f h l = rw (field_word 2 w i f (omega arith) (omega arith)) (word_below 2 w (i * 16 + f) B)

  below_eight : (i : ℕ) → i < e → field_at 8 w i 8 < 18446744073709551616
  below_eight i h = rw (field_word 8 w i 8 (omega arith) (omega arith)) (word_below 8 w (i * 16 + 8) B)

  moved_below : (d : ℕ) → moved from to d < 65536
  unfolding moved
  moved_below d = omega arith

  one_lifted : (p : ℕ) → p < e → seen t u (row_bytes (field_at 2 w p 0) (moved from to (field_at 2 w p 2)) (field_at 2 w p 4) (field_at 2 w p 6) (field_at 8 w p 8)) ≡ row_moved from to (row_here t u w p)
  unfolding row_moved row_here seen_row
  one_lifted p h =
      seen_bytes t u (field_at 2 w p 0) (moved from to (field_at 2 w p 2)) (field_at 2 w p 4) (field_at 2 w p 6) (field_at 8 w p 8)
      (below_two p 0 h (omega arith)) (moved_below (field_at 2 w p 2)) (below_two p 4 h (omega arith)) (below_two p 6 h (omega arith)) (below_eight p h)

  all_lifted : (k p : ℕ) → p + k ≤ e → view t u (lifted w from to p k) k ≡ map (row_moved from to) (take k (drop p (view t u w e)))
  unfolding lifted
  all_lifted zero p h = view_none t u (lifted w from to p zero)
  all_lifted (suc k) p h =
      let b = row_bytes (field_at 2 w p 0) (moved from to (field_at 2 w p 2)) (field_at 2 w p 4) (field_at 2 w p 6) (field_at 8 w p 8) in
      let lb : length b ≡ 16 = length_row (field_at 2 w p 0) (moved from to (field_at 2 w p 2)) (field_at 2 w p 4) (field_at 2 w p 6) (field_at 8 w p 8) in
      rw (view_cons t u w e p (omega arith) few room)
      (view_first t u b (lifted w from to (suc p) k) k lb
      ∙ (λ i. one_lifted p (omega arith) i ∷ all_lifted k (suc p) (omega arith) i))

pub view_lift : (t u w : List ℕ) (p e : ℕ) (s : List ℕ) (q from to : ℕ) → Bytes w → p ≤ e → e ≤ 4096 → e * 16 ≤ length w → q + (e - p) ≤ 4096 → (q + (e - p)) * 16 ≤ length s → to ≤ 65535
    → view t u (lift_stored w p e s q from to) (q + (e - p)) ≡ view t u s q ++ map (row_moved from to) (take (e - p) (drop p (view t u w e)))
view_lift t u w p e s q from to B h₁ h₂ h₃ h₄ h₅ h₆ =
    let b = lifted w from to p (e - p) in
    let lb : length b ≡ (e - p) * 16 = length_lifted w from to p (e - p) in
    let r = drop (q * 16 + length b) s in
    let o : lift_stored w p e s q from to ≡ take (q * 16) s ++ (b ++ r) =
    lifted_is w p e s q from to (record { order = h₁; few = h₂; room = h₃; short = h₄; place = h₅; low = h₆ }) ∙ stored_in s (q * 16) b (omega arith) ∙ append_assoc (take (q * 16) s) b r in
    ap (λ x. view t u x (q + (e - p))) o ∙ view_behind t u s b r q (e - p) (omega arith) lb ∙ ap (λ x. view t u s q ++ x) (all_lifted t u w from to e B h₂ h₃ (e - p) p (omega arith))
