-- Groups of k bytes, over every width k and every reader f. Assumes nothing.
use Prim.Native.Nat.{ℕ, zero, suc, ◌+◌, ◌-◌, ◌*◌, ◌≤◌, ◌<◌}
use native.Mathlib.Nat.{add-mul, mul-le-mul_right, not-suc-le-zero, le_of_eq, zero-add, suc-add, add-zero, suc-mul, zero-mul}
use native.Mathlib.Omega.{arith}
use mathlib.Core.Path.{◌≡◌, refl, sym, ap, ◌∙◌}
use mathlib.Core.List.{List, [], ◌∷◌, ◌++◌, append-nil}
use lib.ListN.{length, take, drop, get_or, length-drop, take-append-drop, drop_of_length-le}
use lib.Seq.{take-append-le, drop-append-le, take_at, drop-drop, drop-cons, length-take-le}
use Rattle.rows.specs.View.{groups}

pub length_groups : {A : Type 0} (k : ℕ) (f : List ℕ → A) (w : List ℕ) (n : ℕ) → length (groups k f w n) ≡ n
unfolding groups
length_groups k f w zero = refl
length_groups k f w (suc n) = ap suc (length_groups k f (drop k w) n)

-- group i
pub groups_at : {A : Type 0} (k : ℕ) (f : List ℕ → A) (n i : ℕ) (w : List ℕ) (z : A) → i < n → get_or (groups k f w n) i z ≡ f (take k (drop (i * k) w))
unfolding groups
groups_at k f zero i w z h = absurd (not-suc-le-zero h)
groups_at k f (suc n) zero w z h = rw zero-mul
groups_at k f (suc n) (suc i) w z h =
    let e : k + i * k ≡ suc i * k = omega (arith, suc-mul i k) in
    groups_at k f n i (drop k w) z (omega arith) ∙ ap (λ (r : List ℕ). f (take k r)) (drop-drop (i * k) k w ∙ ap (λ (j : ℕ). drop j w) e)

-- the groups from i on
pub groups_cons : {A : Type 0} (k : ℕ) (f : List ℕ → A) (n i : ℕ) (w : List ℕ) → i < n → drop i (groups k f w n) ≡ f (take k (drop (i * k) w)) ∷ drop (suc i) (groups k f w n)
groups_cons k f n i w h =
    let z = f [] in
    let g : i < length (groups k f w n) = rw (length_groups k f w n) h in
    drop-cons (groups k f w n) i z g ∙ ap (λ x. x ∷ drop (suc i) (groups k f w n)) (groups_at k f n i w z h)

pub groups_end : {A : Type 0} (k : ℕ) (f : List ℕ → A) (n i : ℕ) (w : List ℕ) → n ≤ i → drop i (groups k f w n) ≡ []
groups_end k f n i w h = let g : length (groups k f w n) ≤ i = rw (length_groups k f w n) h in drop_of_length-le (groups k f w n) g

-- ---- groups of bytes that are put together

no_length : (x : List ℕ) → length x ≡ 0 → x ≡ []
no_length [] h = refl
no_length (a ∷ x) h = absurd (not-suc-le-zero (le_of_eq h))

pub groups_append : {A : Type 0} (k : ℕ) (f : List ℕ → A) (n m : ℕ) (x y : List ℕ) → length x ≡ n * k → groups k f (x ++ y) (n + m) ≡ groups k f x n ++ groups k f y m
unfolding groups
groups_append k f zero m x y h =
    ap (groups k f (x ++ y)) (zero-add m) ∙ ap (λ (r : List ℕ). groups k f (r ++ y) m) (no_length x (h ∙ zero-mul k))
groups_append k f (suc n) m x y h =
    let e : length x ≡ n * k + k = h ∙ suc-mul n k in
    ap (groups k f (x ++ y)) (suc-add n m)
    ∙ ap (λ (r : List ℕ). f r ∷ groups k f (drop k (x ++ y)) (n + m)) (take-append-le k x y (omega arith))
    ∙ ap (λ (r : List ℕ). f (take k x) ∷ groups k f r (n + m)) (drop-append-le k x y (omega arith))
    ∙ ap (λ r. f (take k x) ∷ r) (groups_append k f n m (drop k x) y (simp length-drop (omega arith)))

-- groups see only their own bytes
pub groups_front : {A : Type 0} (k : ℕ) (f : List ℕ → A) (n : ℕ) (x y : List ℕ) → length x ≡ n * k → groups k f (x ++ y) n ≡ groups k f x n
unfolding groups
groups_front k f n x y h =
    ap (groups k f (x ++ y)) (sym (add-zero n)) ∙ groups_append k f n 0 x y h ∙ append-nil (groups k f x n)

-- their own bytes are the first of those given
pub groups_own : {A : Type 0} (k : ℕ) (f : List ℕ → A) (n : ℕ) (w : List ℕ) → n * k ≤ length w → groups k f w n ≡ groups k f (take (n * k) w) n
groups_own k f n w h =
    ap (λ (r : List ℕ). groups k f r n) (sym (take-append-drop (n * k) w)) ∙ groups_front k f n (take (n * k) w) (drop (n * k) w) (length-take-le (n * k) w h)

-- the groups after the first a
pub groups_drop : {A : Type 0} (k : ℕ) (f : List ℕ → A) (a n : ℕ) (w : List ℕ) → drop a (groups k f w (a + n)) ≡ groups k f (drop (a * k) w) n
unfolding groups
groups_drop k f zero n w = rw (zero-add, zero-mul)
groups_drop k f (suc a) n w =
    let e : k + a * k ≡ suc a * k = omega (arith, suc-mul a k) in
    rw (suc-add a n) (groups_drop k f a n (drop k w) ∙ ap (λ (r : List ℕ). groups k f r n) (drop-drop (a * k) k w ∙ ap (λ (j : ℕ). drop j w) e))

-- the first a groups
pub groups_take : {A : Type 0} (k : ℕ) (f : List ℕ → A) (a n : ℕ) (w : List ℕ) → a * k ≤ length w → take a (groups k f w (a + n)) ≡ groups k f (take (a * k) w) a
groups_take k f a n w h =
    ap (λ (r : List ℕ). take a (groups k f r (a + n))) (sym (take-append-drop (a * k) w))
    ∙ ap (take a) (groups_append k f a n (take (a * k) w) (drop (a * k) w) (length-take-le (a * k) w h))
    ∙ take_at (groups k f (take (a * k) w) a) (groups k f (drop (a * k) w) n) a (length_groups k f (take (a * k) w) a)

-- a part of the groups replaced by m others, with the t behind it moved
pub groups_splice : {A : Type 0} (k : ℕ) (f : List ℕ → A) (p q m t : ℕ) (w s o r : List ℕ) → (q + t) * k ≤ length w → p ≤ q → m * k ≤ length s
    → o ≡ take (p * k) w ++ (take (m * k) s ++ (take (t * k) (drop (q * k) w) ++ r))
    → groups k f o (p + (m + t)) ≡ take p (groups k f w (q + t)) ++ (groups k f s m ++ drop q (groups k f w (q + t)))
groups_splice k f p q m t w s o r hw pq hs h =
    let a₁ : (q + t) * k ≡ q * k + t * k = add-mul q t k in
    let a₂ : p * k ≤ q * k = mul-le-mul_right k pq in
    let x = take (p * k) w in
    let y = take (m * k) s in
    let z = take (t * k) (drop (q * k) w) in
    let lx : length x ≡ p * k = length-take-le (p * k) w (omega arith) in
    let ly : length y ≡ m * k = length-take-le (m * k) s hs in
    let lz : length z ≡ t * k = length-take-le (t * k) (drop (q * k) w) (simp length-drop (omega arith)) in
    let e : groups k f o (p + (m + t)) ≡ groups k f x p ++ (groups k f y m ++ groups k f z t) =
    ap (λ (l : List ℕ). groups k f l (p + (m + t))) h
    ∙ groups_append k f p (m + t) x (y ++ (z ++ r)) lx
    ∙ ap (λ l. groups k f x p ++ l) (groups_append k f m t y (z ++ r) ly ∙ ap (λ l. groups k f y m ++ l) (groups_front k f t z r lz)) in
    let g₁ : take p (groups k f w (q + t)) ≡ groups k f x p =
    ap (λ (j : ℕ). take p (groups k f w j)) {x = q + t} {y = p + (q + t - p)} (omega arith) ∙ groups_take k f p (q + t - p) w (omega arith) in
    let g₂ : groups k f s m ≡ groups k f y m = groups_own k f m s hs in
    let g₃ : drop q (groups k f w (q + t)) ≡ groups k f z t = groups_drop k f q t w ∙ groups_own k f t (drop (q * k) w) (simp length-drop (omega arith)) in
    e ∙ sym (λ i. g₁ i ++ (g₂ i ++ g₃ i))
