-- Loops that store: what is left to store, and the list that it is stored in, come to the same list at each turn. Assumes nothing.
use Prim.Native.Nat.{ℕ, zero, suc, ◌+◌, ◌-◌, ◌≤◌, ◌<◌}
use native.Mathlib.Nat.{add-zero}
use Rattle.std.proofs.Common.{add-one}
use native.Mathlib.Omega.{arith}
use mathlib.Core.Path.{◌≡◌, sym, ap, subst, ◌∙◌}
use mathlib.Core.List.{List, [], ◌∷◌, ◌++◌}
use lib.ListN.{length, take, drop, get_or, set, length-drop}
use lib.Seq.{sets, drop-cons, take-suc, get_or-drop, drop-set-lt, drop-set-add, take-set-le, set_comm, length-take-le}

-- the first of what is left goes to its place
pub turn : {b c t : List ℕ} {v : ℕ} (s : List ℕ) (p q : ℕ) → q ≡ suc p → sets s p b ≡ t → b ≡ v ∷ c → sets (set s p v) q c ≡ t
turn s p q e h f = rw e (sym (ap (sets s p) f) ∙ h)

pub list_left : (b : List ℕ) (i : ℕ) → i < length b → drop i b ≡ get_or b i 0 ∷ drop (i + 1) b
list_left b i h = rw (add-one i) (drop-cons b i 0 h)

pub own_left : (s : List ℕ) (from to n i v : ℕ) → to ≤ from → i < n → from + n ≤ length s
    → take (n - i) (drop (from + i) s) ≡ get_or s (from + i) 0 ∷ take (n - (i + 1)) (drop (from + (i + 1)) (set s (to + i) v))
own_left s from to n i v o h l =
    let q : n - i ≡ suc (n - (i + 1)) = omega arith in
    let p : from + (i + 1) ≡ suc (from + i) = omega arith in
    rw (q, p, drop-cons s (from + i) 0 (omega arith), drop-set-lt (suc (from + i)) s (to + i) v (omega arith))

-- ---- from the last byte back

-- the last of what is to be stored may be stored first
last_first : (s : List ℕ) (at : ℕ) (b : List ℕ) (v : ℕ) → sets (set s (at + length b) v) at b ≡ sets s at (b ++ (v ∷ []))
last_first s at [] v = rw (add-zero at)
last_first s at (x ∷ b) v =
    let q : at + suc (length b) ≡ suc at + length b = omega arith in
    rw (q, set_comm s (suc at + length b) at v x (λ e. omega arith)) (last_first (set s at x) (suc at) b v)

-- a turn of a move towards the end: i bytes are left
pub up_turn : (s t : List ℕ) (from to i : ℕ) → 0 < i → from ≤ to → to + i ≤ length s → sets s to (take i (drop from s)) ≡ t
    → sets (set s (to + (i - 1)) (get_or s (from + (i - 1)) 0)) to (take (i - 1) (drop from (set s (to + (i - 1)) (get_or s (from + (i - 1)) 0)))) ≡ t
up_turn s t from to zero p o l h = absurd (omega arith)
up_turn s t from to (suc k) p o l h =
    let e : suc k - 1 ≡ k = omega arith in
    let v = get_or s (from + k) 0 in
    let b = take k (drop from s) in
    let j : to + k ≡ from + (to - from + k) = omega arith in
    let same : take k (drop from (set s (to + k) v)) ≡ b = rw (j, drop-set-add from s (to - from + k) v, take-set-le k (drop from s) (to - from + k) v (omega arith)) in
    let n : length b ≡ k = length-take-le k (drop from s) (simp length-drop (omega arith)) in
    let f : sets (set s (to + k) v) to b ≡ sets s to (b ++ (v ∷ [])) = subst (λ (m : ℕ). sets (set s (to + m) v) to b ≡ sets s to (b ++ (v ∷ []))) n (last_first s to b v) in
    let g : take (suc k) (drop from s) ≡ b ++ (v ∷ []) = take-suc (drop from s) k 0 (simp length-drop (omega arith)) ∙ ap (λ w. b ++ (w ∷ [])) (get_or-drop from s k 0) in
    rw (e, same) (f ∙ ap (sets s to) (sym g) ∙ h)

-- ---- a number read from its highest byte down: i bytes are left
