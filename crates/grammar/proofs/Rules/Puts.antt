-- Laws of what is put into the lent slice. Assumes nothing.
use Prim.Native.Nat.{ℕ, zero, suc, ◌+◌, ◌*◌, ◌/◌, ◌%◌, ◌^◌, ◌≤◌, ◌<◌}
use native.Mathlib.Omega.{arith}
use native.Mathlib.Nat.{add-zero, pow-suc, one-le-pow}
use lib.Arith.{mod-mul}
use mathlib.Core.Path.{◌≡◌, refl, sym, ap, ◌∙◌}
use mathlib.Core.Bool.{Bool, true, false}
use mathlib.Core.List.{List, [], ◌∷◌, ◌++◌, append_assoc}
use lib.Dec.{ltb, lit<}
use lib.ListN.{length, set, drop, length-append}
use lib.Seq.{sets, length-sets, set_comm, drop-set-lt}
use borrow.Author.Tests.{ltb-true, lt-ltb, le-ltb}
use Rattle.paper.specs.Bytes.{when◌then◌else◌}
use Rattle.paper.specs.Layout.{Row, Field, number, little, row_bytes, figure}
use Rattle.paper.specs.StepLayout.{step_row}
use Rattle.theorems.proofs.Decoded.Parts.{length_little}
use Rattle.memory.specs.Memory.{stored}
use Rattle.memory.proofs.Laws.{stored_sets}
use Rattle.grammar.specs.Drafts.{Draft, text_size}
use Rattle.grammar.specs.Puts.{put_row, puts, Frame}

-- ---- runs of bytes

pub sets_append : (xs ys l : List ℕ) (i : ℕ) → sets l i (xs ++ ys) ≡ sets (sets l i xs) (i + length xs) ys
sets_append [] ys l i = ap (λ (k : ℕ). sets l k ys) (sym (add-zero i))
sets_append (x ∷ xs) ys l i =
    sets_append xs ys (set l i x) (suc i) ∙ ap (λ (k : ℕ). sets (sets (set l i x) (suc i) xs) k ys) (omega arith)

-- stored after what was stored before it
pub then_stored : (b c xs ys : List ℕ) (at k : ℕ) → c ≡ sets b at xs → k ≡ at + length xs → at + length xs + length ys ≤ length b → stored c k ys ≡ sets b at (xs ++ ys)
then_stored b c xs ys at k e q h =
    let l : length c ≡ length b = ap length e ∙ length-sets b at xs in
    stored_sets c k ys (omega arith)
    ∙ ap (λ (w : List ℕ). sets w k ys) e
    ∙ ap (λ (j : ℕ). sets (sets b at xs) j ys) q
    ∙ sym (sets_append xs ys b at)

drop_sets : (n : ℕ) (xs l : List ℕ) (i : ℕ) → i + length xs ≤ n → drop n (sets l i xs) ≡ drop n l
drop_sets n [] l i h = refl
drop_sets n (x ∷ xs) l i h = drop_sets n xs (set l i x) (suc i) (omega arith) ∙ drop-set-lt n l i x (omega arith)

set_sets : (l xs : List ℕ) (i j v : ℕ) → i < j → set (sets l j xs) i v ≡ sets (set l i v) j xs
set_sets l [] i j v h = refl
set_sets l (x ∷ xs) i j v h = set_sets (set l j x) xs i (suc j) v (omega arith) ∙ ap (λ (w : List ℕ). sets w (suc j) xs) (set_comm l j i x v (λ e. omega arith))

-- runs that do not meet, in either order
sets_comm : (l xs ys : List ℕ) (i j : ℕ) → i + length xs ≤ j → sets (sets l j ys) i xs ≡ sets (sets l i xs) j ys
sets_comm l [] ys i j h = refl
sets_comm l (x ∷ xs) ys i j h =
    ap (λ (w : List ℕ). sets w (suc i) xs) (set_sets l ys i j x (omega arith)) ∙ sets_comm (set l i x) xs ys (suc i) j (omega arith)

-- ---- rows

-- a row of 20 bytes
pub record Twenty (x : Row) : Type 0 where
  pub long : length (row_bytes 0 x) ≡ 20

row_long : (i k m p : ℕ) (r v : Field) → length (row_bytes 0 (step_row i k r m v p)) ≡ 20
unfolding row_bytes step_row
row_long i k m p r v =
    simp (length-append, length_little) refl

pub twenty : (i k m p : ℕ) (r v : Field) → Twenty (step_row i k r m v p)
twenty i k m p r v = record { long = row_long i k m p r v }

module _ (b : List ℕ) (n : ℕ) (x : Row) where
  pub put_in : n < 1024 → put_row b n x ≡ sets b (20 * n) (row_bytes 0 x)
  unfolding put_row when◌then◌else◌
  put_in h = rw (lt-ltb n 1024 h)

  pub put_out : 1024 ≤ n → put_row b n x ≡ b
  unfolding put_row when◌then◌else◌
  put_out h = rw (le-ltb n 1024 h)

-- by whether the row is kept
kept : (P : List ℕ → Type 0) (b : List ℕ) (n : ℕ) (x : Row) → (n < 1024 → P (sets b (20 * n) (row_bytes 0 x))) → P b → P (put_row b n x)
unfolding put_row
kept P b n x f g = go (ltb n 1024) refl
  where
    go : (t : Bool) → ltb n 1024 ≡ t → P (when t then sets b (20 * n) (row_bytes 0 x) else b)
    go true e = unfold when◌then◌else◌ in f (ltb-true n 1024 e)
    go false e = unfold when◌then◌else◌ in g

pub put_frame : (b : List ℕ) (n : ℕ) (x : Row) → Twenty x → Frame b (put_row b n x)
put_frame b n x t =
    kept (λ w. Frame b w) b n x
    (λ h. record { long = length-sets b (20 * n) (row_bytes 0 x); rest = drop_sets 20480 (row_bytes 0 x) b (20 * n) (omega (arith, t.long)) })
    (record { long = refl; rest = refl })

pub frame_same : (b : List ℕ) → Frame b b
frame_same b = record { long = refl; rest = refl }

pub frame_then : {a b c : List ℕ} → Frame a b → Frame b c → Frame a c
frame_then f g = record { long = g.long ∙ f.long; rest = g.rest ∙ f.rest }

-- a row before one that was put later
put_comm : (b : List ℕ) (n m : ℕ) (x y : Row) → Twenty x → n < m → put_row (put_row b m y) n x ≡ put_row (put_row b n x) m y
unfolding put_row
put_comm b n m x y t h = go (ltb n 1024) (ltb m 1024)
  where
    X : List ℕ → List ℕ
    X l = sets l (20 * n) (row_bytes 0 x)

    Y : List ℕ → List ℕ
    Y l = sets l (20 * m) (row_bytes 0 y)

    go : (t u : Bool) → (when t then X (when u then Y b else b) else (when u then Y b else b)) ≡ (when u then Y (when t then X b else b) else (when t then X b else b))
    go true true = unfold when◌then◌else◌ in sets_comm b (row_bytes 0 x) (row_bytes 0 y) (20 * n) (20 * m) (omega (arith, t.long))
    go true false = unfold when◌then◌else◌ in refl
    go false true = unfold when◌then◌else◌ in refl
    go false false = unfold when◌then◌else◌ in refl

-- ---- drafts

pub puts_append : (xs ys : List Draft) (b : List ℕ) (n : ℕ) → puts b n (xs ++ ys) ≡ puts (puts b n xs) (n + length xs) ys
unfolding puts
puts_append [] ys b n = ap (λ (k : ℕ). puts b k ys) (sym (add-zero n))
puts_append (x ∷ xs) ys b n =
    puts_append xs ys (put_row b n x.row) (suc n) ∙ ap (λ (k : ℕ). puts (puts (put_row b n x.row) (suc n) xs) k ys) (omega arith)

pub size_append : (xs ys : List Draft) → text_size (xs ++ ys) ≡ text_size xs + text_size ys
unfolding text_size
size_append [] ys = omega arith
size_append (x ∷ xs) ys = omega (arith, size_append xs ys)

-- a row that is put after drafts that stand behind it
pub put_before : (xs : List Draft) (b : List ℕ) (n m : ℕ) (x : Row) → Twenty x → n < m → put_row (puts b m xs) n x ≡ puts (put_row b n x) m xs
unfolding puts
put_before [] b n m x t h = refl
put_before (d ∷ ds) b n m x t h =
    put_before ds (put_row b m d.row) n (suc m) x t (omega arith) ∙ ap (λ (w : List ℕ). puts w (suc m) ds) (put_comm b n m x d.row t h)

-- ---- numbers in fewer bytes

-- the low k bytes of x are those of its remainder
little_low : (k x : ℕ) → little k (x % 256 ^ k) ≡ little k x
unfolding little
little_low zero x = refl
little_low (suc k) x =
    let e : x % 256 ^ suc k ≡ (x / 256 % 256 ^ k) * 256 + x % 256 = rw pow-suc (mod-mul x (one-le-pow k 256 (lit< tt)) (lit< tt)) in
    let h : x % 256 ^ suc k % 256 ≡ x % 256 = omega (arith, e) in
    let q : x % 256 ^ suc k / 256 ≡ x / 256 % 256 ^ k = omega (arith, e) in
    rw (h, q, little_low k (x / 256))

-- six numbers, one after the other, are the row
pub six_stored : (b b₁ b₂ b₃ b₄ b₅ b₆ : List ℕ) (n i k r m v p : ℕ) → n < 1024 → 20480 ≤ length b
    → b₁ ≡ stored b (20 * n) (little 2 i)
    → b₂ ≡ stored b₁ (20 * n + 2) (little 2 k)
    → b₃ ≡ stored b₂ (20 * n + 4) (little 2 (r % 65536))
    → b₄ ≡ stored b₃ (20 * n + 6) (little 2 (m % 65536))
    → b₅ ≡ stored b₄ (20 * n + 8) (little 8 v)
    → b₆ ≡ stored b₅ (20 * n + 16) (little 4 (p % 4294967296))
    → b₆ ≡ put_row b n (step_row i k (number r) m (number v) p)
unfolding row_bytes step_row figure
six_stored b b₁ b₂ b₃ b₄ b₅ b₆ n i k r m v p h room e₁ e₂ e₃ e₄ e₅ e₆ =
    let w₁ = little 2 i in
    let w₂ = little 2 k in
    let w₃ = little 2 (r % 65536) in
    let w₄ = little 2 (m % 65536) in
    let w₅ = little 8 v in
    let w₆ = little 4 (p % 4294967296) in
    let l₁ : length w₁ ≡ 2 = length_little 2 i in
    let l₂ : length w₂ ≡ 2 = length_little 2 k in
    let l₃ : length w₃ ≡ 2 = length_little 2 (r % 65536) in
    let l₄ : length w₄ ≡ 2 = length_little 2 (m % 65536) in
    let l₅ : length w₅ ≡ 8 = length_little 8 v in
    let l₆ : length w₆ ≡ 4 = length_little 4 (p % 4294967296) in
    let m₂ : length (w₁ ++ w₂) ≡ 4 = length-append w₁ w₂ ∙ omega arith in
    let m₃ : length ((w₁ ++ w₂) ++ w₃) ≡ 6 = length-append (w₁ ++ w₂) w₃ ∙ omega arith in
    let m₄ : length (((w₁ ++ w₂) ++ w₃) ++ w₄) ≡ 8 = length-append ((w₁ ++ w₂) ++ w₃) w₄ ∙ omega arith in
    let m₅ : length ((((w₁ ++ w₂) ++ w₃) ++ w₄) ++ w₅) ≡ 16 = length-append (((w₁ ++ w₂) ++ w₃) ++ w₄) w₅ ∙ omega arith in
    let f₁ : b₁ ≡ sets b (20 * n) w₁ = e₁ ∙ stored_sets b (20 * n) w₁ (omega arith) in
    let f₂ : b₂ ≡ sets b (20 * n) (w₁ ++ w₂) = e₂ ∙ then_stored b b₁ w₁ w₂ (20 * n) (20 * n + 2) f₁ (omega arith) (omega arith) in
    let f₃ : b₃ ≡ sets b (20 * n) ((w₁ ++ w₂) ++ w₃) = e₃ ∙ then_stored b b₂ (w₁ ++ w₂) w₃ (20 * n) (20 * n + 4) f₂ (omega arith) (omega arith) in
    let f₄ : b₄ ≡ sets b (20 * n) (((w₁ ++ w₂) ++ w₃) ++ w₄) = e₄ ∙ then_stored b b₃ ((w₁ ++ w₂) ++ w₃) w₄ (20 * n) (20 * n + 6) f₃ (omega arith) (omega arith) in
    let f₅ : b₅ ≡ sets b (20 * n) ((((w₁ ++ w₂) ++ w₃) ++ w₄) ++ w₅) = e₅ ∙ then_stored b b₄ (((w₁ ++ w₂) ++ w₃) ++ w₄) w₅ (20 * n) (20 * n + 8) f₄ (omega arith) (omega arith) in
    let f₆ : b₆ ≡ sets b (20 * n) (((((w₁ ++ w₂) ++ w₃) ++ w₄) ++ w₅) ++ w₆) =
    e₆ ∙ then_stored b b₅ ((((w₁ ++ w₂) ++ w₃) ++ w₄) ++ w₅) w₆ (20 * n) (20 * n + 16) f₅ (omega arith) (omega arith) in
    f₆
    ∙ ap (λ (w : List ℕ). sets b (20 * n) w) (all w₁ w₂ w₅ (little_low 2 r) (little_low 2 m) (little_low 4 p))
    ∙ sym (put_in b n (step_row i k (number r) m (number v) p) h)
  where
    all : (w₁ w₂ w₅ : List ℕ) {x y z x' y' z' : List ℕ} → x ≡ x' → y ≡ y' → z ≡ z' → ((((w₁ ++ w₂) ++ x) ++ y) ++ w₅) ++ z ≡ w₁ ++ (w₂ ++ (x' ++ (y' ++ (w₅ ++ z'))))
    all w₁ w₂ w₅ p q r = simp append_assoc (cc)
