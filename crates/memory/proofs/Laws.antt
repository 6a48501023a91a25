-- Laws of bytes at a place, for those who read and store them: over every width and every run of bytes. Assumes nothing.
use Prim.Native.Nat.{ℕ, zero, suc, ◌+◌, ◌*◌, ◌-◌, ◌/◌, ◌%◌, ◌^◌, ◌≤◌, ◌<◌}
use native.Mathlib.Nat.{pow-suc, pow-zero, add-zero, zero-add, add-suc, suc-add, div-lt_iff_lt-mul}
use native.Mathlib.Omega.{arith}
use mathlib.Core.Path.{◌≡◌, refl, sym, ap, ap₂, subst, ◌∙◌}
use mathlib.Core.Bool.{Bool, true, false, not}
use mathlib.Core.List.{List, [], ◌∷◌, ◌++◌}
use mathlib.Core.Logic.{◌⊎◌, inl, inr, ⊎_elim}
use lib.ListN.{length, take, drop, get_or, set, length-append, length-drop, length-set, length-replicate}
use lib.Seq.{sets, sets-eq, length-sets, length-take-le, get_or-take, get_or-drop, get_or-set_same, get_or-set_other, set_comm, set-set, ext_get_or}
use lib.Dec.{leb, lit<}
use borrow.Author.Tests.{le-leb, lt-leb, leb-true, leb-false, not-true, not-false}
use Rattle.paper.specs.Layout.{little}
use Rattle.paper.specs.Lent.{zeros, wiped}
use Rattle.theorems.proofs.Laws.DecodeAt.{Bytes}
use Rattle.paper.specs.DecodeAt.{word}
use Rattle.theorems.proofs.Decoded.Parts.{length_little}
use Rattle.std.specs.Prelude.{Option, Some, None, MatchOption}
use Rattle.std.specs.Option.{unwrap_or, option_copied}
use Rattle.std.specs.Array.{IsFirstChunk}
use denote.Bor.{Bor}
use lib.ListN.{replicate}
use Rattle.memory.specs.Memory.{within, word_at, part_at, stored, slid}

-- ---- by cases: what lies in the slice, and what does not

pub word_in : (n : ℕ) (s : List ℕ) (at : ℕ) → at + n ≤ length s → word_at n s at ≡ word n s at
unfolding word_at
word_in n s at h = rw (le-leb (at + n) (length s) h, word_at)

pub word_out : (n : ℕ) (s : List ℕ) (at : ℕ) → length s < at + n → word_at n s at ≡ 0
unfolding word_at
word_out n s at h = rw (lt-leb (at + n) (length s) h, word_at)

pub part_in : (s : List ℕ) (at n : ℕ) → at + n ≤ length s → part_at s at n ≡ take n (drop at s)
unfolding part_at
part_in s at n h = rw (le-leb (at + n) (length s) h, part_at)

pub part_out : (s : List ℕ) (at n : ℕ) → length s < at + n → part_at s at n ≡ []
unfolding part_at
part_out s at n h = rw (lt-leb (at + n) (length s) h, part_at)

pub stored_in : (s : List ℕ) (at : ℕ) (b : List ℕ) → at + length b ≤ length s → stored s at b ≡ take at s ++ b ++ drop (at + length b) s
unfolding stored
stored_in s at b h = rw (le-leb (at + length b) (length s) h, stored)

pub stored_out : (s : List ℕ) (at : ℕ) (b : List ℕ) → length s < at + length b → stored s at b ≡ s
unfolding stored
stored_out s at b h = rw (lt-leb (at + length b) (length s) h, stored)

pub slid_in : (s : List ℕ) (from to n : ℕ) → from + n ≤ length s → slid s from to n ≡ stored s to (take n (drop from s))
unfolding slid
slid_in s from to n h = rw (le-leb (from + n) (length s) h, slid)

pub slid_out : (s : List ℕ) (from to n : ℕ) → length s < from + n → slid s from to n ≡ s
unfolding slid
slid_out s from to n h = rw (lt-leb (from + n) (length s) h, slid)

-- it lies in the slice, or it does not
pub fit : (m n : ℕ) → (m ≤ n) ⊎ (n < m)
fit m n = case (leb m n) refl
  where
    case : (t : Bool) → leb m n ≡ t → (m ≤ n) ⊎ (n < m)
    case true e = inl (leb-true m n e)
    case false e = inr (leb-false m n e)

-- the test as it is computed, with no sum
pub fit_left : (size at n : ℕ) → n ≤ size → leb at (size - n) ≡ within size at n
fit_left size at n h =
    ⊎_elim (λ f. le-leb at (size - n) (omega arith) ∙ sym (le-leb (at + n) size f)) (λ o. lt-leb at (size - n) (omega arith) ∙ sym (lt-leb (at + n) size o)) (fit (at + n) size)

-- what a test of `fits` tells, where its answer is r
pub fits_yes : (size at n : ℕ) {r : Bool} → r ≡ within size at n → not r ≡ false → at + n ≤ size
fits_yes size at n e h = leb-true (at + n) size (sym e ∙ not-false _ h)

pub fits_no : (size at n : ℕ) {r : Bool} → r ≡ within size at n → not r ≡ true → size < at + n
fits_no size at n e h = leb-false (at + n) size (sym e ∙ not-true _ h)

-- the same of the answer itself
pub lies : (size at n : ℕ) {r : Bool} → r ≡ within size at n → r ≡ true → at + n ≤ size
lies size at n e h = leb-true (at + n) size (sym e ∙ h)

pub lies_not : (size at n : ℕ) {r : Bool} → r ≡ within size at n → r ≡ false → size < at + n
lies_not size at n e h = leb-false (at + n) size (sym e ∙ h)

-- stored one by one
pub stored_sets : (s : List ℕ) (at : ℕ) (b : List ℕ) → at + length b ≤ length s → stored s at b ≡ sets s at b
stored_sets s at b h = stored_in s at b h ∙ sym (sets-eq b s at h)

-- a rule of what is stored, from both cases
by_fit : (P : List ℕ → Type 0) (s : List ℕ) (at : ℕ) (b : List ℕ) → P (sets s at b) → P s → P (stored s at b)
by_fit P s at b f o = ⊎_elim (λ h. subst P (sym (stored_sets s at b h)) f) (λ h. subst P (sym (stored_out s at b h)) o) (fit (at + length b) (length s))

-- ---- how long what is stored is

pub length_zeros : (n : ℕ) → length (zeros n) ≡ n
unfolding zeros
length_zeros n = length-replicate n 0

pub length_own : (s : List ℕ) (from n : ℕ) → from + n ≤ length s → length (take n (drop from s)) ≡ n
length_own s from n h = length-take-le n (drop from s) (simp length-drop (omega arith))

-- ---- byte by byte

pub length_stored : (s : List ℕ) (at : ℕ) (b : List ℕ) → length (stored s at b) ≡ length s
length_stored s at b = by_fit (λ t. length t ≡ length s) s at b (length-sets s at b) refl

sets_other : (s : List ℕ) (at : ℕ) (b : List ℕ) (k : ℕ) → (k < at) ⊎ (at + length b ≤ k) → get_or (sets s at b) k 0 ≡ get_or s k 0
sets_other s at [] k h = refl
sets_other s at (x ∷ b) k h =
    sets_other (set s at x) (suc at) b k (⊎_elim (λ l. inl (omega arith)) (λ r. inr (omega arith)) h)
    ∙ get_or-set_other s at k x 0 (λ e. ⊎_elim (λ l. omega arith) (λ r. omega arith) h)

sets_same : (s : List ℕ) (at : ℕ) (b : List ℕ) (k : ℕ) → at + length b ≤ length s → k < length b → get_or (sets s at b) (at + k) 0 ≡ get_or b k 0
sets_same s at [] k h l = absurd (omega arith)
sets_same s at (x ∷ b) zero h l =
    rw (add-zero at) (sets_other (set s at x) (suc at) b at (inl (omega arith)) ∙ get_or-set_same s at x 0 (omega arith))
sets_same s at (x ∷ b) (suc k) h l =
    let q : at + suc k ≡ suc at + k = omega arith in
    rw q (sets_same (set s at x) (suc at) b k (simp length-set (omega arith)) (omega arith))

-- a byte elsewhere is as it was
pub byte_other : (s : List ℕ) (at : ℕ) (b : List ℕ) (k : ℕ) → (k < at) ⊎ (at + length b ≤ k) → get_or (stored s at b) k 0 ≡ get_or s k 0
byte_other s at b k h = by_fit (λ t. get_or t k 0 ≡ get_or s k 0) s at b (sets_other s at b k h) refl

-- a byte there is the one that was stored
pub byte_stored : (s : List ℕ) (at : ℕ) (b : List ℕ) (k : ℕ) → at + length b ≤ length s → k < length b → get_or (stored s at b) (at + k) 0 ≡ get_or b k 0
byte_stored s at b k h l = rw (stored_sets s at b h) (sets_same s at b k h l)

-- ---- numbers

-- the same bytes are the same number
pub same_word : (n : ℕ) (s t : List ℕ) (i j : ℕ) → ((k : ℕ) → k < n → get_or s (i + k) 0 ≡ get_or t (j + k) 0) → word n s i ≡ word n t j
unfolding word
same_word zero s t i j h = refl
same_word (suc n) s t i j h =
    let first : get_or s i 0 ≡ get_or t j 0 = subst (λ (a : ℕ). get_or s a 0 ≡ get_or t j 0) (add-zero i) (subst (λ (a : ℕ). get_or s (i + 0) 0 ≡ get_or t a 0) (add-zero j) (h 0 (omega arith))) in
    let others : (k : ℕ) → k < n → get_or s (suc i + k) 0 ≡ get_or t (suc j + k) 0 = λ k l. rw (suc-add i k, suc-add j k, ← add-suc i k, ← add-suc j k) (h (suc k) (omega arith)) in
    ap₂ (λ a b. a + 256 * b) first (same_word n s t (suc i) (suc j) others)

pub word_below : (n : ℕ) (s : List ℕ) (at : ℕ) → Bytes s → word n s at < 256 ^ n
unfolding word
word_below zero s at h = omega (arith, pow-zero 256)
word_below (suc n) s at h = omega (arith, h.byte at, word_below n s (suc at) h, pow-suc 256 n)

-- n bytes of a number that they can hold
pub word_little : (n x : ℕ) → x < 256 ^ n → word n (little n x) 0 ≡ x
unfolding word little
word_little zero x h = omega (arith, pow-zero 256)
word_little (suc n) x h =
    let q : x / 256 < 256 ^ n = (div-lt_iff_lt-mul (lit< tt)).1 (subst (λ (m : ℕ). x < m) (pow-suc 256 n) h) in
    let e : word n (x % 256 ∷ little n (x / 256)) 1 ≡ word n (little n (x / 256)) 0 = same_word n (x % 256 ∷ little n (x / 256)) (little n (x / 256)) 1 0 (λ k l. rw (suc-add 0 k)) in
    omega (arith, e, word_little n (x / 256) q)

-- what was put is got
pub put_got : (n : ℕ) (s : List ℕ) (at x : ℕ) → at + n ≤ length s → x < 256 ^ n → word_at n (stored s at (little n x)) at ≡ x
put_got n s at x h l =
    let w : at + length (little n x) ≤ length s = rw (length_little n x) h in
    let e : word n (stored s at (little n x)) at ≡ word n (little n x) 0 = same_word n (stored s at (little n x)) (little n x) at 0 (λ k m. rw (zero-add k) (byte_stored s at (little n x) k w (rw (length_little n x) m))) in
    word_in n (stored s at (little n x)) at (rw (length_stored s at (little n x)) h) ∙ e ∙ word_little n x l

-- a number elsewhere is as it was
pub word_other : (n : ℕ) (s : List ℕ) (at : ℕ) (b : List ℕ) (j : ℕ) → (j + n ≤ at) ⊎ (at + length b ≤ j) → word_at n (stored s at b) j ≡ word_at n s j
word_other n s at b j h =
    let t = stored s at b in
    let l = length_stored s at b in
    let e : word n t j ≡ word n s j = same_word n t s j j (λ k i. byte_other s at b (j + k) (⊎_elim (λ a. inl (omega arith)) (λ a. inr (omega arith)) h)) in
    ⊎_elim (λ f. word_in n t j (omega arith) ∙ e ∙ sym (word_in n s j f)) (λ o. word_out n t j (omega arith) ∙ sym (word_out n s j o)) (fit (j + n) (length s))

-- ---- parts

pub length_part : (s : List ℕ) (at n : ℕ) → at + n ≤ length s → length (part_at s at n) ≡ n
length_part s at n h = rw (part_in s at n h) (length_own s at n h)

pub byte_part : (s : List ℕ) (at n k : ℕ) → at + n ≤ length s → k < n → get_or (part_at s at n) k 0 ≡ get_or s (at + k) 0
byte_part s at n k h l = rw (part_in s at n h, get_or-take n (drop at s) k 0 l, get_or-drop at s k 0)

-- a number in a part stands in the slice
pub word_part : (n : ℕ) (s : List ℕ) (at m i : ℕ) → at + m ≤ length s → i + n ≤ m → word_at n (part_at s at m) i ≡ word_at n s (at + i)
word_part n s at m i h l =
    let e : word n (part_at s at m) i ≡ word n s (at + i) = same_word n (part_at s at m) s i (at + i) (λ k j. let q : at + i + k ≡ at + (i + k) = omega arith in rw q (byte_part s at m (i + k) h (omega arith))) in
    word_in n (part_at s at m) i (rw (length_part s at m h) l) ∙ e ∙ sym (word_in n s (at + i) (omega arith))

-- what was stored is cut out again
pub part_stored : (s : List ℕ) (at : ℕ) (b : List ℕ) → at + length b ≤ length s → part_at (stored s at b) at (length b) ≡ b
part_stored s at b h =
    ext_get_or 0 (part_at (stored s at b) at (length b)) b (length_part (stored s at b) at (length b) w)
    (λ k l. let m : k < length b = rw (length_part (stored s at b) at (length b) w) at l in byte_part (stored s at b) at (length b) k w m ∙ byte_stored s at b k h m)
  where
    w : at + length b ≤ length (stored s at b)
    w = rw (length_stored s at b) h

-- a part elsewhere is as it was
pub part_other : (s : List ℕ) (at : ℕ) (b : List ℕ) (j n : ℕ) → (j + n ≤ at) ⊎ (at + length b ≤ j) → part_at (stored s at b) j n ≡ part_at s j n
part_other s at b j n h =
    let t = stored s at b in
    let l = length_stored s at b in
    let same : (k : ℕ) → k < n → get_or t (j + k) 0 ≡ get_or s (j + k) 0 = λ k i. byte_other s at b (j + k) (⊎_elim (λ a. inl (omega arith)) (λ a. inr (omega arith)) h) in
    ⊎_elim (λ f. same_part t s j n (omega arith) f same) (λ o. part_out t j n (omega arith) ∙ sym (part_out s j n o)) (fit (j + n) (length s))
  where
    same_part : (t s : List ℕ) (j n : ℕ) → j + n ≤ length t → j + n ≤ length s → ((k : ℕ) → k < n → get_or t (j + k) 0 ≡ get_or s (j + k) 0) → part_at t j n ≡ part_at s j n
    same_part t s j n ht hs same =
        ext_get_or 0 (part_at t j n) (part_at s j n) (length_part t j n ht ∙ sym (length_part s j n hs))
        (λ k i. let m : k < n = rw (length_part t j n ht) at i in byte_part t j n k ht m ∙ same k m ∙ sym (byte_part s j n k hs m))

-- ---- one store after another

sets_append : (s : List ℕ) (at : ℕ) (a b : List ℕ) → sets (sets s at a) (at + length a) b ≡ sets s at (a ++ b)
sets_append s at [] b = rw (add-zero at)
sets_append s at (x ∷ a) b =
    let q : at + suc (length a) ≡ suc at + length a = omega arith in
    rw q (sets_append (set s at x) (suc at) a b)

-- right behind what was stored: one store of both
pub then_stored : (s : List ℕ) (at p : ℕ) (a b : List ℕ) → p ≡ at + length a → p + length b ≤ length s → stored (stored s at a) p b ≡ stored s at (a ++ b)
then_stored s at p a b e h =
    stored_sets (stored s at a) p b (rw (length_stored s at a) h)
    ∙ ap₂ (λ t k. sets t k b) (stored_sets s at a (omega arith)) e
    ∙ sets_append s at a b
    ∙ sym (stored_sets s at (a ++ b) (simp length-append (omega arith)))

pub stored_none : (s : List ℕ) (at : ℕ) → stored s at [] ≡ s
stored_none s at = by_fit (λ t. t ≡ s) s at [] refl refl

-- ---- a store into what was stored

set_before : (s : List ℕ) (p : ℕ) (a : List ℕ) (j v : ℕ) → j < p → set (sets s p a) j v ≡ sets (set s j v) p a
set_before s p [] j v h = refl
set_before s p (x ∷ a) j v h = set_before (set s p x) (suc p) a j v (omega arith) ∙ ap (λ t. sets t (suc p) a) (set_comm s p j x v (λ e. omega arith))

set_inside : (s : List ℕ) (at : ℕ) (a : List ℕ) (k v : ℕ) → k < length a → set (sets s at a) (at + k) v ≡ sets s at (set a k v)
set_inside s at [] k v h = absurd (omega arith)
set_inside s at (x ∷ a) zero v h = rw (add-zero at) (set_before (set s at x) (suc at) a at v (omega arith) ∙ ap (λ t. sets t (suc at) a) (set-set s at x v))
set_inside s at (x ∷ a) (suc k) v h =
    let q : at + suc k ≡ suc at + k = omega arith in
    rw q (set_inside (set s at x) (suc at) a k v (omega arith))

sets_inside : (s : List ℕ) (at : ℕ) (a : List ℕ) (k : ℕ) (b : List ℕ) → k + length b ≤ length a → sets (sets s at a) (at + k) b ≡ sets s at (sets a k b)
sets_inside s at a k [] h = refl
sets_inside s at a k (x ∷ b) h =
    let q : suc (at + k) ≡ at + suc k = omega arith in
    ap₂ (λ t j. sets t j b) (set_inside s at a k x (omega arith)) q ∙ sets_inside s at (set a k x) (suc k) b (simp length-set (omega arith))

pub stored_inside : (s : List ℕ) (at p : ℕ) (a : List ℕ) (k : ℕ) (b : List ℕ) → p ≡ at + k → at + length a ≤ length s → k + length b ≤ length a → stored (stored s at a) p b ≡ stored s at (stored a k b)
stored_inside s at p a k b e h l =
    stored_sets (stored s at a) p b (rw (length_stored s at a) (omega arith))
    ∙ ap₂ (λ t j. sets t j b) (stored_sets s at a h) e
    ∙ sets_inside s at a k b l
    ∙ ap (sets s at) (sym (stored_sets a k b l))
    ∙ sym (stored_sets s at (stored a k b) (rw (length_stored a k b) h))

-- two stores that lie apart may change places
pub stored_apart : (s : List ℕ) (a : ℕ) (x : List ℕ) (b : ℕ) (y : List ℕ) → a + length x ≤ b → b + length y ≤ length s → stored (stored s b y) a x ≡ stored (stored s a x) b y
stored_apart s a x b y l h =
    ext_get_or 0 _ _ (length_stored (stored s b y) a x ∙ length_stored s b y ∙ sym (length_stored (stored s a x) b y ∙ length_stored s a x)) (λ k _. at k (fit (suc k) a))
  where
    -- the byte k, before a, in x, between, in y, and after
    in_x : (i : ℕ) → i < length x → get_or (stored (stored s b y) a x) (a + i) 0 ≡ get_or (stored (stored s a x) b y) (a + i) 0
    in_x i j =
        byte_stored (stored s b y) a x i (rw (length_stored s b y) (omega arith)) j
        ∙ sym (byte_other (stored s a x) b y (a + i) (inl (omega arith)) ∙ byte_stored s a x i (omega arith) j)

    in_y : (i : ℕ) → i < length y → get_or (stored (stored s b y) a x) (b + i) 0 ≡ get_or (stored (stored s a x) b y) (b + i) 0
    in_y i j =
        byte_other (stored s b y) a x (b + i) (inr (omega arith)) ∙ byte_stored s b y i h j
        ∙ sym (byte_stored (stored s a x) b y i (rw (length_stored s a x) h) j)

    outside : (k : ℕ) → (k < a) ⊎ (a + length x ≤ k) → (k < b) ⊎ (b + length y ≤ k) → get_or (stored (stored s b y) a x) k 0 ≡ get_or (stored (stored s a x) b y) k 0
    outside k p q = byte_other (stored s b y) a x k p ∙ byte_other s b y k q ∙ sym (byte_other (stored s a x) b y k q ∙ byte_other s a x k p)

    past_y : (k : ℕ) → a + length x ≤ k → b ≤ k → (suc k ≤ b + length y) ⊎ (b + length y < suc k) → get_or (stored (stored s b y) a x) k 0 ≡ get_or (stored (stored s a x) b y) k 0
    past_y k p q (inl r) = let e : b + (k - b) ≡ k = omega arith in subst (λ j. get_or (stored (stored s b y) a x) j 0 ≡ get_or (stored (stored s a x) b y) j 0) e (in_y (k - b) (omega arith))
    past_y k p q (inr r) = outside k (inr p) (inr (omega arith))

    past_x : (k : ℕ) → a + length x ≤ k → (suc k ≤ b) ⊎ (b < suc k) → get_or (stored (stored s b y) a x) k 0 ≡ get_or (stored (stored s a x) b y) k 0
    past_x k p (inl r) = outside k (inr p) (inl r)
    past_x k p (inr r) = past_y k p (omega arith) (fit (suc k) (b + length y))

    from_a : (k : ℕ) → a ≤ k → (suc k ≤ a + length x) ⊎ (a + length x < suc k) → get_or (stored (stored s b y) a x) k 0 ≡ get_or (stored (stored s a x) b y) k 0
    from_a k p (inl r) = let e : a + (k - a) ≡ k = omega arith in subst (λ j. get_or (stored (stored s b y) a x) j 0 ≡ get_or (stored (stored s a x) b y) j 0) e (in_x (k - a) (omega arith))
    from_a k p (inr r) = past_x k (omega arith) (fit (suc k) b)

    at : (k : ℕ) → (suc k ≤ a) ⊎ (a < suc k) → get_or (stored (stored s b y) a x) k 0 ≡ get_or (stored (stored s a x) b y) k 0
    at k (inl r) = outside k (inl r) (inl (omega arith))
    at k (inr r) = from_a k (omega arith) (fit (suc k) (a + length x))

-- ---- at the front

pub stored_front : (s b : List ℕ) → length b ≤ length s → stored s 0 b ≡ b ++ drop (length b) s
stored_front s b h = rw (zero-add (length b)) at (stored_in s 0 b (omega arith))

zeroed : (n : ℕ) (s : List ℕ) → n ≤ length s → stored s 0 (zeros n) ≡ zeros n ++ drop n s
zeroed n s h = rw (length_zeros n) at (stored_front s (zeros n) (rw (length_zeros n) h))

-- a work slice that is long enough is left as the document says
pub clear_wiped : (s : List ℕ) → 65536 ≤ length s → stored s 0 (zeros 65536) ≡ wiped s
unfolding wiped
clear_wiped s h = zeroed 65536 s h

-- ---- numbers as the library reads them

zero_at : (m i : ℕ) → ◌≡◌ {A = ℕ} (get_or (replicate m 0) i 0) 0
zero_at zero i = refl
zero_at (suc m) zero = refl
zero_at (suc m) (suc i) = zero_at m i

word_zeros : (n m i : ℕ) → word n (replicate m 0) i ≡ 0
unfolding word
word_zeros zero m i = refl
word_zeros (suc n) m i = omega (arith, zero_at m i, word_zeros n m (suc i))

word_none : (n : ℕ) (b : List ℕ) (i : ℕ) → n ≡ 0 → word n b i ≡ 0
unfolding word
word_none zero b i e = refl
word_none (suc n) b i e = absurd (omega arith)

-- the first n bytes of the part of n bytes, or zeros where it is shorter
pub chunk_word : (n : ℕ) (s : List ℕ) (at : ℕ) (o : Option (Bor (List ℕ)))
    → MatchOption o (length (part_at s at n) < n) (λ y. IsFirstChunk (part_at s at n) y.now n)
    → word n (unwrap_or (option_copied o) (replicate n 0)) 0 ≡ word_at n s at
chunk_word n s at None h =
    ⊎_elim (λ f. absurd (omega (arith, length_part s at n f))) (λ o. word_zeros n n 0 ∙ sym (word_out n s at o)) (fit (at + n) (length s))
chunk_word n s at (Some y) h =
    ⊎_elim
    (λ f. same_word n y.now s 0 at (λ k l. rw (h.same, zero-add k) (get_or-take n (part_at s at n) k 0 l ∙ byte_part s at n k f l)) ∙ sym (word_in n s at f))
    (λ o. word_none n y.now 0 (omega (arith, h.enough, ap length (part_out s at n o))) ∙ sym (word_out n s at o))
    (fit (at + n) (length s))
