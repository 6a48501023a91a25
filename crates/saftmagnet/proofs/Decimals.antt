-- `decimal n` is n in decimal notation, the only one, and it is what std writes of n. Assumes nothing.
use mathlib.Core.Path.{◌≡◌, refl, sym, ap, ap₂, ◌∙◌}
use mathlib.Core.Bool.{Bool, true, false, ◌&&◌}
use mathlib.Core.List.{List, [], ◌∷◌, ◌++◌}
use mathlib.Core.Logic.{⊎_elim}
use Prim.Native.Nat.{ℕ, zero, suc, ◌+◌, ◌-◌, ◌*◌, ◌/◌, ◌%◌, ◌^◌, ◌≤◌, ◌<◌}
use native.Mathlib.Nat.{le_refl, le_trans, mod-lt, div-add-mod'}
use native.Mathlib.Omega.{arith}
use borrow.Author.Tests.{leb-true, lt-ltb, le-ltb, le-leb}
use lib.Dec.{leb, lit<}
use lib.ListN.{length, length-append}
use Rattle.std.specs.Fmt.{decimal as shown}
use Rattle.std.proofs.lemmas.Fmt.{decimal_by_steps}
use Rattle.memory.proofs.Laws.{fit}
use Rattle.paper.specs.Tokens.{digit, count}
use Rattle.paper.specs.Written.{Each, no_more, one_more, Digits}
use Rattle.paper.specs.Written.{digits as some_digits}
use Rattle.saftmagnet.specs.Line.{digits, decimal, Notes}

-- ---- a digit alone, and a digit behind others

alone : (k n : ℕ) → n < 10 → digits k n ≡ (48 + n) ∷ []
unfolding digits
alone zero n h = refl
alone (suc k) n h = rw (lt-ltb n 10 h, digits)

behind : (k n : ℕ) → 10 ≤ n → digits (suc k) n ≡ digits k (n / 10) ++ ((48 + n % 10) ∷ [])
unfolding digits
behind k n h = rw (le-ltb n 10 h, digits)

a_digit : (d : ℕ) → d < 10 → digit (48 + d) ≡ true
unfolding digit
a_digit d h = rw (le-leb 48 (48 + d) (omega arith), le-leb (48 + d) 57 (omega arith))

both : (x y : Bool) → (x && y) ≡ true → (x ≡ true) × (y ≡ true)
both true y e = (refl, e)
both false y e = absurd (let z : ◌≡◌ {A = ℕ} 0 1 = cc in omega arith)

digit_range : (b : ℕ) → digit b ≡ true → (48 ≤ b) × (b ≤ 57)
unfolding digit
digit_range b e =
    let f = both (leb 48 b) (leb b 57) e in
    (leb-true 48 b f.0, leb-true b 57 f.1)

-- ---- what digits say

count-++ : (v : ℕ) (s t : List ℕ) → count v (s ++ t) ≡ count (count v s) t
unfolding count
count-++ v [] t = refl
count-++ v (b ∷ s) t = count-++ (v * 10 + (b - 48)) s t

count_behind : (s : List ℕ) (b : ℕ) → count 0 (s ++ (b ∷ [])) ≡ count 0 s * 10 + (b - 48)
unfolding count
count_behind s b = count-++ 0 s (b ∷ [])

grows : (v : ℕ) (s : List ℕ) → v ≤ count v s
unfolding count
grows v [] = le_refl v
grows v (b ∷ s) = le_trans (omega arith) (grows (v * 10 + (b - 48)) s)

each-++ : {s t : List ℕ} → Each digit s → Each digit t → Each digit (s ++ t)
each-++ no_more f = f
each-++ (one_more e es) f = one_more e (each-++ es f)

each_front : (s t : List ℕ) → Each digit (s ++ t) → Each digit s
each_front [] t e = no_more
each_front (b ∷ s) t (one_more e es) = one_more e (each_front s t es)

each_last : (s : List ℕ) (b : ℕ) → Each digit (s ++ (b ∷ [])) → digit b ≡ true
each_last [] b (one_more e es) = e
each_last (c ∷ s) b (one_more e es) = each_last s b es

all_of : {s : List ℕ} → Digits s → Each digit s
all_of (some_digits e) = e

some_of : {s : List ℕ} → Digits s → 1 ≤ length s
some_of (some_digits {s = s} e) = omega arith

-- ---- `decimal` is the notation

notes_one : (n : ℕ) → n < 10 → Notes n ((48 + n) ∷ [])
unfolding count
notes_one n h = record { says = omega arith; some = some_digits (one_more (a_digit n h) no_more); first = λ t e. cc }

some_more : {s : List ℕ} (d : ℕ) → d < 10 → Digits s → Digits (s ++ ((48 + d) ∷ []))
some_more d h (some_digits e) = some_digits (each-++ e (one_more (a_digit d h) no_more))

-- the first digit of a number from 1 on is no 0
first_more : (n : ℕ) (s : List ℕ) (d : ℕ) (t : List ℕ) → 1 ≤ n → Notes n s → s ++ (d ∷ []) ≡ 48 ∷ t → t ≡ []
unfolding count
first_more n [] d t h f e = cc
first_more n (b ∷ s) d t h f e =
    let b48 : b ≡ 48 = cc in
    let none : s ≡ [] = f.first s (cc) in
    let z : count 0 (48 ∷ []) ≡ n = rw (b48, none) at f.says in
    absurd (omega arith)

notes_more : (n : ℕ) (s : List ℕ) → 10 ≤ n → Notes (n / 10) s → Notes n (s ++ ((48 + n % 10) ∷ []))
notes_more n s h f =
    let m = mod-lt n {m = 10} (lit< tt) in
    let q = div-add-mod' n 10 in
    record {
      says = count_behind s (48 + n % 10) ∙ omega (arith, f.says);
      some = some_more (n % 10) m f.some;
      first = λ t e. first_more (n / 10) s (48 + n % 10) t (omega arith) f e;
    }

notes : (k n : ℕ) → n ≤ k → Notes n (digits k n)
notes zero n h = rw (alone zero n (omega arith)) (notes_one n (omega arith))
notes (suc k) n h =
    ⊎_elim
    (λ l. rw (alone (suc k) n (omega arith)) (notes_one n (omega arith)))
    (λ l. rw (behind k n l) (notes_more n (digits k (n / 10)) l (notes k (n / 10) (omega (arith, div-add-mod' n 10)))))
    (fit n 9)

pub is_decimal : (n : ℕ) → Notes n (decimal n)
unfolding decimal
is_decimal n = notes n n (le_refl n)

-- ---- there is no other

data End : List ℕ → Type 0 where
  none : End []
  last : (t : List ℕ) (b : ℕ) → End (t ++ (b ∷ []))

before_end : (b : ℕ) {s : List ℕ} → End s → End (b ∷ s)
before_end b none = last [] b
before_end b (last t c) = last (b ∷ t) c

end : (s : List ℕ) → End s
end [] = none
end (b ∷ s) = before_end b (end s)

-- of two digits or more the first is no 0, and those before the last are a number's too
no_zero : (n : ℕ) (c : ℕ) (t : List ℕ) (b : ℕ) → Notes n ((c ∷ t) ++ (b ∷ [])) → c ≡ 48 → ⊥
no_zero n c t b f e =
    let l : length (t ++ (b ∷ [])) ≡ 0 = ap length (f.first (t ++ (b ∷ [])) (cc)) in
    omega (arith, l, length-append t (b ∷ []))

notes_front : (n : ℕ) (c : ℕ) (t : List ℕ) (b : ℕ) → Notes n ((c ∷ t) ++ (b ∷ [])) → Notes (count 0 (c ∷ t)) (c ∷ t)
notes_front n c t b f =
    record {
      says = refl;
      some = some_digits (each_front (c ∷ t) (b ∷ []) (all_of f.some));
      first = λ r e. absurd (no_zero n c t b f (cc));
    }

first_digit : {c : ℕ} {s : List ℕ} → Each digit (c ∷ s) → digit c ≡ true
first_digit (one_more e es) = e

front_large : (n : ℕ) (c : ℕ) (t : List ℕ) (b : ℕ) → Notes n ((c ∷ t) ++ (b ∷ [])) → 1 ≤ count 0 (c ∷ t)
unfolding count
front_large n c t b f =
    let d = digit_range c (first_digit (all_of f.some)) in
    let g = grows (0 * 10 + (c - 48)) t in
    ⊎_elim (λ l. absurd (no_zero n c t b f (omega arith))) (λ l. le_trans (omega arith) g) (fit c 48)

abbrev Only : ℕ → Type 0
Only k = (n : ℕ) (s : List ℕ) → n ≤ k → Notes n s → s ≡ digits k n

only_one : (k n b : ℕ) → Notes n (b ∷ []) → b ∷ [] ≡ digits k n
unfolding count
only_one k n b f =
    let d = digit_range b (each_last [] b (all_of f.some)) in
    let v : 0 * 10 + (b - 48) ≡ n = f.says in
    let e : b ≡ 48 + n = omega arith in
    ap (λ (x : ℕ). x ∷ []) e ∙ sym (alone k n (omega arith))

many_large : (n c : ℕ) (t : List ℕ) (b : ℕ) → Notes n ((c ∷ t) ++ (b ∷ [])) → 10 ≤ n
many_large n c t b f = omega (arith, front_large n c t b f, count_behind (c ∷ t) b, f.says)

only_many : (k : ℕ) → Only k → (n c : ℕ) (t : List ℕ) (b : ℕ) → n ≤ suc k → Notes n ((c ∷ t) ++ (b ∷ [])) → (c ∷ t) ++ (b ∷ []) ≡ digits (suc k) n
only_many k below n c t b h f =
    let q = many_large n c t b f in
    let v : count 0 (c ∷ t) * 10 + (b - 48) ≡ n = sym (count_behind (c ∷ t) b) ∙ f.says in
    let d = digit_range b (each_last (c ∷ t) b (all_of f.some)) in
    let a = div-add-mod' n 10 in
    let m = mod-lt n {m = 10} (lit< tt) in
    let e : count 0 (c ∷ t) ≡ n / 10 = omega arith in
    let o : b ≡ 48 + n % 10 = omega arith in
    let g = below (count 0 (c ∷ t)) (c ∷ t) (omega arith) (notes_front n c t b f) in
    ap (λ (x : List ℕ). x ++ (b ∷ [])) g ∙ ap₂ (λ (x y : ℕ). digits k x ++ (y ∷ [])) e o ∙ sym (behind k n q)

only_zero : {s : List ℕ} → End s → (n : ℕ) → n ≤ 0 → Notes n s → s ≡ digits 0 n
only_zero none n h f = absurd (omega (arith, some_of f.some))
only_zero (last [] b) n h f = only_one 0 n b f
only_zero (last (c ∷ t) b) n h f = absurd (omega (arith, many_large n c t b f))

only_suc : (k : ℕ) → Only k → {s : List ℕ} → End s → (n : ℕ) → n ≤ suc k → Notes n s → s ≡ digits (suc k) n
only_suc k below none n h f = absurd (omega (arith, some_of f.some))
only_suc k below (last [] b) n h f = only_one (suc k) n b f
only_suc k below (last (c ∷ t) b) n h f = only_many k below n c t b h f

only : (k : ℕ) → Only k
only zero n s h f = only_zero (end s) n h f
only (suc k) n s h f = only_suc k (only k) (end s) n h f

pub only_decimal : (n : ℕ) (s : List ℕ) → Notes n s → s ≡ decimal n
unfolding decimal
only_decimal n s f = only n n s (le_refl n) f

-- ---- what std writes of a number of 64 bits

pub written : (n : ℕ) → n < 2 ^ 64 → shown n ≡ decimal n
written n h = only_decimal n (shown n) (decimal_by_steps Notes notes_one notes_more n h)
