-- The places of a path's names: as they are put, and the path that they are. Assumes nothing.
use Prim.Native.Nat.{ℕ, zero, suc, ◌+◌, ◌*◌, ◌-◌, ◌≤◌, ◌<◌}
use native.Mathlib.Omega.{arith}
use native.Mathlib.Numerals.{add-one}
use mathlib.Core.Path.{◌≡◌, refl, sym, ◌∙◌, ap, ap₂, subst}
use mathlib.Core.List.{List, [], ◌∷◌, ◌++◌, append_assoc, append-nil}
use mathlib.Core.Logic.{◌⊎◌, inl}
use lib.ListN.{length, take, drop, get_or, length-append, length-drop, take-append-drop}
use lib.Seq.{take_at, drop_at, drop-drop, take-append-le, length-take-le}
use Rattle.paper.specs.Syntax.{Name, Path}
use Rattle.paper.specs.Layout.{little, name_text, names_text, path_text}
use Rattle.paper.specs.WellFormed.{IsPath}
use Rattle.theorems.proofs.Decoded.Parts.{length_little}
use Rattle.paper.specs.DecodeAt.{word}
use Rattle.memory.specs.Memory.{word_at, part_at, stored}
use Rattle.memory.proofs.Laws.{word_little, part_in, part_other, length_stored, stored_in, stored_none, then_stored}
use Rattle.rows.specs.View.{byte_of, label_text, name_of, groups}
use Rattle.rows.proofs.Groups.{groups_append, groups_own}
use Rattle.rows.proofs.Texts.{byte_first, part_first}
use Rattle.load.proofs.Values.{word_there, part_there, byte_there}
use Rattle.run.specs.Listed.{path_count, places}
use Rattle.run.specs.Paths.{names}

-- ---- one place after another

-- where the next name begins, n names behind q
unfoldable pub after : List ℕ → ℕ → ℕ → ℕ
after t q zero = q
after t q (suc n) = after t (q + 1 + get_or t q 0) n

pub after_none : (t : List ℕ) (q : ℕ) → q ≡ after t q 0
unfolding after
after_none t q = refl

after_suc : (t : List ℕ) (q n : ℕ) → after t q n + 1 + get_or t (after t q n) 0 ≡ after t q (suc n)
unfolding after
after_suc t q zero = refl
after_suc t q (suc n) = after_suc t (q + 1 + get_or t q 0) n

pub after_more : (t : List ℕ) (q n x b : ℕ) → x ≡ after t q n → b ≡ get_or t x 0 → x + 1 + b ≡ after t q (n + 1)
after_more t q n x b e f = rw (add-one n) (ap (λ k. x + 1 + k) f ∙ ap (λ k. k + 1 + get_or t k 0) e ∙ after_suc t q n)

pub length_places : (t : List ℕ) (q n : ℕ) → length (places t q n) ≡ n * 2
unfolding places
length_places t q zero = refl
length_places t q (suc n) = length-append (little 2 q) (places t (q + 1 + get_or t q 0) n) ∙ omega (arith, length_little 2 q, length_places t (q + 1 + get_or t q 0) n)

places_suc : (t : List ℕ) (q n : ℕ) → places t q (suc n) ≡ places t q n ++ little 2 (after t q n)
unfolding places after
places_suc t q zero = append-nil (little 2 q)
places_suc t q (suc n) = ap (λ r. little 2 q ++ r) (places_suc t (q + 1 + get_or t q 0) n) ∙ sym (append_assoc (little 2 q) (places t (q + 1 + get_or t q 0) n) (little 2 (after t (q + 1 + get_or t q 0) n)))

pub places_more : (t : List ℕ) (q n : ℕ) → places t q (n + 1) ≡ places t q n ++ little 2 (after t q n)
places_more t q n = rw (add-one n) (places_suc t q n)

pub put_none : (t w : List ℕ) (q at : ℕ) → w ≡ stored w at (places t q 0)
unfolding places
put_none t w q at = sym (stored_none w at)

pub put_turn : (t w v v' : List ℕ) (q at i x : ℕ) → at + (i + 1) * 2 ≤ length w → x ≡ after t q i → v ≡ stored w at (places t q i) → v' ≡ stored v (at + i * 2) (little 2 x) → v' ≡ stored w at (places t q (i + 1))
put_turn t w v v' q at i x h d e f =
    f ∙ ap (λ y. stored y (at + i * 2) (little 2 x)) e
    ∙ then_stored w at (at + i * 2) (places t q i) (little 2 x) (omega (arith, length_places t q i)) (omega (arith, length_little 2 x))
    ∙ ap (λ k. stored w at (places t q i ++ little 2 k)) d
    ∙ ap (stored w at) (sym (places_more t q i))

pub put_end : (t w v : List ℕ) (q at i n : ℕ) → i ≤ n → (i < n → ⊥) → v ≡ stored w at (places t q i) → v ≡ stored w at (places t q n)
put_end t w v q at i n l h e = let k : i ≡ n = omega arith in e ∙ ap (λ j. stored w at (places t q j)) k

-- ---- names where they stand

pub label_there : (t u : List ℕ) (q : ℕ) (n : Name) (more : List ℕ) → q < 32768 → drop q t ≡ name_text n ++ more → label_text t u q ≡ name_text n
unfolding label_text name_text
label_there t u q n more h e =
    let b : byte_of t u q ≡ length n = byte_first t u q h ∙ byte_there t (n ++ more) q (length n) e in
    let l : length t - q ≡ suc (length n + length more) = sym (length-drop q t) ∙ ap length e ∙ ap suc (length-append n more) in
    rw b (part_first t u q (1 + length n) h ∙ part_there t (name_text n) more q (1 + length n) (omega arith) (omega arith) e)

-- a name begins in the text
begins : (t : List ℕ) (q : ℕ) (n : Name) (more : List ℕ) → length t ≤ 32768 → drop q t ≡ name_text n ++ more → q < 32768
unfolding name_text
begins t q n more h e = omega (arith, sym (length-drop q t) ∙ ap length e)

name_there : (t u : List ℕ) (q : ℕ) (n : Name) (more : List ℕ) → length t ≤ 32768 → drop q t ≡ name_text n ++ more → name_of t u q ≡ n
unfolding name_of name_text
name_there t u q n more h e = ap (drop 1) (label_there t u q n more (begins t q n more h e) e)

-- and the next stands right behind
name_next : (t : List ℕ) (q : ℕ) (n : Name) (more : List ℕ) → drop q t ≡ name_text n ++ more → drop (q + 1 + get_or t q 0) t ≡ more
unfolding name_text
name_next t q n more e =
    let j : q + 1 + get_or t q 0 ≡ q + suc (length n) = omega (arith, byte_there t (n ++ more) q (length n) e) in
    ap (λ k. drop k t) j ∙ sym (drop-drop (suc (length n)) q t) ∙ ap (drop (suc (length n))) e ∙ drop_at (name_text n) more (suc (length n)) refl

names_more : (n : Name) (r : Path) (more : List ℕ) → names_text (n ∷ r) ++ more ≡ name_text n ++ (names_text r ++ more)
unfolding names_text
names_more n r more = append_assoc (name_text n) (names_text r) more

pub names_placed : (t u : List ℕ) (q : ℕ) (r : Path) (more z : List ℕ) → length t ≤ 32768 → drop q t ≡ names_text r ++ more → names t u (places t q (length r) ++ z) (length r) ≡ r
unfolding names groups places
names_placed t u q [] more z h e = refl
names_placed t u q (n ∷ r) more z h e =
    let f : drop q t ≡ name_text n ++ (names_text r ++ more) = e ∙ names_more n r more in
    let a = little 2 q in
    let b = places t (q + 1 + get_or t q 0) (length r) in
    let l = begins t q n (names_text r ++ more) h f in
    let g : (a ++ b) ++ z ≡ a ++ (b ++ z) = append_assoc a b z in
    let w : word 2 (take 2 ((a ++ b) ++ z)) 0 ≡ q = ap (λ x. word 2 (take 2 x) 0) g ∙ ap (λ x. word 2 x 0) (take_at a (b ++ z) 2 (length_little 2 q)) ∙ word_little 2 q (omega arith) in
    let one : name_of t u (word 2 (take 2 ((a ++ b) ++ z)) 0) ≡ n = ap (name_of t u) w ∙ name_there t u q n (names_text r ++ more) h f in
    let others : names t u (drop 2 ((a ++ b) ++ z)) (length r) ≡ r =
    ap (λ x. names t u x (length r)) (ap (drop 2) g ∙ drop_at a (b ++ z) 2 (length_little 2 q))
    ∙ names_placed t u (q + 1 + get_or t q 0) r more z h (name_next t q n (names_text r ++ more) f) in
    (λ i. one i ∷ others i)

-- the path's count, and its names behind it
path_names : (t : List ℕ) (p : ℕ) (r : Path) (more : List ℕ) → drop p t ≡ path_text r ++ more → drop (p + 1) t ≡ names_text r ++ more
unfolding path_text
path_names t p r more e = sym (drop-drop 1 p t) ∙ ap (drop 1) e

pub path_counted : (t : List ℕ) (p : ℕ) (r : Path) (more : List ℕ) → length r ≤ 32 → drop p t ≡ path_text r ++ more → path_count t p ≡ length r
unfolding path_text path_count
path_counted t p r more h e = omega (arith, byte_there t (names_text r ++ more) p (length r) e)

pub path_placed : (t u : List ℕ) (p : ℕ) (r : Path) (more : List ℕ) → IsPath r → length t ≤ 32768 → drop p t ≡ path_text r ++ more
    → (path_count t p ≡ length r) × ((z : List ℕ) → names t u (places t (p + 1) (length r) ++ z) (length r) ≡ r)
path_placed t u p r more P h e = (path_counted t p r more P.few e, λ z. names_placed t u (p + 1) r more z h (path_names t p r more e))

-- ---- the last name

after_there : (t : List ℕ) (q : ℕ) (r : Path) (more : List ℕ) → drop q t ≡ names_text r ++ more → drop (after t q (length r)) t ≡ more
unfolding after names_text
after_there t q [] more e = e
after_there t q (n ∷ r) more e = after_there t (q + 1 + get_or t q 0) r more (name_next t q n (names_text r ++ more) (e ∙ names_more n r more))

names-++ : (a b : Path) → names_text (a ++ b) ≡ names_text a ++ names_text b
unfolding names_text
names-++ [] b = refl
names-++ (n ∷ a) b = ap (λ x. name_text n ++ x) (names-++ a b) ∙ sym (append_assoc (name_text n) (names_text a) (names_text b))

-- where the last name of a path begins
pub record LastAt (t u : List ℕ) (q : ℕ) (n : Name) : Type 0 where
  pub low : q < 32768
  pub label : label_text t u q ≡ name_text n

module _ (t u : List ℕ) (p : ℕ) (r front : Path) (n : Name) (more z : List ℕ) (is : r ≡ front ++ (n ∷ [])) (h : length t ≤ 32768) (e : drop p t ≡ path_text r ++ more) where
  last_names : drop (p + 1) t ≡ names_text front ++ (name_text n ++ more)
  unfolding names_text
  last_names =
      path_names t p r more e ∙ ap (λ x. names_text x ++ more) is ∙ ap (λ x. x ++ more) (names-++ front (n ∷ []) ∙ ap (λ x. names_text front ++ x) (append-nil (name_text n)))
      ∙ append_assoc (names_text front) (name_text n) more

  abbrev last_place : ℕ
  last_place = after t (p + 1) (length front)

  last_there : drop last_place t ≡ name_text n ++ more
  last_there = after_there t (p + 1) front (name_text n ++ more) last_names

  last_low : last_place < 32768
  last_low = begins t last_place n more h last_there

  last_word : word_at 2 (places t (p + 1) (length r) ++ z) ((length r - 1) * 2) ≡ last_place
  last_word =
      let k : length r ≡ length front + 1 = ap length is ∙ length-append front (n ∷ []) in
      let j : (length r - 1) * 2 ≡ length front * 2 = omega arith in
      let a = places t (p + 1) (length front) in
      let g : places t (p + 1) (length r) ++ z ≡ a ++ (little 2 last_place ++ z) =
      ap (λ m. places t (p + 1) m ++ z) k ∙ ap (λ x. x ++ z) (places_more t (p + 1) (length front)) ∙ append_assoc a (little 2 last_place) z in
      let low = last_low in
      let la : length a ≡ length front * 2 = length_places t (p + 1) (length front) in
      ap (λ m. word_at 2 (places t (p + 1) (length r) ++ z) m) j
      ∙ word_there 2 last_place (places t (p + 1) (length r) ++ z) z (length front * 2) (omega arith) (omega arith) (ap (drop (length front * 2)) g ∙ drop_at a (little 2 last_place ++ z) (length front * 2) la)

  pub last_placed : LastAt t u (word_at 2 (places t (p + 1) (length r) ++ z) ((length r - 1) * 2)) n
  last_placed = subst (λ q. LastAt t u q n) (sym last_word) (record { low = last_low; label = label_there t u last_place n more last_low last_there })

-- ---- names among other bytes

pub names_front : (t u b y : List ℕ) (k : ℕ) → k * 2 ≤ length b → names t u (b ++ y) k ≡ names t u b k
unfolding names
names_front t u b y k h =
    let f : List ℕ → Name = λ x. name_of t u (word 2 x 0) in
    groups_own 2 f k (b ++ y) (omega (arith, length-append b y)) ∙ ap (λ x. groups 2 f x k) (take-append-le (k * 2) b y h) ∙ sym (groups_own 2 f k b h)

pub names_split : (t u w : List ℕ) (j k : ℕ) → j * 2 ≤ length w → names t u w (j + k) ≡ names t u w j ++ names t u (drop (j * 2) w) k
unfolding names
names_split t u w j k h =
    let f : List ℕ → Name = λ x. name_of t u (word 2 x 0) in
    let a = take (j * 2) w in
    let b = drop (j * 2) w in
    ap (λ x. groups 2 f x (j + k)) (sym (take-append-drop (j * 2) w)) ∙ groups_append 2 f j k a b (length-take-le (j * 2) w h)
    ∙ ap (λ x. x ++ groups 2 f b k) (sym (groups_own 2 f j w h))

-- ---- names after a store

drop_stored : (s : List ℕ) (at : ℕ) (b : List ℕ) → at + length b ≤ length s → drop at (stored s at b) ≡ b ++ drop (at + length b) s
drop_stored s at b h =
    let r = drop (at + length b) s in
    ap (drop at) (stored_in s at b h ∙ append_assoc (take at s) b r) ∙ drop_at (take at s) (b ++ r) at (length-take-le at s (omega arith))

-- of what was stored
pub names_stored : (t u s : List ℕ) (at : ℕ) (b : List ℕ) (k : ℕ) → k * 2 ≤ length b → at + length b ≤ length s → names t u (drop at (stored s at b)) k ≡ names t u b k
names_stored t u s at b k h l = ap (λ x. names t u x k) (drop_stored s at b l) ∙ names_front t u b (drop (at + length b) s) k h

names_part : (t u s : List ℕ) (base j : ℕ) → base + j * 2 ≤ length s → names t u (drop base s) j ≡ names t u (part_at s base (j * 2)) j
unfolding names
names_part t u s base j h =
    let f : List ℕ → Name = λ x. name_of t u (word 2 x 0) in
    groups_own 2 f j (drop base s) (omega (arith, length-drop base s)) ∙ ap (λ x. groups 2 f x j) (sym (part_in s base (j * 2) h))

-- of what lies elsewhere
pub names_kept : (t u s : List ℕ) (base j at : ℕ) (b : List ℕ) → (base + j * 2 ≤ at) ⊎ (at + length b ≤ base) → base + j * 2 ≤ length s → names t u (drop base (stored s at b)) j ≡ names t u (drop base s) j
names_kept t u s base j at b h l =
    names_part t u (stored s at b) base j (omega (arith, length_stored s at b)) ∙ ap (λ x. names t u x j) (part_other s at b base (j * 2) h) ∙ sym (names_part t u s base j l)

-- of both, the one right behind the other
pub names_joined : (t u s : List ℕ) (base j at : ℕ) (b : List ℕ) (k : ℕ) → at ≡ base + j * 2 → length b ≡ k * 2 → at + length b ≤ length s
    → names t u (drop base (stored s at b)) (j + k) ≡ names t u (drop base s) j ++ names t u b k
names_joined t u s base j at b k e h l =
    let w = stored s at b in
    let d : drop (j * 2) (drop base w) ≡ drop at w = drop-drop (j * 2) base w ∙ ap (λ m. drop m w) (sym e) in
    names_split t u (drop base w) j k (omega (arith, length-drop base w, length_stored s at b))
    ∙ ap₂ (λ x y. x ++ y) (names_kept t u s base j at b (inl (omega arith)) (omega arith)) (ap (λ x. names t u x k) d ∙ names_stored t u s at b k (omega arith) l)
