-- A component's table as it is written: records one by one, the header, the text. Assumes nothing.
use Prim.Native.Nat.{ℕ, zero, suc, ◌+◌, ◌*◌, ◌-◌, ◌≤◌, ◌<◌}
use native.Mathlib.Omega.{arith}
use native.Mathlib.Nat.{add-zero}
use native.Mathlib.Numerals.{add-one}
use mathlib.Core.Path.{◌≡◌, refl, sym, ◌∙◌, ap}
use mathlib.Core.List.{List, ◌++◌, append_assoc, append-nil}
use lib.ListN.{length, take, drop, get_or, length-append}
use borrow.Author.Tests.{le-leb, lt-leb, eq-eqb, ne_eqb, lt-ltb, le-ltb}
use Rattle.paper.specs.Bytes.{when◌then◌else◌}
use Rattle.paper.specs.Layout.{little}
use Rattle.theorems.proofs.Decoded.Parts.{length_little}
use Rattle.paper.specs.DecodeAt.{word, headed}
use Rattle.memory.specs.Memory.{word_at, part_at, stored}
use Rattle.memory.proofs.Laws.{word_in, part_in, length_own, stored_none, then_stored}
use Rattle.main_table.specs.Lower.{moved_label, moved_value, lowered, lowered_all, text_from, text_to, lowered_table}

-- ---- one store after another

-- a run is stored right behind another
next : (s t u : List ℕ) (at p : ℕ) (a b : List ℕ) → t ≡ stored s at a → u ≡ stored t p b → p ≡ at + length a → p + length b ≤ length s → u ≡ stored s at (a ++ b)
next s t u at p a b e f q h = f ∙ ap (λ x. stored x p b) e ∙ then_stored s at p a b q h

-- ---- a record

pub row_lowered : (recs : List ℕ) (i from k d₀ d l₀ l m v₀ v : ℕ) → i + 16 ≤ length recs → k ≡ word_at 2 recs i → d₀ ≡ word_at 2 recs (i + 2) → d ≡ d₀ - 1 → l₀ ≡ word_at 2 recs (i + 4) → l ≡ moved_label from l₀
    → m ≡ word_at 2 recs (i + 6) → v₀ ≡ word_at 8 recs (i + 8) → v ≡ moved_value from k v₀ → little 2 k ++ (little 2 d ++ (little 2 l ++ (little 2 m ++ little 8 v))) ≡ lowered recs i from
unfolding lowered
row_lowered recs i from k d₀ d l₀ l m v₀ v h ek ed₀ ed el₀ el em ev₀ ev =
    let fk = ek ∙ word_in 2 recs i (omega arith) in
    let fd = ed₀ ∙ word_in 2 recs (i + 2) (omega arith) in
    let fl = el₀ ∙ word_in 2 recs (i + 4) (omega arith) in
    let fm = em ∙ word_in 2 recs (i + 6) (omega arith) in
    let fv = ev₀ ∙ word_in 8 recs (i + 8) (omega arith) in
    rw (ev, el, ed, fv, fm, fl, fd, fk)

pub lowered_length : (recs : List ℕ) (i from : ℕ) → length (lowered recs i from) ≡ 16
unfolding lowered
lowered_length recs i from = simp (length-append, length_little)

pub all_length : (recs : List ℕ) (n i from : ℕ) → length (lowered_all recs i from n) ≡ 16 * n
unfolding lowered_all
all_length recs zero i from = refl
all_length recs (suc n) i from = simp length-append (omega (arith, lowered_length recs i from, all_length recs n (i + 16) from))

pub all_none : (recs : List ℕ) (i from : ℕ) (s : List ℕ) → s ≡ stored s 24 (lowered_all recs i from 0)
unfolding lowered_all
all_none recs i from s = sym (stored_none s 24)

all_more : (recs : List ℕ) (k i from : ℕ) → lowered_all recs i from (k + 1) ≡ lowered_all recs i from k ++ lowered recs (i + 16 * k) from
unfolding lowered_all
all_more recs zero i from = append-nil (lowered recs i from) ∙ ap (λ j. lowered recs j from) (sym (add-zero i))
all_more recs (suc k) i from =
    let q : i + 16 + 16 * k ≡ i + 16 * suc k = omega arith in
    ap (lowered_all recs i from) (add-one (suc k))
    ∙ ap (λ x. lowered recs i from ++ x)
    (ap (lowered_all recs (i + 16) from) (sym (add-one k)) ∙ all_more recs k (i + 16) from ∙ ap (λ j. lowered_all recs (i + 16) from k ++ lowered recs j from) q)
    ∙ sym (append_assoc (lowered recs i from) (lowered_all recs (i + 16) from k) (lowered recs (i + 16 * suc k) from))

pub all_turn : (recs : List ℕ) (s t u : List ℕ) (k i from : ℕ) → 24 + 16 * k + 16 ≤ length s → t ≡ stored s 24 (lowered_all recs i from k) → u ≡ stored t (24 + 16 * k) (lowered recs (i + 16 * k) from) → u ≡ stored s 24 (lowered_all recs i from (k + 1))
all_turn recs s t u k i from h e f =
    next s t u 24 (24 + 16 * k) (lowered_all recs i from k) (lowered recs (i + 16 * k) from) e f (rw (all_length recs k i from)) (rw (lowered_length recs (i + 16 * k) from) h)
    ∙ ap (stored s 24) (sym (all_more recs k i from))

-- ---- the header

-- of a table
abbrev pub head : ℕ → ℕ → List ℕ
head n t = little 4 2 ++ (little 4 (24 + 16 * n + t) ++ (little 4 n ++ (little 4 24 ++ (little 4 t ++ little 4 (24 + 16 * n)))))

-- ---- places

pub label_none : (from l : ℕ) → l ≡ 65535 → l ≡ moved_label from l
unfolding moved_label when◌then◌else◌
label_none from l e = rw (eq-eqb l 65535 e)

pub label_some : (from l r : ℕ) → (l ≡ 65535 → ⊥) → r ≡ l - from → r ≡ moved_label from l
unfolding moved_label when◌then◌else◌
label_some from l r h e = rw (ne_eqb l 65535 h) e

pub value_low : (from k v : ℕ) → k < 4 → v ≡ moved_value from k v
unfolding moved_value when◌then◌else◌
value_low from k v h = rw (lt-leb 4 k h)

pub value_high : (from k v : ℕ) → 4 ≤ k → 6 < k → v ≡ moved_value from k v
unfolding moved_value when◌then◌else◌
value_high from k v g h = rw (le-leb 4 k g, lt-leb k 6 h)

pub value_text : (from k v r : ℕ) → 4 ≤ k → k ≤ 6 → r ≡ v - from → r ≡ moved_value from k v
unfolding moved_value when◌then◌else◌
value_text from k v r g h e = rw (le-leb 4 k g, le-leb k 6 h) e

pub to_next : (recs text : List ℕ) (j r : ℕ) → j < length recs → r ≡ word 2 recs (j + 4) → r ≡ text_to recs text j
unfolding text_to when◌then◌else◌
to_next recs text j r h e = rw (lt-ltb j (length recs) h) e

pub to_end : (recs text : List ℕ) (j : ℕ) → length recs ≤ j → length text ≡ text_to recs text j
unfolding text_to when◌then◌else◌
to_end recs text j h = rw (le-ltb j (length recs) h)

pub from_is : (recs text : List ℕ) (i p b : ℕ) → p ≡ word 2 recs (i + 4) → b ≡ get_or text p 0 → p + 1 + b ≡ text_from recs text i
unfolding text_from
from_is recs text i p b e f = rw (f, e)

-- ---- the whole

front_length : (n t : ℕ) → length (head n t) ≡ 24
front_length n t = simp (length-append, length_little)

front_headed : (n t : ℕ) (a p : List ℕ) → length p ≡ t → (head n t ++ a) ++ p ≡ headed 2 n (24 + 16 * n) a p
unfolding headed
front_headed n t a p e = rw e (simp append_assoc)

pub lowered_is : (recs text : List ℕ) (i n from to : ℕ) → n ≡ word 2 recs (i + 6) - 1 → from ≡ text_from recs text i → to ≡ text_to recs text (i + 16 + 16 * n)
    → headed 2 n (24 + 16 * n) (lowered_all recs (i + 16) from n) (take (to - from) (drop from text)) ≡ lowered_table recs text i
unfolding lowered_table
lowered_is recs text i n from to en ef et = rw (et, ef, en)

module _ (recs text s₀ s₁ s₂ s₃ : List ℕ) (i n from to : ℕ) (en : n ≡ word 2 recs (i + 6) - 1) (ef : from ≡ text_from recs text i) (et : to ≡ text_to recs text (i + 16 + 16 * n))
    (on : from ≤ to) (end : to ≤ length text) (short : length text ≤ 16384) (few : n ≤ 1024) (room : 32792 ≤ length s₀) where
  part_long : length (take (to - from) (drop from text)) ≡ to - from
  part_long = length_own text from (to - from) (omega arith)

  pub table_stored : s₁ ≡ stored s₀ 0 (head n (to - from)) → s₂ ≡ stored s₁ 24 (lowered_all recs (i + 16) from n) → s₃ ≡ stored s₂ (24 + 16 * n) (part_at text from (to - from)) → s₃ ≡ stored s₀ 0 (lowered_table recs text i)
  table_stored e₁ e₂ e₃ =
      let a = lowered_all recs (i + 16) from n in
      let p = take (to - from) (drop from text) in
      let la = all_length recs n (i + 16) from in
      let lf = front_length n (to - from) in
      let f₂ : s₂ ≡ stored s₀ 0 (head n (to - from) ++ a) = next s₀ s₁ s₂ 0 24 (head n (to - from)) a e₁ e₂ (omega arith) (omega arith) in
      let f₃ = e₃ ∙ ap (stored s₂ (24 + 16 * n)) (part_in text from (to - from) (omega arith)) in
      let lb = length-append (head n (to - from)) a in
      next s₀ s₂ s₃ 0 (24 + 16 * n) (head n (to - from) ++ a) p f₂ f₃ (omega arith) (omega (arith, part_long))
      ∙ ap (stored s₀ 0) (front_headed n (to - from) a p part_long ∙ lowered_is recs text i n from to en ef et)

  pub table_size : 24 + 16 * n + (to - from) ≡ length (lowered_table recs text i)
  table_size =
      let a = lowered_all recs (i + 16) from n in
      let p = take (to - from) (drop from text) in
      let la = all_length recs n (i + 16) from in
      let lf = front_length n (to - from) in
      let lb = length-append (head n (to - from)) a in
      let lc = length-append (head n (to - from) ++ a) p in
      let e : length ((head n (to - from) ++ a) ++ p) ≡ length (lowered_table recs text i) = ap length (front_headed n (to - from) a p part_long ∙ lowered_is recs text i n from to en ef et) in
      omega (arith, part_long)
