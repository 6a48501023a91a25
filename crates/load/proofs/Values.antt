-- What was laid out is read back: a number's bytes, a name's text, and the text of a basic, each where it stands. Assumes nothing.
use Prim.Native.Nat.{ℕ, ◌+◌, ◌-◌, ◌^◌, ◌≤◌, ◌<◌}
use native.Mathlib.Omega.{arith}
use native.Mathlib.Nat.{add-zero, zero-add}
use mathlib.Core.Path.{◌≡◌, refl, sym, ◌∙◌, ap}
use mathlib.Core.Bool.{true, false}
use mathlib.Core.List.{List, [], ◌∷◌, ◌++◌, append_assoc}
use lib.ListN.{length, take, drop, get_or, length-append, length-drop, get_or-append}
use lib.Seq.{get_or-drop, take_at, drop-append_seam}
use borrow.Author.Tests.{ne_eqb}
use Rattle.paper.specs.Bytes.{when◌then◌else◌}
use Rattle.paper.specs.Syntax.{Name, Path, Basic, boolean, null, integer, decimal, string, reference, vector}
use Rattle.paper.specs.Layout.{little, name_text, names_text, path_text, long_text, kind, content, text_of}
use Rattle.paper.specs.WellFormed.{IsBasic}
use Rattle.theorems.proofs.Decoded.Parts.{length_little}
use Rattle.memory.specs.Memory.{word_at, part_at}
use Rattle.memory.proofs.Laws.{same_word, word_in, word_little, part_in}
use Rattle.load.specs.Load.{name_size, names_size, path_size, value_size}

-- what is left of s at p is not more than s has there
left_over : (s : List ℕ) (p : ℕ) (a : List ℕ) → drop p s ≡ a → length s - p ≡ length a
left_over s p a e = sym (length-drop p s) ∙ ap length e

pub word_there : (n x : ℕ) (s more : List ℕ) (p : ℕ) → 0 < n → x < 256 ^ n → drop p s ≡ little n x ++ more → word_at n s p ≡ x
word_there n x s more p h l e =
    let k : length s - p ≡ n + length more = left_over s p (little n x ++ more) e ∙ length-append (little n x) more ∙ ap (λ m. m + length more) (length_little n x) in
    let same : (j : ℕ) → j < n → get_or s (p + j) 0 ≡ get_or (little n x) (0 + j) 0 =
    λ j i. rw (zero-add j) (sym (get_or-drop p s j 0) ∙ ap (λ a. get_or a j 0) e ∙ get_or-append (little n x) more 0 j (rw (length_little n x) i)) in
    word_in n s p (omega arith) ∙ same_word n s (little n x) p 0 same ∙ word_little n x l

pub part_there : (s a more : List ℕ) (p n : ℕ) → p ≤ length s → length a ≡ n → drop p s ≡ a ++ more → part_at s p n ≡ a
part_there s a more p n h l e =
    let k : length s - p ≡ length a + length more = left_over s p (a ++ more) e ∙ length-append a more in
    part_in s p n (omega arith) ∙ ap (take n) e ∙ take_at a more n l

pub byte_there : (s more : List ℕ) (p b : ℕ) → drop p s ≡ b ∷ more → get_or s p 0 ≡ b
byte_there s more p b e = ap (λ k. get_or s k 0) (sym (add-zero p)) ∙ sym (get_or-drop p s 0 0) ∙ ap (λ a. get_or a 0 0) e

-- ---- names and paths

pub name_size_text : (text : List ℕ) (p : ℕ) (n : Name) (more : List ℕ) → (p ≡ 65535 → ⊥) → drop p text ≡ name_text n ++ more → name_size text p ≡ length (name_text n)
unfolding name_size name_text when◌then◌else◌
name_size_text text p n more h e = rw (ne_eqb p 65535 h) (omega (arith, byte_there text (n ++ more) p (length n) e))

names_size_text : (r : Path) (more : List ℕ) → names_size (length r) (names_text r ++ more) ≡ length (names_text r)
unfolding names_size names_text name_text
names_size_text [] more = refl
names_size_text (n ∷ r) more =
    rw (append_assoc n (names_text r) more, drop-append_seam n (names_text r ++ more), names_size_text r more, length-append n (names_text r)) (omega arith)

path_size_text : (r : Path) (more : List ℕ) → path_size (path_text r ++ more) ≡ length (path_text r)
unfolding path_size path_text
path_size_text r more = rw (names_size_text r more) (omega arith)

-- ---- the text of a basic

long_length : (x : List ℕ) → length (long_text x) ≡ 2 + length x
unfolding long_text
long_length x = length-append (little 2 (length x)) x ∙ ap (λ k. k + length x) (length_little 2 (length x))

long_word : (text : List ℕ) (p : ℕ) (x more : List ℕ) → length x < 65536 → drop p text ≡ long_text x ++ more → word_at 2 text p ≡ length x
unfolding long_text
long_word text p x more h e = word_there 2 (length x) text (x ++ more) p (omega arith) h (e ∙ append_assoc (little 2 (length x)) x more)

pub value_size_content : (b : Basic) (text : List ℕ) (p : ℕ) (more : List ℕ) → IsBasic b → drop p text ≡ text_of (content b) ++ more → value_size text (kind b) p ≡ length (text_of (content b))
unfolding value_size kind content text_of when◌then◌else◌
value_size_content (boolean false) text p more h e = refl
value_size_content (boolean true) text p more h e = refl
value_size_content null text p more h e = refl
value_size_content (integer z) text p more h e = refl
value_size_content (decimal x) text p more h e = omega (arith, long_length x, long_word text p x more (omega (arith, h.short)) e)
value_size_content (string x) text p more h e = omega (arith, long_length x, long_word text p x more (omega arith) e)
value_size_content (reference r) text p more h e = ap path_size e ∙ path_size_text r more
value_size_content (vector bs) text p more h e = refl
