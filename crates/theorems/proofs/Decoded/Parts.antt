-- The readers of numbers, of text and of single records are exact: each reads back what the layout writes, and nothing else.
-- Assumes nothing.
use Prim.Native.Nat.{ℕ, zero, suc, ◌+◌, ◌*◌, ◌-◌, ◌/◌, ◌%◌, ◌^◌, ◌≤◌, ◌<◌}
use native.Mathlib.Omega.{arith}
use native.Mathlib.Nat.{pow-suc}
use mathlib.Core.Path.{◌≡◌, refl, sym, ◌∙◌, ap}
use mathlib.Core.Bool.{true, false≢true}
use mathlib.Core.List.{List, [], ◌∷◌, ◌++◌, append_assoc}
use mathlib.Core.Option.{Option, none, some}
use lib.ListN.{length, take, length-append, take-append-drop}
use lib.Seq.{take-append_seam, drop-append_seam, length-take-le}
use lib.IntN.{ℤ, pos, negsuc}
use lib.Dec.{ltb}
use borrow.Author.Tests.{ltb-true, ltb-false, leb-true, eqb-true, lt-ltb, le-ltb, le-leb, eq-eqb, not-true}
use Rattle.paper.specs.Bytes.{when◌then◌else◌}
use Rattle.paper.specs.Maybe.{◌>>=◌, require}
use Rattle.paper.specs.Syntax.{Path, boolean, null, integer, decimal, string, reference, vector}
use Rattle.paper.specs.Tokens.{name, literal, mark, end, in_range}
use Rattle.paper.specs.Scanner.{scan, Scanned, token, fault}
use Rattle.paper.specs.Layout.{little, name_text, names_text, path_text, long_text, complement}
use Rattle.paper.specs.WellFormed.{IsName, AreNames, IsPath, IsDecimal}
use Rattle.paper.specs.Decoder.{number_of, one_name, a_decimal, one_decimal, name_of, names_of, path_of, long_of, decimal_of, string_of, signed, Raw, raw_of}
use Rattle.theorems.proofs.Laws.Answers.{if_case}
use Rattle.theorems.proofs.Laws.Found.{Found, nothing, found, found_bind, found_require}
use Rattle.theorems.proofs.Laws.Rescan.{named_whole, decimal_whole}
use Rattle.theorems.proofs.Scanned.Alone.{is_name, name_scanned, is_decimal, decimal_scanned}

-- what a reader found in s: x, of which P holds, was in front
pub record Reads {A : Type 0} (enc : A → List ℕ) (P : A → Type 0) (s : List ℕ) (r : A × List ℕ) : Type 0 where
  pub front : s ≡ enc r.0 ++ r.1
  pub good : P r.0

-- an exact reader of what enc writes where P holds
pub record Exact {A : Type 0} (p : List ℕ → Option (A × List ℕ)) (enc : A → List ℕ) (P : A → Type 0) : Type 0 where
  pub sound : (s : List ℕ) → Found (Reads enc P s) (p s)
  pub complete : (x : A) (t : List ℕ) → P x → p (enc x ++ t) ≡ some (x, t)

-- ---- numbers

abbrev pub Below : ℕ → ℕ → Type 0
Below n x = x < 256 ^ n

pub length_little : (n x : ℕ) → length (little n x) ≡ n
unfolding little
length_little zero x = refl
length_little (suc n) x = ap suc (length_little n (x / 256))

number_sound : (n : ℕ) (s : List ℕ) → Found (Reads (little n) (Below n) s) (number_of n s)
unfolding number_of little
number_sound zero s = found {x = (0, s)} (record { front = refl; good = omega arith })
number_sound (suc n) [] = nothing
number_sound (suc n) (b ∷ s) =
    found_require _ _ (λ e.
    found_bind _ (number_sound n s) (λ x h.
    let l = ltb-true b 256 e in
    let y = x.0 in
    let p : y < 256 ^ n = h.good in
    let q : (b + 256 * y) % 256 ≡ b = omega arith in
    let r : (b + 256 * y) / 256 ≡ y = omega arith in
    found (record { front = rw (q, r) (ap (b ∷◌) h.front); good = rw (pow-suc 256 n) (omega arith) })))

number_complete : (n x : ℕ) (t : List ℕ) → x < 256 ^ n → number_of n (little n x ++ t) ≡ some (x, t)
unfolding number_of little ◌>>=◌ require
number_complete zero x t h = let z : x ≡ 0 = omega arith in ap (λ i. some (i, t)) (sym z)
number_complete (suc n) x t h =
    let p : x < 256 ^ n * 256 = rw (pow-suc 256 n) at h in
    let l : x / 256 < 256 ^ n = omega arith in
    let q : x % 256 + 256 * (x / 256) ≡ x = omega arith in
    rw (lt-ltb (x % 256) 256 (omega arith), number_complete n (x / 256) t l, q)

pub exact_number : (n : ℕ) → Exact (number_of n) (little n) (Below n)
exact_number n = record { sound = number_sound n; complete = number_complete n }

-- ---- names and paths

one_name_sound : (n : List ℕ) (k : ℕ) (x : Scanned) → scan n ≡ x → one_name k x ≡ true → k ≡ length n → scan n ≡ token (name n) (length n)
unfolding one_name
one_name_sound n k (token (name m) j) e t q = named_whole n m j e (eqb-true j k t ∙ q)
one_name_sound n k (token (literal b) j) e t q = absurd (false≢true t)
one_name_sound n k (token (mark b) j) e t q = absurd (false≢true t)
one_name_sound n k (token end j) e t q = absurd (false≢true t)
one_name_sound n k (fault j) e t q = absurd (false≢true t)

one_name_complete : (n : List ℕ) → scan n ≡ token (name n) (length n) → one_name (length n) (scan n) ≡ true
unfolding one_name
one_name_complete n e = rw e (eq-eqb (length n) (length n) refl)

name_sound : (s : List ℕ) → Found (Reads name_text IsName s) (name_of s)
unfolding name_of name_text
name_sound [] = nothing
name_sound (k ∷ s) =
    found_require _ _ (λ e₁.
    found_require _ _ (λ e₂.
    found_require _ _ (λ e₃.
    let l : length (take k s) ≡ k = length-take-le k s (leb-true _ _ e₁) in
    found (record {
      front = rw l (ap (k ∷◌) (sym (take-append-drop k s)));
      good = is_name (take k s) (one_name_sound (take k s) k _ refl e₂ (sym l)) (not-true _ e₃);
    }))))

name_complete : (n t : List ℕ) → IsName n → name_of (name_text n ++ t) ≡ some (n, t)
unfolding name_of name_text ◌>>=◌ require
name_complete n t h =
    let l : length n ≤ length (n ++ t) = simp length-append (omega arith) in
    rw (le-leb _ _ l, take-append_seam n t, drop-append_seam n t, one_name_complete n (name_scanned h), h.free)

pub exact_name : Exact name_of name_text IsName
exact_name = record { sound = name_sound; complete = name_complete }

record Names (k : ℕ) (r : Path) : Type 0 where
  sized : length r ≡ k
  names : AreNames r

names_sound : (k : ℕ) (s : List ℕ) → Found (Reads names_text (Names k) s) (names_of k s)
unfolding names_of names_text
names_sound zero s = found (record { front = refl; good = record { sized = refl; names = tt } })
names_sound (suc k) s =
    found_bind _ (name_sound s) (λ x h.
    found_bind _ (names_sound k x.1) (λ y g.
    found (record {
      front = h.front ∙ ap (name_text x.0 ++◌) g.front ∙ simp append_assoc;
      good = record { sized = ap suc g.good.sized; names = (h.good, g.good.names) };
    })))

names_complete : (r : Path) (t : List ℕ) → AreNames r → names_of (length r) (names_text r ++ t) ≡ some (r, t)
unfolding names_of names_text ◌>>=◌
names_complete [] t h = refl
names_complete (n ∷ r) t h = rw (append_assoc (name_text n) (names_text r) t, name_complete n (names_text r ++ t) h.0, names_complete r t h.1)

path_sound : (s : List ℕ) → Found (Reads path_text IsPath s) (path_of s)
unfolding path_of path_text
path_sound [] = nothing
path_sound (k ∷ s) =
    found_require _ _ (λ e₁.
    found_require _ _ (λ e₂.
    go (names_of k s) (names_sound k s) (leb-true _ _ e₁) (leb-true _ _ e₂)))
  where
    go : (o : Option (Path × List ℕ)) → Found (Reads names_text (Names k) s) o → 1 ≤ k → k ≤ 32 → Found (Reads path_text IsPath (k ∷ s)) o
    go none nothing a b = nothing
    go (some x) (found h) a b =
        let l : length x.0 ≡ k = h.good.sized in
        found {x = x} (record { front = rw l (ap (k ∷◌) h.front); good = record { some = omega arith; few = omega arith; names = h.good.names } })

path_complete : (r : Path) (t : List ℕ) → IsPath r → path_of (path_text r ++ t) ≡ some (r, t)
unfolding path_of path_text ◌>>=◌ require
path_complete r t h = rw (le-leb 1 (length r) h.some, le-leb (length r) 32 h.few, names_complete r t h.names)

pub exact_path : Exact path_of path_text IsPath
exact_path = record { sound = path_sound; complete = path_complete }

-- ---- longer texts

pub record Long (t : List ℕ) : Type 0 where
  pub long : length t < 65536

long_sound : (s : List ℕ) → Found (Reads long_text Long s) (long_of s)
unfolding long_of long_text
long_sound s =
    found_bind _ (number_sound 2 s) (λ x h.
    found_require _ _ (λ e.
    let l : length (take x.0 x.1) ≡ x.0 = length-take-le x.0 x.1 (leb-true _ _ e) in
    let b : x.0 < 256 ^ 2 = h.good in
    found (record {
      front = rw l (h.front ∙ ap (little 2 x.0 ++◌) (sym (take-append-drop x.0 x.1)) ∙ simp append_assoc);
      good = record { long = omega arith };
    })))

long_complete : (u t : List ℕ) → length u < 65536 → long_of (long_text u ++ t) ≡ some (u, t)
unfolding long_of long_text ◌>>=◌ require
long_complete u t h =
    let l : length u ≤ length (u ++ t) = simp length-append (omega arith) in
    rw (append_assoc (little 2 (length u)) u t, number_complete 2 (length u) (u ++ t) (omega arith), le-leb _ _ l, take-append_seam u t, drop-append_seam u t)

one_decimal_sound : (n : List ℕ) (x : Scanned) → scan n ≡ x → one_decimal (length n) x ≡ true → scan n ≡ token (literal (decimal n)) (length n)
unfolding one_decimal a_decimal
one_decimal_sound n (token (literal (decimal m)) j) e t = decimal_whole n m j e (eqb-true j (length n) t)
one_decimal_sound n (token (literal (boolean b)) j) e t = absurd (false≢true t)
one_decimal_sound n (token (literal null) j) e t = absurd (false≢true t)
one_decimal_sound n (token (literal (integer b)) j) e t = absurd (false≢true t)
one_decimal_sound n (token (literal (string b)) j) e t = absurd (false≢true t)
one_decimal_sound n (token (literal (reference b)) j) e t = absurd (false≢true t)
one_decimal_sound n (token (literal (vector b)) j) e t = absurd (false≢true t)
one_decimal_sound n (token (name m) j) e t = absurd (false≢true t)
one_decimal_sound n (token (mark b) j) e t = absurd (false≢true t)
one_decimal_sound n (token end j) e t = absurd (false≢true t)
one_decimal_sound n (fault j) e t = absurd (false≢true t)

pub exact_decimal : Exact decimal_of long_text IsDecimal
unfolding decimal_of one_decimal a_decimal ◌>>=◌ require
exact_decimal = record {
  sound = λ s.
      found_bind _ (long_sound s) (λ x h.
      found_require _ _ (λ e.
      found (record { front = h.front; good = is_decimal x.0 (one_decimal_sound x.0 _ refl e) })));
  complete = λ u t h. let l = h.short in rw (long_complete u t (omega arith), decimal_scanned h, eq-eqb (length u) _ refl);
}

abbrev pub IsString : List ℕ → Type 0
IsString t = length t ≤ 4095

pub exact_string : Exact string_of long_text IsString
unfolding string_of ◌>>=◌ require
exact_string = record {
  sound = λ s.
      found_bind _ (long_sound s) (λ x h.
      found_require _ _ (λ e.
      found (record { front = h.front; good = leb-true _ _ e })));
  complete = λ u t h. rw (long_complete u t (omega arith), le-leb (length u) 4095 h);
}

-- ---- integers

pub signed_range : (x : ℕ) → x < 2 ^ 64 → in_range (signed x) ≡ true
unfolding signed in_range
signed_range x h = if_case (λ z. in_range z ≡ true) (ltb x (2 ^ 63)) (pos x) (negsuc (2 ^ 64 - 1 - x)) (λ e. e) (λ e. let l = ltb-false x (2 ^ 63) e in lt-ltb (2 ^ 64 - 1 - x) (2 ^ 63) (omega arith))

pub signed_complement : (x : ℕ) → x < 2 ^ 64 → complement (signed x) ≡ x
unfolding signed complement
signed_complement x h = if_case (λ z. complement z ≡ x) _ _ _ (λ e. refl) (λ e. let l = ltb-false x (2 ^ 63) e in omega arith)

pub complement_signed : (z : ℤ) → in_range z ≡ true → signed (complement z) ≡ z
unfolding signed complement in_range when◌then◌else◌
complement_signed (pos n) h = rw h
complement_signed (negsuc n) h =
    let l = ltb-true n (2 ^ 63) h in
    let q : 2 ^ 64 - 1 - (2 ^ 64 - suc n) ≡ n = omega arith in
    rw (le-ltb (2 ^ 64 - suc n) (2 ^ 63) (omega arith), q)

pub complement_below : (z : ℤ) → in_range z ≡ true → complement z < 2 ^ 64
unfolding complement in_range
complement_below (pos n) h = let l = ltb-true n (2 ^ 63) h in omega arith
complement_below (negsuc n) h = omega arith

-- ---- records

unfoldable pub raw_bytes : ℕ → Raw → List ℕ
raw_bytes w x = little 2 x.first ++ (little 2 x.second ++ (little 2 x.label ++ (little 2 x.span ++ (little 8 x.value ++ little w x.place))))

-- each number fits its width
pub record Narrow (w : ℕ) (x : Raw) : Type 0 where
  pub first : x.first < 65536
  pub second : x.second < 65536
  pub label : x.label < 65536
  pub span : x.span < 65536
  pub value : x.value < 2 ^ 64
  pub place : x.place < 256 ^ w

pub exact_raw : (w : ℕ) → Exact (raw_of w) (raw_bytes w) (Narrow w)
unfolding raw_of raw_bytes ◌>>=◌
exact_raw w = record {
  sound = λ s.
      found_bind _ (number_sound 2 s) (λ x₁ h₁.
      found_bind _ (number_sound 2 x₁.1) (λ x₂ h₂.
      found_bind _ (number_sound 2 x₂.1) (λ x₃ h₃.
      found_bind _ (number_sound 2 x₃.1) (λ x₄ h₄.
      found_bind _ (number_sound 8 x₄.1) (λ x₅ h₅.
      found_bind _ (number_sound w x₅.1) (λ x₆ h₆.
      found (record {
        front = rw (h₁.front, h₂.front, h₃.front, h₄.front, h₅.front, h₆.front) (simp append_assoc);
        good = record { first = h₁.good; second = h₂.good; label = h₃.good; span = h₄.good; value = h₅.good; place = h₆.good };
      })))))));
  complete = λ x t h. simp append_assoc (
      rw (
        number_complete 2 x.first _ h.first,
        number_complete 2 x.second _ h.second,
        number_complete 2 x.label _ h.label,
        number_complete 2 x.span _ h.span,
        number_complete 8 x.value _ h.value,
        number_complete w x.place t h.place,
      ));
}

abbrev pub make_raw : (a b c d e f : ℕ) → Raw
make_raw a b c d e f = record { first = a; second = b; label = c; span = d; value = e; place = f }

pub same_raw : {x y : Raw} → x.first ≡ y.first → x.second ≡ y.second → x.label ≡ y.label → x.span ≡ y.span → x.value ≡ y.value → x.place ≡ y.place → x ≡ y
same_raw {x} {y} e₁ e₂ e₃ e₄ e₅ e₆ =
    ap (λ i. make_raw i x.second x.label x.span x.value x.place) e₁
    ∙ ap (λ i. make_raw y.first i x.label x.span x.value x.place) e₂
    ∙ ap (λ i. make_raw y.first y.second i x.span x.value x.place) e₃
    ∙ ap (λ i. make_raw y.first y.second y.label i x.value x.place) e₄
    ∙ ap (λ i. make_raw y.first y.second y.label y.span i x.place) e₅
    ∙ ap (λ i. make_raw y.first y.second y.label y.span y.value i) e₆
