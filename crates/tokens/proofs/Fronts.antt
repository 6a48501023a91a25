-- Laws of the token at the front: one for each case of the scanner. Assumes nothing.
use mathlib.Core.Path.{◌≡◌, refl, ap, ap₂, ◌∙◌}
use mathlib.Core.Bool.{Bool, true, false, ◌||◌}
use mathlib.Core.List.{List, [], ◌∷◌}
use mathlib.Core.Option.{Option, none, some}
use Prim.Native.Nat.{ℕ, suc, ◌+◌, ◌≤◌, ◌<◌}
use native.Mathlib.Omega.{arith}
use lib.ListN.{length, take}
use lib.Seq.{length-take-le}
use lib.Dec.{leb}
use borrow.Author.Tests.{eq-eqb, ne_eqb, le-leb, lt-leb, lt-ltb, le-ltb, not-true, not-false}
use Rattle.theorems.proofs.Laws.Answers.{if_case}
use Rattle.paper.specs.Bytes.{at, is, among, when◌then◌else◌}
use Rattle.paper.specs.Syntax.{integer, string}
use Rattle.paper.specs.Tokens.{starts, digit, goes_on, in_range, valued, literal, mark}
use Rattle.paper.specs.Scanner.{token, fault, span, named, number, text, scan, whole, empty}
use Rattle.paper.specs.Layout.{complement}
use Rattle.std.specs.Prelude.{Some, None, Ok, Err}
use Rattle.std.specs.Prelude as Rust
use Rattle.tokens.specs.declared.Kind.{Kind}
use Rattle.tokens.specs.declared.Kind.TheVariants.{Integer, Decimal, Text, End}
use Rattle.tokens.specs.declared.scan.Front.{Front}
use Rattle.spelling.specs.declared.text.Quoted.{Quoted}
use Rattle.spelling.specs.Text.{quoted_of}
use Rattle.tokens.specs.declared.class.Class.{Class}
use Rattle.tokens.specs.declared.class.Class.TheVariants.{Start, Digit, Minus, Quote, Mark, Blank, Other}
use Rattle.tokens.specs.Class.{class_of}
use Rattle.tokens.specs.Kinds.{words, named as named_word, literal_kind, kind_of}
use Rattle.tokens.specs.Numbers.{number_len, integer_of}
use Rattle.tokens.specs.Scans.{front_of, numbered, ends_at, integer_front}

-- a token of so many bytes; a refusal by its number
abbrev pub read : Kind → ℕ → Rust.Result Front ℕ
read k n = Ok (record { kind = k; len = n })

abbrev pub refuse : ℕ → Rust.Result Front ℕ
refuse n = Err n

-- ---- names

module _ (n : ℕ) (s : List ℕ) where
  pub name_fits : n ≤ 255 → read (named_word words (take n s)) n ≡ front_of (named n s)
  unfolding front_of kind_of named when◌then◌else◌
  name_fits h = rw (le-leb n 255 h)

  pub name_long : 255 < n → refuse 6 ≡ front_of (named n s)
  unfolding front_of named when◌then◌else◌
  name_long h = rw (lt-leb n 255 h)

-- ---- numbers

pub ends_yes : (s : List ℕ) (m : ℕ) → ends_at s m ≡ true → (goes_on (at s m) || is "." (at s m)) ≡ false
unfolding ends_at
ends_yes s m e = not-true _ e

pub ends_no : (s : List ℕ) (m : ℕ) → ends_at s m ≡ false → (goes_on (at s m) || is "." (at s m)) ≡ true
unfolding ends_at
ends_no s m e = not-false _ e

module _ (n m : ℕ) (s : List ℕ) where
  pub number_none : n ≡ 0 → refuse 2 ≡ front_of (number n m s)
  unfolding front_of number when◌then◌else◌
  number_none h = rw (eq-eqb n 0 h)

  module _ (some : n ≡ 0 → ⊥) where
    pub number_follows : ends_at s m ≡ false → refuse 2 ≡ front_of (number n m s)
    unfolding front_of number when◌then◌else◌
    number_follows e = rw (ne_eqb n 0 some, ends_no s m e)

    module _ (e : ends_at s m ≡ true) where
      pub number_decimal : n < m → m ≤ 4095 → read Decimal m ≡ front_of (number n m s)
      unfolding front_of kind_of literal_kind number when◌then◌else◌
      number_decimal l h = rw (ne_eqb n 0 some, ends_yes s m e, lt-ltb n m l, le-leb m 4095 h)

      pub number_long : n < m → 4095 < m → refuse 6 ≡ front_of (number n m s)
      unfolding front_of number when◌then◌else◌
      number_long l h = rw (ne_eqb n 0 some, ends_yes s m e, lt-ltb n m l, lt-leb m 4095 h)

      pub number_integer : m ≤ n → n ≤ length s → integer_front (take n s) ≡ front_of (number n m s)
      unfolding front_of kind_of literal_kind number integer_front when◌then◌else◌
      number_integer l h = rw (ne_eqb n 0 some, ends_yes s m e, le-ltb n m l, length-take-le n s h) (go (in_range (valued (take n s))))
        where
          go : (c : Bool) → (when c then read (Integer (complement (valued (take n s)))) n else refuse 4) ≡ front_of (when c then token (literal (integer (valued (take n s)))) n else fault 4)
          go true = refl
          go false = refl

-- an integer of n bytes
abbrev pub as_front : ℕ → Rust.Option ℕ → Rust.Result Front ℕ
as_front n (Some v) = read (Integer v) n
as_front n None = refuse 4

pub integer_front_lem : (s : List ℕ) → as_front (length s) (integer_of (valued s)) ≡ integer_front s
unfolding integer_of integer_front when◌then◌else◌
integer_front_lem s = go (in_range (valued s))
  where
    go : (c : Bool) → as_front (length s) (when c then Some (complement (valued s)) else None) ≡ (when c then read (Integer (complement (valued s))) (length s) else refuse 4)
    go true = refl
    go false = refl

-- ---- strings

abbrev pub as_text : Rust.Option Quoted → Rust.Result Front ℕ
as_text (Some q) = when leb q.count 4095 then read (Text q.count) q.end else refuse 6
as_text None = refuse 2

pub text_front : (o : Option (List ℕ × ℕ)) → as_text (quoted_of 0 1 o) ≡ front_of (text o)
unfolding quoted_of text front_of kind_of literal_kind when◌then◌else◌
text_front none = refl
text_front (some r) =
    let p : 0 + length r.0 ≡ length r.0 = omega arith in
    let q : 1 + r.1 ≡ suc r.1 = omega arith in
    ap₂ (λ (x y : ℕ). as_text (Some (record { count = x; end = y }))) p q ∙ go (leb (length r.0) 4095)
  where
    go : (c : Bool) → (when c then read (Text (length r.0)) (suc r.1) else refuse 6) ≡ front_of (when c then token (literal (string r.0)) (suc r.1) else fault 6)
    go true = refl
    go false = refl

pub text_fits : (q : Quoted) → q.count ≤ 4095 → read (Text q.count) q.end ≡ as_text (Some q)
unfolding when◌then◌else◌
text_fits q h = rw (le-leb q.count 4095 h)

pub text_long : (q : Quoted) → 4095 < q.count → refuse 6 ≡ as_text (Some q)
unfolding when◌then◌else◌
text_long q h = rw (lt-leb q.count 4095 h)

-- ---- which token it is

not_empty : (s : List ℕ) → (length s ≡ 0 → ⊥) → empty s ≡ false
not_empty [] h = absurd (h refl)
not_empty (b ∷ s) h = refl

pub scan_end : (s : List ℕ) → length s ≡ 0 → read End 0 ≡ front_of (scan s)
unfolding scan front_of kind_of when◌then◌else◌
scan_end [] h = refl
scan_end (b ∷ s) h = absurd (omega arith)

module _ (s : List ℕ) (h : length s ≡ 0 → ⊥) where
  pub scan_name : starts (at s 0) ≡ true → scan s ≡ named (span goes_on s) s
  unfolding scan when◌then◌else◌
  scan_name e = rw (not_empty s h, e)

  module _ (e : starts (at s 0) ≡ false) where
    pub scan_number : (digit (at s 0) || is "-" (at s 0)) ≡ true → scan s ≡ numbered s
    unfolding scan numbered number_len when◌then◌else◌
    scan_number f = rw (not_empty s h, e, f)

    module _ (f : (digit (at s 0) || is "-" (at s 0)) ≡ false) where
      pub scan_mark : is "\"" (at s 0) ≡ false → among ";,{}[]:" (at s 0) ≡ true → scan s ≡ token (mark (at s 0)) 1
      unfolding scan when◌then◌else◌
      scan_mark g k = rw (not_empty s h, e, f, g, k)

      pub scan_other : is "\"" (at s 0) ≡ false → among ";,{}[]:" (at s 0) ≡ false → scan s ≡ fault 2
      unfolding scan when◌then◌else◌
      scan_other g k = rw (not_empty s h, e, f, g, k)

-- what the class of its first byte says of a source
abbrev pub Scans : List ℕ → Class → Type 0
Scans s Start = scan s ≡ named (span goes_on s) s
Scans s Digit = scan s ≡ numbered s
Scans s Minus = scan s ≡ numbered s
Scans s Quote = (starts (at s 0) ≡ false) × ((digit (at s 0) || is "-" (at s 0)) ≡ false) × (is "\"" (at s 0) ≡ true)
Scans s Mark = scan s ≡ token (mark (at s 0)) 1
Scans s Blank = scan s ≡ fault 2
Scans s Other = scan s ≡ fault 2

pub scans : (s : List ℕ) → (length s ≡ 0 → ⊥) → Scans s (class_of (at s 0))
unfolding class_of
scans s h =
    if_case (Scans s) _ _ _ (λ e. scan_name s h e) (λ e.
    if_case (Scans s) _ _ _ (λ f. scan_number s h e (rw f refl)) (λ f.
    if_case (Scans s) _ _ _ (λ g. scan_number s h e (rw (f, g) refl)) (λ g.
    if_case (Scans s) _ _ _ (λ k. (e, rw (f, g) refl, k)) (λ k.
    if_case (Scans s) _ _ _ (λ m. scan_mark s h e (rw (f, g) refl) k m) (λ m.
    if_case (Scans s) _ _ _ (λ _. scan_other s h e (rw (f, g) refl) k m) (λ _. scan_other s h e (rw (f, g) refl) k m))))))

pub same_number : (n m : ℕ) (s : List ℕ) → n ≡ whole s → m ≡ number_len n s → front_of (number n m s) ≡ front_of (numbered s)
unfolding numbered
same_number n m s e f = ap (λ (k : ℕ). front_of (number n k s)) f ∙ ap (λ (k : ℕ). front_of (number k (number_len k s) s)) e
