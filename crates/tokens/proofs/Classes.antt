-- The table of classes, and what a byte's class says of the paper's tests. Assumes nothing.
use Rattle.std.proofs.Common.{◌≡◌, ℕ, suc, ◌+◌, ◌<◌, Bool, true, false, ◌||◌, List, [], ◌∷◌, get_or, refl, sym, ap, ◌∙◌, arith}
use Prim.Native.Nat.{zero}
use Rattle.std.specs.Prelude.{Some, None, slice_get}
use Rattle.std.specs.Prelude as Rust
use Rattle.paper.specs.Bytes.{at, is, among, when◌then◌else◌}
use Rattle.paper.specs.Tokens.{blank, digit, starts, goes_on}
use Rattle.tokens.specs.declared.class.Class.{Class}
use Rattle.tokens.specs.declared.class.Class.TheVariants.{Start, Digit, Minus, Quote, Mark, Blank, Other}
use Rattle.tokens.specs.Class.{class_of, goes_on_of}
use Rattle.tokens.proofs.Table.{agree, agreed, entry}

-- the classes of n bytes from i on: the table is those of the 256 from 0 on
abbrev pub classes : ℕ → ℕ → List Class
classes i zero = []
classes i (suc n) = class_of i ∷ classes (suc i) n

pub classed : (d : Class) (n i k j : ℕ) → k < n → i + k ≡ j → get_or (classes i n) k d ≡ class_of j
classed d zero i k j h e = absurd (omega arith)
classed d (suc n) i zero j h e = let q : i ≡ j = omega arith in ap class_of q
classed d (suc n) i (suc k) j h e = classed d n (suc i) k j (omega arith) (omega arith)

pub goes_on_is : (b : ℕ) → goes_on_of (class_of b) ≡ goes_on b
unfolding goes_on class_of when◌then◌else◌
goes_on_is b = go (starts b) (digit b) (is "-" b) (is "\"" b) (among ";,{}[]:" b) (blank b)
  where
    go : (s d m q k l : Bool)
        → goes_on_of (when s then Start else when d then Digit else when m then Minus else when q then Quote else when k then Mark else when l then Blank else Other)
        ≡ (s || d || m)
    go true d m q k l = go_true d m
      where
        go_true : (d m : Bool) → true ≡ (true || d || m)
        go_true d m = refl
    go false true m q k l = refl
    go false false true q k l = refl
    go false false false true k l = refl
    go false false false false true l = refl
    go false false false false false true = refl
    go false false false false false false = refl

abbrev is_blank : Class → Bool
is_blank Start = false
is_blank Digit = false
is_blank Minus = false
is_blank Quote = false
is_blank Mark = false
is_blank Blank = true
is_blank Other = false

-- a blank byte belongs to no other class: one test, computed over the table
blank_is : (b : ℕ) → b < 256 → is_blank (class_of b) ≡ blank b
unfolding class_of blank digit starts when◌then◌else◌
blank_is b h =
    ap is_blank (sym (classed Other 256 0 b b h (omega arith)))
    ∙ agreed _ _ (entry (λ i c. agree (is_blank c) (blank i)) (classes 0 256) Other refl b h)

pub blank_yes : (b : ℕ) → b < 256 → class_of b ≡ Blank → blank b ≡ true
blank_yes b h e = sym (blank_is b h) ∙ ap is_blank e

pub blank_no : (b : ℕ) → b < 256 → (class_of b ≡ Blank → ⊥) → blank b ≡ false
blank_no b h n = sym (blank_is b h) ∙ go (class_of b) refl
  where
    go : (c : Class) → class_of b ≡ c → is_blank c ≡ false
    go Start e = refl
    go Digit e = refl
    go Minus e = refl
    go Quote e = refl
    go Mark e = refl
    go Blank e = absurd (n e)
    go Other e = refl

-- the byte at a place, as `get` and `first` hand it out
pub at_some : (s : List ℕ) (i b : ℕ) → Some b ≡ slice_get s i → at s i ≡ b
at_some [] i b e = cc
at_some (x ∷ s) zero b e = cc
at_some (x ∷ s) (suc i) b e = at_some s i b e

pub at_none : (s : List ℕ) (i : ℕ) → ◌≡◌ {A = Rust.Option ℕ} None (slice_get s i) → at s i ≡ 256
at_none [] i e = refl
at_none (x ∷ s) zero e = cc
at_none (x ∷ s) (suc i) e = at_none s i e
