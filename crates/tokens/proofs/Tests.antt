-- The code's kinds and the paper's tests of a token. Assumes nothing.
use Rattle.std.proofs.Common.{◌≡◌, ℕ, Bool, true, false, not, ◌&&◌, List, [], ◌∷◌, map, length, take, eqb, Ok, Err, refl, ap, ◌∙◌, arith}
use Rattle.std.specs.Prelude as Rust
use lib.Seq.{take_all}
use borrow.Author.Tests.{eqb-true, eq-eqb, ne_eqb}
use Rattle.paper.specs.Bytes.{same, when◌then◌else◌}
use Rattle.paper.specs.Syntax.{boolean, null, integer, decimal, string, reference, vector}
use Rattle.paper.specs.Tokens.{name, literal, mark, end, reserved, member}
use Rattle.paper.specs.Scanner.{Scanned, token, fault, scan}
use Rattle.paper.specs.Decoder.{one_name, a_decimal, one_decimal}
use Rattle.tokens.specs.declared.Kind.{Kind}
use Rattle.tokens.specs.declared.Kind.TheVariants as kinds
use Rattle.tokens.specs.declared.names.Word.{Word}
use Rattle.tokens.specs.declared.scan.Front.{Front}
use Rattle.tokens.specs.Kinds.{spelling, words, named, literal_kind, kind_of}
use Rattle.tokens.specs.Scans.{front_of}
use Rattle.tokens.proofs.Words.{reserved_are}
use Rattle.tokens.proofs.Shapes.{Shape, shape}
use Rattle.tokens.proofs.Shapes as shape

-- ---- names and reserved words

abbrev pub plain : Kind → Bool
plain kinds.Name = true
plain (kinds.Word w) = false
plain (kinds.Integer v) = false
plain kinds.Decimal = false
plain (kinds.Text n) = false
plain (kinds.Mark b) = false
plain kinds.End = false

abbrev pub dotted : Kind → Bool
dotted kinds.Name = false
dotted (kinds.Word w) = false
dotted (kinds.Integer v) = false
dotted kinds.Decimal = true
dotted (kinds.Text n) = false
dotted (kinds.Mark b) = false
dotted kinds.End = false

pub not_plain : (k : Kind) → (k ≡ kinds.Name → ⊥) → plain k ≡ false
not_plain kinds.Name h = absurd (h refl)
not_plain (kinds.Word w) h = refl
not_plain (kinds.Integer v) h = refl
not_plain kinds.Decimal h = refl
not_plain (kinds.Text n) h = refl
not_plain (kinds.Mark b) h = refl
not_plain kinds.End h = refl

pub not_dotted : (k : Kind) → (k ≡ kinds.Decimal → ⊥) → dotted k ≡ false
not_dotted kinds.Name h = refl
not_dotted (kinds.Word w) h = refl
not_dotted (kinds.Integer v) h = refl
not_dotted kinds.Decimal h = absurd (h refl)
not_dotted (kinds.Text n) h = refl
not_dotted (kinds.Mark b) h = refl
not_dotted kinds.End h = refl

-- a name is plain where it is none of the words
plain_among : (n : List ℕ) (ws : List Word) → plain (named ws n) ≡ not (member n (map spelling ws))
unfolding named member when◌then◌else◌
plain_among n [] = refl
plain_among n (w ∷ ws) = go (same n (spelling w)) refl (plain_among n ws)
  where
    go : (c : Bool) → same n (spelling w) ≡ c → plain (named ws n) ≡ not (member n (map spelling ws)) → plain (named (w ∷ ws) n) ≡ not (member n (map spelling (w ∷ ws)))
    go true e again = rw (e, named, member)
    go false e again = rw (e, named, member) again

pub plain_member : (n : List ℕ) → plain (named words n) ≡ not (member n reserved)
plain_member n = plain_among n words ∙ ap (λ (ws : List (List ℕ)). not (member n ws)) reserved_are

-- a name is no decimal
word_no_decimal : (n : List ℕ) (ws : List Word) → dotted (named ws n) ≡ false
unfolding named when◌then◌else◌
word_no_decimal n [] = refl
word_no_decimal n (w ∷ ws) = go (same n (spelling w)) refl (word_no_decimal n ws)
  where
    go : (c : Bool) → same n (spelling w) ≡ c → dotted (named ws n) ≡ false → dotted (named (w ∷ ws) n) ≡ false
    go true e again = rw (e, named)
    go false e again = rw (e, named) again

-- ---- all of s is one name; is one decimal

-- it has m bytes and is of this kind
abbrev pub is_one : (Kind → Bool) → ℕ → Rust.Result Front ℕ → Bool
is_one p m (Ok f) = eqb f.len m && p f.kind
is_one p m (Err n) = false

pub one_yes : (p : Kind → Bool) (m : ℕ) (f : Front) → f.len ≡ m → p f.kind ≡ true → is_one p m (Ok f) ≡ true
one_yes p m f e g = rw (eq-eqb f.len m e, g)

pub one_long : (p : Kind → Bool) (m : ℕ) (f : Front) → (f.len ≡ m → ⊥) → is_one p m (Ok f) ≡ false
one_long p m f h = rw (ne_eqb f.len m h)

pub one_other : (p : Kind → Bool) (m : ℕ) (f : Front) → p f.kind ≡ false → is_one p m (Ok f) ≡ false
one_other p m f e = rw e (go (eqb f.len m))
  where
    go : (b : Bool) → (b && false) ≡ false
    go true = refl
    go false = refl

and_false : (b : Bool) → (b && false) ≡ false
and_false true = refl
and_false false = refl

pub name_text : (s : List ℕ) → is_one plain (length s) (front_of (scan s)) ≡ (one_name (length s) (scan s) && not (member s reserved))
unfolding front_of kind_of literal_kind one_name
name_text s = go (shape s)
  where
    exact : (n : ℕ) → (c : Bool) → eqb n (length s) ≡ c → (eqb n (length s) && plain (named words (take n s))) ≡ (eqb n (length s) && not (member s reserved))
    exact n true e = rw (e, take_all n s (omega (arith, eqb-true n (length s) e))) (plain_member s)
    exact n false e = rw e

    go : {x : Scanned} → Shape s x → is_one plain (length s) (front_of x) ≡ (one_name (length s) x && not (member s reserved))
    go (shape.at_end h) = and_false _
    go (shape.a_name n h l f) = exact n (eqb n (length s)) refl
    go (shape.an_integer n h l f) = and_false _
    go (shape.a_decimal n h l f) = and_false _
    go (shape.a_string t n h l f) = and_false _
    go (shape.a_mark h) = and_false _
    go (shape.a_fault k) = refl

and_true : (b : Bool) → (b && true) ≡ b
and_true true = refl
and_true false = refl

pub decimal_text : (m : ℕ) (x : Scanned) → is_one dotted m (front_of x) ≡ one_decimal m x
unfolding front_of kind_of literal_kind one_decimal a_decimal
decimal_text m (fault n) = refl
decimal_text m (token (name w) n) = rw (word_no_decimal w words) (and_false (eqb n m))
decimal_text m (token (mark b) n) = and_false _
decimal_text m (token end n) = and_false _
decimal_text m (token (literal (boolean x)) n) = and_false _
decimal_text m (token (literal null) n) = and_false _
decimal_text m (token (literal (integer z)) n) = and_false _
decimal_text m (token (literal (decimal t)) n) = and_true _
decimal_text m (token (literal (string t)) n) = and_false _
decimal_text m (token (literal (reference r)) n) = and_false _
decimal_text m (token (literal (vector bs)) n) = and_false _
