-- For callers of `next_token`: from its answer at `&src[p..]` to the paper's `next` at the place p of the source. Assumes nothing.
use mathlib.Core.Path.{◌≡◌, refl, sym, ap, ap₂, ◌∙◌, subst}
use mathlib.Core.Bool.{Bool, true, false, not, false≢true}
use mathlib.Core.List.{List, [], ◌∷◌}
use Prim.Native.Nat.{ℕ, ◌+◌, ◌-◌, ◌≤◌, ◌<◌}
use Prim.Native.Char.{Char}
use Prim.Native.String.{String}
use native.Mathlib.Omega.{arith}
use lib.ListN.{length, take, drop, length-drop}
use lib.Seq.{drop-drop, length-take-le}
use mathlib.Core.List.{map}
use borrow.Author.Tests.{le-leb}
use Rattle.paper.specs.Bytes.{bytes, at, is, same, when◌then◌else◌}
use Rattle.paper.specs.Answer.{Answer, ok, refused}
use Rattle.paper.specs.Syntax.{Basic, integer, decimal, string}
use Rattle.paper.specs.Tokens.{Token, name, literal, mark, end, Here, reserved, member, valued, in_range, is_name, is_mark}
use Rattle.paper.specs.Reader.{is_word, is_end}
use Rattle.paper.specs.Scanner.{Scanned, token, fault, scan, found, next, past}
use Rattle.paper.specs.Layout.{complement}
use Rattle.theorems.proofs.Scanned.Classes.{or_left, or_right}
use Rattle.tokens.specs.declared.Kind.{Kind}
use Rattle.tokens.specs.declared.Kind.TheVariants.{Name, Word, Integer, Decimal, Text, Mark, End}
use Rattle.tokens.specs.declared.names.Word as code_word
use Rattle.tokens.specs.declared.names.Word.TheVariants.{Extends, Data, Null, True, False, Root, Parent, This, Attrib, Lazy, Host, Process, Property, Iproperty}
use Rattle.tokens.specs.declared.Token as code
use Rattle.tokens.specs.Kinds.{spelling, words, named, literal_kind, kind_of}
use Rattle.tokens.specs.Gaps.{skips}
use Rattle.tokens.specs.Shown.{shown}
use Rattle.spelling.specs.Spelt.{part_of, string_of, text_of}
use Rattle.tokens.proofs.Words.{same_eq, reserved_are}
use Rattle.tokens.proofs.Skips.{Ending, at_token, at_comment, ending}
use Rattle.tokens.proofs.Shapes.{Shape, at_end, a_name, an_integer, a_decimal, a_string, a_mark, a_fault, shape}
use Rattle.spelling.proofs.At.{rest}
use Rattle.tokens.proofs.Nexts.{from, next_token, next_comment}

-- ---- the places move with the rest of the source

-- an answer at the place p, from the answer at 0
unfoldable pub moved : ℕ → Answer (Token × Here × Here) → Answer (Token × Here × Here)
moved p (ok y) = ok (y.0, from (p + y.1.place) y.1.rest, from (p + y.2.place) y.2.rest)
moved p (refused n q) = refused n (p + q)

found_at : (p i : ℕ) (s : List ℕ) (x : Scanned) → found (from (p + i) s) x ≡ moved p (found (from (0 + i) s) x)
unfolding found moved past
found_at p i s (token t n) =
    let a : p + i ≡ p + (0 + i) = omega arith in
    let b : p + i + n ≡ p + (0 + i + n) = omega arith in
    ap₂ (λ (u v : ℕ). ok (t, from u s, from v (drop n s))) a b
found_at p i s (fault n) = let a : p + i ≡ p + (0 + i) = omega arith in ap (refused n) a

pub next_moved : (p : ℕ) (s : List ℕ) → next (from p s) ≡ moved p (next (from 0 s))
unfolding moved
next_moved p s = go (ending s)
  where
    go : Ending s (λ q. skips q s) → next (from p s) ≡ moved p (next (from 0 s))
    go (at_token i h k) =
        next_token p s (from (p + i) (drop i s)) (k p) ∙ found_at p i (drop i s) (scan (drop i s))
        ∙ ap (moved p) (sym (next_token 0 s (from (0 + i) (drop i s)) (k 0)))
    go (at_comment i h k) =
        let a : p + i ≡ p + (0 + i) = omega arith in
        next_comment p s 2 (p + i) (k p) ∙ ap (refused 2) a ∙ ap (moved p) (sym (next_comment 0 s 2 (0 + i) (k 0)))

-- ---- what the answer says

-- the place p of the source; and a token's bytes, read at p
abbrev pub here : List ℕ → ℕ → Here
here src p = record { place = p; rest = drop p src }

abbrev pub part : List ℕ → ℕ → ℕ → ℕ → List ℕ
part src p a e = take (e - a) (drop (p + a) src)

-- the next token is t, from p + a up to p + e
pub record Stands (src : List ℕ) (p a e : ℕ) (t : Token) : Type 0 where
  pub is : next (here src p) ≡ ok (t, here src (p + a), here src (p + e))
  pub ahead : a ≤ e
  pub within : p + e ≤ length src

pub record ToldName (src : List ℕ) (p a e : ℕ) : Type 0 where
  pub stands : Stands src p a e (name (part src p a e))
  pub some : a < e
  pub short : e - a ≤ 255
  pub plain : member (part src p a e) reserved ≡ false

pub record ToldWord (src : List ℕ) (p a e : ℕ) (w : code_word.Word) : Type 0 where
  pub stands : Stands src p a e (name (spelling w))
  pub some : a < e

pub record ToldInteger (src : List ℕ) (p a e v : ℕ) : Type 0 where
  pub stands : Stands src p a e (literal (integer (valued (part src p a e))))
  pub some : a < e
  pub range : in_range (valued (part src p a e)) ≡ true
  pub bits : v ≡ complement (valued (part src p a e))

pub record ToldDecimal (src : List ℕ) (p a e : ℕ) : Type 0 where
  pub stands : Stands src p a e (literal (decimal (part src p a e)))
  pub some : a < e
  pub short : e - a ≤ 4095

-- what the string means is what `decode` writes at p + a
pub record ToldText (src : List ℕ) (p a e n : ℕ) : Type 0 where
  pub stands : Stands src p a e (literal (string (text_of (scan (drop (p + a) src)))))
  pub some : a < e
  pub count : n ≡ length (text_of (scan (drop (p + a) src)))
  pub short : n ≤ 4095

pub record ToldMark (src : List ℕ) (p a e b : ℕ) : Type 0 where
  pub stands : Stands src p a e (mark b)
  pub one : e ≡ a + 1

pub record ToldEnd (src : List ℕ) (p a e : ℕ) : Type 0 where
  pub stands : Stands src p a e end
  pub none : e ≡ a
  pub last : p + a ≡ length src

pub record ToldRefusal (src : List ℕ) (p n a : ℕ) : Type 0 where
  pub is : next (here src p) ≡ refused n (p + a)
  pub within : p + a ≤ length src

-- by the kind of a token that is found
abbrev pub ToldKind : List ℕ → ℕ → ℕ → ℕ → Kind → Type 0
ToldKind src p a e Name = ToldName src p a e
ToldKind src p a e (Word w) = ToldWord src p a e w
ToldKind src p a e (Integer v) = ToldInteger src p a e v
ToldKind src p a e Decimal = ToldDecimal src p a e
ToldKind src p a e (Text n) = ToldText src p a e n
ToldKind src p a e (Mark b) = ToldMark src p a e b
ToldKind src p a e End = ToldEnd src p a e

abbrev pub Told : List ℕ → ℕ → Answer code.Token → Type 0
Told src p (ok t) = ToldKind src p t.at t.end t.kind
Told src p (refused n a) = ToldRefusal src p n a

-- ---- a name is a word of the list, or none

data Worded (n : List ℕ) (ws : List code_word.Word) : Kind → Type 0 where
  no_word : member n (map spelling ws) ≡ false → Worded n ws Name
  the_word : (w : code_word.Word) → n ≡ spelling w → Worded n ws (Word w)

worded : (n : List ℕ) (ws : List code_word.Word) → Worded n ws (named ws n)
unfolding named member when◌then◌else◌
worded n [] = no_word refl
worded n (w ∷ ws) = go (same n (spelling w)) refl (worded n ws)
  where
    later : {k : Kind} → same n (spelling w) ≡ false → Worded n ws k → Worded n (w ∷ ws) k
    later e (no_word h) = no_word (rw e h)
    later e (the_word v q) = the_word v q

    go : (c : Bool) → same n (spelling w) ≡ c → Worded n ws (named ws n) → Worded n (w ∷ ws) (named (w ∷ ws) n)
    go true e again = rw (e, named) (the_word w (same_eq n (spelling w) e))
    go false e again = rw (e, named) (later e again)

-- ---- from the answer to what it says

module _ (src : List ℕ) (p : ℕ) (inside : p ≤ length src) where
  -- the token stands i bytes further on, and has n bytes
  module _ (i : ℕ) (h : i ≤ length (drop p src)) (k : (q : ℕ) → skips q (drop p src) ≡ ok (from (q + i) (drop i (drop p src)))) where
    there : drop i (drop p src) ≡ drop (p + i) src
    there = drop-drop i p src

    stands : (t : Token) (n : ℕ) → scan (drop i (drop p src)) ≡ token t n → n ≤ length (drop i (drop p src)) → Stands src p i (i + n) t
    unfolding found past
    stands t n e l = record {
      is =
          next_token p (drop p src) (from (p + i) (drop i (drop p src))) (k p) ∙ ap (found (from (p + i) (drop i (drop p src)))) e
          ∙ ap₂ (λ (d : List ℕ) (x : Here). ok (t, from (p + i) d, x)) there (λ j. record { place = after j; rest = after_rest j });
      ahead = omega arith;
      within = omega (arith, length-drop i (drop p src), length-drop p src);
    }
      where
        after : p + i + n ≡ p + (i + n)
        after = omega arith

        after_rest : drop n (drop i (drop p src)) ≡ drop (p + (i + n)) src
        after_rest = ap (drop n) there ∙ drop-drop n (p + i) src ∙ ap (λ (m : ℕ). drop m src) after

    same_part : (n : ℕ) → take n (drop i (drop p src)) ≡ part src p i (i + n)
    same_part n = let e : n ≡ i + n - i = omega arith in ap₂ (λ (m : ℕ) (d : List ℕ). take m d) e there

    -- the answer for what the scanner finds there
    answer : Scanned → Answer code.Token
    answer (token t n) = ok (record { kind = kind_of t; at = i; end = i + n })
    answer (fault n) = refused n i

    told_name : (n : ℕ) {x : Kind} → 1 ≤ n → n ≤ 255 → Stands src p i (i + n) (name (take n (drop i (drop p src)))) → Worded (take n (drop i (drop p src))) words x → ToldKind src p i (i + n) x
    told_name n l f s (no_word m) = record {
      stands = subst (λ (w : List ℕ). Stands src p i (i + n) (name w)) (same_part n) s;
      some = omega arith;
      short = omega arith;
      plain = ap (λ (w : List ℕ). member w reserved) (sym (same_part n)) ∙ ap (member (take n (drop i (drop p src)))) (sym reserved_are) ∙ m;
    }
    told_name n l f s (the_word w q) = record { stands = subst (λ (w : List ℕ). Stands src p i (i + n) (name w)) q s; some = omega arith }

    told_shape : {x : Scanned} → Shape (drop i (drop p src)) x → scan (drop i (drop p src)) ≡ x → Told src p (answer x)
    unfolding answer kind_of literal_kind found text_of string_of
    told_shape (at_end l) e = record {
      stands = stands end 0 e (omega arith);
      none = omega arith;
      last = omega (arith, length-drop i (drop p src), length-drop p src);
    }
    told_shape (a_name n l m f) e = told_name n l f (stands (name (take n (drop i (drop p src)))) n e m) (worded (take n (drop i (drop p src))) words)
    told_shape (an_integer n l m f) e = record {
      stands = subst (λ (w : List ℕ). Stands src p i (i + n) (literal (integer (valued w)))) (same_part n) (stands (literal (integer (valued (take n (drop i (drop p src)))))) n e m);
      some = omega arith;
      range = ap (λ (w : List ℕ). in_range (valued w)) (sym (same_part n)) ∙ f;
      bits = ap (λ (w : List ℕ). complement (valued w)) (same_part n);
    }
    told_shape (a_decimal n l m f) e = record {
      stands = subst (λ (w : List ℕ). Stands src p i (i + n) (literal (decimal w))) (same_part n) (stands (literal (decimal (take n (drop i (drop p src))))) n e m);
      some = omega arith;
      short = omega arith;
    }
    told_shape (a_string t n l m f) e = record {
      stands = subst (λ (w : List ℕ). Stands src p i (i + n) (literal (string w))) (text_is t n e) (stands (literal (string t)) n e m);
      some = omega arith;
      count = ap length (text_is t n e);
      short = f;
    }
      where
        text_is : (t : List ℕ) (n : ℕ) → scan (drop i (drop p src)) ≡ token (literal (string t)) n → t ≡ text_of (scan (drop (p + i) src))
        text_is t n e = sym (ap (λ (d : List ℕ). text_of (scan d)) (sym there) ∙ ap text_of e)
    told_shape (a_mark l) e = record { stands = stands (mark (at (drop i (drop p src)) 0)) 1 e l; one = refl }
    told_shape (a_fault n) e = record {
      is = next_token p (drop p src) (from (p + i) (drop i (drop p src))) (k p) ∙ ap (found (from (p + i) (drop i (drop p src)))) e;
      within = omega (arith, length-drop p src);
    }

    shown_answer : (x : Scanned) → scan (drop i (drop p src)) ≡ x → shown (next (from 0 (drop p src))) ≡ answer x
    unfolding answer shown found past
    shown_answer x e =
        ap shown (next_token 0 (drop p src) (from (0 + i) (drop i (drop p src))) (k 0) ∙ ap (found (from (0 + i) (drop i (drop p src)))) e) ∙ go x
      where
        z : 0 + i ≡ i
        z = omega arith

        go : (x : Scanned) → shown (found (from (0 + i) (drop i (drop p src))) x) ≡ answer x
        go (token t n) = ap (λ (j : ℕ). ok (record { kind = kind_of t; at = j; end = j + n })) z
        go (fault n) = ap (refused n) z

  -- what `next_token` answers of `&src[p..]` is so told
  pub told : (r : Answer code.Token) → r ≡ shown (next (from 0 (drop p src))) → Told src p r
  unfolding shown
  told r e = go (ending (drop p src))
    where
      go : Ending (drop p src) (λ q. skips q (drop p src)) → Told src p r
      go (at_token i h k) =
          let s = scan (drop i (drop p src)) in
          subst (Told src p) (sym (e ∙ shown_answer i h k s refl)) (told_shape i h k (shape (drop i (drop p src))) refl)
      go (at_comment i h k) =
          let z : 0 + i ≡ i = omega arith in
          let f : r ≡ refused 2 i = e ∙ ap shown (next_comment 0 (drop p src) 2 (0 + i) (k 0)) ∙ ap (refused 2) z in
          subst (Told src p) (sym f) (record { is = next_comment p (drop p src) 2 (p + i) (k p); within = omega (arith, length-drop p src) })

-- ---- the token's bytes, as `token_part` hands them back

module _ (src : List ℕ) (p a e : ℕ) (h : a ≤ e) (l : p + e ≤ length src) where
  -- from the rest, `token_part(&src[p..], a, e)`
  pub part_of_rest : part_of a e (drop p src) ≡ part src p a e
  unfolding part_of when◌then◌else◌
  part_of_rest =
      let k : e ≤ length (drop p src) = omega (arith, length-drop p src) in
      rw (le-leb a e h, le-leb e (length (drop p src)) k) (ap (take (e - a)) (drop-drop a p src))

  -- from the whole source, `token_part(src, p + a, p + e)`
  pub part_of_source : part_of (p + a) (p + e) src ≡ part src p a e
  unfolding part_of when◌then◌else◌
  part_of_source =
      let k : p + a ≤ p + e = omega arith in
      let m : p + e - (p + a) ≡ e - a = omega arith in
      rw (le-leb (p + a) (p + e) k, le-leb (p + e) (length src) l) (ap (λ (n : ℕ). take n (drop (p + a) src)) m)

  pub part_length : length (part src p a e) ≡ e - a
  part_length = length-take-le (e - a) (drop (p + a) src) (omega (arith, length-drop (p + a) src))

-- ---- the paper's tests of each token

-- n whether it is a name that is not reserved, w whether it is a word, m whether it is a mark, e whether it is the end
pub record Tested (t : Token) (n : Bool) (w : String → Bool) (m : Char → Bool) (e : Bool) : Type 0 where
  pub name_is : is_name t ≡ n
  pub word_is : (x : String) → is_word x t ≡ w x
  pub mark_is : (c : Char) → is_mark c t ≡ m c
  pub end_is : is_end t ≡ e

pub name_tests : (n : List ℕ) → Tested (name n) (not (member n reserved)) (λ w. same n (bytes w)) (λ c. false) false
unfolding is_name is_word is_mark is_end
name_tests n = record { name_is = refl; word_is = λ w. refl; mark_is = λ c. refl; end_is = refl }

pub literal_tests : (b : Basic) → Tested (literal b) false (λ w. false) (λ c. false) false
unfolding is_name is_word is_mark is_end
literal_tests b = record { name_is = refl; word_is = λ w. refl; mark_is = λ c. refl; end_is = refl }

pub mark_tests : (b : ℕ) → Tested (mark b) false (λ w. false) (λ c. is c b) false
unfolding is_name is_word is_mark is_end
mark_tests b = record { name_is = refl; word_is = λ w. refl; mark_is = λ c. refl; end_is = refl }

pub end_tests : Tested end false (λ w. false) (λ c. false) true
unfolding is_name is_word is_mark is_end
end_tests = record { name_is = refl; word_is = λ w. refl; mark_is = λ c. refl; end_is = refl }

-- ---- reserved words

-- a name that is none of the words is no word of theirs
no_member : (n w : List ℕ) (ws : List (List ℕ)) → member n ws ≡ false → member w ws ≡ true → same n w ≡ false
unfolding member
no_member n w [] e f = absurd (false≢true f)
no_member n w (v ∷ ws) e f = go (same w v) refl (λ g. no_member n w ws (or_right (same n v) (member n ws) e) g)
  where
    go : (c : Bool) → same w v ≡ c → (member w ws ≡ true → same n w ≡ false) → same n w ≡ false
    go true g again = ap (same n) (same_eq w v g) ∙ or_left (same n v) (member n ws) e
    go false g again = again (rw g at f)

-- a plain name: `ToldName`
pub plain_tests : (n : List ℕ) → member n reserved ≡ false → (is_name (name n) ≡ true) × ((w : String) → member (bytes w) reserved ≡ true → is_word w (name n) ≡ false)
unfolding is_name is_word
plain_tests n e = (ap not e, λ w f. no_member n (bytes w) reserved e f)

-- the reserved words are the paper's
word_member : (w : code_word.Word) → member (spelling w) reserved ≡ true
unfolding reserved member
word_member Extends = refl
word_member Data = refl
word_member Null = refl
word_member True = refl
word_member False = refl
word_member Root = refl
word_member Parent = refl
word_member This = refl
word_member Attrib = refl
word_member Lazy = refl
word_member Host = refl
word_member Process = refl
word_member Property = refl
word_member Iproperty = refl

-- the word w: `ToldWord`. It is no plain name, and it is the word that it is spelt as, and no other
pub word_tests : (w : code_word.Word) → (is_name (name (spelling w)) ≡ false) × ((x : String) → is_word x (name (spelling w)) ≡ same (spelling w) (bytes x))
unfolding is_name is_word
word_tests w = (ap not (word_member w), λ x. refl)

-- ---- in short, for a caller that has read `&src[p..]`

module _ (src : List ℕ) (p : ℕ) (inside : p ≤ length src) where
  -- the checker's list for `&src[p..]`
  pub told_at : (r : Answer code.Token) → r ≡ shown (next (from 0 (take (length src - p) (drop p src)))) → Told src p r
  told_at r e = told src p inside r (e ∙ ap (λ (s : List ℕ). shown (next (from 0 s))) (rest src p))

  -- where a token of any kind lies: some of the source, unless it is the end
  lies : (k : Kind) (a e : ℕ) → ToldKind src p a e k → (a ≤ e) × (p + e ≤ length src) × ((k ≡ End → ⊥) → a < e)
  lies Name a e t = (t.stands.ahead, t.stands.within, λ _. t.some)
  lies (Word w) a e t = (t.stands.ahead, t.stands.within, λ _. t.some)
  lies (Integer v) a e t = (t.stands.ahead, t.stands.within, λ _. t.some)
  lies Decimal a e t = (t.stands.ahead, t.stands.within, λ _. t.some)
  lies (Text n) a e t = (t.stands.ahead, t.stands.within, λ _. t.some)
  lies (Mark b) a e t = (t.stands.ahead, t.stands.within, λ _. omega (arith, t.one))
  lies End a e t = (t.stands.ahead, t.stands.within, λ f. absurd (f refl))

  pub bounds : (t : code.Token) → ok t ≡ shown (next (from 0 (take (length src - p) (drop p src)))) → (t.at ≤ t.end) × (p + t.end ≤ length src) × ((t.kind ≡ End → ⊥) → t.at < t.end)
  bounds t h = lies t.kind t.at t.end (told_at (ok t) h)
