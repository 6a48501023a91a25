-- Tokens that are found again. Assumes nothing.
use Rattle.std.specs.Prelude.{Result, Ok, Err, Some, None, IsOk}
use Rattle.std.specs.Result.{result_ok}
use Prim.Native.Nat.{ℕ, zero, suc, ◌+◌, ◌-◌, ◌≤◌, ◌<◌}
use native.Mathlib.Omega.{arith}
use mathlib.Core.Path.{◌≡◌, refl, sym, ap, ◌∙◌}
use mathlib.Core.Bool.{Bool, true, false, true≢false, false≢true, ◌||◌}
use mathlib.Core.List.{List, [], ◌∷◌, ◌++◌}
use mathlib.Core.Logic.{◌⊎◌, inl, inr}
use mathlib.Core.Option.{some}
use lib.ListN.{length, take, drop, length-append, drop_of_length-le}
use borrow.Author.Tests.{ne_eqb, le-leb}
use Rattle.paper.specs.Bytes.{at, is, between, when◌then◌else◌}
use Rattle.paper.specs.Answer.{Answer, ok, refused, ◌>>=◌}
use Rattle.paper.specs.Syntax.{Basic, decimal, string}
use Rattle.paper.specs.Tokens.{Token, name, literal, mark, end, is_name, is_mark, Here, blank, digit}
use Rattle.paper.specs.Scanner.{Scanned, token, next, skip, found, scan, gap, past}
use Rattle.paper.specs.Layout.{little, long_text}
use Rattle.theorems.proofs.Decoded.Parts.{length_little}
use Rattle.theorems.proofs.Scanned.Classes.{outside_among}
use Rattle.theorems.proofs.Laws.Rescan.{Shape, a_name, scan_shape, decimal_shape, at_end, a_decimal, an_integer, a_string, a_mark, a_fault}
use Rattle.memory.specs.Memory.{stored}
use Rattle.memory.proofs.Laws.{stored_in, then_stored, fit}
use Rattle.refusal.specs.Refused.{answered, number_of}
use Rattle.refusal.specs.declared.Refusal.{Refusal}
use Rattle.tokens.specs.declared.Kind.{Kind}
use Rattle.tokens.specs.declared.Kind.TheVariants.{Name, Word, Integer, Decimal, Text, Mark, End}
use Rattle.tokens.specs.declared.Token as code
use Rattle.tokens.specs.Shown.{shown}
use Rattle.spelling.specs.Spelt.{part_of, string_of, text_of, Decoded, decoded}
use Rattle.spelling.specs.Text.{put}
use Rattle.tokens.proofs.Told.{ToldKind, ToldRefusal, told_at, bounds, Stands, part_of_rest, part_length, word_tests}
use Rattle.spelling.proofs.At.{rest}
use Rattle.grammar.specs.Places.{here}
use Rattle.translate.specs.Settled.{said_at, DecimalThere, StringThere}
use Rattle.translate.specs.Puts.{NameNext, NameSpan, MoreIs, Room, TextFits, DecimalFits, StringFits}
use Rattle.translate.proofs.Rules.Stores.{stored_before}

same_ok : {X : Type 0} {m : Answer X} {a b : X} → m ≡ ok a → m ≡ ok b → a ≡ b
same_ok e f = cc

same_token : {m : Answer (Token × Here × Here)} {a b : Token} {h g k l : Here} → m ≡ ok (a, h, g) → m ≡ ok (b, k, l) → a ≡ b
same_token e f = ap (λ (x : Token × Here × Here). x.0) (same_ok e f)

no_refusal : {A : Type 0} {m : Answer A} {a : A} {n p : ℕ} → m ≡ ok a → m ≡ refused n p → ⊥
no_refusal e f = let z : ◌≡◌ {A = ℕ} 0 1 = cc in omega arith

-- ---- what is answered

-- what `next_token` answers of the source from p on
abbrev pub Asked : List ℕ → ℕ → Result code.Token Refusal → Type 0
Asked s p r = answered r ≡ shown (next (record { place = 0; rest = take (length s - p) (drop p s) }))

-- where none is refused, there is one
answered_ok : (r : Result code.Token Refusal) → ((e : Refusal) → r ≡ Err e → ⊥) → IsOk r
answered_ok (Ok t) n = refl
answered_ok (Err e) n = absurd (n e refl)

-- what `ok` leaves of an answer
pub ok_some : (r : Result code.Token Refusal) (t : code.Token) → result_ok r ≡ Some t → r ≡ Ok t
ok_some (Ok u) t e = cc
ok_some (Err x) t e = cc

ok_none : (r : Result code.Token Refusal) {P : Type 0} → result_ok r ≡ None → ((e : Refusal) → r ≡ Err e → P) → P
ok_none (Ok u) e n = let z : ◌≡◌ {A = ℕ} 0 1 = cc in absurd (omega arith)
ok_none (Err x) e n = n x refl

module _ (s : List ℕ) (p : ℕ) (h : p ≤ length s) {r : Result code.Token Refusal} (q : Asked s p r) where
  found_token : (t : code.Token) → r ≡ Ok t → ToldKind s p t.at t.end t.kind
  found_token t f = told_at s p h (ok t) (ap answered (sym f) ∙ q)

  pub found_bounds : (t : code.Token) → r ≡ Ok t → (t.at ≤ t.end) × (p + t.end ≤ length s)
  found_bounds t f = let b = bounds s p h t (ap answered (sym f) ∙ q) in (b.0, b.1)

  refused_token : (e : Refusal) → r ≡ Err e → ToldRefusal s p (number_of e.reason) e.place
  refused_token e f = told_at s p h (refused (number_of e.reason) e.place) (ap answered (sym f) ∙ q)

-- ---- names

module _ (s : List ℕ) (p a e : ℕ) where
  name_found : (k : Kind) → ToldKind s p a e k → NameNext s p → NameSpan s p (record { at = p + a; end = p + e })
  name_found Name T N =
      let z : p + e - (p + a) ≡ e - a = omega arith in
      let l = part_length s p a e T.stands.ahead T.stands.within in
      record {
        spelt = take (e - a) (drop (p + a) s);
        is = T.stands.is;
        part = ap (λ (n : ℕ). take n (drop (p + a) s)) z;
        long = omega (arith, T.stands.ahead);
        short = omega (arith, T.short);
        within = T.stands.within;
      }
  name_found (Word i) T N =
      let e : name _ ≡ name _ = same_token T.stands.is N.is in
      absurd (false≢true (sym (word_tests i).0 ∙ ap is_name e ∙ N.free))
  name_found (Integer v) T N = let e : literal _ ≡ name _ = same_token T.stands.is N.is in let z : ◌≡◌ {A = ℕ} 0 1 = cc in absurd (omega arith)
  name_found Decimal T N = let e : literal _ ≡ name _ = same_token T.stands.is N.is in let z : ◌≡◌ {A = ℕ} 0 1 = cc in absurd (omega arith)
  name_found (Text n) T N = let e : literal _ ≡ name _ = same_token T.stands.is N.is in let z : ◌≡◌ {A = ℕ} 0 1 = cc in absurd (omega arith)
  name_found (Mark b) T N = let e : mark _ ≡ name _ = same_token T.stands.is N.is in let z : ◌≡◌ {A = ℕ} 0 1 = cc in absurd (omega arith)
  name_found End T N = let e : end ≡ name _ = same_token T.stands.is N.is in let z : ◌≡◌ {A = ℕ} 0 1 = cc in absurd (omega arith)

pub name_seen : (s : List ℕ) (p : ℕ) → NameNext s p → {r : Result code.Token Refusal} → Asked s p r → (t : code.Token) → r ≡ Ok t → NameSpan s p (record { at = p + t.at; end = p + t.end })
name_seen s p N q t f = name_found s p t.at t.end t.kind (found_token s p N.within q t f) N

pub name_there : (s : List ℕ) (p : ℕ) → NameNext s p → (r : Result code.Token Refusal) → Asked s p r → IsOk r
name_there s p N r q = answered_ok r (λ e f. no_refusal N.is (refused_token s p N.within q e f).is)

-- ---- colons

module _ (s : List ℕ) (p a e : ℕ) where
  -- the next token is this one
  the_next : {t : Token} → Stands s p a e t → (y : Token × Here × Here) → next (here s p) ≡ ok y → is_mark ":" y.0 ≡ is_mark ":" t
  the_next S y f = ap (λ (x : Token × Here × Here). is_mark ":" x.0) (same_ok f S.is)

  unmarked : (k : Kind) → ToldKind s p a e k → (k ≡ Mark 58 → ⊥) → (y : Token × Here × Here) → next (here s p) ≡ ok y → is_mark ":" y.0 ≡ false
  unfolding is_mark
  unmarked Name T ne y f = the_next T.stands y f
  unmarked (Word w) T ne y f = the_next T.stands y f
  unmarked (Integer v) T ne y f = the_next T.stands y f
  unmarked Decimal T ne y f = the_next T.stands y f
  unmarked (Text n) T ne y f = the_next T.stands y f
  unmarked (Mark b) T ne y f = the_next T.stands y f ∙ ne_eqb 58 b (λ z. ne (ap Mark (sym z)))
  unmarked End T ne y f = the_next T.stands y f

module _ (s : List ℕ) (p : ℕ) (h : p ≤ length s) {r : Result code.Token Refusal} (q : Asked s p r) where
  pub colon_found : (t : code.Token) → r ≡ Ok t → t.kind ≡ Mark 58 → MoreIs s p (Some (p + t.end))
  unfolding is_mark
  colon_found t f c =
      let T = found_token s p h q t f in
      let S = rw c at T in
      record {
        is = λ y g. record {
          is = the_next s p t.at t.end S.stands y g;
          on = ap (λ (x : Token × Here × Here). x.2) (same_ok g S.stands.is);
          within = S.stands.within;
        };
      }

  pub colon_other : (t : code.Token) → r ≡ Ok t → (t.kind ≡ Mark 58 → ⊥) → MoreIs s p None
  colon_other t f ne = record { is = λ y g. unmarked s p t.at t.end t.kind (found_token s p h q t f) ne y g }

pub colon_refused : (s : List ℕ) (p : ℕ) → p ≤ length s → (r : Result code.Token Refusal) → Asked s p r → result_ok r ≡ None → MoreIs s p None
colon_refused s p h r q n = ok_none r n (λ e f. record { is = λ y g. absurd (no_refusal g (refused_token s p h q e f).is) })

-- ---- decimals

or_false : (c : Bool) → (c || false) ≡ false → c ≡ false
or_false true e = absurd (true≢false e)
or_false false e = refl

no_blank : (b : ℕ) → (digit b || is "-" b) ≡ true → blank b ≡ false
unfolding blank digit
no_blank b e = outside_among (λ b. between "0" "9" b || is "-" b) " \t\n\r\u{c}" b refl e

no_slash : (b : ℕ) → (digit b || is "-" b) ≡ true → is "/" b ≡ false
unfolding digit
no_slash b e = or_false (is "/" b) (outside_among (λ b. between "0" "9" b || is "-" b) "/" b refl e)

-- a decimal's first byte is not skipped
decimal_front : (s t : List ℕ) (n : ℕ) → scan s ≡ token (literal (decimal t)) n → gap s ≡ some 0
unfolding gap when◌then◌else◌
decimal_front s t n e =
    let D = (decimal_shape (scan_shape s) e).1 in
    rw (no_blank (at s 0) D.begun, no_slash (at s 0) D.begun)

skip_none : (f : ℕ) (h : Here) → gap h.rest ≡ some 0 → skip f h ≡ ok h
unfolding skip
skip_none zero h e = refl
skip_none (suc f) h e = rw (e, skip)

decimal_next : (s : List ℕ) (p : ℕ) → (D : DecimalThere s p) → next (here s p) ≡ ok (literal (decimal (said_at s p)), here s p, past D.size (here s p))
unfolding next ◌>>=◌ found
decimal_next s p D = rw (skip_none (length (drop p s)) (here s p) (decimal_front (drop p s) (said_at s p) D.size D.scanned), D.scanned)

module _ (s : List ℕ) (p a e : ℕ) where
  decimal_found : (k : Kind) → ToldKind s p a e k → DecimalThere s p → part_of a e (take (length s - p) (drop p s)) ≡ said_at s p
  decimal_found Decimal T D =
      let q : literal (decimal (take (e - a) (drop (p + a) s))) ≡ literal (decimal (said_at s p)) = same_token T.stands.is (decimal_next s p D) in
      let z : take (e - a) (drop (p + a) s) ≡ said_at s p = cc in
      ap (part_of a e) (rest s p) ∙ part_of_rest s p a e T.stands.ahead T.stands.within ∙ z
  decimal_found Name T D = let q : name _ ≡ literal _ = same_token T.stands.is (decimal_next s p D) in let z : ◌≡◌ {A = ℕ} 0 1 = cc in absurd (omega arith)
  decimal_found (Word i) T D = let q : name _ ≡ literal _ = same_token T.stands.is (decimal_next s p D) in let z : ◌≡◌ {A = ℕ} 0 1 = cc in absurd (omega arith)
  decimal_found (Integer v) T D = let q : literal _ ≡ literal (decimal _) = same_token T.stands.is (decimal_next s p D) in let z : ◌≡◌ {A = ℕ} 0 1 = cc in absurd (omega arith)
  decimal_found (Text n) T D = let q : literal _ ≡ literal (decimal _) = same_token T.stands.is (decimal_next s p D) in let z : ◌≡◌ {A = ℕ} 0 1 = cc in absurd (omega arith)
  decimal_found (Mark b) T D = let q : mark _ ≡ literal _ = same_token T.stands.is (decimal_next s p D) in let z : ◌≡◌ {A = ℕ} 0 1 = cc in absurd (omega arith)
  decimal_found End T D = let q : end ≡ literal _ = same_token T.stands.is (decimal_next s p D) in let z : ◌≡◌ {A = ℕ} 0 1 = cc in absurd (omega arith)

-- ---- where they stand, and how long they are

scan_nothing : scan [] ≡ token end 0
unfolding scan when◌then◌else◌
scan_nothing = refl

literal_within : (s : List ℕ) (p : ℕ) (b : Basic) (n : ℕ) → scan (drop p s) ≡ token (literal b) n → p < length s
literal_within s p b n e = go (fit (suc p) (length s))
  where
    go : (suc p ≤ length s) ⊎ (length s < suc p) → p < length s
    go (inl h) = omega arith
    go (inr h) =
        let f : token end 0 ≡ token (literal b) n = sym scan_nothing ∙ ap scan (sym (drop_of_length-le s {i = p} (omega arith))) ∙ e in
        let z : ◌≡◌ {A = ℕ} 0 1 = cc in absurd (omega arith)

pub decimal_within : {s : List ℕ} {p : ℕ} → DecimalThere s p → p < length s
decimal_within {s} {p} D = literal_within s p _ D.size D.scanned

pub string_within : {s : List ℕ} {p : ℕ} → StringThere s p → p < length s
string_within {s} {p} D = literal_within s p _ D.size D.scanned

pub decimal_seen : (s : List ℕ) (p : ℕ) → DecimalThere s p → {r : Result code.Token Refusal} → Asked s p r → (t : code.Token) → r ≡ Ok t
    → part_of t.at t.end (take (length s - p) (drop p s)) ≡ said_at s p
decimal_seen s p D q t f = decimal_found s p t.at t.end t.kind (found_token s p (omega (arith, decimal_within D)) q t f) D

pub decimal_there : (s : List ℕ) (p : ℕ) → DecimalThere s p → (r : Result code.Token Refusal) → Asked s p r → IsOk r
decimal_there s p D r q = answered_ok r (λ e f. no_refusal (decimal_next s p D) (refused_token s p (omega (arith, decimal_within D)) q e f).is)

length_take_most : (m : ℕ) (l : List ℕ) → length (take m l) ≤ m
length_take_most zero l = omega arith
length_take_most (suc m) [] = omega arith
length_take_most (suc m) (x ∷ l) = omega (arith, length_take_most m l)

literal_short : (s t : List ℕ) (b : Basic) (n : ℕ) → scan s ≡ token (literal b) n → (b ≡ decimal t) ⊎ (b ≡ string t) → length t ≤ 4095
literal_short s t b n e w = go (scan s) (scan_shape s) e w
  where
    inside : {a c : Basic} {m k : ℕ} → token (literal a) m ≡ token (literal c) k → a ≡ c
    inside e = cc

    as_decimal : {x y : List ℕ} → decimal x ≡ decimal y → x ≡ y
    as_decimal e = cc

    as_string : {x y : List ℕ} → string x ≡ string y → x ≡ y
    as_string e = cc

    go : (x : Scanned) → Shape s x → x ≡ token (literal b) n → (b ≡ decimal t) ⊎ (b ≡ string t) → length t ≤ 4095
    go x at_end e w = let z : ◌≡◌ {A = ℕ} 0 1 = cc in absurd (omega arith)
    go x (a_name h) e w = let z : ◌≡◌ {A = ℕ} 0 1 = cc in absurd (omega arith)
    go x (a_decimal {n = m} h) e (inl f) =
        let q : take m s ≡ t = as_decimal (inside e ∙ f) in
        omega (arith, h.short, ap length q, length_take_most m s)
    go x (a_decimal h) e (inr f) = let q : decimal _ ≡ string t = inside e ∙ f in let z : ◌≡◌ {A = ℕ} 0 1 = cc in absurd (omega arith)
    go x (an_integer h) e (inl f) = let q : _ ≡ decimal t = inside e ∙ f in let z : ◌≡◌ {A = ℕ} 0 1 = cc in absurd (omega arith)
    go x (an_integer h) e (inr f) = let q : _ ≡ string t = inside e ∙ f in let z : ◌≡◌ {A = ℕ} 0 1 = cc in absurd (omega arith)
    go x (a_string {t = u} h) e (inl f) = let q : string u ≡ decimal t = inside e ∙ f in let z : ◌≡◌ {A = ℕ} 0 1 = cc in absurd (omega arith)
    go x (a_string {t = u} h) e (inr f) = let q : u ≡ t = as_string (inside e ∙ f) in omega (arith, ap length q)
    go x a_mark e w = let z : ◌≡◌ {A = ℕ} 0 1 = cc in absurd (omega arith)
    go x (a_fault l) e w = let z : ◌≡◌ {A = ℕ} 0 1 = cc in absurd (omega arith)

pub decimal_fits : {s : List ℕ} {p : ℕ} {o : List ℕ} {to : ℕ} → DecimalFits s p o to → TextFits (said_at s p) o to
decimal_fits {s} {p} F = record { short = literal_short (drop p s) (said_at s p) _ F.there.size F.there.scanned (inl refl); room = F.room }

pub string_short : {s : List ℕ} {p : ℕ} → StringThere s p → length (said_at s p) ≤ 4095
string_short {s} {p} D = literal_short (drop p s) (said_at s p) _ D.size D.scanned (inr refl)

-- ---- long texts

pub long_length : (t : List ℕ) → length (long_text t) ≡ 2 + length t
unfolding long_text
long_length t = simp length-append (omega (arith, length_little 2 (length t)))

-- the length and then the text
pub text_put : (o : List ℕ) (to : ℕ) (t : List ℕ) → Room o to (long_text t) → stored (stored o to (little 2 (length t))) (to + 2) t ≡ stored o to (long_text t)
unfolding long_text
text_put o to t R = then_stored o to (to + 2) (little 2 (length t)) t (omega (arith, length_little 2 (length t))) (omega (arith, R.room, long_length t))

-- the text and then its length
pub text_put_back : (o : List ℕ) (to : ℕ) (t : List ℕ) → Room o to (long_text t) → stored (stored o (to + 2) t) to (little 2 (length t)) ≡ stored o to (long_text t)
unfolding long_text
text_put_back o to t R = stored_before o to (to + 2) (little 2 (length t)) t (omega (arith, length_little 2 (length t))) (omega (arith, R.room, long_length t))

-- ---- strings

string_text : (s : List ℕ) (p : ℕ) → StringThere s p → text_of (scan (drop p s)) ≡ said_at s p
unfolding text_of string_of
string_text s p D = rw D.scanned

-- what `decode` leaves
pub record Decodes (o o' : List ℕ) (at n : ℕ) (t : List ℕ) : Type 0 where
  pub count : n ≡ length t
  pub out : o' ≡ stored o at t

pub string_decoded : {s : List ℕ} {p : ℕ} {o : List ℕ} {to : ℕ} → StringFits s p o to → {o' : List ℕ} {n : ℕ}
    → ◌≡◌ {A = Decoded} (record { count = n; out = o' }) (decoded (scan (take (length s - p) (drop p s))) (to + 2) o) → Decodes o o' (to + 2) n (said_at s p)
unfolding decoded put when◌then◌else◌
string_decoded {s} {p} {o} {to} F {o'} {n} e =
    let t = said_at s p in
    let l : to + 2 + length t ≤ length o = omega (arith, F.room.room, long_length t) in
    let f : ◌≡◌ {A = Decoded} (record { count = n; out = o' }) (record { count = length t; out = take (to + 2) o ++ t ++ drop (to + 2 + length t) o }) =
    rw (le-leb (to + 2 + length t) (length o) l) at (rw (string_text s p F.there) at (rw (rest s p) at e)) in
    record { count = ap (λ (x : Decoded). x.count) f; out = ap (λ (x : Decoded). x.out) f ∙ sym (stored_in o (to + 2) t l) }
