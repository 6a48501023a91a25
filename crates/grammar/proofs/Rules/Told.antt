-- From what `next_token` answers to what is seen at a place of the source. Assumes nothing.
use Prim.Native.Nat.{ℕ, zero, suc, ◌+◌, ◌-◌, ◌≤◌, ◌<◌}
use native.Mathlib.Omega.{arith}
use mathlib.Core.Path.{◌≡◌, refl, ap}
use mathlib.Core.Bool.{Bool, true, false}
use mathlib.Core.List.{List, [], ◌∷◌}
use mathlib.Core.Option.{Option, none, some}
use lib.ListN.{length, take, drop}
use Rattle.paper.specs.Bytes.{at, is}
use Rattle.paper.specs.Answer.{ok, refused}
use Rattle.paper.specs.Syntax.{string}
use Rattle.paper.specs.Tokens.{Token, literal, escaped}
use Rattle.paper.specs.Scanner.{Scanned, token, meant, quoted, text, named, number, scan, next}
use Rattle.theorems.proofs.Laws.Answers.{if_case}
use Rattle.tokens.specs.declared.Kind.{Kind}
use Rattle.tokens.specs.declared.Kind.TheVariants.{Name, Word, Integer, Decimal, Text, Mark, End}
use Rattle.tokens.specs.declared.Token.{Token as Read}
use Rattle.tokens.specs.Shown.{shown}
use Rattle.spelling.specs.Spelt.{text_of}
use Rattle.tokens.proofs.Told.{Stands, ToldKind, ToldRefusal, told_at, part, part_length, plain_tests}
use Rattle.grammar.specs.Places.{here, Shown}
use Rattle.grammar.specs.Seen.{KindIs}
use Rattle.grammar.proofs.Tied.Tokens.{stands_here, next_found}

-- ---- a string means no more bytes than it has

data Meant : Option (ℕ × ℕ) → Type 0 where
  no_byte : Meant none
  byte : {b n : ℕ} → 1 ≤ n → Meant (some (b, n))

meant_some : (m : ℕ × ℕ) → Meant (some m) → 1 ≤ m.1
meant_some m (byte a) = a

1≤ : {n : ℕ} → 1 ≤ suc n
1≤ = omega arith

escape_good : (o : Option ℕ) → Meant (elim o [ none ↦ none | some b ↦ some (b, 2) ])
escape_good none = no_byte
escape_good (some b) = byte 1≤

meant_good : (s : List ℕ) → Meant (meant s)
unfolding meant
meant_good s =
    if_case Meant _ _ _ (λ _. no_byte) (λ _.
    if_case Meant _ _ _ (λ _. byte 1≤) (λ _.
    if_case Meant _ _ _ (λ _. byte 1≤) (λ _. escape_good (escaped (at s 1)))))

-- what is meant up to the closing quote, which is one byte more
data Quoted : Option (List ℕ × ℕ) → Type 0 where
  open_quote : Quoted none
  closed_quote : {t : List ℕ} {n : ℕ} → length t < n → Quoted (some (t, n))

quoted_more : (m : ℕ × ℕ) → 1 ≤ m.1 → (o : Option (List ℕ × ℕ)) → Quoted o → Quoted (elim o [ none ↦ none | some r ↦ some (m.0 ∷ r.0, m.1 + r.1) ])
quoted_more m h none open_quote = open_quote
quoted_more m h (some r) (closed_quote {t} {n} l) = closed_quote {t = m.0 ∷ t} {n = m.1 + n} (omega arith)

quoted_good : (f : ℕ) (s : List ℕ) → Quoted (quoted f s)
unfolding quoted
quoted_good zero s = open_quote
quoted_good (suc f) s = go (is "\"" (at s 0)) refl (meant s) refl (meant_good s) (λ t. quoted_good f t)
  where
    go : (c : Bool) → is "\"" (at s 0) ≡ c → (o : Option (ℕ × ℕ)) → meant s ≡ o → Meant o → ((t : List ℕ) → Quoted (quoted f t)) → Quoted (quoted (suc f) s)
    go true e o g h again = rw (e, quoted) (closed_quote {t = []} {n = 1} (omega arith))
    go false e none g h again = rw (e, g, quoted) open_quote
    go false e (some m) g h again = rw (e, quoted) (rw (g, quoted) (quoted_more m (meant_some m h) (quoted f (drop m.1 s)) (again (drop m.1 s))))

-- of a token that is a string
abbrev Fits : Scanned → Type 0
Fits x = (t : List ℕ) (n : ℕ) → x ≡ token (literal (string t)) n → length t ≤ n

no_string : {P : Type 0} → ◌≡◌ {A = ℕ} 0 1 → P
no_string z = absurd (omega arith)

text_fits : (o : Option (List ℕ × ℕ)) → Quoted o → Fits (text o)
unfolding text
text_fits none q = λ t n e. let z : ◌≡◌ {A = ℕ} 0 1 = cc in no_string z
text_fits (some r) (closed_quote {t = u} {n = k} l) =
    if_case Fits _ _ _
    (λ _ t n e. let a : u ≡ t = cc in let b : suc k ≡ n = cc in omega (arith, ap length a))
    (λ _ t n e. let z : ◌≡◌ {A = ℕ} 0 1 = cc in no_string z)

scan_fits : (s : List ℕ) → Fits (scan s)
unfolding scan named number
scan_fits s =
    if_case Fits _ _ _ (λ _ t n e. let z : ◌≡◌ {A = ℕ} 0 1 = cc in no_string z) (λ _.
    if_case Fits _ _ _
    (λ _. if_case Fits _ _ _ (λ _ t n e. let z : ◌≡◌ {A = ℕ} 0 1 = cc in no_string z) (λ _ t n e. let z : ◌≡◌ {A = ℕ} 0 1 = cc in no_string z))
    (λ _.
    if_case Fits _ _ _
    (λ _.
    if_case Fits _ _ _ (λ _ t n e. let z : ◌≡◌ {A = ℕ} 0 1 = cc in no_string z) (λ _.
    if_case Fits _ _ _
    (λ _. if_case Fits _ _ _ (λ _ t n e. let z : ◌≡◌ {A = ℕ} 0 1 = cc in no_string z) (λ _ t n e. let z : ◌≡◌ {A = ℕ} 0 1 = cc in no_string z))
    (λ _. if_case Fits _ _ _ (λ _ t n e. let z : ◌≡◌ {A = ℕ} 0 1 = cc in no_string z) (λ _ t n e. let z : ◌≡◌ {A = ℕ} 0 1 = cc in no_string z))))
    (λ _.
    if_case Fits _ _ _ (λ _. text_fits (quoted (length s) (drop 1 s)) (quoted_good (length s) (drop 1 s))) (λ _.
    if_case Fits _ _ _ (λ _ t n e. let z : ◌≡◌ {A = ℕ} 0 1 = cc in no_string z) (λ _ t n e. let z : ◌≡◌ {A = ℕ} 0 1 = cc in no_string z)))))

string_short : (s : List ℕ) (at p e : ℕ) (t : List ℕ) → next (here s at) ≡ ok (literal (string t), here s p, here s e) → p + length t ≤ e
string_short s at p e t q =
    let F = next_found s (here s at) (stands_here s at) (literal (string t), here s p, here s e) q in
    omega (arith, scan_fits (drop p s) t F.size F.scanned, F.ends)

-- ---- what is seen

module _ (s : List ℕ) (at : ℕ) (inside : at ≤ length s) where
  -- the token, its places moved
  the_shown : (a e : ℕ) (t : Token) → Stands s at a e t → a < e → Shown s at t (at + a) (at + e)
  the_shown a e t N l = record { is = N.is; ahead = omega arith; some = omega arith; within = N.within }

  kind_seen : (a e : ℕ) (k : Kind) → ToldKind s at a e k → KindIs s at (at + a) (at + e) k
  kind_seen a e Name N =
      record {
        spelt = part s at a e;
        shown = the_shown a e _ N.stands N.some;
        free = (plain_tests (part s at a e) N.plain).0;
        long = omega (arith, part_length s at a e N.stands.ahead N.stands.within, N.some);
      }
  kind_seen a e (Word w) N = the_shown a e _ N.stands N.some
  kind_seen a e (Integer x) N = record { number = _; shown = the_shown a e _ N.stands N.some; bits = N.bits }
  kind_seen a e Decimal N =
      record {
        said = part s at a e;
        shown = the_shown a e _ N.stands N.some;
        long = omega (arith, part_length s at a e N.stands.ahead N.stands.within, N.some);
      }
  kind_seen a e (Text n) N =
      record {
        said = text_of (scan (drop (at + a) s));
        shown = the_shown a e _ N.stands N.some;
        size = N.count;
        short = omega (arith, N.count, string_short s at (at + a) (at + e) _ N.stands.is);
      }
  kind_seen a e (Mark b) N = the_shown a e _ N.stands (omega (arith, N.one))
  kind_seen a e End N = record { after = here s (at + e); is = N.stands.is }

  -- what `next_token` answers of the rest of the source
  pub seen_token : (t : Read) → ok t ≡ shown (next (record { place = 0; rest = take (length s - at) (drop at s) })) → KindIs s at (at + t.at) (at + t.end) t.kind
  seen_token t e = kind_seen t.at t.end t.kind (told_at s at inside (ok t) e)

  pub no_token : (n p : ℕ) → refused n p ≡ shown (next (record { place = 0; rest = take (length s - at) (drop at s) })) → ToldRefusal s at n p
  no_token n p e = told_at s at inside (refused n p) e
