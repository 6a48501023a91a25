-- Where texts end: the paper's readers, one law for each way through the code. Assumes nothing.
use Prim.Native.Nat.{ℕ, zero, suc, ◌+◌, ◌-◌, ◌≤◌, ◌<◌}
use native.Mathlib.Omega.{arith}
use native.Mathlib.Nat.{add-sub_cancel_left}
use native.Mathlib.Numerals.{add-one}
use mathlib.Core.Path.{◌≡◌, refl, sym, ◌∙◌}
use mathlib.Core.Bool.{Bool, true, false, not, ◌&&◌}
use mathlib.Core.List.{List, [], ◌∷◌}
use mathlib.Core.Option.{Option, none, some}
use lib.ListN.{length, take, drop, get_or, length-drop, drop_of_length-le}
use lib.Seq.{length-take-le}
use borrow.Author.Tests.{le-leb, lt-leb}
use Rattle.paper.specs.Maybe.{◌>>=◌, require}
use Rattle.paper.specs.Tokens.{reserved, member}
use Rattle.paper.specs.Scanner.{scan}
use Rattle.paper.specs.Decoder.{one_name, name_of, names_of, path_of, long_of, decimal_of, string_of}
use Rattle.theorems.proofs.Laws.DecodeAt.{Bytes, part, name_here, long_here, path_here}
use Rattle.paper.specs.DecodeAt.{word}
use Rattle.std.specs.Bool.{then_some}
use Rattle.std.specs.Prelude.{Option as RustOption}
use Rattle.std.specs.Prelude.{Some, None}
use Rattle.texts.specs.Text.{legal_name, legal_decimal, Ends, EndIs, LongEnds}

-- an answer that stands under a test
pub when_so : (P : RustOption ℕ → Type 0) (b : Bool) (q : ℕ) → (b ≡ true → P (Some q)) → (b ≡ false → P None) → P (then_some b q)
when_so P b q so not_so = case b refl
  where
    case : (t : Bool) → b ≡ t → P (then_some t q)
    case true e = so e
    case false e = not_so e

no_more : {B : Type 0} (c : Bool) → ◌≡◌ {A = Option B} (require c >>= λ _. none) none
unfolding ◌>>=◌ require
no_more true = refl
no_more false = refl

-- ---- names

module _ (text : List ℕ) (p : ℕ) (k : ℕ) (e : k ≡ get_or text p 0) (l : p < length text) where
  pub name_long : length text < p + 1 + k → name_of (drop p text) ≡ none
  unfolding ◌>>=◌ require
  name_long h = name_here text p l ∙ rw (← e, lt-leb k (length text - suc p) (omega arith))

  module _ (h : p + 1 + k ≤ length text) where
    legal : (t : List ℕ) → length t ≡ k → legal_name t ≡ one_name k (scan t) && not (member t reserved)
    unfolding legal_name
    legal t q = rw q

    cut : take (p + 1 + k - (p + 1)) (drop (p + 1) text) ≡ part text (suc p) k
    unfolding part
    cut = rw (add-sub_cancel_left (p + 1) k, add-one p)

    cut_long : length (part text (suc p) k) ≡ k
    unfolding part
    cut_long = length-take-le k (drop (suc p) text) (simp length-drop (omega arith))

    name_open : name_of (drop p text)
        ≡ require (one_name k (scan (part text (suc p) k))) >>= λ _. require (not (member (part text (suc p) k) reserved)) >>= λ _. some (part text (suc p) k, drop (p + 1 + k) text)
    unfolding ◌>>=◌ require
    name_open =
        let q : p + suc k ≡ p + 1 + k = omega arith in
        rw (← e, le-leb k (length text - suc p) (omega arith), q) at (name_here text p l)

    both : {B : Type 0} (a b : Bool) (x : B) → (a && b) ≡ true → (require a >>= λ _. require b >>= λ _. some x) ≡ some x
    unfolding ◌>>=◌ require
    both true true x h = refl
    both true false x h = let z : ◌≡◌ {A = ℕ} 0 1 = cc in absurd (omega arith)
    both false b x h = let z : ◌≡◌ {A = ℕ} 0 1 = cc in absurd (omega arith)

    either : {B : Type 0} (a b : Bool) (x : B) → (a && b) ≡ false → (require a >>= λ _. require b >>= λ _. some x) ≡ none
    unfolding ◌>>=◌ require
    either true true x h = let z : ◌≡◌ {A = ℕ} 0 1 = cc in absurd (omega arith)
    either true false x h = refl
    either false b x h = refl

    pub name_good : legal_name (take (p + 1 + k - (p + 1)) (drop (p + 1) text)) ≡ true → Ends (name_of (drop p text)) text p (p + 1 + k)
    name_good g =
        record {
          what = part text (suc p) k;
          is = name_open ∙ both _ _ _ (sym (legal (part text (suc p) k) cut_long) ∙ (rw cut at g));
          on = omega arith;
          within = h;
        }

    pub name_illegal : legal_name (take (p + 1 + k - (p + 1)) (drop (p + 1) text)) ≡ false → name_of (drop p text) ≡ none
    name_illegal g = name_open ∙ either _ _ _ (sym (legal (part text (suc p) k) cut_long) ∙ (rw cut at g))

-- ---- paths

pub names_stop : (text : List ℕ) (p : ℕ) → p ≤ length text → Ends (names_of 0 (drop p text)) text p p
unfolding names_of
names_stop text p h = record { what = []; is = refl; on = omega arith; within = h }

pub names_no : (text : List ℕ) (p n : ℕ) → 0 < n → name_of (drop p text) ≡ none → names_of n (drop p text) ≡ none
unfolding names_of ◌>>=◌
names_no text p zero h e = absurd (omega arith)
names_no text p (suc n) h e = rw e

pub names_go : (text : List ℕ) (p q n : ℕ) (r : RustOption ℕ) → 0 < n → Ends (name_of (drop p text)) text p q → EndIs (names_of (n - 1) (drop q text)) text q r → EndIs (names_of n (drop p text)) text p r
unfolding names_of ◌>>=◌
names_go text p q zero r h N R = absurd (omega arith)
names_go text p q (suc n) (Some e) h N R =
    let w : suc n - 1 ≡ n = omega arith in
    let R' = rw w at R.is in
    record { what = N.what ∷ R.what; is = rw (N.is, R'); on = omega (arith, N.on, R.on); within = R.within }
names_go text p q (suc n) None h N R =
    let w : suc n - 1 ≡ n = omega arith in
    let R' = rw w at R in
    rw (N.is, R')

module _ (text : List ℕ) (p n : ℕ) (e : n ≡ get_or text p 0) (l : p < length text) where
  pub path_small : n < 1 → path_of (drop p text) ≡ none
  unfolding ◌>>=◌ require
  path_small h = path_here text p l ∙ rw (← e, lt-leb 1 n h)

  pub path_big : 32 < n → path_of (drop p text) ≡ none
  unfolding ◌>>=◌ require
  path_big h = path_here text p l ∙ rw (← e, le-leb 1 n (omega arith), lt-leb n 32 h)

  path_opens : 1 ≤ n → n ≤ 32 → path_of (drop p text) ≡ names_of n (drop (p + 1) text)
  unfolding ◌>>=◌ require
  path_opens g h = path_here text p l ∙ rw (← e, le-leb 1 n g, le-leb n 32 h, add-one p)

  pub path_is : (r : RustOption ℕ) → 1 ≤ n → n ≤ 32 → EndIs (names_of n (drop (p + 1) text)) text (p + 1) r → EndIs (path_of (drop p text)) text p r
  path_is (Some q) g h R = record { what = R.what; is = path_opens g h ∙ R.is; on = omega (arith, R.on); within = R.within }
  path_is None g h R = path_opens g h ∙ R

-- ---- strings and decimals

module _ (text : List ℕ) (p : ℕ) (b : Bytes text) (n : ℕ) (e : n ≡ word 2 text p) (l : p + 2 ≤ length text) where
  pub long_over : length text < p + 2 + n → long_of (drop p text) ≡ none
  unfolding ◌>>=◌ require
  long_over h = long_here text p b l ∙ rw (← e, lt-leb n (length text - (p + 2)) (omega arith))

  pub long_good : p + 2 + n ≤ length text → LongEnds text p (p + 2 + n)
  unfolding ◌>>=◌ require part
  long_good h =
      record {
        is = long_here text p b l ∙ rw (← e, le-leb n (length text - (p + 2)) (omega arith), add-sub_cancel_left (p + 2) n);
        on = omega arith;
        within = h;
      }

module _ (text : List ℕ) (p q : ℕ) (L : LongEnds text p q) where
  pub decimal_good : legal_decimal (take (q - (p + 2)) (drop (p + 2) text)) ≡ true → Ends (decimal_of (drop p text)) text p q
  unfolding decimal_of legal_decimal ◌>>=◌ require
  decimal_good h = record { what = take (q - (p + 2)) (drop (p + 2) text); is = rw (L.is, h); on = omega (arith, L.on); within = L.within }

  pub decimal_illegal : legal_decimal (take (q - (p + 2)) (drop (p + 2) text)) ≡ false → decimal_of (drop p text) ≡ none
  unfolding decimal_of legal_decimal ◌>>=◌ require
  decimal_illegal h = rw (L.is, h)

  string_length : length (take (q - (p + 2)) (drop (p + 2) text)) ≡ q - (p + 2)
  string_length = length-take-le (q - (p + 2)) (drop (p + 2) text) (simp length-drop (omega (arith, L.within)))

  pub string_good : q - (p + 2) ≤ 4095 → Ends (string_of (drop p text)) text p q
  unfolding string_of ◌>>=◌ require
  string_good h =
      record {
        what = take (q - (p + 2)) (drop (p + 2) text);
        is = rw (L.is, string_length, le-leb (q - (p + 2)) 4095 h);
        on = omega (arith, L.on);
        within = L.within;
      }

  pub string_long : 4095 < q - (p + 2) → string_of (drop p text) ≡ none
  unfolding string_of ◌>>=◌ require
  string_long h = rw (L.is, string_length, lt-leb (q - (p + 2)) 4095 h)

pub decimal_no : (text : List ℕ) (p : ℕ) → long_of (drop p text) ≡ none → decimal_of (drop p text) ≡ none
unfolding decimal_of ◌>>=◌
decimal_no text p e = rw e

pub string_no : (text : List ℕ) (p : ℕ) → long_of (drop p text) ≡ none → string_of (drop p text) ≡ none
unfolding string_of ◌>>=◌
string_no text p e = rw e

pub path_none : (text : List ℕ) (p : ℕ) → length text ≤ p → path_of (drop p text) ≡ none
unfolding path_of
path_none text p l = rw (drop_of_length-le text l)
