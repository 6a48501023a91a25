-- A description whose tokens spell a legal block is read as that block. Assumes nothing.
-- The readers' counts: a reader gets x if it gives x, or if its count runs out (number 0), which `enough` rules out in the end.
use Prim.Native.Nat.{ℕ, zero, suc, ◌+◌, ◌*◌, ◌-◌, ◌≤◌}
use native.Mathlib.Omega.{arith}
use Prim.Native.Char.{Char, code}
use Prim.Native.String.{String}
use mathlib.Core.Path.{◌≡◌, refl, sym, ◌∙◌, ap, subst}
use mathlib.Core.Bool.{Bool, true, false, not, ◌||◌}
use mathlib.Core.List.{List, [], ◌∷◌}
use mathlib.Core.Option.{Option, none, some}
use lib.ListN.{length}
use borrow.Author.Tests.{eq-eqb, lt-ltb, le-leb}
use Rattle.paper.specs.Bytes.{when◌then◌else◌, bytes, same}
use Rattle.paper.specs.Answer.{Answer, ok, refused, ◌>>=◌, demand}
use Rattle.paper.specs.Syntax.{Path, Basic, boolean, null, integer, decimal, string, reference, vector, Basics, εⱽ, ◌∷ⱽ◌, Block, εᴮ, ◌∷ᴮ◌, assign, Value, basic, link, extends, Prototypes, εᴾ, named, block}
use Rattle.paper.specs.Tokens.{Token, name, mark, end, reserved, member, Here, is_name, is_mark}
use Rattle.paper.specs.Scanner.{next}
use Rattle.paper.specs.Grammar.{brackets, brackets_in, openings, openings_v, openings_p, Spelt, sign, spell_path, spell_basic, spell_basics, target, then_prototypes, spell, spell_statement, spell_value, spell_prototypes, Free, Some, Legal}
use Rattle.paper.specs.Described.{Sits}
use Rattle.paper.specs.Reader.{expect, expect_word, names, path, basic_at, basics, statements, value, prototypes, read, is_word, is_end, spelling}
use Rattle.paper.specs.Reader as G
use Rattle.theorems.proofs.Laws.Enough.{enough}
use Rattle.theorems.proofs.ReadExactly.Printed.{LegalBasic, LegalBasics, LegalValue, LegalPrototypes, Reference32}
use Rattle.theorems.proofs.ReadExactly.Sequence.{Reads, done, Tokens, split, uncons, final, Ahead}

-- ---- answers

data Gets {X : Type 0} (x : X) : Answer X → Type 0 where
  gets : {y : X} → x ≡ y → Gets x (ok y)
  short : {p : ℕ} → Gets x (refused 0 p)

-- the steps of a reader along the way
gets_bind : {X Y : Type 0} {x : X} {y : Y} {m : Answer X} (f : X → Answer Y) → Gets x m → Gets y (f x) → Gets y (m >>= f)
unfolding ◌>>=◌
gets_bind {y = y} f (gets e) h = subst (λ i. Gets y (f i)) e h
gets_bind f short h = short

via : {X Y : Type 0} {x : X} {y : Y} {m : Answer X} (f : X → Answer Y) → m ≡ ok x → Gets y (f x) → Gets y (m >>= f)
unfolding ◌>>=◌
via f e h = rw e h

demanded : {Y : Type 0} {y : Y} {c : Bool} (n p : ℕ) (f : Unit {0} → Answer Y) → c ≡ true → Gets y (f tt) → Gets y (demand c n p >>= f)
unfolding ◌>>=◌ demand
demanded n p f e h = rw e h

if_true : {Y : Type 0} {y : Y} {c : Bool} {a : Answer Y} (b : Answer Y) → c ≡ true → Gets y a → Gets y (when c then a else b)
unfolding when◌then◌else◌
if_true b e h = rw e h

if_false : {Y : Type 0} {y : Y} {c : Bool} {b : Answer Y} (a : Answer Y) → c ≡ false → Gets y b → Gets y (when c then a else b)
unfolding when◌then◌else◌
if_false a e h = rw e h

-- ---- tests

pub same_refl : (s : List ℕ) → same s s ≡ true
same_refl [] = refl
same_refl (x ∷ s) = rw (eq-eqb x x refl) (same_refl s)

pub mark_self : (c : Char) → is_mark c (mark (code c)) ≡ true
unfolding is_mark
mark_self c = eq-eqb (code c) (code c) refl

pub word_self : (w : String) → is_word w (name (bytes w)) ≡ true
unfolding is_word
word_self w = same_refl (bytes w)

pub name_free : (n : List ℕ) → member n reserved ≡ false → is_name (name n) ≡ true
unfolding is_name
name_free n e = ap not e

or_false : (a b : Bool) → (a || b) ≡ false → a ≡ false
or_false true b e = e
or_false false b e = refl

-- a name that is not reserved is not `extends`
pub name_no_word : (n : List ℕ) → member n reserved ≡ false → is_word "extends" (name n) ≡ false
unfolding is_word reserved member
name_no_word n e = or_false _ _ e

-- a name is no mark, and no mark is a name
name_no_mark : (c : Char) (n : List ℕ) → is_mark c (name n) ≡ false
unfolding is_mark
name_no_mark c n = refl

mark_no_name : (m : ℕ) → is_name (mark m) ≡ false
unfolding is_name
mark_no_name m = refl

-- ---- what the next token can be

abbrev No : Char → Token → Type 0
No c t = is_mark c t ≡ false

-- the first token of a basic
record Begins (t : Token) : Type 0 where
  no_colon : is_mark ":" t ≡ false
  no_closing : is_mark "]" t ≡ false
  no_word : is_word "extends" t ≡ false
  no_name : is_name t ≡ false

-- the token after statements
record Stops (t : Token) : Type 0 where
  no_comma : is_mark "," t ≡ false
  no_name : is_name t ≡ false

basic_first : {at out : Here} (b : Basic) → Reads at (spell_basic b) out → Ahead Begins at
unfolding is_mark is_word is_name member reserved
basic_first (boolean true) r = let u = uncons r in record { token = _; h = u.h; after = u.after; is = u.is; so = record { no_colon = refl; no_closing = refl; no_word = refl; no_name = refl } }
basic_first (boolean false) r = let u = uncons r in record { token = _; h = u.h; after = u.after; is = u.is; so = record { no_colon = refl; no_closing = refl; no_word = refl; no_name = refl } }
basic_first null r = let u = uncons r in record { token = _; h = u.h; after = u.after; is = u.is; so = record { no_colon = refl; no_closing = refl; no_word = refl; no_name = refl } }
basic_first (integer z) r = let u = uncons r in record { token = _; h = u.h; after = u.after; is = u.is; so = record { no_colon = refl; no_closing = refl; no_word = refl; no_name = refl } }
basic_first (decimal t) r = let u = uncons r in record { token = _; h = u.h; after = u.after; is = u.is; so = record { no_colon = refl; no_closing = refl; no_word = refl; no_name = refl } }
basic_first (string t) r = let u = uncons r in record { token = _; h = u.h; after = u.after; is = u.is; so = record { no_colon = refl; no_closing = refl; no_word = refl; no_name = refl } }
basic_first (reference p) r = let u = uncons r in record { token = _; h = u.h; after = u.after; is = u.is; so = record { no_colon = refl; no_closing = refl; no_word = refl; no_name = refl } }
basic_first (vector bs) r = let u = uncons r in record { token = _; h = u.h; after = u.after; is = u.is; so = record { no_colon = refl; no_closing = refl; no_word = refl; no_name = refl } }

-- the first token of a reference at o
record NameAt (o : Option ℕ) (at : Here) : Type 0 where
  named : List ℕ
  h : Here
  after : Here
  is : next at ≡ ok (name named, h, after)
  sits : Sits o h.place
  free : member named reserved ≡ false

path_first : {at out : Here} (o : Option ℕ) (r : Path) → Reference32 r → Reads at (spell_path o r) out → NameAt o at
path_first o [] l r = absurd (omega (arith, l.some))
path_first o (n ∷ ns) l r = let u = uncons r in record { named = n; h = u.h; after = u.after; is = u.is; sits = u.sits; free = l.free.0 }

value_first : {at out : Here} (v : Value) → LegalValue v → Reads at (spell_value v) out → Ahead (No ":") at
unfolding is_mark
value_first (basic p b) l r = let a = basic_first b (split (spell_basic b) r).first in record { token = a.token; h = a.h; after = a.after; is = a.is; so = a.so.no_colon }
value_first (link p n) l r = let a = path_first (some p) n l (split (spell_path (some p) n) r).first in record { token = name a.named; h = a.h; after = a.after; is = a.is; so = refl }
value_first (extends p ps) l r = let u = uncons r in record { token = _; h = u.h; after = u.after; is = u.is; so = refl }

no_comma : {at : Here} → Ahead Stops at → Ahead (No ",") at
no_comma a = record { token = a.token; h = a.h; after = a.after; is = a.is; so = a.so.no_comma }

block_first : {at out : Here} (b : Block) → Legal b → Reads at (spell b) out → Ahead Stops out → Ahead (No ",") at
unfolding is_mark
block_first εᴮ l done a = no_comma a
block_first (assign n v ∷ᴮ b) l r a =
    let u = path_first (target v) n l.0.0 (split (spell_path (target v) n) (split (spell_statement (assign n v)) r).first).first in
    record { token = name u.named; h = u.h; after = u.after; is = u.is; so = refl }

ahead : {P : Token → Type 0} {at out : Here} {x : Spelt} {xs : List Spelt} → Reads at (x ∷ xs) out → P x.0 → Ahead P at
ahead {x = x} r p = let u = uncons r in record { token = x.0; h = u.h; after = u.after; is = u.is; so = p }

-- ---- marks, words and references

expected : (c : Char) (at : Here) {h after : Here} → next at ≡ ok (mark (code c), h, after) → Gets after (expect c at)
unfolding expect
expected c at e = via _ e (demanded _ _ _ (mark_self c) (gets refl))

expected_word : (w : String) (at : Here) {h after : Here} → next at ≡ ok (name (bytes w), h, after) → Gets after (expect_word w at)
unfolding expect_word
expected_word w at e = via _ e (demanded _ _ _ (word_self w) (gets refl))

names_gets : (k : ℕ) (r : Path) (o : Option ℕ) {at out : Here} → Free r → 1 ≤ length r → length r ≤ k → Reads at (spell_path o r) out → Ahead (No ":") out → Gets (r, out) (names k at)
unfolding names spelling
names_gets zero [] o fr one few r a = absurd (omega arith)
names_gets zero (n ∷ ns) o fr one few r a = absurd (omega arith)
names_gets (suc k) [] o fr one few r a = absurd (omega arith)
names_gets (suc k) (n ∷ []) o fr one few r a =
    let u = final r in
    via _ u.is (demanded _ _ _ (name_free n fr.0) (via _ a.is (if_false _ a.so (gets refl))))
names_gets (suc k) (n ∷ m ∷ ns) o fr one few r a =
    let u = uncons r in
    let v = uncons u.second in
    via _ u.is (demanded _ _ _ (name_free n fr.0) (via _ v.is (if_true _ (mark_self ":") (gets_bind _ (expected _ _ v.is)
    (gets_bind _ (names_gets k (m ∷ ns) none fr.1 (omega arith) (omega arith) v.second a) (gets refl))))))

path_gets : (r : Path) (o : Option ℕ) {at out : Here} → Reference32 r → Reads at (spell_path o r) out → Ahead (No ":") out → Gets (r, out) (path at)
unfolding path
path_gets r o l = names_gets 32 r o l.free l.some l.few

-- ---- basics

mutual
  unfolding basic_at G.word is_word is_mark

  basic_gets : (f d : ℕ) (b : Basic) {at out : Here} → LegalBasic b → brackets b ≤ d → Reads at (spell_basic b) out → Ahead (No ":") out → Gets (b, out) (basic_at f d at)
  basic_gets zero d b l few r a = short
  basic_gets (suc f) d (boolean true) l few r a = via _ (final r).is (if_true _ refl (gets refl))
  basic_gets (suc f) d (boolean false) l few r a = via _ (final r).is (if_false _ refl (if_true _ refl (gets refl)))
  basic_gets (suc f) d null l few r a = via _ (final r).is (if_false _ refl (if_false _ refl (if_true _ refl (gets refl))))
  basic_gets (suc f) d (integer z) l few r a = via _ (final r).is (gets refl)
  basic_gets (suc f) d (decimal t) l few r a = via _ (final r).is (gets refl)
  basic_gets (suc f) d (string t) l few r a = via _ (final r).is (gets refl)
  basic_gets (suc f) d (reference n) l few r a =
      let u = uncons r in
      via _ u.is (if_false _ refl (if_false _ refl (if_false _ refl (if_true _ refl (gets_bind _ (path_gets n none l u.second a) (gets refl))))))
  basic_gets (suc f) d (vector εⱽ) l few r a =
      let u = uncons r in
      let v = final u.second in
      via _ u.is (gets_bind _ (expected _ _ u.is) (demanded _ _ _ (lt-ltb 0 d (omega arith)) (via _ v.is (if_true _ refl (gets refl)))))
  basic_gets (suc f) d (vector (b ∷ⱽ bs)) l few r a =
      let u = uncons r in
      let v = basic_first b (split (spell_basic b) u.second).first in
      via _ u.is (gets_bind _ (expected _ _ u.is) (demanded _ _ _ (lt-ltb 0 d (omega arith)) (via _ v.is (if_false _ v.so.no_closing
      (gets_bind _ (basics_gets f (d - 1) b bs l (omega arith) u.second) (gets refl))))))

  basics_gets : (f d : ℕ) (b : Basic) (bs : Basics) {at out : Here} → LegalBasics (b ∷ⱽ bs) → brackets_in (b ∷ⱽ bs) ≤ d → Reads at (spell_basics (b ∷ⱽ bs)) out → Gets (b ∷ⱽ bs, out) (basics f d at)
  basics_gets zero d b bs l few r = short
  basics_gets (suc f) d b εⱽ l few r =
      let s = split (spell_basic b) r in
      let u = final s.second in
      gets_bind _ (basic_gets f d b l.0 (omega arith) s.first (ahead s.second refl))
      (via _ u.is (if_false _ refl (gets_bind _ (expected _ _ u.is) (gets refl))))
  basics_gets (suc f) d b (c ∷ⱽ bs) l few r =
      let s = split (spell_basic b) r in
      let u = uncons s.second in
      gets_bind _ (basic_gets f d b l.0 (omega arith) s.first (ahead s.second refl))
      (via _ u.is (if_true _ refl (gets_bind _ (expected _ _ u.is) (gets_bind _ (basics_gets f d c bs l.1 (omega arith) u.second) (gets refl)))))

-- ---- statements

-- how a list of prototypes goes on after a first one, up to out
data Goes (last : List Spelt) (at : Here) (out : Here) : Prototypes → Type 0 where
  last_one : Reads at last out → Goes last at out εᴾ
  goes_on : {ps : Prototypes} → Some ps → Reads at (sign "," ∷ spell_prototypes ps) out → Goes last at out ps

goes : (last : List Spelt) {at out : Here} (ps : Prototypes) → Reads at (then_prototypes last ps (spell_prototypes ps)) out → Goes last at out ps
goes last εᴾ r = last_one r
goes last (named p n ps) r = goes_on tt r
goes last (block b ps) r = goes_on tt r

nothing : {at out : Here} → Reads at [] out → at ≡ out
nothing done = refl

named_gets : (f d p : ℕ) (n : Path) (ps : Prototypes) {at out : Here} → Reference32 n → ((at : Here) → Some ps → Reads at (spell_prototypes ps) out → Gets (ps, out) (prototypes f d at))
    → Reads at (spell_prototypes (named p n ps)) out → Gets (named p n ps, out) (prototypes (suc f) d at)
unfolding prototypes is_mark
named_gets f d p n ps {at} {out} l again r =
    let s = split (spell_path (some p) n) r in
    let u = path_first (some p) n l s.first in
    via _ u.is (if_true _ (name_free u.named u.free) (go s.mid s.first u.h.place u.sits ps (goes (sign ";" ∷ []) ps s.second) again))
  where
    go : (mid : Here) → Reads at (spell_path (some p) n) mid → (q : ℕ) → p ≡ q → (ps : Prototypes) → Goes (sign ";" ∷ []) mid out ps
        → ((at : Here) → Some ps → Reads at (spell_prototypes ps) out → Gets (ps, out) (prototypes f d at))
        → Gets {X = Prototypes × Here} (named p n ps, out) (path at >>= λ (r, at). next at >>= λ (u, _, _). when is_mark "," u then (expect "," at >>= λ at. prototypes f d at >>= λ (ps, at). ok (named q r ps, at)) else (expect ";" at >>= λ at. ok (named q r εᴾ, at)))
    go mid first q e ps (last_one r) again =
        let v = final r in
        gets_bind _ (path_gets n (some p) l first (ahead r refl))
        (via _ v.is (if_false _ refl (gets_bind _ (expected _ _ v.is) (gets (ap (λ i. (named i n εᴾ, out)) e)))))
    go mid first q e ps (goes_on s r) again =
        let v = uncons r in
        gets_bind _ (path_gets n (some p) l first (ahead r refl))
        (via _ v.is (if_true _ refl (gets_bind _ (expected _ _ v.is) (gets_bind _ (again v.after s v.second) (gets (ap (λ i. (named i n ps, out)) e))))))

block_gets : (f d : ℕ) (b : Block) (ps : Prototypes) {at out : Here} → 1 ≤ d → ((at mid : Here) → Reads at (spell b) mid → Ahead Stops mid → Gets (b, mid) (statements f (d - 1) at))
    → ((at : Here) → Some ps → Reads at (spell_prototypes ps) out → Gets (ps, out) (prototypes f d at)) → Ahead (No ",") out
    → Reads at (spell_prototypes (block b ps)) out → Gets (block b ps, out) (prototypes (suc f) d at)
unfolding prototypes is_mark is_name
block_gets f d b ps {at} {out} few inner again a r =
    let u = uncons r in
    let s = split (spell b) u.second in
    let c = uncons s.second in
    via _ u.is (if_false _ refl (gets_bind _ (expected _ _ u.is) (demanded _ _ _ (lt-ltb 0 d few)
    (gets_bind _ (inner u.after s.mid s.first (ahead s.second (record { no_comma = refl; no_name = refl }))) (gets_bind _ (expected _ _ c.is)
    (go c.after ps (goes [] ps c.second) again))))))
  where
    go : (mid : Here) (ps : Prototypes) → Goes [] mid out ps → ((at : Here) → Some ps → Reads at (spell_prototypes ps) out → Gets (ps, out) (prototypes f d at))
        → Gets {X = Prototypes × Here} (block b ps, out) (next mid >>= λ (u, _, _). when is_mark "," u then (expect "," mid >>= λ at. prototypes f d at >>= λ (ps, at). ok (block b ps, at)) else ok (block b εᴾ, mid))
    go mid ps (last_one r) again =
        let e = nothing r in
        let v : Ahead (No ",") mid = subst (Ahead (No ",")) (sym e) a in
        via _ v.is (if_false _ v.so (gets (ap (λ i. (block b εᴾ, i)) (sym e))))
    go mid ps (goes_on s r) again =
        let v = uncons r in
        via _ v.is (if_true _ refl (gets_bind _ (expected _ _ v.is) (gets_bind _ (again v.after s v.second) (gets refl))))

mutual
  unfolding statements is_word is_name is_mark

  statements_gets : (f d : ℕ) (b : Block) {at out : Here} → Legal b → openings b ≤ d → Reads at (spell b) out → Ahead Stops out → Gets (b, out) (statements f d at)
  statements_gets zero d b l few r a = short
  statements_gets (suc f) d εᴮ l few done a = via _ a.is (if_false _ a.so.no_name (gets refl))
  statements_gets (suc f) d (assign n v ∷ᴮ b) l few r a =
      let s = split (spell_statement (assign n v)) r in
      let t = split (spell_path (target v) n) s.first in
      let u = path_first (target v) n l.0.0 t.first in
      via _ u.is (if_true _ (name_free u.named u.free)
      (gets_bind _ (path_gets n (target v) l.0.0 t.first (value_first v l.0.1 t.second))
      (gets_bind _ (value_gets f d v u.h.place l.0.1 (omega arith) u.sits t.second (block_first b l.1 s.second a))
      (gets_bind _ (statements_gets f d b l.1 (omega arith) s.second a) (gets refl)))))

  value_gets : (f d : ℕ) (v : Value) (p : ℕ) {at out : Here} → LegalValue v → openings_v v ≤ d → Sits (target v) p → Reads at (spell_value v) out → Ahead (No ",") out → Gets (v, out) (value f d p at)
  value_gets zero d v p l few e r a = short
  value_gets (suc f) d (basic q b) p {at} {out} l few e r a =
      let s = split (spell_basic b) r in
      let u = basic_first b s.first in
      let w = final s.second in
      via _ u.is (if_false _ u.so.no_word (if_false _ u.so.no_name
      (gets_bind _ (basic_gets f d b l few s.first (ahead s.second refl)) (gets_bind _ (expected _ _ w.is) (gets (ap (λ i. (basic i b, out)) e))))))
  value_gets (suc f) d (link q n) p {at} {out} l few e r a =
      let s = split (spell_path (some q) n) r in
      let u = path_first (some q) n l s.first in
      let w = final s.second in
      via _ u.is (if_false _ (name_no_word u.named u.free) (if_true _ (name_free u.named u.free)
      (gets_bind _ (path_gets n (some q) l s.first (ahead s.second refl)) (gets_bind _ (expected _ _ w.is) (gets (ap (λ i. (link i n, out)) u.sits))))))
  value_gets (suc f) d (extends q ps) p {at} {out} l few e r a =
      let u = uncons r in
      via _ u.is (if_true _ refl (gets_bind _ (expected_word _ _ u.is) (gets_bind _ (prototypes_gets f d ps l.0 l.1 few u.second a) (gets (ap (λ i. (extends i ps, out)) e)))))

  prototypes_gets : (f d : ℕ) (ps : Prototypes) {at out : Here} → Some ps → LegalPrototypes ps → openings_p ps ≤ d → Reads at (spell_prototypes ps) out → Ahead (No ",") out → Gets (ps, out) (prototypes f d at)
  prototypes_gets zero d ps o l few r a = short
  prototypes_gets (suc f) d εᴾ o l few r a = absurd o
  prototypes_gets (suc f) d (named p n ps) o l few r a = named_gets f d p n ps l.0 (λ at s r. prototypes_gets f d ps s l.1 few r a) r
  prototypes_gets (suc f) d (block b ps) o l few r a =
      block_gets f d b ps (omega arith) (λ at mid r c. statements_gets f (d - 1) b l.0 (omega arith) r c) (λ at s r. prototypes_gets f d ps s l.1 (omega arith) r a) a r

-- ---- the whole description

read_gets : (source : List ℕ) (b : Block) → length source ≤ 32768 → Legal b → openings b ≤ 32 → Tokens source (spell b) → Gets b (read source)
unfolding read is_end is_mark is_name
read_gets source b size l few t =
    demanded _ _ _ (le-leb (length source) 32768 size)
    (gets_bind _ (statements_gets (2 * length source + 2) 32 b l few t.reads (record { token = end; h = t.h; after = t.after; is = t.ended; so = record { no_comma = refl; no_name = refl } }))
    (via _ t.ended (demanded _ _ _ refl (gets refl))))

-- what the source's tokens spell is read
pub read_complete : (source : List ℕ) (b : Block) → length source ≤ 32768 → Legal b → openings b ≤ 32 → Tokens source (spell b) → read source ≡ ok b
read_complete source b size l few t = go (read source) refl (read_gets source b size l few t)
  where
    go : (m : Answer Block) → read source ≡ m → Gets b m → read source ≡ ok b
    go m e (gets q) = e ∙ ap ok (sym q)
    go m e (short {p = p}) = absurd (enough source p e)
