-- No refusal with 3 comes where the tokens so far, and the next, begin the spelling of a block. Assumes nothing.
use Prim.Native.Nat.{ℕ, zero, suc, ◌+◌, ◌*◌, ◌-◌, ◌≤◌, ◌<◌}
use native.Mathlib.Omega.{arith}
use Prim.Native.Char.{Char}
use Prim.Native.String.{String}
use mathlib.Core.Path.{◌≡◌, refl, sym, ◌∙◌, ap, subst}
use mathlib.Core.Bool.{Bool, true, false, true≢false}
use mathlib.Core.List.{List, [], ◌∷◌, ◌++◌, append_assoc}
use mathlib.Core.Option.{Option, none, some}
use lib.ListN.{length}
use Rattle.paper.specs.Bytes.{when◌then◌else◌}
use Rattle.paper.specs.Answer.{Answer, ok, refused, ◌>>=◌}
use Rattle.paper.specs.Syntax.{Path, Basic, boolean, null, integer, decimal, string, reference, vector, Basics, εⱽ, ◌∷ⱽ◌, Block, εᴮ, ◌∷ᴮ◌, assign, Value, basic, link, extends, Prototypes, εᴾ, named, block}
use Rattle.paper.specs.Tokens.{Token, end, reserved, member, Here, is_name, is_mark}
use Rattle.paper.specs.Scanner.{next}
use Rattle.paper.specs.Grammar.{Spelt, sign, word, spell_path, then_basics, spell_basic, spell_basics, target, then_prototypes, spell, spell_statement, spell_value, spell_prototypes, plain, Free, Some, Formed}
use Rattle.paper.specs.Described.{start}
use Rattle.paper.specs.Reader.{expect, expect_word, names, path, basic_at, basics, statements, value, prototypes, read, is_word, is_end}
use Rattle.paper.specs.Reader as G
use Rattle.theorems.proofs.Laws.Answers.{if_case}
use Rattle.theorems.proofs.ReadExactly.Complete.{mark_self, word_self, name_free, name_no_word}
use Rattle.theorems.proofs.ReadExactly.Proper.{Proper, block_proper}
use Rattle.theorems.proofs.ReadExactly.Late.{Past, given, refusal, past_bind, past_demand, not_3, 0≢3, 5≢3, 6≢3, next_moves, Beyond, next_late, expect_late, names_late, basic_late, basics_late, statements_late, value_late, prototypes_late}
use Rattle.theorems.proofs.ReadExactly.Printed.{Reference∞, FormedBasic, FormedBasics, FormedValue, FormedPrototypes}
use Rattle.theorems.proofs.ReadExactly.Sequence.{Scans, none_yet, and_then}

-- ---- the tokens are those spelt as far as p

data Meets (p : ℕ) : Here → List Spelt → Type 0 where
  done : {at : Here} → Meets p at []
  more : {at h after : Here} {x : Spelt} {xs : List Spelt} → next at ≡ ok (x.0, h, after) → Meets p after xs → Meets p at (x ∷ xs)
  beyond : {at : Here} {xs : List Spelt} → p < at.place → Meets p at xs

past_weaken : {X : Type 0} {p : ℕ} {P Q : X → Type 0} {m : Answer X} → ((x : X) → P x → Q x) → Past p P m → Past p Q m
past_weaken f (given {x} h) = given (f x h)
past_weaken f (refusal q) = refusal q

-- the next token is x, or is past p
data Step (p : ℕ) (at : Here) (x : Spelt) (xs : List Spelt) (y : Token × Here × Here) : Type 0 where
  hit : y.0 ≡ x.0 → Meets p y.2 xs → Step p at x xs y
  miss : p < at.place → p < y.1.place → p < y.2.place → Step p at x xs y

peek : {p : ℕ} {at : Here} {x : Spelt} {xs : List Spelt} → Meets p at (x ∷ xs) → Past p (Step p at x xs) (next at)
peek (more e r) = rw e (given (hit refl r))
peek {p} {at} (beyond l) = past_weaken (λ y g. miss l g.0 g.1) (next_late p at l)

rest_of : {p : ℕ} {at : Here} {x : Spelt} {xs : List Spelt} {y : Token × Here × Here} → Step p at x xs y → Meets p y.2 xs
rest_of (hit q r) = r
rest_of (miss k l m) = beyond m

need : {p : ℕ} {at : Here} {x : Spelt} {xs : List Spelt} {y : Token × Here × Here} (T : Token → Bool) → Step p at x xs y → T x.0 ≡ true → T y.0 ≡ false → p < y.1.place
need T (hit q r) a b = absurd (true≢false (sym a ∙ ap T (sym q) ∙ b))
need T (miss k l m) a b = l

-- a token of which P holds, or past p
data Look (p : ℕ) (at : Here) (P : Token → Type 0) (y : Token × Here × Here) : Type 0 where
  seen : P y.0 → Look p at P y
  unseen : p < at.place → p < y.1.place → p < y.2.place → Look p at P y

abbrev Starts : (Token → Type 0) → List Spelt → Type 0
Starts P [] = ⊥
Starts P (x ∷ xs) = P x.0

starts_map : {P Q : Token → Type 0} (xs : List Spelt) → ((t : Token) → P t → Q t) → Starts P xs → Starts Q xs
starts_map [] f s = s
starts_map (x ∷ xs) f s = f x.0 s

step_look : {p : ℕ} {at : Here} {P : Token → Type 0} {x : Spelt} {xs : List Spelt} (y : Token × Here × Here) → P x.0 → Step p at x xs y → Look p at P y
step_look {P = P} y s (hit q r) = seen (subst P (sym q) s)
step_look y s (miss k l m) = unseen k l m

look : {p : ℕ} {at : Here} (P : Token → Type 0) (xs : List Spelt) → Starts P xs → Meets p at xs → Past p (Look p at P) (next at)
look P [] s m = absurd s
look P (x ∷ xs) s m = past_weaken (λ y t. step_look y s t) (peek m)

strayed : {p : ℕ} {at : Here} {P : Token → Type 0} {y : Token × Here × Here} → Look p at P y → (P y.0 → ⊥) → (p < at.place) × (p < y.2.place)
strayed (seen a) n = absurd (n a)
strayed (unseen k l m) n = (k, m)

-- the first token is one of which P holds; or all is past p
front : {p : ℕ} {at : Here} {R : Type 0} (P : Token → Type 0) (xs : List Spelt) → Starts P xs → Meets p at xs → ((t : Token) (h after : Here) → next at ≡ ok (t, h, after) → P t → R) → (p < at.place → R) → R
front P [] s m f g = absurd s
front P (x ∷ xs) s (more {h = h} {after = a} e r) f g = f x.0 h a e s
front P (x ∷ xs) s (beyond l) f g = g l

reassoc : {p : ℕ} {at : Here} (xs ys zs : List Spelt) → Meets p at ((xs ++ ys) ++ zs) → Meets p at (xs ++ (ys ++ zs))
reassoc {p} {at} xs ys zs m = subst (λ l. Meets p at l) (append_assoc xs ys zs) m

-- ---- along the way

via : {X Y : Type 0} {p : ℕ} {Q : Y → Type 0} {x : X} {m : Answer X} (f : X → Answer Y) → m ≡ ok x → Past p Q (f x) → Past p Q (m >>= f)
unfolding ◌>>=◌
via f e h = rw e h

if_true : {Y : Type 0} {p : ℕ} {Q : Y → Type 0} {c : Bool} {a : Answer Y} (b : Answer Y) → c ≡ true → Past p Q a → Past p Q (when c then a else b)
unfolding when◌then◌else◌
if_true b e h = rw e h

if_false : {Y : Type 0} {p : ℕ} {Q : Y → Type 0} {c : Bool} {b : Answer Y} (a : Answer Y) → c ≡ false → Past p Q b → Past p Q (when c then a else b)
unfolding when◌then◌else◌
if_false a e h = rw e h

clash : {c : Bool} → c ≡ true → c ≡ false → ⊥
clash a b = true≢false (sym a ∙ b)

-- what is then still to come
abbrev Then : {A : Type 0} → ℕ → List Spelt → A × Here → Type 0
Then p ys z = Meets p z.1 ys

lost : {A : Type 0} {p : ℕ} {ys : List Spelt} {m : Answer (A × Here)} → Past p (Beyond p) m → Past p (Then p ys) m
lost h = past_weaken (λ z l. beyond l) h

abbrev No : Char → Token → Type 0
No c t = is_mark c t ≡ false

record Begins (t : Token) : Type 0 where
  no_colon : is_mark ":" t ≡ false
  no_closing : is_mark "]" t ≡ false
  no_word : is_word "extends" t ≡ false
  no_name : is_name t ≡ false

record Stops (t : Token) : Type 0 where
  no_comma : is_mark "," t ≡ false
  no_name : is_name t ≡ false

record NameLike (t : Token) : Type 0 where
  a_name : is_name t ≡ true
  no_word : is_word "extends" t ≡ false
  no_mark : (c : Char) → is_mark c t ≡ false

basic_starts : (b : Basic) (ys : List Spelt) → Starts Begins (spell_basic b ++ ys)
unfolding is_mark is_word is_name member reserved
basic_starts (boolean true) ys = record { no_colon = refl; no_closing = refl; no_word = refl; no_name = refl }
basic_starts (boolean false) ys = record { no_colon = refl; no_closing = refl; no_word = refl; no_name = refl }
basic_starts null ys = record { no_colon = refl; no_closing = refl; no_word = refl; no_name = refl }
basic_starts (integer z) ys = record { no_colon = refl; no_closing = refl; no_word = refl; no_name = refl }
basic_starts (decimal t) ys = record { no_colon = refl; no_closing = refl; no_word = refl; no_name = refl }
basic_starts (string t) ys = record { no_colon = refl; no_closing = refl; no_word = refl; no_name = refl }
basic_starts (reference r) ys = record { no_colon = refl; no_closing = refl; no_word = refl; no_name = refl }
basic_starts (vector bs) ys = record { no_colon = refl; no_closing = refl; no_word = refl; no_name = refl }

path_starts : (o : Option ℕ) (r : Path) (ys : List Spelt) → Reference∞ r → Starts NameLike (spell_path o r ++ ys)
unfolding is_mark
path_starts o [] ys l = absurd (omega (arith, l.some))
path_starts o (n ∷ r) ys l = record { a_name = name_free n l.free.0; no_word = name_no_word n l.free.0; no_mark = λ c. refl }

-- ---- marks, words and references

expect_fine : {p : ℕ} (c : Char) {at : Here} {xs : List Spelt} → Meets p at (sign c ∷ xs) → Past p (λ o. Meets p o xs) (expect c at)
unfolding expect
expect_fine c m = past_bind _ (peek m) (λ y s. past_demand _ 3 _ _ (λ e _. need (is_mark c) s (mark_self c) e) (λ _. given (rest_of s)))

expect_word_fine : {p : ℕ} (w : String) {at : Here} {xs : List Spelt} → Meets p at (word w ∷ xs) → Past p (λ o. Meets p o xs) (expect_word w at)
unfolding expect_word
expect_word_fine w m = past_bind _ (peek m) (λ y s. past_demand _ 3 _ _ (λ e _. need (is_word w) s (word_self w) e) (λ _. given (rest_of s)))

names_fine : {p : ℕ} (k : ℕ) (r : Path) (o : Option ℕ) {at : Here} {ys : List Spelt} → Free r → 1 ≤ length r → Starts (No ":") ys → Meets p at (spell_path o r ++ ys) → Past p (Then p ys) (names k at)
unfolding names
names_fine zero [] o fr one st m = absurd (omega arith)
names_fine zero (n ∷ r) o fr one st m = past_bind _ (peek m) (λ y s. past_demand _ 3 _ _ (λ e _. need is_name s (name_free n fr.0) e) (λ _. refusal (not_3 6≢3)))
names_fine (suc k) [] o fr one st m = absurd (omega arith)
names_fine {p} (suc k) (n ∷ []) o {ys = ys} fr one st m =
    past_bind _ (peek m) (λ y s.
    past_demand _ 3 _ _ (λ e _. need is_name s (name_free n fr.0) e) (λ _.
    past_bind _ (look (No ":") ys st (rest_of s)) (λ z t.
    if_case (Past p (Then p ys)) _ _ _
    (λ c. let l = (strayed t (clash c)).0 in past_bind _ (expect_late p ":" y.2 l) (λ a h. past_bind _ (names_late p k a h) (λ w i. given (beyond i))))
    (λ _. given (rest_of s)))))
names_fine {p} (suc k) (n ∷ j ∷ r) o {ys = ys} fr one st m =
    past_bind _ (peek m) (λ y s.
    past_demand _ 3 _ _ (λ e _. need is_name s (name_free n fr.0) e) (λ _.
    past_bind _ (look (λ t. is_mark ":" t ≡ true) _ (mark_self ":") (rest_of s)) (λ z t.
    if_case (Past p (Then p ys)) _ _ _
    (λ _. past_bind _ (expect_fine ":" (rest_of s)) (λ a h. past_bind _ (names_fine k (j ∷ r) none fr.1 (omega arith) st h) (λ w i. given i)))
    (λ c. given (beyond (strayed t (λ e. clash e c)).0)))))

path_fine : {p : ℕ} (r : Path) (o : Option ℕ) {at : Here} {ys : List Spelt} → Reference∞ r → Starts (No ":") ys → Meets p at (spell_path o r ++ ys) → Past p (Then p ys) (path at)
unfolding path
path_fine r o l st m = names_fine 32 r o l.free l.some st m

-- ---- basics

basics_starts : (b : Basic) (bs : Basics) (ys : List Spelt) → Starts Begins (spell_basics (b ∷ⱽ bs) ++ ys)
basics_starts b bs ys = rw (append_assoc (spell_basic b) (then_basics bs (spell_basics bs)) ys) (basic_starts b _)

meet : {p : ℕ} {at : Here} {R : Type 0} {x : Spelt} {xs : List Spelt} → Meets p at (x ∷ xs) → ((h after : Here) → next at ≡ ok (x.0, h, after) → Meets p after xs → R) → (p < at.place → R) → R
meet (more {h = h} {after = a} e r) f g = f h a e r
meet (beyond l) f g = g l

mutual
  unfolding basic_at G.word is_word is_mark

  basic_fine : {p : ℕ} (f d : ℕ) (b : Basic) {at : Here} {ys : List Spelt} → FormedBasic b → Starts (No ":") ys → Meets p at (spell_basic b ++ ys) → Past p (Then p ys) (basic_at f d at)
  basic_fine zero d b l st m = refusal (not_3 0≢3)
  basic_fine {p} (suc f) d (boolean true) {at} l st m = meet m (λ h a e r. via _ e (if_true _ refl (given r))) (λ k. lost (basic_late p (suc f) d at k))
  basic_fine {p} (suc f) d (boolean false) {at} l st m = meet m (λ h a e r. via _ e (if_false _ refl (if_true _ refl (given r)))) (λ k. lost (basic_late p (suc f) d at k))
  basic_fine {p} (suc f) d null {at} l st m = meet m (λ h a e r. via _ e (if_false _ refl (if_false _ refl (if_true _ refl (given r))))) (λ k. lost (basic_late p (suc f) d at k))
  basic_fine {p} (suc f) d (integer z) {at} l st m = meet m (λ h a e r. via _ e (given r)) (λ k. lost (basic_late p (suc f) d at k))
  basic_fine {p} (suc f) d (decimal z) {at} l st m = meet m (λ h a e r. via _ e (given r)) (λ k. lost (basic_late p (suc f) d at k))
  basic_fine {p} (suc f) d (string z) {at} l st m = meet m (λ h a e r. via _ e (given r)) (λ k. lost (basic_late p (suc f) d at k))
  basic_fine {p} (suc f) d (reference n) {at} l st m =
      meet m (λ h a e r. via _ e (if_false _ refl (if_false _ refl (if_false _ refl (if_true _ refl (past_bind _ (path_fine n none l st r) (λ w i. given i))))))) (λ k. lost (basic_late p (suc f) d at k))
  basic_fine {p} (suc f) d (vector εⱽ) {at} {ys} l st m =
      meet m (λ h a e r. via _ e (
      past_bind _ (expect_fine "[" m) (λ o g.
      past_demand _ 5 _ _ (λ _. not_3 5≢3) (λ _.
      past_bind _ (peek g) (λ y s.
      if_case (Past p (Then p ys)) _ _ _
      (λ _. given (rest_of s))
      (λ c. let k = (strayed {P = λ t. is_mark "]" t ≡ true} (step_look y refl s) (λ e. clash e c)).0 in lost (past_bind _ (basics_late p f (d - 1) o k) (λ z i. given i)))))))) (λ k. lost (basic_late p (suc f) d at k))
  basic_fine {p} (suc f) d (vector (b ∷ⱽ bs)) {at} {ys} l st m =
      meet m (λ h a e r. via _ e (
      past_bind _ (expect_fine "[" m) (λ o g.
      past_demand _ 5 _ _ (λ _. not_3 5≢3) (λ _.
      past_bind _ (look Begins _ (basics_starts b bs ys) g) (λ y t.
      if_case (Past p (Then p ys)) _ _ _
      (λ c. given (beyond (strayed t (λ q. clash c q.no_closing)).1))
      (λ _. past_bind _ (basics_fine f (d - 1) b bs l g) (λ z i. given i))))))) (λ k. lost (basic_late p (suc f) d at k))

  basics_fine : {p : ℕ} (f d : ℕ) (b : Basic) (bs : Basics) {at : Here} {ys : List Spelt} → FormedBasics (b ∷ⱽ bs) → Meets p at (spell_basics (b ∷ⱽ bs) ++ ys) → Past p (Then p ys) (basics f d at)
  basics_fine zero d b bs l m = refusal (not_3 0≢3)
  basics_fine {p} (suc f) d b εⱽ {at} {ys} l m =
      past_bind _ (basic_fine f d b {ys = sign "]" ∷ ys} l.0 refl (reassoc (spell_basic b) (sign "]" ∷ []) ys m)) (λ x g.
      past_bind _ (peek g) (λ y s.
      if_case (Past p (Then p ys)) _ _ _
      (λ c. let k = (strayed {P = λ t. is_mark "," t ≡ false} (step_look y refl s) (clash c)).0 in
      past_bind _ (expect_late p "," x.1 k) (λ a h. past_bind _ (basics_late p f d a h) (λ z i. given (beyond i))))
      (λ _. past_bind _ (expect_fine "]" g) (λ a h. given h))))
  basics_fine {p} (suc f) d b (c ∷ⱽ bs) {at} {ys} l m =
      past_bind _ (basic_fine f d b {ys = sign "," ∷ (spell_basics (c ∷ⱽ bs) ++ ys)} l.0 refl (reassoc (spell_basic b) (sign "," ∷ spell_basics (c ∷ⱽ bs)) ys m)) (λ x g.
      past_bind _ (peek g) (λ y s.
      if_case (Past p (Then p ys)) _ _ _
      (λ _. past_bind _ (expect_fine "," g) (λ a h. past_bind _ (basics_fine f d c bs l.1 h) (λ z i. given i)))
      (λ e. let k = (strayed {P = λ t. is_mark "," t ≡ true} (step_look y refl s) (λ q. clash q e)).0 in
      past_bind _ (expect_late p "]" x.1 k) (λ a h. given (beyond h)))))

-- ---- statements

value_starts : (v : Value) (ys : List Spelt) → FormedValue v → Starts (No ":") (spell_value v ++ ys)
unfolding is_mark
value_starts (basic q b) ys l = rw (append_assoc (spell_basic b) (sign ";" ∷ []) ys) (starts_map (spell_basic b ++ (sign ";" ∷ ys)) (λ t h. h.no_colon) (basic_starts b (sign ";" ∷ ys)))
value_starts (link q r) ys l = rw (append_assoc (spell_path (some q) r) (sign ";" ∷ []) ys) (starts_map (spell_path (some q) r ++ (sign ";" ∷ ys)) (λ t h. h.no_mark ":") (path_starts (some q) r (sign ";" ∷ ys) l))
value_starts (extends q ps) ys l = refl

block_starts : (b : Block) (ys : List Spelt) → Formed b → Starts Stops ys → Starts (No ",") (spell b ++ ys)
block_starts εᴮ ys l st = starts_map ys (λ t h. h.no_comma) st
block_starts (assign n v ∷ᴮ b) ys l st =
    rw (append_assoc (spell_statement (assign n v)) (spell b) ys) (rw (append_assoc (spell_path (target v) n) (spell_value v) (spell b ++ ys))
    (starts_map (spell_path (target v) n ++ (spell_value v ++ (spell b ++ ys))) (λ t h. h.no_mark ",") (path_starts (target v) n _ l.0.0)))

-- how prototypes go on
data Goes (p : ℕ) (last : List Spelt) (ys : List Spelt) (at : Here) : Prototypes → Type 0 where
  last_one : Meets p at (last ++ ys) → Goes p last ys at εᴾ
  goes_on : {ps : Prototypes} → Some ps → Meets p at (sign "," ∷ (spell_prototypes ps ++ ys)) → Goes p last ys at ps

goes : {p : ℕ} (last ys : List Spelt) {at : Here} (ps : Prototypes) → Meets p at (then_prototypes last ps (spell_prototypes ps) ++ ys) → Goes p last ys at ps
goes last ys εᴾ m = last_one m
goes last ys (named q n ps) m = goes_on tt m
goes last ys (block b ps) m = goes_on tt m

then_starts : (ps : Prototypes) (s ys : List Spelt) → Starts (No ":") (then_prototypes (sign ";" ∷ []) ps s ++ ys)
unfolding is_mark
then_starts εᴾ s ys = refl
then_starts (named q n ps) s ys = refl
then_starts (block b ps) s ys = refl

named_fine : {p : ℕ} (f d q : ℕ) (n : Path) (ps : Prototypes) {at : Here} {ys : List Spelt} → Reference∞ n → ((at : Here) → Some ps → Meets p at (spell_prototypes ps ++ ys) → Past p (Then p ys) (prototypes f d at))
    → Meets p at (spell_prototypes (named q n ps) ++ ys) → Past p (Then p ys) (prototypes (suc f) d at)
unfolding prototypes is_mark
named_fine {p} f d q n ps {at} {ys} l again m =
    let m' = reassoc (spell_path (some q) n) (then_prototypes (sign ";" ∷ []) ps (spell_prototypes ps)) ys m in
    front NameLike _ (path_starts (some q) n _ l) m'
    (λ t h a e k. via _ e (if_true _ k.a_name (
    past_bind _ (path_fine n (some q) l (then_starts ps (spell_prototypes ps) ys) m') (λ r g. go h.place r ps (goes (sign ";" ∷ []) ys ps g) again))))
    (λ k. lost (prototypes_late p (suc f) d at k))
  where
    go : (i : ℕ) (r : Path × Here) (ps : Prototypes) → Goes p (sign ";" ∷ []) ys r.1 ps → ((at : Here) → Some ps → Meets p at (spell_prototypes ps ++ ys) → Past p (Then p ys) (prototypes f d at))
        → Past p (Then p ys) (next r.1 >>= λ (u, _, _). when is_mark "," u then (expect "," r.1 >>= λ at. prototypes f d at >>= λ (ps, at). ok (named i r.0 ps, at)) else (expect ";" r.1 >>= λ at. ok (named i r.0 εᴾ, at)))
    go i r ps (last_one g) again =
        past_bind _ (peek g) (λ y s.
        if_case (Past p (Then p ys)) _ _ _
        (λ c. let k = (strayed {P = λ t. is_mark "," t ≡ false} (step_look y refl s) (clash c)).0 in
        past_bind _ (expect_late p "," r.1 k) (λ a h. past_bind _ (prototypes_late p f d a h) (λ z i. given (beyond i))))
        (λ _. past_bind _ (expect_fine ";" g) (λ a h. given h)))
    go i r ps (goes_on o g) again =
        past_bind _ (peek g) (λ y s.
        if_case (Past p (Then p ys)) _ _ _
        (λ _. past_bind _ (expect_fine "," g) (λ a h. past_bind _ (again a o h) (λ z i. given i)))
        (λ e. let k = (strayed {P = λ t. is_mark "," t ≡ true} (step_look y refl s) (λ q. clash q e)).0 in
        past_bind _ (expect_late p ";" r.1 k) (λ a h. given (beyond h))))

block_fine : {p : ℕ} (f d : ℕ) (b : Block) (ps : Prototypes) {at : Here} {ys : List Spelt} → ((at : Here) (zs : List Spelt) → Starts Stops zs → Meets p at (spell b ++ zs) → Past p (Then p zs) (statements f (d - 1) at))
    → ((at : Here) → Some ps → Meets p at (spell_prototypes ps ++ ys) → Past p (Then p ys) (prototypes f d at)) → Starts (No ",") ys
    → Meets p at (spell_prototypes (block b ps) ++ ys) → Past p (Then p ys) (prototypes (suc f) d at)
unfolding prototypes is_mark is_name
block_fine {p} f d b ps {at} {ys} inner again st m =
    meet m
    (λ h a e r. via _ e (if_false _ refl (
    past_bind _ (expect_fine "{" m) (λ o g.
    past_demand _ 5 _ _ (λ _. not_3 5≢3) (λ _.
    past_bind _ (inner o (sign "}" ∷ (then_prototypes [] ps (spell_prototypes ps) ++ ys)) (record { no_comma = refl; no_name = refl }) (reassoc (spell b) (sign "}" ∷ then_prototypes [] ps (spell_prototypes ps)) ys g)) (λ c i.
    past_bind _ (expect_fine "}" i) (λ j k. go c j ps (goes [] ys ps k) again)))))))
    (λ k. lost (prototypes_late p (suc f) d at k))
  where
    go : (c : Block × Here) (j : Here) (ps : Prototypes) → Goes p [] ys j ps → ((at : Here) → Some ps → Meets p at (spell_prototypes ps ++ ys) → Past p (Then p ys) (prototypes f d at))
        → Past p (Then p ys) (next j >>= λ (u, _, _). when is_mark "," u then (expect "," j >>= λ at. prototypes f d at >>= λ (ps, at). ok (block c.0 ps, at)) else ok (block c.0 εᴾ, j))
    go c j ps (last_one g) again =
        past_bind _ (look (No ",") ys st g) (λ y t.
        if_case (Past p (Then p ys)) _ _ _
        (λ e. let k = (strayed t (clash e)).0 in
        past_bind _ (expect_late p "," j k) (λ a h. past_bind _ (prototypes_late p f d a h) (λ z i. given (beyond i))))
        (λ _. given g))
    go c j ps (goes_on o g) again =
        past_bind _ (peek g) (λ y s.
        if_case (Past p (Then p ys)) _ _ _
        (λ _. past_bind _ (expect_fine "," g) (λ a h. past_bind _ (again a o h) (λ z i. given i)))
        (λ e. let k = (strayed {P = λ t. is_mark "," t ≡ true} (step_look y refl s) (λ q. clash q e)).0 in given (beyond k)))

mutual
  unfolding statements is_word is_name is_mark

  statements_fine : {p : ℕ} (f d : ℕ) (b : Block) {at : Here} {ys : List Spelt} → Formed b → Starts Stops ys → Meets p at (spell b ++ ys) → Past p (Then p ys) (statements f d at)
  statements_fine zero d b l st m = refusal (not_3 0≢3)
  statements_fine {p} (suc f) d εᴮ {at} {ys} l st m =
      front Stops ys st m (λ t h a e k. via _ e (if_false _ k.no_name (given m))) (λ k. lost (statements_late p (suc f) d at k))
  statements_fine {p} (suc f) d (assign n v ∷ᴮ b) {at} {ys} l st m =
      let m' = reassoc (spell_path (target v) n) (spell_value v) (spell b ++ ys) (reassoc (spell_statement (assign n v)) (spell b) ys m) in
      front NameLike _ (path_starts (target v) n _ l.0.0) m'
      (λ t h a e k. via _ e (if_true _ k.a_name (
      past_bind _ (path_fine n (target v) l.0.0 (value_starts v _ l.0.1) m') (λ r g.
      past_bind _ (value_fine f d v h.place l.0.1 (block_starts b ys l.1 st) g) (λ w i.
      past_bind _ (statements_fine f d b l.1 st i) (λ s j. given j))))))
      (λ k. lost (statements_late p (suc f) d at k))

  value_fine : {p : ℕ} (f d : ℕ) (v : Value) (q : ℕ) {at : Here} {ys : List Spelt} → FormedValue v → Starts (No ",") ys → Meets p at (spell_value v ++ ys) → Past p (Then p ys) (value f d q at)
  value_fine zero d v q l st m = refusal (not_3 0≢3)
  value_fine {p} (suc f) d (basic i b) q {at} {ys} l st m =
      let m' = reassoc (spell_basic b) (sign ";" ∷ []) ys m in
      front Begins _ (basic_starts b _) m'
      (λ t h a e k. via _ e (if_false _ k.no_word (if_false _ k.no_name (
      past_bind _ (basic_fine f d b {ys = sign ";" ∷ ys} l refl m') (λ r g. past_bind _ (expect_fine ";" g) (λ o j. given j))))))
      (λ k. lost (value_late p (suc f) d q at k))
  value_fine {p} (suc f) d (link i n) q {at} {ys} l st m =
      let m' = reassoc (spell_path (some i) n) (sign ";" ∷ []) ys m in
      front NameLike _ (path_starts (some i) n _ l) m'
      (λ t h a e k. via _ e (if_false _ k.no_word (if_true _ k.a_name (
      past_bind _ (path_fine n (some i) {ys = sign ";" ∷ ys} l refl m') (λ r g. past_bind _ (expect_fine ";" g) (λ o j. given j))))))
      (λ k. lost (value_late p (suc f) d q at k))
  value_fine {p} (suc f) d (extends i ps) q {at} {ys} l st m =
      meet m
      (λ h a e r. via _ e (if_true _ refl (
      past_bind _ (expect_word_fine "extends" m) (λ o g. past_bind _ (prototypes_fine f d ps l.0 l.1 st g) (λ z j. given j)))))
      (λ k. lost (value_late p (suc f) d q at k))

  prototypes_fine : {p : ℕ} (f d : ℕ) (ps : Prototypes) {at : Here} {ys : List Spelt} → Some ps → FormedPrototypes ps → Starts (No ",") ys → Meets p at (spell_prototypes ps ++ ys) → Past p (Then p ys) (prototypes f d at)
  prototypes_fine zero d ps o l st m = refusal (not_3 0≢3)
  prototypes_fine (suc f) d εᴾ o l st m = absurd o
  prototypes_fine (suc f) d (named i n ps) o l st m = named_fine f d i n ps l.0 (λ at s r. prototypes_fine f d ps s l.1 st r) m
  prototypes_fine (suc f) d (block b ps) o l st m =
      block_fine f d b ps (λ at zs c r. statements_fine f (d - 1) b l.0 c r) (λ at s r. prototypes_fine f d ps s l.1 st r) st m

-- ---- the whole description

1≢3 : ◌≡◌ {A = ℕ} 1 3 → ⊥
1≢3 e = omega arith

read_fine : {p : ℕ} (source : List ℕ) (b : Block) → Formed b → Meets p (start source) (spell b ++ ((end, none) ∷ [])) → Past p (λ c. Unit {0}) (read source)
unfolding read is_end is_mark is_name
read_fine source b l m =
    past_demand _ 1 _ _ (λ _. not_3 1≢3) (λ _.
    past_bind _ (statements_fine (2 * length source + 2) 32 b l (record { no_comma = refl; no_name = refl }) m) (λ x g.
    past_bind _ (peek g) (λ y s.
    past_demand _ 3 _ _ (λ e _. need is_end s refl e) (λ _. given tt))))

proper_no_end : (t : Token) → is_end t ≡ false → t ≡ end → ⊥
unfolding is_end
proper_no_end t e z = true≢false (sym (ap is_end z) ∙ e)

nil_append : (ts : List Token) (t : Token) (us : List Token) → [] ≡ ts ++ (t ∷ us) → ⊥
nil_append [] t us e = let z : ◌≡◌ {A = ℕ} 0 1 = cc in omega arith
nil_append (x ∷ ts) t us e = let z : ◌≡◌ {A = ℕ} 0 1 = cc in omega arith

meets : {p : ℕ} (ys : List Spelt) {at mid h after : Here} {ts : List Token} {t : Token} (us : List Token) → Proper ys → Scans at ts mid → next mid ≡ ok (t, h, after) → h.place ≡ p → plain ys ++ (end ∷ []) ≡ ts ++ (t ∷ us) → Meets p at (ys ++ ((end, none) ∷ []))
meets [] {h = h} {after = a} {t = t} us pr none_yet e q w = let z : t ≡ end = cc in more (e ∙ ap (λ i. ok (i, h, a)) z) done
meets {p} (y ∷ ys) {mid = mid} {h = h} {after = a} {t = t} us pr none_yet e q w =
    let z : t ≡ y.0 = cc in
    let e' : next mid ≡ ok (y.0, h, a) = e ∙ ap (λ i. ok (i, h, a)) z in
    let l = next_moves mid e' (proper_no_end y.0 pr.0) in
    let k : p < a.place = omega arith in
    more e' (beyond k)
meets [] {t = t} us pr (and_then {ts = ts} f r) e q w = let z : [] ≡ ts ++ (t ∷ us) = cc in absurd (nil_append ts t us z)
meets (y ∷ ys) {t = t} us pr (and_then {h = h} {after = a} {t = u} {ts = ts} f r) e q w =
    let z : u ≡ y.0 = cc in
    let v : plain ys ++ (end ∷ []) ≡ ts ++ (t ∷ us) = cc in
    more (f ∙ ap (λ i. ok (i, h, a)) z) (meets ys us pr.1 r e q v)

past_refused : {X : Type 0} {p : ℕ} {P : X → Type 0} {m : Answer X} → Past p P m → m ≡ refused 3 p → ⊥
past_refused (given h) e = let z : ◌≡◌ {A = ℕ} 0 1 = cc in omega arith
past_refused {p = p} (refusal {n = n} {q = q} l) e = let i : n ≡ 3 = cc in let j : q ≡ p = cc in let k = l i in omega arith

-- where read refuses with 3 at p, the tokens before p, and the one at p (or the end), do not begin the spelling of a block and the end
pub cannot_continue : (source : List ℕ) (p : ℕ) → read source ≡ refused 3 p
    → (ts us : List Token) (t : Token) (mid h after : Here) → Scans (start source) ts mid → next mid ≡ ok (t, h, after) → h.place ≡ p
    → (b : Block) → Formed b → plain (spell b) ++ (end ∷ []) ≡ ts ++ (t ∷ us) → ⊥
cannot_continue source p e ts us t mid h after r f q b l w = past_refused (read_fine source b l (meets (spell b) us (block_proper b) r f q w)) e
