-- What the readers tell: of what is read, and of where they are stuck. The tokens so far begin the spelling of a block, limits aside, and keep
-- the limits. Assumes nothing.
use Prim.Native.Nat.{ℕ, zero, suc, ◌+◌, ◌*◌, ◌-◌, ◌≤◌}
use native.Mathlib.Omega.{arith}
use Prim.Native.Char.{Char, code}
use Prim.Native.String.{String}
use mathlib.Core.Path.{◌≡◌, refl, sym, ◌∙◌, ap, subst}
use mathlib.Core.Bool.{Bool, true, false}
use mathlib.Core.List.{List, [], ◌∷◌, ◌++◌, append_assoc}
use mathlib.Core.Option.{Option, none, some}
use lib.ListN.{length}
use lib.Dec.{ltb}
use borrow.Author.Tests.{le-leb, ltb-true, ltb-false}
use Rattle.paper.specs.Bytes.{bytes}
use Rattle.paper.specs.Answer.{Answer, ok, refused, ◌>>=◌, demand}
use Rattle.paper.specs.Syntax.{Path, Basic, boolean, null, integer, decimal, string, reference, vector, Basics, εⱽ, ◌∷ⱽ◌, Block, εᴮ, ◌∷ᴮ◌, assign, Value, basic, link, extends, Prototypes, εᴾ, named, block}
use Rattle.paper.specs.Tokens.{Token, name, literal, mark, end, reserved, member, Here, is_name, is_mark}
use Rattle.paper.specs.Scanner.{next}
use Rattle.paper.specs.Grammar.{Spelt, sign, word, then_names, spell_path, then_basics, spell_basic, spell_basics, target, then_prototypes, spell, spell_value, spell_prototypes, Some, Formed}
use Rattle.paper.specs.Reader.{expect, expect_word, names, path, basic_at, basics, statements, value, prototypes, read, spelling}
use Rattle.paper.specs.Reader as G
use Rattle.paper.specs.Described.{opens, start}
use Rattle.theorems.proofs.Laws.Answers.{if_case}
use Rattle.theorems.proofs.Laws.Gives.{gives_ok}
use Rattle.theorems.proofs.ReadExactly.Limits.{Run, joins, ends, chain, State, fresh, Turn, comma, semicolon, a_literal, a_word, free_name, joint, bracket, brace, end_bracket, end_brace, at_first, name_is_free, append_nil}
use Rattle.theorems.proofs.ReadExactly.Printed.{Reference∞, FormedBasic, FormedBasics, FormedValue, FormedPrototypes}
use Rattle.theorems.proofs.ReadExactly.Sound.{mark_true, word_true, name_true, end_true, token_cases, Literal, next_literal}

-- ---- answers

pub data Tells {X : Type 0} (P : X → Type 0) (S : ℕ → ℕ → Type 0) : Answer X → Type 0 where
  tells : {x : X} → P x → Tells P S (ok x)
  stuck : {n q : ℕ} → S n q → Tells P S (refused n q)
  short : {q : ℕ} → Tells P S (refused 0 q)

tells_bind : {X Y : Type 0} {P : X → Type 0} {S S' : ℕ → ℕ → Type 0} {Q : Y → Type 0} {m : Answer X} (f : X → Answer Y) → Tells P S m → ((n q : ℕ) → S n q → S' n q) → ((x : X) → P x → Tells Q S' (f x)) → Tells Q S' (m >>= f)
unfolding ◌>>=◌
tells_bind f (tells {x} h) g c = c x h
tells_bind f (stuck {n} {q} s) g c = stuck (g n q s)
tells_bind f short g c = short

tells_demand : {Y : Type 0} {S : ℕ → ℕ → Type 0} {Q : Y → Type 0} (c : Bool) (n q : ℕ) (f : Unit {0} → Answer Y) → (c ≡ false → S n q) → (c ≡ true → Tells Q S (f tt)) → Tells Q S (demand c n q >>= f)
unfolding ◌>>=◌ demand
tells_demand true n q f s g = g refl
tells_demand false n q f s g = stuck (s refl)

demanded : {Y : Type 0} {S : ℕ → ℕ → Type 0} {Q : Y → Type 0} (c : Bool) (n q : ℕ) (f : Unit {0} → Answer Y) → c ≡ true → Tells Q S (f tt) → Tells Q S (demand c n q >>= f)
unfolding ◌>>=◌ demand
demanded c n q f e h = rw e h

-- ---- where a reader is stuck

-- the next tokens are those spelt, wherever they stand, and keep the limits
pub data Went : State → Here → List Spelt → Here → State → Type 0 where
  done : {s : State} {at : Here} → Went s at [] at s
  more : {s s₁ s₂ : State} {at h after out : Here} {x : Spelt} {xs : List Spelt} → next at ≡ ok (x.0, h, after) → Turn s x.0 s₁ → Went s₁ after xs out s₂ → Went s at (x ∷ xs) out s₂

step : {s s₁ s₂ : State} {at out : Here} {x : Token × Here × Here} {y : Spelt} {ys : List Spelt} → next at ≡ ok x → x.0 ≡ y.0 → Turn s y.0 s₁ → Went s₁ x.2 ys out s₂ → Went s at (y ∷ ys) out s₂
step {x = x} e q t r = more (e ∙ ap (λ t. ok (t, x.1, x.2)) q) t r

join : {s s₁ s₂ : State} {at mid out : Here} {xs ys : List Spelt} → Went s at xs mid s₁ → Went s₁ mid ys out s₂ → Went s at (xs ++ ys) out s₂
join done r = r
join (more e t r) q = more e t (join r q)

-- what stands where n is given at q, in the state s, and the token that would go on but for the limits: no way to go on, or no token;
-- a 33rd opening; a 33rd name
pub data Shows (s : State) (mid : Here) : ℕ → ℕ → List Spelt → Type 0 where
  cannot : {t : Token} {h after : Here} → next mid ≡ ok (t, h, after) → Shows s mid 3 h.place []
  none_there : {n q : ℕ} → next mid ≡ refused n q → Shows s mid n q []
  opening : {x : Spelt} {h after : Here} → next mid ≡ ok (x.0, h, after) → opens x.0 ≡ true → s.0 ≡ 0 → Shows s mid 5 h.place (x ∷ [])
  another_name : {x : Spelt} {h after : Here} → next mid ≡ ok (x.0, h, after) → is_name x.0 ≡ true → chain s.1 ≡ 32 → Shows s mid 6 h.place (x ∷ [])

-- tokens, and then what n is given for at q: of both C holds
pub record Stuck (C : List Spelt → Type 0) (s : State) (at : Here) (n q : ℕ) : Type 0 where
  pub before : List Spelt
  pub further : List Spelt
  pub mid : Here
  pub now : State
  pub went : Went s at before mid now
  pub shows : Shows now mid n q further
  pub so : C (before ++ further)

stuck_at : {C : List Spelt → Type 0} {s s₁ : State} {at mid : Here} (ws : List Spelt) {y : Token × Here × Here} → Went s at ws mid s₁ → next mid ≡ ok y → C ws → Stuck C s at 3 y.1.place
stuck_at {s₁ = s₁} {mid = mid} ws {y} r e c = record { before = ws; further = []; mid = mid; now = s₁; went = r; shows = cannot {t = y.0} {h = y.1} {after = y.2} e; so = rw append_nil c }

-- what was read before a reader that is stuck
record Led (C : List Spelt → Type 0) (s : State) (at mid : Here) (s₁ : State) (ts : List Spelt) : Type 0 where
  by : List Spelt
  went : Went s at by mid s₁
  so : C (by ++ ts)

stuck_after : {C C' : List Spelt → Type 0} {s s₁ : State} {at mid : Here} → ((ts : List Spelt) → C ts → Led C' s at mid s₁ ts) → (n q : ℕ) → Stuck C s₁ mid n q → Stuck C' s at n q
stuck_after {C' = C'} f n q s =
    let l = f (s.before ++ s.further) s.so in
    record { before = l.by ++ s.before; further = s.further; mid = s.mid; now = s.now; went = join l.went s.went; shows = s.shows; so = subst C' (sym (append_assoc l.by s.before s.further)) l.so }

tells_next : {Y : Type 0} {C : List Spelt → Type 0} {Q : Y → Type 0} {s s₁ : State} {at mid : Here} (ws : List Spelt) (f : Token × Here × Here → Answer Y) → Went s at ws mid s₁ → C ws → ((y : Token × Here × Here) → next mid ≡ ok y → Tells Q (Stuck C s at) (f y)) → Tells Q (Stuck C s at) (next mid >>= f)
tells_next {C = C} {s = s} {s₁ = s₁} {at = at} {mid = mid} ws f r k c = tells_bind f (go (next mid) refl) (λ n q s. s) c
  where
    go : (m : Answer (Token × Here × Here)) → next mid ≡ m → Tells (λ y. next mid ≡ ok y) (Stuck C s at) m
    go (ok y) e = tells e
    go (refused n q) e = stuck (record { before = ws; further = []; mid = mid; now = s₁; went = r; shows = none_there e; so = rw append_nil k })

-- the next token is t
record Is (t : Token) (at out : Here) : Type 0 where
  h : Here
  is : next at ≡ ok (t, h, out)

over : {s s₁ : State} {at out : Here} {x : Spelt} → Is x.0 at out → Turn s x.0 s₁ → Went s at (x ∷ []) out s₁
over i t = more i.is t done

expect_tells : {C : List Spelt → Type 0} (c : Char) {s s₁ : State} {at mid : Here} (ws : List Spelt) → Went s at ws mid s₁ → C ws → Tells (Is (mark (code c)) mid) (Stuck C s at) (expect c mid)
unfolding expect
expect_tells {C} c ws r k =
    tells_next {C = C} ws _ r k (λ y e.
    tells_demand _ 3 _ _ (λ _. stuck_at ws r e k) (λ t. tells (record { h = y.1; is = e ∙ ap (λ t. ok (t, y.1, y.2)) (mark_true c y.0 t) })))

expect_word_tells : {C : List Spelt → Type 0} (w : String) {s s₁ : State} {at mid : Here} (ws : List Spelt) → Went s at ws mid s₁ → C ws → Tells (Is (name (bytes w)) mid) (Stuck C s at) (expect_word w mid)
unfolding expect_word
expect_word_tells {C} w ws r k =
    tells_next {C = C} ws _ r k (λ y e.
    tells_demand _ 3 _ _ (λ _. stuck_at ws r e k) (λ t. tells (record { h = y.1; is = e ∙ ap (λ t. ok (t, y.1, y.2)) (word_true w y.0 t) })))

-- tokens that begin the spelling of something that F holds of
pub record Begin {A : Type 0} (sp : A → List Spelt) (F : A → Type 0) (ts : List Spelt) : Type 0 where
  pub it : A
  pub rest : List Spelt
  pub formed : F it
  pub eq : sp it ≡ ts ++ rest

-- ---- references

-- a name, and a reference
abbrev a_path : Path
a_path = bytes "a" ∷ []

a_reference : Reference∞ a_path
unfolding member reserved
a_reference = record { some = omega arith; few = tt; free = (refl, tt) }

then_names_some : (r : Path) (s : List Spelt) → 1 ≤ length r → then_names r s ≡ sign ":" ∷ s
then_names_some [] s l = absurd (omega arith)
then_names_some (n ∷ r) s l = refl

abbrev BeginPath : Option ℕ → List Spelt → Type 0
BeginPath o = Begin (spell_path o) Reference∞

begin_path : (o : Option ℕ) → BeginPath o []
begin_path o = record { it = a_path; rest = spell_path o a_path; formed = a_reference; eq = refl }

one_name : (o : Option ℕ) (n : List ℕ) → member n reserved ≡ false → BeginPath o ((name n, o) ∷ [])
one_name o n e = record { it = n ∷ []; rest = []; formed = record { some = omega arith; few = tt; free = (e, tt) }; eq = refl }

record Pathy (s : State) (at : Here) (x : Path × Here) : Type 0 where
  count : ℕ
  went : (o : Option ℕ) → Went s at (spell_path o x.0) x.1 (s.0, ends count)
  formed : Reference∞ x.0

-- k more names are allowed
names_tells : (k : ℕ) (o : Option ℕ) (s : State) (at : Here) → chain s.1 + k ≡ 32 → Tells (Pathy s at) (Stuck (BeginPath o) s at) (names k at)
unfolding names
names_tells zero o s at w =
    tells_next {C = BeginPath o} [] _ done (begin_path o) (λ x e.
    tells_demand _ 3 _ _ (λ _. stuck_at [] done e (begin_path o)) (λ n.
    let i : x.0 ≡ name (spelling x.0) = name_true x.0 n in
    stuck (record {
      before = [];
      further = (name (spelling x.0), o) ∷ [];
      mid = at;
      now = s;
      went = done;
      shows = another_name {h = x.1} {after = x.2} (e ∙ ap (λ t. ok (t, x.1, x.2)) i) (sym (ap is_name i) ∙ n) (omega arith);
      so = one_name o (spelling x.0) (name_is_free x.0 n);
    })))
names_tells (suc k) o s at w =
    tells_next {C = BeginPath o} [] _ done (begin_path o) (λ x e.
    tells_demand _ 3 _ _ (λ _. stuck_at [] done e (begin_path o)) (λ n.
    let fr = name_is_free x.0 n in
    let counts : Turn s (name (spelling x.0)) (s.0, ends (suc (chain s.1))) = free_name (spelling x.0) fr (omega arith) in
    let one : (o : Option ℕ) → Went s at ((name (spelling x.0), o) ∷ []) x.2 (s.0, ends (suc (chain s.1))) = λ o. step e (name_true x.0 n) counts done in
    let so_far = one_name o (spelling x.0) fr in
    tells_next {C = BeginPath o} ((name (spelling x.0), o) ∷ []) _ (one o) so_far (λ y _.
    if_case (Tells (Pathy s at) (Stuck (BeginPath o) s at)) _ _ _
    (λ _.
    tells_bind _ (expect_tells {C = BeginPath o} ":" ((name (spelling x.0), o) ∷ []) (one o) so_far) (λ n q s. s) (λ a i.
    tells_bind _ (names_tells k none (s.0, joins (suc (chain s.1))) a (omega arith)) (stuck_after (λ ts g. record {
      by = (name (spelling x.0), o) ∷ sign ":" ∷ [];
      went = join (one o) (over i joint);
      so = record {
        it = spelling x.0 ∷ g.it;
        rest = g.rest;
        formed = record { some = omega arith; few = tt; free = (fr, g.formed.free) };
        eq = ap (λ l. (name (spelling x.0), o) ∷ l) (then_names_some g.it _ g.formed.some ∙ ap (λ l. sign ":" ∷ l) g.eq);
      };
    })) (λ z g.
    tells {x = (spelling x.0 ∷ z.0, z.1)} (record {
      count = g.count;
      went = λ o. step e (name_true x.0 n) counts (rw (then_names_some z.0 (spell_path none z.0) g.formed.some) (join (over i joint) (g.went none)));
      formed = record { some = omega arith; few = tt; free = (fr, g.formed.free) };
    }))))
    (λ _. tells {x = (spelling x.0 ∷ [], x.2)} (record { count = suc (chain s.1); went = one; formed = record { some = omega arith; few = tt; free = (fr, tt) } })))))

path_tells : (o : Option ℕ) (s : State) (at : Here) → chain s.1 ≡ 0 → Tells (Pathy s at) (Stuck (BeginPath o) s at) (path at)
unfolding path
path_tells o s at w = names_tells 32 o s at (omega arith)

-- ---- basics

abbrev BeginBasic : List Spelt → Type 0
BeginBasic = Begin spell_basic FormedBasic

begin_basic : BeginBasic []
begin_basic = record { it = null; rest = spell_basic null; formed = tt; eq = refl }

begin_vector : BeginBasic (sign "[" ∷ [])
begin_vector = record { it = vector εⱽ; rest = sign "]" ∷ []; formed = tt; eq = refl }

record Basicly (s : State) (at : Here) (x : Basic × Here) : Type 0 where
  run : Run
  went : Went s at (spell_basic x.0) x.1 (s.0, run)
  formed : FormedBasic x.0

-- one basic at least
record Several (bs : Basics) : Type 0 where
  formed : FormedBasics bs
  some : (s : List Spelt) → then_basics bs s ≡ sign "," ∷ s

abbrev BeginBasics : List Spelt → Type 0
BeginBasics = Begin spell_basics Several

-- up to `]`: d openings are then allowed
record Basicslys (d : ℕ) (s : State) (at : Here) (x : Basics × Here) : Type 0 where
  went : Went s at (spell_basics x.0) x.1 (fresh d)
  several : Several x.0

word_tells : (t : Token) (s : State) (at h after : Here) → next at ≡ ok (t, h, after) → Tells (Basicly s at) (Stuck BeginBasic s at) (G.word t h after)
unfolding G.word member reserved
word_tells t s at h after e =
    let x : Token × Here × Here = (t, h, after) in
    if_case (Tells (Basicly s at) (Stuck BeginBasic s at)) _ _ _ (λ c. tells {x = (boolean true, after)} (record { run = joins 0; went = step {x = x} e (word_true "true" t c) (a_word "true" refl) done; formed = tt })) (λ _.
    if_case (Tells (Basicly s at) (Stuck BeginBasic s at)) _ _ _ (λ c. tells {x = (boolean false, after)} (record { run = joins 0; went = step {x = x} e (word_true "false" t c) (a_word "false" refl) done; formed = tt })) (λ _.
    if_case (Tells (Basicly s at) (Stuck BeginBasic s at)) _ _ _ (λ c. tells {x = (null, after)} (record { run = joins 0; went = step {x = x} e (word_true "NULL" t c) (a_word "NULL" refl) done; formed = tt })) (λ _.
    if_case (Tells (Basicly s at) (Stuck BeginBasic s at)) _ _ _
    (λ c.
    let d : Went s at (word "DATA" ∷ []) after (fresh s.0) = step {x = x} e (word_true "DATA" t c) (a_word "DATA" refl) done in
    tells_bind _ (path_tells none (fresh s.0) after refl) (stuck_after (λ ts g. record { by = word "DATA" ∷ []; went = d; so = record { it = reference g.it; rest = g.rest; formed = g.formed; eq = ap (λ l. word "DATA" ∷ l) g.eq } })) (λ r g.
    tells {x = (reference r.0, r.1)} (record { run = ends g.count; went = join d (g.went none); formed = g.formed }))) (λ _.
    stuck (stuck_at [] done e begin_basic)))))

abbrev first_token : List Spelt → Token
first_token [] = end
first_token (x ∷ xs) = x.0

literal_formed : (b : Basic) → spell_basic b ≡ (literal b, none) ∷ [] → FormedBasic b
literal_formed (boolean b) e = tt
literal_formed null e = tt
literal_formed (integer z) e = tt
literal_formed (decimal t) e = tt
literal_formed (string t) e = tt
literal_formed (reference r) e = let q : name (bytes "DATA") ≡ literal (reference r) = ap first_token e in let z : ◌≡◌ {A = ℕ} 0 1 = cc in absurd (omega arith)
literal_formed (vector bs) e = let q : mark (code "[") ≡ literal (vector bs) = ap first_token e in let z : ◌≡◌ {A = ℕ} 0 1 = cc in absurd (omega arith)

inside : {X : Type 0} {a b : X} → ok a ≡ ok b → a ≡ b
inside e = cc

-- a 33rd opening is here
too_deep : {C : List Spelt → Type 0} (c : Char) {d : ℕ} {r : Run} {at out : Here} {x : Token × Here × Here} → next at ≡ ok x → Is (mark (code c)) at out → opens (mark (code c)) ≡ true → C (sign c ∷ []) → ltb 0 d ≡ false → Stuck C (d, r) at 5 x.1.place
too_deep c {d} {r} {at} {x = x} e i o k l =
    let q = inside (sym e ∙ i.is) in
    let z = ltb-false 0 d l in
    record { before = []; further = sign c ∷ []; mid = at; now = (d, r); went = done; shows = opening {h = x.1} {after = x.2} (e ∙ ap (λ t. ok (t, x.1, x.2)) (ap (λ y. y.0) q)) o (omega arith); so = k }

one_less : (d : ℕ) → ltb 0 d ≡ true → d ≡ suc (d - 1)
one_less d e = let l = ltb-true 0 d e in omega arith

mutual
  unfolding basic_at opens is_mark

  basic_tells : (f d : ℕ) (r : Run) (at : Here) → Tells (Basicly (d, r) at) (Stuck BeginBasic (d, r) at) (basic_at f d at)
  basic_tells zero d r at = short
  basic_tells (suc f) d r at =
      tells_next {C = BeginBasic} [] _ done begin_basic (λ x e.
      token_cases x.0
      (λ n q. rw q (word_tells (name n) (d, r) at x.1 x.2 (e ∙ ap (λ t. ok (t, x.1, x.2)) q)))
      (λ b q. let l : Literal (literal b) = subst Literal q (gives_ok (next_literal at) e) in
      rw q (tells {x = (b, x.2)} (record { run = joins 0; went = rw l (step e q (a_literal b) done); formed = literal_formed b l })))
      (λ m q. rw q (
      tells_bind _ (expect_tells {C = BeginBasic} "[" [] done begin_basic) (λ n q s. s) (λ a i.
      tells_demand _ 5 _ _ (λ l. too_deep "[" e i refl begin_vector l) (λ l.
      let opened : Went (d, r) at (sign "[" ∷ []) a (fresh (d - 1)) = over i (bracket (one_less d l)) in
      tells_next {C = BeginBasic} (sign "[" ∷ []) _ opened begin_vector (λ y e₁.
      if_case (Tells (Basicly (d, r) at) (Stuck BeginBasic (d, r) at)) _ _ _
      (λ c. tells {x = (vector εⱽ, y.2)} (record { run = joins 0; went = join opened (step e₁ (mark_true "]" y.0 c) (end_bracket (one_less d l)) done); formed = tt }))
      (λ _.
      tells_bind _ (basics_tells f (d - 1) d (one_less d l) a) (stuck_after (λ ts g. record { by = sign "[" ∷ []; went = opened; so = record { it = vector g.it; rest = g.rest; formed = g.formed.formed; eq = ap (λ l. sign "[" ∷ l) g.eq } })) (λ z g.
      tells {x = (vector z.0, z.1)} (record { run = joins 0; went = join opened g.went; formed = g.several.formed }))))))))
      (λ q. rw q (stuck (stuck_at [] done e begin_basic))))

  basics_tells : (f d d' : ℕ) → d' ≡ suc d → (at : Here) → Tells (Basicslys d' (fresh d) at) (Stuck BeginBasics (fresh d) at) (basics f d at)
  basics_tells zero d d' w at = short
  basics_tells (suc f) d d' w at =
      tells_bind _ (basic_tells f d (joins 0) at) (stuck_after (λ ts g. record { by = []; went = done; so = record { it = g.it ∷ⱽ εⱽ; rest = g.rest ++ (sign "]" ∷ []); formed = record { formed = (g.formed, tt); some = λ s. refl }; eq = rw g.eq (append_assoc ts g.rest (sign "]" ∷ [])) } })) (λ x g.
      let one : BeginBasics (spell_basic x.0) = record { it = x.0 ∷ⱽ εⱽ; rest = sign "]" ∷ []; formed = record { formed = (g.formed, tt); some = λ s. refl }; eq = refl } in
      tells_next {C = BeginBasics} (spell_basic x.0) _ g.went one (λ y _.
      if_case (Tells (Basicslys d' (fresh d) at) (Stuck BeginBasics (fresh d) at)) _ _ _
      (λ _.
      tells_bind _ (expect_tells {C = BeginBasics} "," (spell_basic x.0) g.went one) (λ n q s. s) (λ a i.
      tells_bind _ (basics_tells f d d' w a) (stuck_after (λ ts h. record {
        by = spell_basic x.0 ++ (sign "," ∷ []);
        went = join g.went (over i comma);
        so = record {
          it = x.0 ∷ⱽ h.it;
          rest = h.rest;
          formed = record { formed = (g.formed, h.formed.formed); some = λ s. refl };
          eq = rw (h.formed.some (spell_basics h.it), h.eq, append_assoc (spell_basic x.0) (sign "," ∷ []) ts, append_assoc (spell_basic x.0) (sign "," ∷ ts) h.rest);
        };
      })) (λ z h.
      tells {x = (x.0 ∷ⱽ z.0, z.1)} (record { went = join g.went (rw (h.several.some (spell_basics z.0)) (join (over i comma) h.went)); several = record { formed = (g.formed, h.several.formed); some = λ s. refl } }))))
      (λ _.
      tells_bind _ (expect_tells {C = BeginBasics} "]" (spell_basic x.0) g.went one) (λ n q s. s) (λ a i.
      tells {x = (x.0 ∷ⱽ εⱽ, a)} (record { went = join g.went (over i (end_bracket w)); several = record { formed = (g.formed, tt); some = λ s. refl } })))))

-- ---- statements

abbrev pub BeginBlock : List Spelt → Type 0
BeginBlock = Begin spell Formed

begin_block : BeginBlock []
begin_block = record { it = εᴮ; rest = []; formed = tt; eq = refl }

record Blockly (s : State) (at : Here) (x : Block × Here) : Type 0 where
  went : Went s at (spell x.0) x.1 s
  formed : Formed x.0

abbrev BeginValue : List Spelt → Type 0
BeginValue = Begin spell_value FormedValue

begin_value : BeginValue []
begin_value = record { it = link 0 a_path; rest = spell_value (link 0 a_path); formed = a_reference; eq = refl }

record Valuely (s : State) (at : Here) (x : Value × Here) : Type 0 where
  went : Went s at (spell_value x.0) x.1 (fresh s.0)
  formed : FormedValue x.0

record Listed (ps : Prototypes) : Type 0 where
  some : Some ps
  formed : FormedPrototypes ps

abbrev BeginPrototypes : List Spelt → Type 0
BeginPrototypes = Begin spell_prototypes Listed

begin_prototypes : BeginPrototypes []
begin_prototypes = record { it = named 0 a_path εᴾ; rest = spell_prototypes (named 0 a_path εᴾ); formed = record { some = tt; formed = (a_reference, tt) }; eq = refl }

begin_braces : BeginPrototypes (sign "{" ∷ [])
begin_braces = record { it = block εᴮ εᴾ; rest = sign "}" ∷ []; formed = record { some = tt; formed = (tt, tt) }; eq = refl }

record Prototypely (s : State) (at : Here) (x : Prototypes × Here) : Type 0 where
  went : Went s at (spell_prototypes x.0) x.1 s
  listed : Listed x.0

then_some : (l : List Spelt) (ps : Prototypes) (s : List Spelt) → Some ps → then_prototypes l ps s ≡ sign "," ∷ s
then_some l εᴾ s o = absurd o
then_some l (named p r ps) s o = refl
then_some l (block b ps) s o = refl

mutual
  unfolding statements opens is_mark member reserved

  statements_tells : (f d : ℕ) (at : Here) → Tells (Blockly (fresh d) at) (Stuck BeginBlock (fresh d) at) (statements f d at)
  statements_tells zero d at = short
  statements_tells (suc f) d at =
      tells_next {C = BeginBlock} [] _ done begin_block (λ x e.
      if_case (Tells (Blockly (fresh d) at) (Stuck BeginBlock (fresh d) at)) _ _ _
      (λ _.
      tells_bind _ (path_tells none (fresh d) at refl) (stuck_after (λ ts g. record {
        by = [];
        went = done;
        so = record {
          it = assign g.it (link 0 a_path) ∷ᴮ εᴮ;
          rest = g.rest ++ (spell_value (link 0 a_path) ++ []);
          formed = ((g.formed, a_reference), tt);
          eq = rw g.eq (append_assoc (ts ++ g.rest) (spell_value (link 0 a_path)) [] ∙ append_assoc ts g.rest (spell_value (link 0 a_path) ++ []));
        };
      })) (λ r a.
      tells_bind _ (value_tells f d x.1.place a.count r.1) (stuck_after (λ ts g. record {
        by = spell_path (target g.it) r.0;
        went = a.went (target g.it);
        so = record {
          it = assign r.0 g.it ∷ᴮ εᴮ;
          rest = g.rest ++ [];
          formed = ((a.formed, g.formed), tt);
          eq = rw g.eq (ap (λ l. l ++ []) (sym (append_assoc (spell_path (target g.it) r.0) ts g.rest)) ∙ append_assoc (spell_path (target g.it) r.0 ++ ts) g.rest []);
        };
      })) (λ v b.
      tells_bind _ (statements_tells f d v.1) (stuck_after (λ ts g. record {
        by = spell_path (target v.0) r.0 ++ spell_value v.0;
        went = join (a.went (target v.0)) b.went;
        so = record {
          it = assign r.0 v.0 ∷ᴮ g.it;
          rest = g.rest;
          formed = ((a.formed, b.formed), g.formed);
          eq = rw g.eq (sym (append_assoc (spell_path (target v.0) r.0 ++ spell_value v.0) ts g.rest));
        };
      })) (λ s c.
      tells {x = (assign r.0 v.0 ∷ᴮ s.0, s.1)} (record { went = join (join (a.went (target v.0)) b.went) c.went; formed = ((a.formed, b.formed), c.formed) })))))
      (λ _. tells {x = (εᴮ, at)} (record { went = done; formed = tt })))

  value_tells : (f d p c : ℕ) (at : Here) → Tells (Valuely (d, ends c) at) (Stuck BeginValue (d, ends c) at) (value f d p at)
  value_tells zero d p c at = short
  value_tells (suc f) d p c at =
      tells_next {C = BeginValue} [] _ done begin_value (λ x e.
      if_case (Tells (Valuely (d, ends c) at) (Stuck BeginValue (d, ends c) at)) _ _ _
      (λ _.
      tells_bind _ (expect_word_tells {C = BeginValue} "extends" [] done begin_value) (λ n q s. s) (λ a i.
      let r : Went (d, ends c) at (word "extends" ∷ []) a (fresh d) = over i (a_word "extends" refl) in
      tells_bind _ (prototypes_tells f d a) (stuck_after (λ ts g. record {
        by = word "extends" ∷ [];
        went = r;
        so = record { it = extends 0 g.it; rest = g.rest; formed = (g.formed.some, g.formed.formed); eq = ap (λ l. word "extends" ∷ l) g.eq };
      })) (λ ps g.
      tells {x = (extends p ps.0, ps.1)} (record { went = join r g.went; formed = (g.listed.some, g.listed.formed) }))))
      (λ _.
      if_case (Tells (Valuely (d, ends c) at) (Stuck BeginValue (d, ends c) at)) _ _ _
      (λ _.
      tells_bind _ (path_tells (some 0) (d, ends c) at refl) (stuck_after (λ ts g. record {
        by = [];
        went = done;
        so = record { it = link 0 g.it; rest = g.rest ++ (sign ";" ∷ []); formed = g.formed; eq = rw g.eq (append_assoc ts g.rest (sign ";" ∷ [])) };
      })) (λ r a.
      tells_bind _ (expect_tells {C = BeginValue} ";" (spell_path (some x.1.place) r.0) (a.went (some x.1.place)) (record { it = link x.1.place r.0; rest = sign ";" ∷ []; formed = a.formed; eq = refl })) (λ n q s. s) (λ o i.
      tells {x = (link x.1.place r.0, o)} (record { went = join (a.went (some x.1.place)) (over i semicolon); formed = a.formed }))))
      (λ _.
      tells_bind _ (basic_tells f d (ends c) at) (stuck_after (λ ts g. record {
        by = [];
        went = done;
        so = record { it = basic 0 g.it; rest = g.rest ++ (sign ";" ∷ []); formed = g.formed; eq = rw g.eq (append_assoc ts g.rest (sign ";" ∷ [])) };
      })) (λ r a.
      tells_bind _ (expect_tells {C = BeginValue} ";" (spell_basic r.0) a.went (record { it = basic p r.0; rest = sign ";" ∷ []; formed = a.formed; eq = refl })) (λ n q s. s) (λ o i.
      tells {x = (basic p r.0, o)} (record { went = join a.went (over i semicolon); formed = a.formed }))))))

  prototypes_tells : (f d : ℕ) (at : Here) → Tells (Prototypely (fresh d) at) (Stuck BeginPrototypes (fresh d) at) (prototypes f d at)
  prototypes_tells zero d at = short
  prototypes_tells (suc f) d at =
      tells_next {C = BeginPrototypes} [] _ done begin_prototypes (λ x e.
      if_case (Tells (Prototypely (fresh d) at) (Stuck BeginPrototypes (fresh d) at)) _ _ _
      (λ _.
      tells_bind _ (path_tells (some 0) (fresh d) at refl) (stuck_after (λ ts g. record {
        by = [];
        went = done;
        so = record { it = named 0 g.it εᴾ; rest = g.rest ++ (sign ";" ∷ []); formed = record { some = tt; formed = (g.formed, tt) }; eq = rw g.eq (append_assoc ts g.rest (sign ";" ∷ [])) };
      })) (λ r a.
      let o : Option ℕ = some x.1.place in
      let one : BeginPrototypes (spell_path o r.0) = record { it = named x.1.place r.0 εᴾ; rest = sign ";" ∷ []; formed = record { some = tt; formed = (a.formed, tt) }; eq = refl } in
      tells_next {C = BeginPrototypes} (spell_path o r.0) _ (a.went o) one (λ y _.
      if_case (Tells (Prototypely (fresh d) at) (Stuck BeginPrototypes (fresh d) at)) _ _ _
      (λ _.
      tells_bind _ (expect_tells {C = BeginPrototypes} "," (spell_path o r.0) (a.went o) one) (λ n q s. s) (λ k i.
      tells_bind _ (prototypes_tells f d k) (stuck_after (λ ts g. record {
        by = spell_path o r.0 ++ (sign "," ∷ []);
        went = join (a.went o) (over i comma);
        so = record {
          it = named x.1.place r.0 g.it;
          rest = g.rest;
          formed = record { some = tt; formed = (a.formed, g.formed.formed) };
          eq = rw (then_some (sign ";" ∷ []) g.it (spell_prototypes g.it) g.formed.some, g.eq, append_assoc (spell_path o r.0) (sign "," ∷ []) ts, append_assoc (spell_path o r.0) (sign "," ∷ ts) g.rest);
        };
      })) (λ ps g.
      tells {x = (named x.1.place r.0 ps.0, ps.1)} (record {
        went = join (a.went o) (rw (then_some (sign ";" ∷ []) ps.0 (spell_prototypes ps.0) g.listed.some) (join (over i comma) g.went));
        listed = record { some = tt; formed = (a.formed, g.listed.formed) };
      }))))
      (λ _.
      tells_bind _ (expect_tells {C = BeginPrototypes} ";" (spell_path o r.0) (a.went o) one) (λ n q s. s) (λ k i.
      tells {x = (named x.1.place r.0 εᴾ, k)} (record { went = join (a.went o) (over i semicolon); listed = record { some = tt; formed = (a.formed, tt) } }))))))
      (λ _.
      tells_bind _ (expect_tells {C = BeginPrototypes} "{" [] done begin_prototypes) (λ n q s. s) (λ a i.
      tells_demand _ 5 _ _ (λ l. too_deep "{" e i refl begin_braces l) (λ l.
      let r : Went (fresh d) at (sign "{" ∷ []) a (fresh (d - 1)) = over i (brace (one_less d l)) in
      tells_bind _ (statements_tells f (d - 1) a) (stuck_after (λ ts g. record {
        by = sign "{" ∷ [];
        went = r;
        so = record {
          it = block g.it εᴾ;
          rest = g.rest ++ (sign "}" ∷ []);
          formed = record { some = tt; formed = (g.formed, tt) };
          eq = ap (λ l. sign "{" ∷ l) (rw g.eq (append_assoc ts g.rest (sign "}" ∷ [])));
        };
      })) (λ b c.
      tells_bind _ (expect_tells {C = BeginPrototypes} "}" (sign "{" ∷ spell b.0) (join r c.went) (record { it = block b.0 εᴾ; rest = sign "}" ∷ []; formed = record { some = tt; formed = (c.formed, tt) }; eq = refl })) (λ n q s. s) (λ i m.
      let h : Went (fresh (d - 1)) b.1 (sign "}" ∷ []) i (fresh d) = over m (end_brace (one_less d l)) in
      let so_far : Went (fresh d) at (sign "{" ∷ (spell b.0 ++ (sign "}" ∷ []))) i (fresh d) = join r (join c.went h) in
      let closed : BeginPrototypes (sign "{" ∷ (spell b.0 ++ (sign "}" ∷ []))) = record {
        it = block b.0 (named 0 a_path εᴾ);
        rest = sign "," ∷ spell_prototypes (named 0 a_path εᴾ);
        formed = record { some = tt; formed = (c.formed, (a_reference, tt)) };
        eq = ap (λ l. sign "{" ∷ l) (sym (append_assoc (spell b.0) (sign "}" ∷ []) (sign "," ∷ spell_prototypes (named 0 a_path εᴾ))));
      } in
      tells_next {C = BeginPrototypes} (sign "{" ∷ (spell b.0 ++ (sign "}" ∷ []))) _ so_far closed (λ y _.
      if_case (Tells (Prototypely (fresh d) at) (Stuck BeginPrototypes (fresh d) at)) _ _ _
      (λ _.
      tells_bind _ (expect_tells {C = BeginPrototypes} "," (sign "{" ∷ (spell b.0 ++ (sign "}" ∷ []))) so_far closed) (λ n q s. s) (λ j m.
      let k : Went (fresh d) i (sign "," ∷ []) j (fresh d) = over m comma in
      tells_bind _ (prototypes_tells f d j) (stuck_after (λ ts g. record {
        by = (sign "{" ∷ (spell b.0 ++ (sign "}" ∷ []))) ++ (sign "," ∷ []);
        went = join so_far k;
        so = record {
          it = block b.0 g.it;
          rest = g.rest;
          formed = record { some = tt; formed = (c.formed, g.formed.formed) };
          eq = ap (λ l. sign "{" ∷ l) (rw (then_some [] g.it (spell_prototypes g.it) g.formed.some, g.eq) (simp append_assoc));
        };
      })) (λ ps g.
      tells {x = (block b.0 ps.0, ps.1)} (record {
        went = join r (join c.went (join h (rw (then_some [] ps.0 (spell_prototypes ps.0) g.listed.some) (join k g.went))));
        listed = record { some = tt; formed = (c.formed, g.listed.formed) };
      }))))
      (λ _. tells {x = (block b.0 εᴾ, i)} (record { went = so_far; listed = record { some = tt; formed = (c.formed, tt) } })))))))))

-- ---- the whole description

-- all the tokens of the source, up to its end, are b's
pub record Whole (source : List ℕ) (b : Block) : Type 0 where
  pub out : Here
  pub h : Here
  pub after : Here
  pub went : Went at_first (start source) (spell b) out at_first
  pub ended : next out ≡ ok (end, h, after)
  pub formed : Formed b

pub read_tells : (source : List ℕ) → length source ≤ 32768 → Tells (Whole source) (Stuck BeginBlock at_first (start source)) (read source)
unfolding read
read_tells source size =
    demanded _ 1 _ _ (le-leb (length source) 32768 size) (
    tells_bind _ (statements_tells (2 * length source + 2) 32 (start source)) (λ n q s. s) (λ b g.
    let whole : BeginBlock (spell b.0) = record { it = b.0; rest = []; formed = g.formed; eq = sym (append_nil (spell b.0)) } in
    tells_next {C = BeginBlock} (spell b.0) _ g.went whole (λ y e.
    tells_demand _ 3 _ _ (λ _. stuck_at (spell b.0) g.went e whole) (λ c.
    tells {x = b.0} (record { out = b.1; h = y.1; after = y.2; went = g.went; ended = e ∙ ap (λ t. ok (t, y.1, y.2)) (end_true y.0 c); formed = g.formed })))))
