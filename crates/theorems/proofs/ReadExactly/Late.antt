-- What stands past a place: a reader that starts past p ends past p, or refuses past p. Assumes nothing.
use Prim.Native.Nat.{ℕ, zero, suc, ◌+◌, ◌-◌, ◌<◌}
use native.Mathlib.Omega.{arith}
use Prim.Native.Char.{Char}
use Prim.Native.String.{String}
use mathlib.Core.Path.{◌≡◌, refl}
use mathlib.Core.Bool.{Bool, true, false}
use mathlib.Core.List.{List}
use mathlib.Core.Option.{Option, none, some}
use lib.ListN.{length}
use Rattle.paper.specs.Answer.{Answer, ok, refused, ◌>>=◌, demand}
use Rattle.paper.specs.Syntax.{Basic}
use Rattle.paper.specs.Tokens.{Token, name, literal, mark, end, Here}
use Rattle.paper.specs.Scanner.{Scanned, token, fault, gap, skip, scan, found, next, past}
use Rattle.paper.specs.Reader.{expect, expect_word, names, path, word, basic_at, basics, statements, value, prototypes}
use Rattle.theorems.proofs.Laws.Answers.{if_case}
use Rattle.theorems.proofs.Laws.Enough.{ScanGood, ended, some_bytes, faulty, scan_good}
use Rattle.theorems.proofs.Laws.Gives.{Gives, gives, refuses, gives_bind, gives_ok}

-- P holds of the value, and a refusal with 3 is past p
pub data Past {X : Type 0} (p : ℕ) (P : X → Type 0) : Answer X → Type 0 where
  given : {x : X} → P x → Past p P (ok x)
  refusal : {n q : ℕ} → (n ≡ 3 → p < q) → Past p P (refused n q)

pub past_bind : {X Y : Type 0} {p : ℕ} {P : X → Type 0} {Q : Y → Type 0} {m : Answer X} (f : X → Answer Y) → Past p P m → ((x : X) → P x → Past p Q (f x)) → Past p Q (m >>= f)
unfolding ◌>>=◌
past_bind f (given {x} h) c = c x h
past_bind f (refusal q) c = refusal q

pub past_demand : {Y : Type 0} {p : ℕ} {Q : Y → Type 0} (c : Bool) (n q : ℕ) (f : Unit {0} → Answer Y) → (c ≡ false → n ≡ 3 → p < q) → (c ≡ true → Past p Q (f tt)) → Past p Q (demand c n q >>= f)
unfolding ◌>>=◌ demand
past_demand true n q f l g = g refl
past_demand false n q f l g = refusal (l refl)

pub not_3 : {n p q : ℕ} → (n ≡ 3 → ⊥) → n ≡ 3 → p < q
not_3 h e = absurd (h e)

pub 0≢3 : ◌≡◌ {A = ℕ} 0 3 → ⊥
0≢3 e = omega arith

pub 5≢3 : ◌≡◌ {A = ℕ} 5 3 → ⊥
5≢3 e = omega arith

pub 6≢3 : ◌≡◌ {A = ℕ} 6 3 → ⊥
6≢3 e = omega arith

token_cases : {P : Type 0} (t : Token) → ((n : List ℕ) → t ≡ name n → P) → ((b : Basic) → t ≡ literal b → P) → ((m : ℕ) → t ≡ mark m → P) → (t ≡ end → P) → P
token_cases (name n) f g h k = f n refl
token_cases (literal b) f g h k = g b refl
token_cases (mark m) f g h k = h m refl
token_cases end f g h k = k refl

past_place : (n : ℕ) (h : Here) → (past n h).place ≡ h.place + n
unfolding past
past_place n h = refl

-- a token takes some bytes
record Moved (y : Token × Here × Here) : Type 0 where
  moved : (y.0 ≡ end → ⊥) → y.1.place < y.2.place

found_moved : (h : Here) (x : Scanned) → ScanGood h.rest x → Gives (λ n. Unit {0}) Moved (found h x)
unfolding found past
found_moved h x ended = gives (record { moved = λ ne. absurd (ne refl) })
found_moved h x (some_bytes {t = t} {n = n} a b) = gives {x = (t, h, past n h)} (record { moved = λ ne. omega arith })
found_moved h x (faulty a) = refuses tt

any : {X : Type 0} (m : Answer X) → Gives (λ n. Unit {0}) (λ x. Unit {0}) m
any (ok x) = gives tt
any (refused n p) = refuses tt

next_moved : (at : Here) → Gives (λ n. Unit {0}) Moved (next at)
unfolding next
next_moved at = gives_bind _ (any (skip (length at.rest) at)) (λ h _. found_moved h (scan h.rest) (scan_good h.rest))

pub next_moves : (at : Here) {t : Token} {h after : Here} → next at ≡ ok (t, h, after) → (t ≡ end → ⊥) → h.place < after.place
next_moves at e = (gives_ok (next_moved at) e).moved

-- ---- past p

module _ (p : ℕ) where
  abbrev Far : Token × Here × Here → Type 0
  Far y = (p < y.1.place) × (p < y.2.place)

  abbrev pub Beyond : {A : Type 0} → A × Here → Type 0
  Beyond x = p < x.1.place

  skip_late : (f : ℕ) (h : Here) → p < h.place → Past p (λ i. p < i.place) (skip f h)
  unfolding skip
  skip_late zero h l = given l
  skip_late (suc f) h l = go (gap h.rest) refl (λ h l. skip_late f h l)
    where
      go : (g : Option ℕ) → gap h.rest ≡ g → ((h : Here) → p < h.place → Past p (λ i. p < i.place) (skip f h)) → Past p (λ i. p < i.place) (skip (suc f) h)
      go none e again = rw (e, skip) (refusal (λ _. l))
      go (some zero) e again = rw (e, skip) (given l)
      go (some (suc n)) e again = rw (e, skip) (again (past (suc n) h) (rw (past_place (suc n) h) (omega arith)))

  found_late : (h : Here) (x : Scanned) → p < h.place → Past p Far (found h x)
  unfolding found past
  found_late h (token t n) l = given {x = (t, h, past n h)} (l, omega arith)
  found_late h (fault n) l = refusal (λ _. l)

  pub next_late : (at : Here) → p < at.place → Past p (λ y. (p < y.1.place) × (p < y.2.place)) (next at)
  unfolding next
  next_late at l = past_bind _ (skip_late (length at.rest) at l) (λ h k. found_late h (scan h.rest) k)

  pub expect_late : (c : Char) (at : Here) → p < at.place → Past p (λ h. p < h.place) (expect c at)
  unfolding expect
  expect_late c at l = past_bind _ (next_late at l) (λ y g. past_demand _ 3 _ _ (λ _ _. g.0) (λ _. given g.1))

  pub expect_word_late : (w : String) (at : Here) → p < at.place → Past p (λ h. p < h.place) (expect_word w at)
  unfolding expect_word
  expect_word_late w at l = past_bind _ (next_late at l) (λ y g. past_demand _ 3 _ _ (λ _ _. g.0) (λ _. given g.1))

  pub names_late : (k : ℕ) (at : Here) → p < at.place → Past p Beyond (names k at)
  unfolding names
  names_late zero at l = past_bind _ (next_late at l) (λ y g. past_demand _ 3 _ _ (λ _ _. g.0) (λ _. refusal (not_3 6≢3)))
  names_late (suc k) at l =
      past_bind _ (next_late at l) (λ y g.
      past_demand _ 3 _ _ (λ _ _. g.0) (λ _.
      past_bind _ (next_late y.2 g.1) (λ z _.
      if_case (Past p Beyond) _ _ _
      (λ _. past_bind _ (expect_late ":" y.2 g.1) (λ a h. past_bind _ (names_late k a h) (λ w i. given i)))
      (λ _. given g.1))))

  pub path_late : (at : Here) → p < at.place → Past p Beyond (path at)
  unfolding path
  path_late at l = names_late 32 at l

  word_late : (t : Token) (h after : Here) → p < h.place → p < after.place → Past p Beyond (word t h after)
  unfolding word
  word_late t h after l m =
      if_case (Past p Beyond) _ _ _ (λ _. given m) (λ _.
      if_case (Past p Beyond) _ _ _ (λ _. given m) (λ _.
      if_case (Past p Beyond) _ _ _ (λ _. given m) (λ _.
      if_case (Past p Beyond) _ _ _ (λ _. past_bind _ (path_late after m) (λ x g. given g)) (λ _.
      refusal (λ _. l)))))

  mutual
    unfolding basic_at

    pub basic_late : (f d : ℕ) (at : Here) → p < at.place → Past p Beyond (basic_at f d at)
    basic_late zero d at l = refusal (not_3 0≢3)
    basic_late (suc f) d at l =
        past_bind _ (next_late at l) (λ x g.
        token_cases x.0
        (λ n e. rw e (word_late (name n) x.1 x.2 g.0 g.1))
        (λ b e. rw e (given g.1))
        (λ m e. rw e (
        past_bind _ (expect_late "[" at l) (λ a h.
        past_demand _ 5 _ _ (λ _. not_3 5≢3) (λ _.
        past_bind _ (next_late a h) (λ y i.
        if_case (Past p Beyond) _ _ _
        (λ _. given i.1)
        (λ _. past_bind _ (basics_late f (d - 1) a h) (λ z c. given c)))))))
        (λ e. rw e (refusal (λ _. g.0))))

    pub basics_late : (f d : ℕ) (at : Here) → p < at.place → Past p Beyond (basics f d at)
    basics_late zero d at l = refusal (not_3 0≢3)
    basics_late (suc f) d at l =
        past_bind _ (basic_late f d at l) (λ x g.
        past_bind _ (next_late x.1 g) (λ y _.
        if_case (Past p Beyond) _ _ _
        (λ _. past_bind _ (expect_late "," x.1 g) (λ a h. past_bind _ (basics_late f d a h) (λ z c. given c)))
        (λ _. past_bind _ (expect_late "]" x.1 g) (λ a h. given h))))

  mutual
    unfolding statements

    pub statements_late : (f d : ℕ) (at : Here) → p < at.place → Past p Beyond (statements f d at)
    statements_late zero d at l = refusal (not_3 0≢3)
    statements_late (suc f) d at l =
        past_bind _ (next_late at l) (λ x g.
        if_case (Past p Beyond) _ _ _
        (λ _.
        past_bind _ (path_late at l) (λ r a.
        past_bind _ (value_late f d x.1.place r.1 a) (λ v b.
        past_bind _ (statements_late f d v.1 b) (λ s c. given c))))
        (λ _. given l))

    pub value_late : (f d q : ℕ) (at : Here) → p < at.place → Past p Beyond (value f d q at)
    value_late zero d q at l = refusal (not_3 0≢3)
    value_late (suc f) d q at l =
        past_bind _ (next_late at l) (λ x g.
        if_case (Past p Beyond) _ _ _
        (λ _. past_bind _ (expect_word_late "extends" at l) (λ a h. past_bind _ (prototypes_late f d a h) (λ ps b. given b)))
        (λ _.
        if_case (Past p Beyond) _ _ _
        (λ _. past_bind _ (path_late at l) (λ r a. past_bind _ (expect_late ";" r.1 a) (λ h b. given b)))
        (λ _. past_bind _ (basic_late f d at l) (λ r a. past_bind _ (expect_late ";" r.1 a) (λ h b. given b)))))

    pub prototypes_late : (f d : ℕ) (at : Here) → p < at.place → Past p Beyond (prototypes f d at)
    prototypes_late zero d at l = refusal (not_3 0≢3)
    prototypes_late (suc f) d at l =
        past_bind _ (next_late at l) (λ x g.
        if_case (Past p Beyond) _ _ _
        (λ _.
        past_bind _ (path_late at l) (λ r a.
        past_bind _ (next_late r.1 a) (λ y _.
        if_case (Past p Beyond) _ _ _
        (λ _. past_bind _ (expect_late "," r.1 a) (λ h b. past_bind _ (prototypes_late f d h b) (λ ps c. given c)))
        (λ _. past_bind _ (expect_late ";" r.1 a) (λ h b. given b)))))
        (λ _.
        past_bind _ (expect_late "{" at l) (λ h a.
        past_demand _ 5 _ _ (λ _. not_3 5≢3) (λ _.
        past_bind _ (statements_late f (d - 1) h a) (λ b c.
        past_bind _ (expect_late "}" b.1 c) (λ i e.
        past_bind _ (next_late i e) (λ y _.
        if_case (Past p Beyond) _ _ _
        (λ _. past_bind _ (expect_late "," i e) (λ j k. past_bind _ (prototypes_late f d j k) (λ ps m. given m)))
        (λ _. given e))))))))
