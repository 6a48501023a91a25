-- What a description is read as is well-formed, so what is translated is a step list. Assumes nothing.
use Prim.Native.Nat.{ℕ, zero, suc, ◌+◌, ◌*◌, ◌-◌, ◌≤◌, ◌<◌}
use native.Mathlib.Omega.{arith}
use Prim.Native.Char.{Char}
use Prim.Native.String.{String}
use mathlib.Core.Path.{◌≡◌, refl, subst}
use mathlib.Core.Bool.{Bool, true, false, true≢false, false≢true}
use mathlib.Core.List.{List, [], ◌∷◌}
use mathlib.Core.Option.{Option, none, some}
use lib.ListN.{length, take, length-drop}
use lib.Dec.{T, lit≤}
use borrow.Author.Tests.{ltb-true, leb-true, not-true}
use Rattle.paper.specs.Answer.{Answer, ok, refused, ◌>>=◌, demand}
use Rattle.paper.specs.Limits.{most_source, most_open}
use Rattle.paper.specs.Syntax.{Path, Basic, boolean, null, integer, decimal, string, reference, vector, Basics, εⱽ, ◌∷ⱽ◌, Block, εᴮ, ◌∷ᴮ◌, Statement, assign, Value, basic, link, extends, Prototypes, εᴾ, named, block}
use Rattle.paper.specs.Tokens.{Token, name, literal, mark, end, Here, is_name}
use Rattle.paper.specs.Scanner.{Scanned, token, gap, skip, scan, found, next, empty, past}
use Rattle.paper.specs.Grammar.{brackets, brackets_in, openings, openings_v, openings_p, Some}
use Rattle.paper.specs.Reader.{expect, expect_word, names, path, word, basic_at, basics, statements, value, prototypes, read, spelling}
use Rattle.paper.specs.Steps.{steps}
use Rattle.paper.specs.StepLayout.{step_list, listed}
use Rattle.paper.specs.WellFormed.{IsName, AreNames, IsPath, IsBasic, AreBasic, IsBlock, IsValueOf, ArePrototypes, IsStepList}
use Rattle.paper.specs.Operations.{translated, translate}
use Rattle.theorems.proofs.Laws.Answers.{if_case}
use Rattle.theorems.proofs.Laws.Enough.{enough}
use Rattle.theorems.proofs.Laws.Gives.{Gives, gives, refuses, gives_bind, gives_demand, gives_ok, gives_refused}
use Rattle.theorems.proofs.Scanned.Alone.{is_decimal}
use Rattle.theorems.proofs.Scanned.Alone as Alone
use Rattle.theorems.proofs.Laws.Rescan.{Shape, at_end, a_name, a_decimal, an_integer, a_string, a_mark, a_fault, scan_shape, name_again, decimal_again}

-- a refusal of a description has a number from 1 to 6 (or, where a reader's count runs out, 0)
abbrev Low : ℕ → Type 0
Low n = n ≤ 6

-- ---- tokens

abbrev left : Here → ℕ
left h = length h.rest

-- what is left ends where a source of N bytes does, or nothing is left
record In (N : ℕ) (h : Here) : Type 0 where
  ends : left h ≤ N - h.place

abbrev Good : Token → Type 0
Good (name n) = scan n ≡ token (name n) (length n)
Good (literal b) = IsBasic b × (brackets b ≡ 0)
Good (mark m) = Unit
Good end = Unit

T_of : (b : Bool) → b ≡ true → T b
T_of true e = tt
T_of false e = absurd (false≢true e)

record Next (N : ℕ) (x : Token × Here × Here) : Type 0 where
  good : Good x.0
  after : In N x.2
  placed : is_name x.0 ≡ true → x.1.place < N

past_in : (N n : ℕ) (h : Here) → In N h → In N (past n h)
unfolding past
past_in N n h i = record { ends = simp length-drop (omega (arith, i.ends)) }

skip_in : (N f : ℕ) (h : Here) → In N h → Gives Low (In N) (skip f h)
unfolding skip
skip_in N zero h i = gives i
skip_in N (suc f) h i = go (gap h.rest) refl (λ h i. skip_in N f h i)
  where
    go : (g : Option ℕ) → gap h.rest ≡ g → ((h : Here) → In N h → Gives Low (In N) (skip f h)) → Gives Low (In N) (skip (suc f) h)
    go none e again = rw (e, skip) (refuses (lit≤ tt))
    go (some zero) e again = rw (e, skip) (gives i)
    go (some (suc n)) e again = rw (e, skip) (again (past (suc n) h) (past_in N (suc n) h i))

some_left : (s : List ℕ) → empty s ≡ false → 1 ≤ length s
some_left [] e = absurd (true≢false e)
some_left (b ∷ s) e = omega arith

found_in : (N : ℕ) (h : Here) (x : Scanned) → In N h → Shape h.rest x → Gives Low (Next N) (found h x)
unfolding found is_name
found_in N h x i at_end = gives {x = (end, h, past 0 h)} (record { good = tt; after = past_in N 0 h i; placed = λ e. absurd (false≢true e) })
found_in N h x i (a_name {n = n} s) =
    let l = some_left h.rest s.there in
    let p : h.place < N = omega (arith, i.ends) in
    gives {x = (name (take n h.rest), h, past n h)} (record { good = name_again h.rest n s; after = past_in N n h i; placed = λ e. p })
found_in N h x i (a_decimal {n = n} s) = gives {x = (literal (decimal (take n h.rest)), h, past n h)} (record { good = (is_decimal _ (decimal_again h.rest n s), refl); after = past_in N n h i; placed = λ e. absurd (false≢true e) })
found_in N h x i (an_integer {z = z} {n = n} s) = gives {x = (literal (integer z), h, past n h)} (record { good = (T_of _ s, refl); after = past_in N n h i; placed = λ e. absurd (false≢true e) })
found_in N h x i (a_string {t = u} {n = n} s) = gives {x = (literal (string u), h, past n h)} (record { good = (s, refl); after = past_in N n h i; placed = λ e. absurd (false≢true e) })
found_in N h x i (a_mark {m = m} {n = n}) = gives {x = (mark m, h, past n h)} (record { good = tt; after = past_in N n h i; placed = λ e. absurd (false≢true e) })
found_in N h x i (a_fault l) = refuses l

next_in : (N : ℕ) (h : Here) → In N h → Gives Low (Next N) (next h)
unfolding next
next_in N h i = gives_bind _ (skip_in N (left h) h i) (λ h' j. found_in N h' (scan h'.rest) j (scan_shape h'.rest))

-- a name that is read is a name
is_name_name : (t : Token) → Good t → is_name t ≡ true → IsName (spelling t)
unfolding is_name spelling
is_name_name (name n) g e = Alone.is_name n g (not-true _ e)
is_name_name (literal b) g e = absurd (false≢true e)
is_name_name (mark m) g e = absurd (false≢true e)
is_name_name end g e = absurd (false≢true e)

-- ---- places: every one of a block's is at most N

abbrev mutual
  pub Within : ℕ → Block → Type 0
  Within N εᴮ = Unit {0}
  Within N (a ∷ᴮ b) = WithinStatement N a × Within N b

  pub WithinStatement : ℕ → Statement → Type 0
  WithinStatement N (assign r v) = WithinValue N v

  pub WithinValue : ℕ → Value → Type 0
  WithinValue N (basic p b) = p ≤ N
  WithinValue N (link p r) = p ≤ N
  WithinValue N (extends p ps) = (p ≤ N) × WithinPrototypes N ps

  pub WithinPrototypes : ℕ → Prototypes → Type 0
  WithinPrototypes N εᴾ = Unit {0}
  WithinPrototypes N (named p r ps) = (p ≤ N) × WithinPrototypes N ps
  WithinPrototypes N (block b ps) = Within N b × WithinPrototypes N ps

-- ---- readers

record Read {A : Type 0} (P : A → Type 0) (N : ℕ) (x : A × Here) : Type 0 where
  good : P x.0
  after : In N x.1

module _ (N : ℕ) (small : N ≤ most_source) where
  expect_in : (c : Char) (h : Here) → In N h → Gives Low (In N) (expect c h)
  unfolding expect
  expect_in c h i = gives_bind _ (next_in N h i) (λ x g. gives_demand _ 3 _ _ (omega arith) (λ e. gives g.after))

  expect_word_in : (w : String) (h : Here) → In N h → Gives Low (In N) (expect_word w h)
  unfolding expect_word
  expect_word_in w h i = gives_bind _ (next_in N h i) (λ x g. gives_demand _ 3 _ _ (omega arith) (λ e. gives g.after))

  record Names (k : ℕ) (r : Path) : Type 0 where
    one : 1 ≤ length r
    most : length r ≤ k
    names : AreNames r

  names_in : (k : ℕ) (h : Here) → In N h → Gives Low (Read (Names k) N) (names k h)
  unfolding names
  names_in zero h i = gives_bind _ (next_in N h i) (λ x g. gives_demand _ 3 _ _ (omega arith) (λ e. (refuses (lit≤ tt))))
  names_in (suc k) h i =
      gives_bind _ (next_in N h i) (λ x g.
      gives_demand _ 3 _ _ (omega arith) (λ e.
      let n = is_name_name x.0 g.good e in
      gives_bind _ (next_in N x.2 g.after) (λ y _.
      if_case (Gives Low (Read (Names (suc k)) N)) _ _ _
      (λ _.
      gives_bind _ (expect_in ":" x.2 g.after) (λ a j.
      gives_bind _ (names_in k a j) (λ z b.
      gives {x = (spelling x.0 ∷ z.0, z.1)} (record { good = record { one = omega arith; most = omega (arith, b.good.most); names = (n, b.good.names) }; after = b.after }))))
      (λ _. gives {x = (spelling x.0 ∷ [], x.2)} (record { good = record { one = omega arith; most = omega arith; names = (n, tt) }; after = g.after })))))

  path_in : (h : Here) → In N h → Gives Low (Read IsPath N) (path h)
  unfolding path
  path_in h i = convert (names 32 h) (names_in 32 h i)
    where
      convert : (m : Answer (Path × Here)) → Gives Low (Read (Names 32) N) m → Gives Low (Read IsPath N) m
      convert m (gives {x = x} g) = gives {x = x} (record { good = record { some = g.good.one; few = g.good.most; names = g.good.names }; after = g.after })
      convert m (refuses l) = refuses l

  record Basicly (d : ℕ) (b : Basic) : Type 0 where
    good : IsBasic b
    few : brackets b ≤ d

  record Basicslys (d : ℕ) (bs : Basics) : Type 0 where
    good : AreBasic bs
    few : brackets_in bs ≤ d

  word_in : (d : ℕ) (t : Token) (h after : Here) → In N after → Gives Low (Read (Basicly d) N) (word t h after)
  unfolding word
  word_in d t h after i =
      if_case (Gives Low (Read (Basicly d) N)) _ _ _ (λ _. gives {x = (boolean true, after)} (record { good = record { good = tt; few = omega arith }; after = i })) (λ _.
      if_case (Gives Low (Read (Basicly d) N)) _ _ _ (λ _. gives {x = (boolean false, after)} (record { good = record { good = tt; few = omega arith }; after = i })) (λ _.
      if_case (Gives Low (Read (Basicly d) N)) _ _ _ (λ _. gives {x = (null, after)} (record { good = record { good = tt; few = omega arith }; after = i })) (λ _.
      if_case (Gives Low (Read (Basicly d) N)) _ _ _
      (λ _. gives_bind _ (path_in after i) (λ x g. gives {x = (reference x.0, x.1)} (record { good = record { good = g.good; few = omega arith }; after = g.after }))) (λ _.
      (refuses (lit≤ tt))))))

  token_cases : {P : Type 0} (t : Token) → ((n : List ℕ) → t ≡ name n → P) → ((b : Basic) → t ≡ literal b → P) → ((m : ℕ) → t ≡ mark m → P) → (t ≡ end → P) → P
  token_cases (name n) f g h k = f n refl
  token_cases (literal b) f g h k = g b refl
  token_cases (mark m) f g h k = h m refl
  token_cases end f g h k = k refl

  mutual
    unfolding basic_at

    basic_in : (f d : ℕ) (h : Here) → In N h → Gives Low (Read (Basicly d) N) (basic_at f d h)
    basic_in zero d h i = refuses (lit≤ tt)
    basic_in (suc f) d h i =
        gives_bind _ (next_in N h i) (λ x g.
        token_cases x.0
        (λ n e. rw e (word_in d (name n) x.1 x.2 g.after))
        (λ b e. let q : Good (literal b) = subst Good e g.good in
        rw e (gives {x = (b, x.2)} (record { good = record { good = q.0; few = omega (arith, q.1) }; after = g.after })))
        (λ m e. rw e (
        gives_bind _ (expect_in "[" h i) (λ a j.
        gives_demand _ 5 _ _ (omega arith) (λ e₁.
        let l = ltb-true 0 d e₁ in
        gives_bind _ (next_in N a j) (λ y k.
        if_case (Gives Low (Read (Basicly d) N)) _ _ _
        (λ _. gives {x = (vector εⱽ, y.2)} (record { good = record { good = tt; few = omega arith }; after = k.after }))
        (λ _. gives_bind _ (basics_in f (d - 1) a j) (λ z b.
        gives {x = (vector z.0, z.1)} (record { good = record { good = b.good.good; few = omega (arith, b.good.few) }; after = b.after }))))))))
        (λ e. rw e (refuses (lit≤ tt))))

    basics_in : (f d : ℕ) (h : Here) → In N h → Gives Low (Read (Basicslys d) N) (basics f d h)
    basics_in zero d h i = refuses (lit≤ tt)
    basics_in (suc f) d h i =
        gives_bind _ (basic_in f d h i) (λ x g.
        gives_bind _ (next_in N x.1 g.after) (λ y _.
        if_case (Gives Low (Read (Basicslys d) N)) _ _ _
        (λ _.
        gives_bind _ (expect_in "," x.1 g.after) (λ a j.
        gives_bind _ (basics_in f d a j) (λ z b.
        gives {x = (x.0 ∷ⱽ z.0, z.1)} (record { good = record { good = (g.good.good, b.good.good); few = omega (arith, g.good.few, b.good.few) }; after = b.after }))))
        (λ _.
        gives_bind _ (expect_in "]" x.1 g.after) (λ a j.
        gives {x = (x.0 ∷ⱽ εⱽ, a)} (record { good = record { good = (g.good.good, tt); few = omega (arith, g.good.few) }; after = j })))))

  record Blockly (d : ℕ) (b : Block) : Type 0 where
    good : IsBlock b
    few : openings b ≤ d
    there : Within N b

  record Valuely (d : ℕ) (v : Value) : Type 0 where
    good : IsValueOf v
    few : openings_v v ≤ d
    there : WithinValue N v

  record Prototypely (d : ℕ) (ps : Prototypes) : Type 0 where
    some : Some ps
    good : ArePrototypes ps
    few : openings_p ps ≤ d
    there : WithinPrototypes N ps

  mutual
    unfolding statements

    statements_in : (f d : ℕ) (h : Here) → In N h → Gives Low (Read (Blockly d) N) (statements f d h)
    statements_in zero d h i = refuses (lit≤ tt)
    statements_in (suc f) d h i =
        gives_bind _ (next_in N h i) (λ x g.
        if_case (Gives Low (Read (Blockly d) N)) _ _ _
        (λ e.
        gives_bind _ (path_in h i) (λ r a.
        gives_bind _ (value_in f d x.1.place r.1 (g.placed e) a.after) (λ v b.
        gives_bind _ (statements_in f d v.1 b.after) (λ s c.
        gives {x = (assign r.0 v.0 ∷ᴮ s.0, s.1)} (record { good = record { good = ((a.good, b.good.good), c.good.good); few = omega (arith, b.good.few, c.good.few); there = (b.good.there, c.good.there) }; after = c.after })))))
        (λ _. gives {x = (εᴮ, h)} (record { good = record { good = tt; few = omega arith; there = tt }; after = i })))

    value_in : (f d p : ℕ) (h : Here) → p < N → In N h → Gives Low (Read (Valuely d) N) (value f d p h)
    value_in zero d p h lp i = refuses (lit≤ tt)
    value_in (suc f) d p h lp i =
        let small-p : p < most_source = omega (arith, small) in
        let near_p : p ≤ N = omega arith in
        gives_bind _ (next_in N h i) (λ x g.
        if_case (Gives Low (Read (Valuely d) N)) _ _ _
        (λ _.
        gives_bind _ (expect_word_in "extends" h i) (λ a j.
        gives_bind _ (prototypes_in f d a j) (λ ps b.
        gives {x = (extends p ps.0, ps.1)} (record { good = record { good = (small-p, b.good.some, b.good.good); few = b.good.few; there = (near_p, b.good.there) }; after = b.after }))))
        (λ _.
        if_case (Gives Low (Read (Valuely d) N)) _ _ _
        (λ e.
        let q : x.1.place < most_source = omega (arith, g.placed e) in
        gives_bind _ (path_in h i) (λ r a.
        gives_bind _ (expect_in ";" r.1 a.after) (λ k j.
        gives {x = (link x.1.place r.0, k)} (record { good = record { good = (q, a.good); few = omega arith; there = omega (arith, g.placed e) }; after = j }))))
        (λ _.
        gives_bind _ (basic_in f d h i) (λ r a.
        gives_bind _ (expect_in ";" r.1 a.after) (λ k j.
        gives {x = (basic p r.0, k)} (record { good = record { good = (small-p, a.good.good); few = a.good.few; there = near_p }; after = j }))))))

    prototypes_in : (f d : ℕ) (h : Here) → In N h → Gives Low (Read (Prototypely d) N) (prototypes f d h)
    prototypes_in zero d h i = refuses (lit≤ tt)
    prototypes_in (suc f) d h i =
        gives_bind _ (next_in N h i) (λ x g.
        if_case (Gives Low (Read (Prototypely d) N)) _ _ _
        (λ e.
        let q : x.1.place < most_source = omega (arith, g.placed e) in
        let near : x.1.place ≤ N = omega (arith, g.placed e) in
        gives_bind _ (path_in h i) (λ r a.
        gives_bind _ (next_in N r.1 a.after) (λ y _.
        if_case (Gives Low (Read (Prototypely d) N)) _ _ _
        (λ _.
        gives_bind _ (expect_in "," r.1 a.after) (λ k j.
        gives_bind _ (prototypes_in f d k j) (λ ps c.
        gives {x = (named x.1.place r.0 ps.0, ps.1)} (record { good = record { some = tt; good = (q, a.good, c.good.good); few = c.good.few; there = (near, c.good.there) }; after = c.after }))))
        (λ _.
        gives_bind _ (expect_in ";" r.1 a.after) (λ k j.
        gives {x = (named x.1.place r.0 εᴾ, k)} (record { good = record { some = tt; good = (q, a.good, tt); few = omega arith; there = (near, tt) }; after = j }))))))
        (λ _.
        gives_bind _ (expect_in "{" h i) (λ k j.
        gives_demand _ 5 _ _ (omega arith) (λ e₁.
        let l = ltb-true 0 d e₁ in
        gives_bind _ (statements_in f (d - 1) k j) (λ b c.
        gives_bind _ (expect_in "}" b.1 c.after) (λ m n.
        gives_bind _ (next_in N m n) (λ y _.
        if_case (Gives Low (Read (Prototypely d) N)) _ _ _
        (λ _.
        gives_bind _ (expect_in "," m n) (λ o q.
        gives_bind _ (prototypes_in f d o q) (λ ps u.
        gives {x = (block b.0 ps.0, ps.1)} (record { good = record { some = tt; good = (c.good.good, u.good.good); few = omega (arith, c.good.few, u.good.few); there = (c.good.there, u.good.there) }; after = u.after }))))
        (λ _.
        gives {x = (block b.0 εᴾ, m)} (record { good = record { some = tt; good = (c.good.good, tt); few = omega (arith, c.good.few); there = (c.good.there, tt) }; after = n })))))))))

-- ---- the theorems

pub record WellRead (b : Block) : Type 0 where
  pub blocks : IsBlock b
  pub nested : openings b ≤ most_open

-- and every place of it is in the source
record ReadFrom (source : List ℕ) (b : Block) : Type 0 where
  well : WellRead b
  there : Within (length source) b

read_in : (source : List ℕ) → Gives Low (ReadFrom source) (read source)
unfolding read
read_in source =
    gives_demand _ 1 _ _ (omega arith) (λ e.
    let l = leb-true (length source) most_source e in
    gives_bind _ (statements_in (length source) l (2 * length source + 2) 32 (record { place = 0; rest = source }) (record { ends = omega arith })) (λ b g.
    gives_bind _ (next_in (length source) b.1 g.after) (λ y _.
    gives_demand _ 3 _ _ (omega arith) (λ _. gives {x = b.0} (record { well = record { blocks = g.good.good; nested = g.good.few }; there = g.good.there })))))

-- what is read is well-formed
pub read_well : (source : List ℕ) (b : Block) → read source ≡ ok b → WellRead b
read_well source b e = (gives_ok (read_in source) e).well

pub read_there : (source : List ℕ) (b : Block) → read source ≡ ok b → Within (length source) b
read_there source b e = (gives_ok (read_in source) e).there

-- what is translated is the step list of what is read
pub record Translated (source bytes : List ℕ) : Type 0 where
  pub meant : Block
  pub is_read : read source ≡ ok meant
  pub is_listed : IsStepList bytes meant

-- a refusal to translate has a number from 1 to 7
abbrev Translating : ℕ → Type 0
Translating n = (1 ≤ n) × (n ≤ 7)

numbered_read : (source : List ℕ) → Gives Translating WellRead (read source)
numbered_read source = go (read source) refl (read_in source)
  where
    go : (m : Answer Block) → read source ≡ m → Gives Low (ReadFrom source) m → Gives Translating WellRead m
    go m e (gives h) = gives h.well
    go m e (refuses {n = zero} {p = p} l) = absurd (enough source p e)
    go m e (refuses {n = suc n} l) = refuses {n = suc n} (omega arith, omega arith)

translate_in : (source : List ℕ) → Gives Translating (Translated source) (translate source)
unfolding translate translated listed ◌>>=◌ demand
translate_in source = go (read source) refl (numbered_read source)
  where
    go : (m : Answer Block) → read source ≡ m → Gives Translating WellRead m → Gives Translating (Translated source) ((m >>= λ b. ok (steps b)) >>= listed)
    go (refused n p) e (refuses q) = refuses q
    go (ok b) e (gives w) =
        gives_demand _ 7 0 _ (omega arith) (λ e₁. gives_demand _ 7 0 _ (omega arith) (λ e₂.
        gives {x = step_list (steps b)} (record {
          meant = b;
          is_read = e;
          is_listed = record { laid_out = refl; blocks = w.blocks; nested = w.nested; listed = record { count = leb-true _ _ e₁; text = leb-true _ _ e₂ } };
        })))

pub translate_well : (source bytes : List ℕ) → translate source ≡ ok bytes → Translated source bytes
translate_well source bytes e = gives_ok (translate_in source) e

pub translate_numbers : (source : List ℕ) (n p : ℕ) → translate source ≡ refused n p → (1 ≤ n) × (n ≤ 7)
translate_numbers source n p e = gives_refused (translate_in source) e
