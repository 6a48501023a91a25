-- What a description is read as spells its tokens. Assumes nothing.
use Prim.Native.Nat.{ℕ, zero, suc, ◌+◌, ◌*◌, ◌-◌}
use Prim.Native.Char.{Char, code}
use Prim.Native.String.{String}
use mathlib.Core.Path.{◌≡◌, refl, sym, ◌∙◌, ap, subst}
use mathlib.Core.Bool.{Bool, true, false, false≢true, ◌&&◌}
use mathlib.Core.List.{List, [], ◌∷◌}
use mathlib.Core.Option.{Option, none, some}
use lib.ListN.{length}
use lib.Dec.{eqb}
use borrow.Author.Tests.{eqb-true}
use Rattle.paper.specs.Bytes.{bytes, same}
use Rattle.paper.specs.Answer.{Answer, ok, refused}
use Rattle.paper.specs.Syntax.{Path, Basic, boolean, null, reference, vector, Basics, εⱽ, ◌∷ⱽ◌, Block, εᴮ, ◌∷ᴮ◌, assign, Value, basic, link, extends, Prototypes, εᴾ, named, block}
use Rattle.paper.specs.Tokens.{Token, name, literal, mark, end, Here, is_name, is_mark}
use Rattle.paper.specs.Scanner.{Scanned, skip, scan, found, next}
use Rattle.paper.specs.Grammar.{Spelt, sign, word, then_names, spell_path, then_basics, spell_basic, spell_basics, target, then_prototypes, spell, spell_value, spell_prototypes}
use Rattle.paper.specs.Described.{Sits, start}
use Rattle.paper.specs.Reader.{expect, expect_word, names, path, basic_at, basics, statements, value, prototypes, read, is_word, is_end, spelling}
use Rattle.paper.specs.Reader as G
use Rattle.theorems.proofs.Laws.Answers.{if_case}
use Rattle.theorems.proofs.Laws.Gives.{Gives, gives, refuses, gives_bind, gives_demand, gives_ok}
use Rattle.theorems.proofs.Laws.Rescan.{Shape, at_end, a_name, a_decimal, an_integer, a_string, a_mark, a_fault, scan_shape}
use Rattle.theorems.proofs.ReadExactly.Sequence.{Reads, done, Tokens, step, join}

-- ---- answers

abbrev pub Whatever : ℕ → Type 0
Whatever n = Unit {0}

-- P holds of the value, if one is given
abbrev pub Ok : {X : Type 0} → (X → Type 0) → Answer X → Type 0
Ok P m = Gives Whatever P m

itself : {X : Type 0} (m : Answer X) → Ok (λ x. m ≡ ok x) m
itself (ok x) = gives refl
itself (refused n p) = refuses tt

-- ---- tests

same_true : (s t : List ℕ) → same s t ≡ true → s ≡ t
same_true [] [] e = refl
same_true [] (y ∷ t) e = absurd (false≢true e)
same_true (x ∷ s) [] e = absurd (false≢true e)
same_true (x ∷ s) (y ∷ t) e = go (eqb x y) refl e (same_true s t)
  where
    go : (c : Bool) → eqb x y ≡ c → (c && same s t) ≡ true → (same s t ≡ true → s ≡ t) → x ∷ s ≡ y ∷ t
    go true q e h = let p = eqb-true x y q in let r = h e in cc
    go false q e h = absurd (false≢true e)

pub mark_true : (c : Char) (t : Token) → is_mark c t ≡ true → t ≡ mark (code c)
unfolding is_mark
mark_true c (name n) e = absurd (false≢true e)
mark_true c (literal b) e = absurd (false≢true e)
mark_true c (mark m) e = ap mark (sym (eqb-true (code c) m e))
mark_true c end e = absurd (false≢true e)

pub word_true : (w : String) (t : Token) → is_word w t ≡ true → t ≡ name (bytes w)
unfolding is_word
word_true w (name n) e = ap name (same_true n (bytes w) e)
word_true w (literal b) e = absurd (false≢true e)
word_true w (mark m) e = absurd (false≢true e)
word_true w end e = absurd (false≢true e)

pub name_true : (t : Token) → is_name t ≡ true → t ≡ name (spelling t)
unfolding is_name spelling
name_true (name n) e = refl
name_true (literal b) e = absurd (false≢true e)
name_true (mark m) e = absurd (false≢true e)
name_true end e = absurd (false≢true e)

pub end_true : (t : Token) → is_end t ≡ true → t ≡ end
unfolding is_end
end_true (name n) e = absurd (false≢true e)
end_true (literal b) e = absurd (false≢true e)
end_true (mark m) e = absurd (false≢true e)
end_true end e = refl

pub token_cases : {P : Type 0} (t : Token) → ((n : List ℕ) → t ≡ name n → P) → ((b : Basic) → t ≡ literal b → P) → ((m : ℕ) → t ≡ mark m → P) → (t ≡ end → P) → P
token_cases (name n) f g h k = f n refl
token_cases (literal b) f g h k = g b refl
token_cases (mark m) f g h k = h m refl
token_cases end f g h k = k refl

-- ---- a literal is an integer, a decimal or a string

abbrev pub Literal : Token → Type 0
Literal (name n) = Unit {0}
Literal (literal b) = spell_basic b ≡ (literal b, none) ∷ []
Literal (mark m) = Unit {0}
Literal end = Unit {0}

found_literal : (h : Here) (x : Scanned) → Shape h.rest x → Ok (λ x. Literal x.0) (found h x)
unfolding found
found_literal h x at_end = gives tt
found_literal h x (a_name s) = gives tt
found_literal h x (a_decimal s) = gives refl
found_literal h x (an_integer s) = gives refl
found_literal h x (a_string s) = gives refl
found_literal h x a_mark = gives tt
found_literal h x (a_fault l) = refuses tt

pub next_literal : (at : Here) → Ok (λ x. Literal x.0) (next at)
unfolding next
next_literal at = gives_bind _ (itself (skip (length at.rest) at)) (λ h _. found_literal h (scan h.rest) (scan_shape h.rest))

-- ---- readers

expect_sound : (c : Char) (at : Here) → Ok (Reads at (sign c ∷ [])) (expect c at)
unfolding expect
expect_sound c at =
    gives_bind _ (itself (next at)) (λ x e.
    gives_demand _ 3 _ _ tt (λ t. gives (step e (mark_true c x.0 t) tt done)))

expect_word_sound : (w : String) (at : Here) → Ok (Reads at (word w ∷ [])) (expect_word w at)
unfolding expect_word
expect_word_sound w at =
    gives_bind _ (itself (next at)) (λ x e.
    gives_demand _ 3 _ _ tt (λ t. gives (step e (word_true w x.0 t) tt done)))

-- the next token stands at o
abbrev At : Here → Option ℕ → Type 0
At at o = (x : Token × Here × Here) → next at ≡ ok x → Sits o x.1.place

anywhere : (at : Here) → At at none
anywhere at x e = tt

there : (at : Here) (x : Token × Here × Here) → next at ≡ ok x → At at (some x.1.place)
there at x e y e' = ap (λ z. z.1.place) (inside (sym e ∙ e'))
  where
    inside : {X : Type 0} {a b : X} → ok a ≡ ok b → a ≡ b
    inside e = cc

-- what was read is spelt so
record Said {A : Type 0} (sp : A → List Spelt) (at : Here) (x : A × Here) : Type 0 where
  reads : Reads at (sp x.0) x.1

record Named (o : Option ℕ) (at : Here) (x : Path × Here) : Type 0 where
  reads : Reads at (spell_path o x.0) x.1
  some : (s : List Spelt) → then_names x.0 s ≡ sign ":" ∷ s

names_sound : (k : ℕ) (o : Option ℕ) (at : Here) → At at o → Ok (Named o at) (names k at)
unfolding names
names_sound zero o at s = gives_bind _ (itself (next at)) (λ x e. gives_demand _ 3 _ _ tt (λ t. refuses tt))
names_sound (suc k) o at s =
    gives_bind _ (itself (next at)) (λ x e.
    gives_demand _ 3 _ _ tt (λ n.
    gives_bind _ (itself (next x.2)) (λ y _.
    if_case (Ok (Named o at)) _ _ _
    (λ _.
    gives_bind _ (expect_sound ":" x.2) (λ a r.
    gives_bind _ (names_sound k none a (anywhere a)) (λ z g.
    gives {x = (spelling x.0 ∷ z.0, z.1)} (record { reads = step e (name_true x.0 n) (s x e) (rw (g.some (spell_path none z.0)) (join r g.reads)); some = λ s. refl }))))
    (λ _. gives {x = (spelling x.0 ∷ [], x.2)} (record { reads = step e (name_true x.0 n) (s x e) done; some = λ s. refl })))))

path_sound : (o : Option ℕ) (at : Here) → At at o → Ok (Named o at) (path at)
unfolding path
path_sound o at s = names_sound 32 o at s

word_sound : (t : Token) (at h after : Here) → next at ≡ ok (t, h, after) → Ok (Said spell_basic at) (G.word t h after)
unfolding G.word
word_sound t at h after e =
    let x : Token × Here × Here = (t, h, after) in
    if_case (Ok (Said spell_basic at)) _ _ _ (λ c. gives {x = (boolean true, after)} (record { reads = step {x = x} e (word_true "true" t c) tt done })) (λ _.
    if_case (Ok (Said spell_basic at)) _ _ _ (λ c. gives {x = (boolean false, after)} (record { reads = step {x = x} e (word_true "false" t c) tt done })) (λ _.
    if_case (Ok (Said spell_basic at)) _ _ _ (λ c. gives {x = (null, after)} (record { reads = step {x = x} e (word_true "NULL" t c) tt done })) (λ _.
    if_case (Ok (Said spell_basic at)) _ _ _
    (λ c. gives_bind _ (path_sound none after (anywhere after)) (λ r g. gives {x = (reference r.0, r.1)} (record { reads = step {x = x} e (word_true "DATA" t c) tt g.reads }))) (λ _.
    refuses tt))))

record Elements (at : Here) (x : Basics × Here) : Type 0 where
  reads : Reads at (spell_basics x.0) x.1
  some : (s : List Spelt) → then_basics x.0 s ≡ sign "," ∷ s

mutual
  unfolding basic_at

  basic_sound : (f d : ℕ) (at : Here) → Ok (Said spell_basic at) (basic_at f d at)
  basic_sound zero d at = refuses tt
  basic_sound (suc f) d at =
      gives_bind _ (itself (next at)) (λ x e.
      token_cases x.0
      (λ n q. rw q (word_sound (name n) at x.1 x.2 (e ∙ ap (λ t. ok (t, x.1, x.2)) q)))
      (λ b q. let l : Literal (literal b) = subst Literal q (gives_ok (next_literal at) e) in
      rw q (gives {x = (b, x.2)} (record { reads = rw l (step e q tt done) })))
      (λ m q. rw q (
      gives_bind _ (expect_sound "[" at) (λ a r.
      gives_demand _ 5 _ _ tt (λ _.
      gives_bind _ (itself (next a)) (λ y e₁.
      if_case (Ok (Said spell_basic at)) _ _ _
      (λ c. gives {x = (vector εⱽ, y.2)} (record { reads = join r (step e₁ (mark_true "]" y.0 c) tt done) }))
      (λ _. gives_bind _ (basics_sound f (d - 1) a) (λ z g. gives {x = (vector z.0, z.1)} (record { reads = join r g.reads }))))))))
      (λ q. rw q (refuses tt)))

  basics_sound : (f d : ℕ) (at : Here) → Ok (Elements at) (basics f d at)
  basics_sound zero d at = refuses tt
  basics_sound (suc f) d at =
      gives_bind _ (basic_sound f d at) (λ x g.
      gives_bind _ (itself (next x.1)) (λ y _.
      if_case (Ok (Elements at)) _ _ _
      (λ _.
      gives_bind _ (expect_sound "," x.1) (λ a r.
      gives_bind _ (basics_sound f d a) (λ z h.
      gives {x = (x.0 ∷ⱽ z.0, z.1)} (record { reads = join g.reads (rw (h.some (spell_basics z.0)) (join r h.reads)); some = λ s. refl }))))
      (λ _.
      gives_bind _ (expect_sound "]" x.1) (λ a r.
      gives {x = (x.0 ∷ⱽ εⱽ, a)} (record { reads = join g.reads r; some = λ s. refl })))))

-- a value whose statement's target stands at p
record Valued (p : ℕ) (at : Here) (x : Value × Here) : Type 0 where
  reads : Reads at (spell_value x.0) x.1
  sits : Sits (target x.0) p

record Listed (at : Here) (x : Prototypes × Here) : Type 0 where
  reads : Reads at (spell_prototypes x.0) x.1
  some : (l s : List Spelt) → then_prototypes l x.0 s ≡ sign "," ∷ s

target_at : (at : Here) (o : Option ℕ) (x : Token × Here × Here) → next at ≡ ok x → Sits o x.1.place → At at o
target_at at none x e s = anywhere at
target_at at (some p) x e s = λ y e'. s ∙ there at x e y e'

-- a path is spelt with any place that its first name stands at
path_at : (o : Option ℕ) (at : Here) (r : Path × Here) → path at ≡ ok r → At at o → Named o at r
path_at o at r e s = gives_ok (path_sound o at s) e

mutual
  unfolding statements

  statements_sound : (f d : ℕ) (at : Here) → Ok (Said spell at) (statements f d at)
  statements_sound zero d at = refuses tt
  statements_sound (suc f) d at =
      gives_bind _ (itself (next at)) (λ x e.
      if_case (Ok (Said spell at)) _ _ _
      (λ _.
      gives_bind _ (itself (path at)) (λ r q.
      gives_bind _ (value_sound f d x.1.place r.1) (λ v g.
      gives_bind _ (statements_sound f d v.1) (λ s h.
      gives {x = (assign r.0 v.0 ∷ᴮ s.0, s.1)} (record { reads = join (join (path_at (target v.0) at r q (target_at at (target v.0) x e g.sits)).reads g.reads) h.reads })))))
      (λ _. gives {x = (εᴮ, at)} (record { reads = done })))

  value_sound : (f d p : ℕ) (at : Here) → Ok (Valued p at) (value f d p at)
  value_sound zero d p at = refuses tt
  value_sound (suc f) d p at =
      gives_bind _ (itself (next at)) (λ x e.
      if_case (Ok (Valued p at)) _ _ _
      (λ _.
      gives_bind _ (expect_word_sound "extends" at) (λ a r.
      gives_bind _ (prototypes_sound f d a) (λ ps g.
      gives {x = (extends p ps.0, ps.1)} (record { reads = join r g.reads; sits = refl }))))
      (λ _.
      if_case (Ok (Valued p at)) _ _ _
      (λ _.
      gives_bind _ (path_sound (some x.1.place) at (there at x e)) (λ r g.
      gives_bind _ (expect_sound ";" r.1) (λ a h.
      gives {x = (link x.1.place r.0, a)} (record { reads = join g.reads h; sits = tt }))))
      (λ _.
      gives_bind _ (basic_sound f d at) (λ b g.
      gives_bind _ (expect_sound ";" b.1) (λ a h.
      gives {x = (basic p b.0, a)} (record { reads = join g.reads h; sits = refl }))))))

  prototypes_sound : (f d : ℕ) (at : Here) → Ok (Listed at) (prototypes f d at)
  prototypes_sound zero d at = refuses tt
  prototypes_sound (suc f) d at =
      gives_bind _ (itself (next at)) (λ x e.
      if_case (Ok (Listed at)) _ _ _
      (λ _.
      gives_bind _ (path_sound (some x.1.place) at (there at x e)) (λ r g.
      gives_bind _ (itself (next r.1)) (λ y _.
      if_case (Ok (Listed at)) _ _ _
      (λ _.
      gives_bind _ (expect_sound "," r.1) (λ a h.
      gives_bind _ (prototypes_sound f d a) (λ ps i.
      gives {x = (named x.1.place r.0 ps.0, ps.1)} (record { reads = join g.reads (rw (i.some (sign ";" ∷ []) (spell_prototypes ps.0)) (join h i.reads)); some = λ l s. refl }))))
      (λ _.
      gives_bind _ (expect_sound ";" r.1) (λ a h.
      gives {x = (named x.1.place r.0 εᴾ, a)} (record { reads = join g.reads h; some = λ l s. refl }))))))
      (λ _.
      gives_bind _ (expect_sound "{" at) (λ a r.
      gives_demand _ 5 _ _ tt (λ _.
      gives_bind _ (statements_sound f (d - 1) a) (λ b g.
      gives_bind _ (expect_sound "}" b.1) (λ c h.
      gives_bind _ (itself (next c)) (λ y _.
      if_case (Ok (Listed at)) _ _ _
      (λ _.
      gives_bind _ (expect_sound "," c) (λ k m.
      gives_bind _ (prototypes_sound f d k) (λ ps i.
      gives {x = (block b.0 ps.0, ps.1)} (record { reads = join r (join g.reads (join h (rw (i.some [] (spell_prototypes ps.0)) (join m i.reads)))); some = λ l s. refl }))))
      (λ _.
      gives {x = (block b.0 εᴾ, c)} (record { reads = join r (join g.reads h); some = λ l s. refl })))))))))

read_said : (source : List ℕ) → Ok (λ b. Tokens source (spell b)) (read source)
unfolding read
read_said source =
    gives_demand _ 1 _ _ tt (λ _.
    gives_bind _ (statements_sound (2 * length source + 2) 32 (start source)) (λ b g.
    gives_bind _ (itself (next b.1)) (λ y e.
    gives_demand _ 3 _ _ tt (λ t.
    gives {x = b.0} (record { out = b.1; h = y.1; after = y.2; reads = g.reads; ended = e ∙ ap (λ t. ok (t, y.1, y.2)) (end_true y.0 t) })))))

-- what is read is spelt by the source's tokens, and names their places
pub read_sound : (source : List ℕ) (b : Block) → read source ≡ ok b → Tokens source (spell b)
read_sound source b e = gives_ok (read_said source) e
