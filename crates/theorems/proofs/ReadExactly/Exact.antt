-- The reader is the grammar: what is read is what the source's tokens spell, and nothing else. Assumes nothing.
use Prim.Native.Nat.{ℕ, ◌≤◌}
use mathlib.Core.Path.{◌≡◌, refl, sym, ◌∙◌, ap}
use mathlib.Core.List.{List, [], ◌∷◌}
use mathlib.Core.Logic.{◌↔◌}
use lib.ListN.{length}
use borrow.Author.Tests.{leb-true}
use Rattle.paper.specs.Answer.{Answer, ok, refused}
use Rattle.paper.specs.Syntax.{Path, Basic, boolean, null, integer, decimal, string, reference, vector, Basics, εⱽ, ◌∷ⱽ◌, Block, εᴮ, ◌∷ᴮ◌, Statement, assign, Value, basic, link, extends, Prototypes, εᴾ, named, block}
use Rattle.paper.specs.Tokens.{Token, end, Here}
use Rattle.paper.specs.Scanner.{next}
use Rattle.paper.specs.Grammar.{Spelt, spell, Free, Legal}
use Rattle.paper.specs.Described.{Passes, none_yet, and_then, Fits, Describes}
use Rattle.paper.specs.Reader.{statements, read}
use Rattle.paper.specs.WellFormed.{AreNames, IsPath, IsBasic, AreBasic, IsBlock, IsStatement, IsValueOf, ArePrototypes}
use Rattle.theorems.proofs.Laws.Gives.{Gives, gives, refuses, gives_bind, gives_demand, gives_ok}
use Rattle.theorems.proofs.Legal.Read.{read_well}
use Rattle.theorems.proofs.ReadExactly.Complete.{read_complete}
use Rattle.theorems.proofs.ReadExactly.Proper.{Proper, block_proper, proper_no_end}
use Rattle.theorems.proofs.ReadExactly.Printed.{LegalBasic, LegalBasics, LegalStatement, LegalValue, LegalPrototypes, Reference32}
use Rattle.theorems.proofs.ReadExactly.Sequence.{Reads, done, more}
use Rattle.theorems.proofs.ReadExactly.Sound.{read_sound}
use Rattle.theorems.proofs.Scanned.{scanned}

-- ---- what is well-formed is legal

free : (r : Path) → AreNames r → Free r
free [] h = tt
free (n ∷ r) h = (h.0.free, free r h.1)

path_legal : (r : Path) → IsPath r → Reference32 r
path_legal r h = record { some = h.some; few = h.few; free = free r h.names }

mutual
  basic_legal : (b : Basic) → IsBasic b → LegalBasic b
  basic_legal (boolean b) h = tt
  basic_legal null h = tt
  basic_legal (integer z) h = tt
  basic_legal (decimal t) h = tt
  basic_legal (string t) h = tt
  basic_legal (reference r) h = path_legal r h
  basic_legal (vector bs) h = basics_legal bs h

  basics_legal : (bs : Basics) → AreBasic bs → LegalBasics bs
  basics_legal εⱽ h = tt
  basics_legal (b ∷ⱽ bs) h = (basic_legal b h.0, basics_legal bs h.1)

mutual
  legal : (b : Block) → IsBlock b → Legal b
  legal εᴮ h = tt
  legal (a ∷ᴮ b) h = (statement_legal a h.0, legal b h.1)

  statement_legal : (a : Statement) → IsStatement a → LegalStatement a
  statement_legal (assign r v) h = (path_legal r h.0, value_legal v h.1)

  value_legal : (v : Value) → IsValueOf v → LegalValue v
  value_legal (basic p b) h = basic_legal b h.1
  value_legal (link p r) h = path_legal r h.1
  value_legal (extends p ps) h = (h.1, prototypes_legal ps h.2)

  prototypes_legal : (ps : Prototypes) → ArePrototypes ps → LegalPrototypes ps
  prototypes_legal εᴾ h = tt
  prototypes_legal (named p r ps) h = (path_legal r h.1, prototypes_legal ps h.2)
  prototypes_legal (block b ps) h = (legal b h.0, prototypes_legal ps h.1)

-- ---- the size

record Small (source : List ℕ) (b : Block) : Type 0 where
  small : length source ≤ 32768

any : {X : Type 0} (m : Answer X) → Gives (λ n. Unit {0}) (λ x. Unit {0}) m
any (ok x) = gives tt
any (refused n p) = refuses tt

small_enough : (source : List ℕ) → Gives (λ n. Unit {0}) (Small source) (read source)
unfolding read
small_enough source =
    gives_demand _ 1 _ _ tt (λ e. let l = leb-true (length source) 32768 e in
    gives_bind _ (any (statements _ 32 _)) (λ b _. gives_bind _ (any (next b.1)) (λ y _. gives_demand _ 3 _ _ tt (λ _. gives (record { small = l })))))

-- ---- the tokens read, and the source's

-- the tokens of a source that are those spelt, each with its place
record Placed (at : Here) (xs : List Spelt) (mid : Here) : Type 0 where
  list : List (Token × ℕ)
  passes : Passes at list mid
  fits : Fits list xs

placed : {at mid : Here} {xs : List Spelt} → Proper xs → Reads at xs mid → Placed at xs mid
placed p done = record { list = []; passes = none_yet; fits = tt }
placed {at} p (more {h = h} {after = a} {x = x} e s r) =
    let q = placed p.1 r in
    record { list = (x.0, h.place) ∷ q.list; passes = and_then ((scanned.a_token at x.0 h a).0 e) (proper_no_end x.0 p.0) q.passes; fits = (refl, s, q.fits) }

spelt : {at mid : Here} {list : List (Token × ℕ)} (xs : List Spelt) → Passes at list mid → Fits list xs → Reads at xs mid
spelt [] none_yet f = done
spelt (x ∷ xs) none_yet f = absurd f
spelt [] (and_then n e r) f = absurd f
spelt {at} (x ∷ xs) (and_then {h = h} {after = a} {t = t} n e r) f = more ((scanned.a_token at t h a).1 n ∙ ap (λ t. ok (t, h, a)) f.0) f.1 (spelt xs r f.2)

-- ---- the theorems

pub reads_exactly : (source : List ℕ) (b : Block) → (read source ≡ ok b) ↔ Describes source b
reads_exactly source b = (to, back)
  where
    to : read source ≡ ok b → Describes source b
    to e =
        let w = read_well source b e in
        let s = read_sound source b e in
        let p = placed (block_proper b) s.reads in
        record {
          size = (gives_ok (small_enough source) e).small;
          legal = legal b w.blocks;
          nested = w.nested;
          list = p.list;
          mid = s.out;
          h = s.h;
          after = s.after;
          passes = p.passes;
          ended = (scanned.a_token s.out end s.h s.after).0 s.ended;
          spelt = p.fits;
        }

    back : Describes source b → read source ≡ ok b
    back d = read_complete source b d.size d.legal d.nested
        (record { out = d.mid; h = d.h; after = d.after; reads = spelt (spell b) d.passes d.spelt; ended = (scanned.a_token d.mid end d.h d.after).1 d.ended })

-- the grammar is unambiguous: a source describes one block
pub describes_one : (source : List ℕ) (b c : Block) → Describes source b → Describes source c → b ≡ c
describes_one source b c h k = inside (sym ((reads_exactly source b).1 h) ∙ (reads_exactly source c).1 k)
  where
    inside : {X : Type 0} {a b : X} → ok a ≡ ok b → a ≡ b
    inside e = cc
