-- The first refusal by the scanner's tokens is the first by the tokens as they are written. Assumes nothing.
use Prim.Native.Nat.{ℕ}
use native.Mathlib.Omega.{arith}
use mathlib.Core.Path.{◌≡◌, refl, sym, ◌∙◌, ap, subst}
use mathlib.Core.List.{List, [], ◌∷◌, ◌++◌}
use mathlib.Core.Logic.{◌↔◌}
use Rattle.paper.specs.Tokens.{Token, end, Here}
use Rattle.paper.specs.Described.{Passes, kinds, Refuses, First}
use Rattle.paper.specs.Described as D
use Rattle.theorems.proofs.ReadExactly.Refusals.{At, no_next, not_here, FirstRefusal}
use Rattle.theorems.proofs.ReadExactly.Sequence.{Scans, none_yet, and_then}
use Rattle.theorems.proofs.Scanned.{scanned}

-- no token is the end
abbrev NoEnd : List Token → Type 0
NoEnd ts = (xs ys : List Token) (t : Token) → ts ≡ xs ++ (t ∷ ys) → t ≡ end → ⊥

-- the scanner's tokens with their places
record Placed (at : Here) (ts : List Token) (mid : Here) : Type 0 where
  list : List (Token × ℕ)
  passes : Passes at list mid
  same : kinds list ≡ ts

placed : {at mid : Here} {ts : List Token} → Scans at ts mid → NoEnd ts → Placed at ts mid
placed none_yet f = record { list = []; passes = D.none_yet; same = refl }
placed {at} (and_then {h = h} {after = a} {t = t} {ts = ts} e r) f =
    let q = placed r (λ xs ys u w. f (t ∷ xs) ys u (ap (λ l. t ∷ l) w)) in
    record { list = (t, h.place) ∷ q.list; passes = D.and_then ((scanned.a_token at t h a).0 e) (f [] ts t refl) q.passes; same = ap (λ l. t ∷ l) q.same }

scans : {at mid : Here} {list : List (Token × ℕ)} → Passes at list mid → Scans at (kinds list) mid
scans D.none_yet = none_yet
scans {at} (D.and_then {h = h} {after = a} {t = t} n e r) = and_then ((scanned.a_token at t h a).1 n) (scans r)

no_end : {at mid : Here} {list : List (Token × ℕ)} → Passes at list mid → NoEnd (kinds list)
no_end D.none_yet [] ys t w z = let c : ◌≡◌ {A = ℕ} 0 1 = cc in omega arith
no_end D.none_yet (x ∷ xs) ys t w z = let c : ◌≡◌ {A = ℕ} 0 1 = cc in omega arith
no_end (D.and_then {t = u} n e r) [] ys t w z = let i : u ≡ t = cc in e (i ∙ z)
no_end (D.and_then {ts = ts} n e r) (x ∷ xs) ys t w z = let i : kinds ts ≡ xs ++ (t ∷ ys) = cc in no_end r xs ys t i z

refuses : {before : List Token} {mid : Here} {n p : ℕ} → At before mid n p → Refuses before mid n p
refuses {mid = mid} (no_next {n} {p} e) = D.no_next ((scanned.no_token mid n p).0 e)
refuses {mid = mid} (not_here {t = t} {h = h} {after = a} e f) = D.not_here ((scanned.a_token mid t h a).0 e) f

refused_at : {before : List Token} {mid : Here} {n p : ℕ} → Refuses before mid n p → At before mid n p
refused_at {mid = mid} (D.no_next {n} {p} e) = no_next ((scanned.no_token mid n p).1 e)
refused_at {mid = mid} (D.not_here {t = t} {h = h} {after = a} e f) = not_here ((scanned.a_token mid t h a).1 e) f

pub leftmost : (source : List ℕ) (n p : ℕ) → FirstRefusal source n p ↔ First source n p
leftmost source n p = (to, back)
  where
    to : FirstRefusal source n p → First source n p
    to f =
        let q = placed f.are (λ xs ys t w. (f.fine xs ys t w).0) in
        record {
          list = q.list;
          mid = f.mid;
          passes = q.passes;
          fine = λ xs ys t m w. (f.fine xs ys t (sym q.same ∙ w)).1 m;
          refuses = subst (λ ts. Refuses ts f.mid n p) (sym q.same) (refuses f.at);
        }

    back : First source n p → FirstRefusal source n p
    back f =
        record {
          before = kinds f.list;
          mid = f.mid;
          are = scans f.passes;
          fine = λ xs ys t w. (no_end f.passes xs ys t w, λ m. f.fine xs ys t m w);
          at = refused_at f.refuses;
        }
