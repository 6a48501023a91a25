-- Tests on bytes: what `||` and `&&` say, and that the classes of bytes are apart. Assumes nothing.
use Prim.Native.Nat.{ℕ, ◌≤◌}
use Prim.Native.Char.{Char, code}
use Prim.Native.String.{String, [], ◌∷◌}
use native.Mathlib.Omega.{arith}
use mathlib.Core.Path.{◌≡◌, refl, sym, ◌∙◌, subst}
use mathlib.Core.Bool.{Bool, true, false, true≢false, false≢true, not, ◌&&◌, ◌||◌}
use borrow.Author.Tests.{eqb-true, leb-true, not-true}
use lib.Dec.{leb, lit≤}
use Rattle.paper.specs.Bytes.{is, among, between}
use Rattle.paper.specs.Tokens.{starts, digit}

pub or_left : (a b : Bool) → (a || b) ≡ false → a ≡ false
or_left true b e = e
or_left false b e = refl

pub or_right : (a b : Bool) → (a || b) ≡ false → b ≡ false
or_right true b e = absurd (true≢false e)
or_right false b e = e

pub and_left : (a b : Bool) → (a && b) ≡ true → a ≡ true
and_left true b e = refl
and_left false b e = e

pub and_right : (a b : Bool) → (a && b) ≡ true → b ≡ true
and_right true b e = e
and_right false b e = absurd (false≢true e)

-- what leads to a contradiction is false
pub is_false : {a : Bool} → (a ≡ true → ⊥) → a ≡ false
is_false {a = true} f = absurd (f refl)
is_false {a = false} f = refl

-- no character of the text is in the class
abbrev pub outside : (ℕ → Bool) → String → Bool
outside q [] = true
outside q (c ∷ cs) = not (q (code c)) && outside q cs

-- so a byte of the text is not in the class, and a byte of the class not in the text
pub among_outside : (q : ℕ → Bool) (cs : String) (b : ℕ) → outside q cs ≡ true → among cs b ≡ true → q b ≡ false
among_outside q [] b a e = absurd (false≢true e)
among_outside q (c ∷ cs) b a e = go (is c b) refl (λ e. among_outside q cs b (and_right (not (q (code c))) _ a) e)
  where
    go : (t : Bool) → is c b ≡ t → (among cs b ≡ true → q b ≡ false) → q b ≡ false
    go true i again = subst (λ x. q x ≡ false) (eqb-true _ _ i) (not-true _ (and_left _ (outside q cs) a))
    go false i again = again (rw i at e)

pub outside_among : (q : ℕ → Bool) (cs : String) (b : ℕ) → outside q cs ≡ true → q b ≡ true → among cs b ≡ false
outside_among q cs b a e = is_false (λ i. true≢false (sym e ∙ among_outside q cs b a i))

-- a digit begins no name
pub digit_starts : (b : ℕ) → digit b ≡ true → starts b ≡ false
unfolding digit starts
digit_starts b e = both (both (high "a" "z" (lit≤ tt)) (high "A" "Z" (lit≤ tt))) (outside_among (between "0" "9") "_$" b refl e)
  where
    high : (c d : Char) → 58 ≤ code c → between c d b ≡ false
    high c d m = is_false (λ i. omega (arith, leb-true (code c) b (and_left _ (leb b (code d)) i), leb-true b 57 (and_right (leb 48 b) _ e)))

    both : {x y : Bool} → x ≡ false → y ≡ false → (x || y) ≡ false
    both p q = rw p q
