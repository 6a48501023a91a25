-- Strings: what the scanner reads up to the closing quote is what is written. Assumes nothing.
use Prim.Native.Nat.{ℕ, zero, suc, ◌+◌, ◌*◌, ◌-◌, ◌≤◌}
use Prim.Native.Char.{code}
use native.Mathlib.Omega.{arith}
use mathlib.Core.Path.{◌≡◌, refl, ap, subst}
use mathlib.Core.Bool.{Bool, true, false, false≢true, ◌&&◌}
use mathlib.Core.List.{List, [], ◌∷◌, ◌++◌, append_assoc}
use mathlib.Core.Option.{Option, none, some}
use lib.ListN.{length}
use lib.Seq.{drop-append_seam}
use borrow.Author.Tests.{eqb-true}
use Rattle.paper.specs.Bytes.{when◌then◌else◌, at, is, among, between}
use Rattle.paper.specs.Tokens.{octal, escaped}
use Rattle.paper.specs.Scanner.{meant, quoted}
use Rattle.paper.specs.Written.{Quoted, closed, plain, escape, octals}
use Rattle.theorems.proofs.Scanned.Classes.{or_left, or_right, and_left, and_right, is_false, outside_among}

-- ---- the bytes that mean one byte

-- a digit is no escape
escape_no_digit : (e b : ℕ) → escaped e ≡ some b → between "0" "3" e ≡ false
unfolding escaped when◌then◌else◌
escape_no_digit e b h = is_false (λ d.
    let o = outside_among (between "0" "3") "ntbrf\\\"'" e refl d in
    let o₁ = or_right (is "n" e) _ o in
    let o₂ = or_right (is "t" e) _ o₁ in
    let o₃ = or_right (is "b" e) _ o₂ in
    let o₄ = or_right (is "r" e) _ o₃ in
    let o₅ = or_right (is "f" e) _ o₄ in
    let q : none ≡ some b = rw (or_left (is "n" e) _ o, or_left (is "t" e) _ o₁, or_left (is "b" e) _ o₂, or_left (is "r" e) _ o₃, or_left (is "f" e) _ o₄, o₅, escaped) at h in
    let z : ◌≡◌ {A = ℕ} 0 1 = cc in omega arith)

-- w is no closing quote, and means b to the scanner
record Means (w : List ℕ) (b : ℕ) : Type 0 where
  no_quote : (s : List ℕ) → is "\"" (at (w ++ s) 0) ≡ false
  meant_so : (s : List ℕ) → meant (w ++ s) ≡ some (b, length w)

means_plain : (b : ℕ) → among "\"\\\n\r" b ≡ false → Means (b ∷ []) b
unfolding meant when◌then◌else◌
means_plain b e =
    let o = or_right (is "\"" b) _ e in
    record { no_quote = λ s. or_left (is "\"" b) _ e; meant_so = λ s. rw (or_right (is "\\" b) _ o, or_left (is "\\" b) _ o) }

means_escape : (e b : ℕ) → escaped e ≡ some b → Means (code "\\" ∷ e ∷ []) b
unfolding meant when◌then◌else◌
means_escape e b h = record { no_quote = λ s. refl; meant_so = λ s. rw (escape_no_digit e b h, h) }

means_octals : (x y z : ℕ) → between "0" "3" x ≡ true → octal y ≡ true → octal z ≡ true → Means (code "\\" ∷ x ∷ y ∷ z ∷ []) ((x - 48) * 64 + (y - 48) * 8 + (z - 48))
unfolding meant when◌then◌else◌
means_octals x y z e i j = record { no_quote = λ s. refl; meant_so = λ s. rw (e, i, j) }

-- ---- what is written is read

quoted_step : (w s : List ℕ) (f k : ℕ) {b m : ℕ} {t : List ℕ} → Means w b → quoted f s ≡ some (t, m) → length w + m ≡ k → quoted (suc f) (w ++ s) ≡ some (b ∷ t, k)
unfolding quoted
quoted_step w s f k {b} {t = t} h e q = rw (h.no_quote s, quoted) (rw (h.meant_so s, quoted) (rw (drop-append_seam, e, quoted) (ap (λ i. some (b ∷ t, i)) q)))

some_quoted : {w t : List ℕ} → Quoted w t → 1 ≤ length w
some_quoted closed = omega arith
some_quoted (plain e q) = omega arith
some_quoted (escape h q) = omega arith
some_quoted (octals e i j q) = omega arith

pub quoted_writes : {w t : List ℕ} → Quoted w t → (r : List ℕ) (f : ℕ) → length w ≤ f → quoted f (w ++ r) ≡ some (t, length w)
unfolding quoted
quoted_writes q r zero l = absurd (omega (arith, some_quoted q))
quoted_writes closed r (suc f) l = refl
quoted_writes (plain {b} {w} e q) r (suc f) l = quoted_step (b ∷ []) (w ++ r) f _ (means_plain b e) (quoted_writes {w = w} q r f (omega arith)) (omega arith)
quoted_writes (escape {e} {b} {w} h q) r (suc f) l = quoted_step (92 ∷ e ∷ []) (w ++ r) f _ (means_escape e b h) (quoted_writes {w = w} q r f (omega arith)) (omega arith)
quoted_writes (octals {x} {y} {z} {w} e i j q) r (suc f) l = quoted_step (92 ∷ x ∷ y ∷ z ∷ []) (w ++ r) f _ (means_octals x y z e i j) (quoted_writes {w = w} q r f (omega arith)) (omega arith)

-- ---- what is read is written

-- a string is closed here, or the scanner finds none
pub data Quotes (f : ℕ) : List ℕ → Type 0 where
  closes : {w t : List ℕ} (r : List ℕ) → Quoted w t → Quotes f (w ++ r)
  never : {s : List ℕ} → quoted f s ≡ none → Quotes f s

quotes_more : (f : ℕ) (w : List ℕ) {b : ℕ} {s : List ℕ} → Means w b → ((v t : List ℕ) → Quoted v t → Quoted (w ++ v) (b ∷ t)) → Quotes f s → Quotes (suc f) (w ++ s)
unfolding quoted
quotes_more f w h k (closes {w = v} r q) = subst (Quotes (suc f)) (append_assoc w v r) (closes r (k v _ q))
quotes_more f w h k (never {s} n) = never {s = w ++ s} (rw (h.no_quote s, quoted) (rw (h.meant_so s, quoted) (rw (drop-append_seam, n, quoted))))

-- a backslash, and what stands after it
quotes_escape : (f : ℕ) (s : List ℕ) → ((s : List ℕ) → Quotes f s) → Quotes (suc f) (code "\\" ∷ s)
unfolding quoted meant octal escaped when◌then◌else◌
quotes_escape f [] again = never refl
quotes_escape f (e ∷ s) again = go (between "0" "3" e && octal (at s 0) && octal (at s 1)) refl (escaped e) refl
  where
    three : (s : List ℕ) → (between "0" "3" e && octal (at s 0) && octal (at s 1)) ≡ true → Quotes (suc f) (code "\\" ∷ e ∷ s)
    three [] i = absurd (false≢true (and_right (between "0" "3" e && false) _ i))
    three (y ∷ []) i = absurd (false≢true (and_right (between "0" "3" e && octal y) _ i))
    three (y ∷ z ∷ s) i =
        let j = and_left (between "0" "3" e && octal y) (octal z) i in
        let e₀ = and_left (between "0" "3" e) (octal y) j in
        let e₁ = and_right (between "0" "3" e) (octal y) j in
        let e₂ = and_right (between "0" "3" e && octal y) (octal z) i in
        quotes_more f (92 ∷ e ∷ y ∷ z ∷ []) (means_octals e y z e₀ e₁ e₂) (λ v t q. octals e₀ e₁ e₂ q) (again s)

    go : (c : Bool) → (between "0" "3" e && octal (at s 0) && octal (at s 1)) ≡ c → (o : Option ℕ) → escaped e ≡ o → Quotes (suc f) (code "\\" ∷ e ∷ s)
    go true i o h = three s i
    go false i none h = let n : meant (92 ∷ e ∷ s) ≡ none = rw (i, h) in never {s = 92 ∷ e ∷ s} (rw (n, quoted))
    go false i (some b) h = quotes_more f (92 ∷ e ∷ []) (means_escape e b h) (λ v t q. escape h q) (again s)

pub find_quoted : (f : ℕ) (s : List ℕ) → Quotes f s
unfolding quoted meant when◌then◌else◌
find_quoted zero s = never refl
find_quoted (suc f) [] = never refl
find_quoted (suc f) (b ∷ s) = go (is "\"" b) refl (among "\n\r" b) refl (is "\\" b) refl (find_quoted f)
  where
    go : (c : Bool) → is "\"" b ≡ c → (d : Bool) → among "\n\r" b ≡ d → (e : Bool) → is "\\" b ≡ e → ((s : List ℕ) → Quotes f s) → Quotes (suc f) (b ∷ s)
    go true i d j e k again = subst (λ x. Quotes (suc f) (x ∷ s)) (eqb-true 34 b i) (closes s closed)
    go false i true j e k again = let n : meant (b ∷ s) ≡ none = rw j in never {s = b ∷ s} (rw (i, n, quoted))
    go false i false j true k again = subst (λ x. Quotes (suc f) (x ∷ s)) (eqb-true 92 b k) (quotes_escape f s again)
    go false i false j false k again =
        let o : among "\"\\\n\r" b ≡ false = rw (i, k) j in
        quotes_more f (b ∷ []) (means_plain b o) (λ v t q. plain o q) (again s)
