-- The next token, wherever the rest of the source stands: what `next_token` answers, said of the paper's `next`. Assumes nothing.
use Rattle.std.proofs.Common.{◌≡◌, ℕ, ◌+◌, ◌-◌, ◌≤◌, List, length, take, drop, Ok, Err, refl, sym, ap, ap₂, ◌∙◌, arith}
use Rattle.std.specs.Prelude as Rust
use Rattle.paper.specs.Answer.{Answer, ok, refused, ◌>>=◌}
use Rattle.paper.specs.Tokens.{Here}
use Rattle.paper.specs.Scanner.{Scanned, token, fault, scan, found, next, past}
use Rattle.spelling.proofs.At.{rest}
use Rattle.tokens.specs.declared.scan.Front.{Front}
use Rattle.tokens.specs.declared.Kind.{Kind}
use Rattle.tokens.specs.Gaps.{place_of, skips}
use Rattle.tokens.specs.Scans.{front_of}
use Rattle.tokens.specs.Shown.{shown}
use Rattle.tokens.specs.Kinds.{kind_of}
use Rattle.tokens.proofs.Skips.{Ending, at_token, at_comment, ending}
use Rattle.tokens.proofs.Fronts.{read}
use Rattle.tokens.proofs.Shapes.{Shape, at_end, a_name, an_integer, a_decimal, a_string, a_mark, a_fault, shape}

-- the rest s of the source, which stands at p
abbrev pub from : ℕ → List ℕ → Here
from p s = record { place = p; rest = s }

module _ (p : ℕ) (s : List ℕ) where
  pub next_token : (h : Here) → skips p s ≡ ok h → next (from p s) ≡ found h (scan h.rest)
  unfolding next skips ◌>>=◌
  next_token h e = rw e

  pub next_comment : (n q : ℕ) → skips p s ≡ refused n q → next (from p s) ≡ refused n q
  unfolding next skips ◌>>=◌
  next_comment n q e = rw e

-- where the skipping ends
pub skipped_to : (s : List ℕ) (i : ℕ) → ok i ≡ place_of (skips 0 s) → (i ≤ length s) × (skips 0 s ≡ ok (from i (drop i s)))
unfolding place_of
skipped_to s i e = go (ending s)
  where
    go : Ending s (λ p. skips p s) → (i ≤ length s) × (skips 0 s ≡ ok (from i (drop i s)))
    go (at_token j h k) =
        let f : ◌≡◌ {A = Answer ℕ} (ok i) (ok (0 + j)) = e ∙ ap place_of (k 0) in
        let q : i ≡ 0 + j = cc in
        let r : j ≡ i = omega arith in
        (omega arith, k 0 ∙ ap₂ (λ (x y : ℕ). ok (from x (drop y s))) (sym q) r)
    go (at_comment j h k) = let f : ◌≡◌ {A = Answer ℕ} (ok i) (refused 2 (0 + j)) = e ∙ ap place_of (k 0) in cc

pub skipped_open : (s : List ℕ) (n i : ℕ) → refused n i ≡ place_of (skips 0 s) → skips 0 s ≡ refused n i
unfolding place_of
skipped_open s n i e = go (skips 0 s) refl
  where
    go : (a : Answer Here) → skips 0 s ≡ a → skips 0 s ≡ refused n i
    go (ok h) k = let f : ◌≡◌ {A = Answer ℕ} (refused n i) (ok h.place) = e ∙ ap place_of k in cc
    go (refused m j) k =
        let f : ◌≡◌ {A = Answer ℕ} (refused n i) (refused m j) = e ∙ ap place_of k in
        let x : m ≡ n = cc in
        let y : j ≡ i = cc in
        k ∙ ap₂ (λ (a b : ℕ). refused a b) x y

-- the token at the front of the part from i on, as the answer of `next_token`
module _ (s : List ℕ) (i : ℕ) (e : ok i ≡ place_of (skips 0 s)) where
  abbrev part : List ℕ
  part = take (length s - i) (drop i s)

  shown_at : shown (next (from 0 s)) ≡ shown (found (from i (drop i s)) (scan (drop i s)))
  shown_at = ap shown (next_token 0 s (from i (drop i s)) (skipped_to s i e).1)

  front : (x : Scanned) → scan (drop i s) ≡ x → front_of (scan part) ≡ front_of x
  front x h = ap (λ (t : List ℕ). front_of (scan t)) (rest s i) ∙ ap front_of h

  pub next_read : (f : Front) → Ok f ≡ front_of (scan part) → ok (record { kind = f.kind; at = i; end = i + f.len }) ≡ shown (next (from 0 s))
  unfolding front_of shown found past
  next_read f h = go (scan (drop i s)) refl
    where
      go : (x : Scanned) → scan (drop i s) ≡ x → ok (record { kind = f.kind; at = i; end = i + f.len }) ≡ shown (next (from 0 s))
      go (token t n) q =
          let r : ◌≡◌ {A = Rust.Result Front ℕ} (Ok f) (Ok (record { kind = kind_of t; len = n })) = h ∙ front (token t n) q in
          let g : f ≡ record { kind = kind_of t; len = n } = cc in
          ap (λ (x : Front). ok (record { kind = x.kind; at = i; end = i + x.len })) g ∙ sym (shown_at ∙ ap (λ (x : Scanned). shown (found (from i (drop i s)) x)) q)
      go (fault n) q = let r : ◌≡◌ {A = Rust.Result Front ℕ} (Ok f) (Err n) = h ∙ front (fault n) q in cc

  pub next_fault : (n : ℕ) → Err n ≡ front_of (scan part) → refused n i ≡ shown (next (from 0 s))
  unfolding front_of shown found past
  next_fault n h = go (scan (drop i s)) refl
    where
      go : (x : Scanned) → scan (drop i s) ≡ x → refused n i ≡ shown (next (from 0 s))
      go (token t m) q = let r : ◌≡◌ {A = Rust.Result Front ℕ} (Err n) (Ok (record { kind = kind_of t; len = m })) = h ∙ front (token t m) q in cc
      go (fault m) q =
          let r : ◌≡◌ {A = Rust.Result Front ℕ} (Err n) (Err m) = h ∙ front (fault m) q in
          let g : n ≡ m = cc in
          ap (λ (x : ℕ). refused x i) g ∙ sym (shown_at ∙ ap (λ (x : Scanned). shown (found (from i (drop i s)) x)) q)

pub read_within : (s : List ℕ) (k : Kind) (n : ℕ) → read k n ≡ front_of (scan s) → n ≤ length s
unfolding front_of
read_within s k n e = go (shape s) e
  where
    len : Rust.Result Front ℕ → ℕ
    len (Ok f) = f.len
    len (Err m) = 0

    go : {x : Scanned} → Shape s x → read k n ≡ front_of x → n ≤ length s
    go (at_end h) e = omega (arith, ap len e)
    go (a_name m h l f) e = omega (arith, ap len e)
    go (an_integer m h l f) e = omega (arith, ap len e)
    go (a_decimal m h l f) e = omega (arith, ap len e)
    go (a_string t m h l f) e = omega (arith, ap len e)
    go (a_mark h) e = omega (arith, ap len e)
    go (a_fault m) e = let f : ◌≡◌ {A = Rust.Result Front ℕ} (read k n) (Err m) = e in cc
