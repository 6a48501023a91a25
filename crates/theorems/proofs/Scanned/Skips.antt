-- What is skipped, as the scanner skips it. Assumes nothing.
use Prim.Native.Nat.{ℕ, zero, suc, ◌+◌, ◌≤◌}
use native.Mathlib.Omega.{arith}
use mathlib.Core.Path.{◌≡◌, refl, sym, ◌∙◌, ap, subst}
use mathlib.Core.Bool.{Bool, true, false, true≢false, ◌&&◌}
use mathlib.Core.List.{List, [], ◌∷◌, ◌++◌, append_assoc}
use mathlib.Core.Option.{none, some}
use lib.ListN.{length, drop, length-append}
use lib.Seq.{drop-append_seam}
use lib.Dec.{eqb}
use borrow.Author.Tests.{eqb-true, not-false}
use Rattle.paper.specs.Bytes.{when◌then◌else◌, bytes, at, is}
use Rattle.paper.specs.Answer.{Answer, ok, refused}
use Rattle.paper.specs.Tokens.{blank, Here}
use Rattle.paper.specs.Scanner.{span, closing, gap, skip, past}
use Rattle.paper.specs.Written.{Each, no_more, one_more, no_LF, Unclosed, LineEnd, at_LF, at_end, Skipped, nothing, a_blank, a_line, a_comment, Settled}
use Rattle.theorems.proofs.Scanned.Classes.{and_left, and_right, is_false}

-- ---- the bytes at the front that pass a test

-- no byte at the front passes
pub data Stops (p : ℕ → Bool) : List ℕ → Type 0 where
  ended : Stops p []
  stopped : {b : ℕ} {s : List ℕ} → p b ≡ false → Stops p (b ∷ s)

pub span_run : {p : ℕ → Bool} {w r : List ℕ} → Each p w → Stops p r → span p (w ++ r) ≡ length w
unfolding span
span_run no_more ended = refl
span_run no_more (stopped e) = rw (e, span)
span_run (one_more e w) r = rw (e, span) (ap suc (span_run w r))

-- as many bytes as pass, and the rest
pub data Run (p : ℕ → Bool) : List ℕ → Type 0 where
  run : {w r : List ℕ} → Each p w → Stops p r → Run p (w ++ r)

pub runs : (p : ℕ → Bool) (s : List ℕ) → Run p s
runs p [] = run no_more ended
runs p (b ∷ s) = go (p b) refl (runs p s)
  where
    go : {s : List ℕ} (c : Bool) → p b ≡ c → Run p s → Run p (b ∷ s)
    go true e (run w r) = run (one_more e w) r
    go false e r = run no_more (stopped e)

-- ---- comments

-- a line ends where a byte is an LF
line_stops : {s : List ℕ} → LineEnd s → Stops no_LF s
line_stops at_LF = stopped refl
line_stops at_end = ended

stops_line : {s : List ℕ} → Stops no_LF s → LineEnd s
stops_line ended = at_end
stops_line (stopped {b} {s} e) = subst (λ x. LineEnd (x ∷ s)) (eqb-true 10 b (not-false _ e)) at_LF

-- what holds where two bytes stand holds where the tests find them
begins : (P : List ℕ → Type 0) (c d : ℕ) → eqb d 256 ≡ false → ((s : List ℕ) → P (c ∷ d ∷ s)) → (b : ℕ) (s : List ℕ) → (eqb c b && eqb d (at s 0)) ≡ true → P (b ∷ s)
begins P c d o h b [] e = absurd (true≢false (sym (and_right (eqb c b) _ e) ∙ o))
begins P c d o h b (a ∷ s) e = subst P (λ j. eqb-true c b (and_left _ (eqb d a) e) j ∷ eqb-true d a (and_right (eqb c b) _ e) j ∷ s) (h s)

-- `*/` stands at the front
abbrev close_here : ℕ → List ℕ → Bool
close_here b s = is "*" b && is "/" (at s 0)

unclosed_here : (b : ℕ) (s : List ℕ) → Unclosed (b ∷ s) → close_here b s ≡ false
unclosed_here b s u = is_false (λ i. begins (λ l. Unclosed l → ⊥) 42 47 refl (λ s u. u [] s refl) b s i u)

unclosed_tail : {b : ℕ} {s : List ℕ} → Unclosed (b ∷ s) → Unclosed s
unclosed_tail {b} u x y e = u (b ∷ x) y (ap (λ l. b ∷ l) e)

unclosed_more : {b : ℕ} {s : List ℕ} → close_here b s ≡ false → Unclosed s → Unclosed (b ∷ s)
unclosed_more h u [] y e = true≢false (ap (λ l. is "*" (at l 0) && is "/" (at l 1)) (sym e) ∙ h)
unclosed_more h u (a ∷ x) y e = u x y (ap (drop 1) e)

unclosed_nil : Unclosed []
unclosed_nil [] y e = let z : ◌≡◌ {A = ℕ} 0 1 = cc in omega arith
unclosed_nil (a ∷ x) y e = let z : ◌≡◌ {A = ℕ} 0 1 = cc in omega arith

-- `*/` stands over the end of c only if it stands in c: after c stands no `/`
close_over : (b : ℕ) (c r : List ℕ) → close_here b (c ++ (bytes "*/" ++ r)) ≡ close_here b c
close_over b [] r = refl
close_over b (x ∷ c) r = refl

closing_none : (c : List ℕ) → Unclosed c → closing c ≡ none
unfolding closing
closing_none [] u = refl
closing_none (b ∷ c) u = rw (unclosed_here b c u, closing_none c (unclosed_tail u), closing)

closing_some : (c r : List ℕ) → Unclosed c → closing (c ++ (bytes "*/" ++ r)) ≡ some (length c + 2)
unfolding closing
closing_some [] r u = refl
closing_some (b ∷ c) r u = rw (close_over b c r ∙ unclosed_here b c u, closing_some c r (unclosed_tail u), closing) (ap some (omega arith))

-- the first `*/`, or none
data Closes : List ℕ → Type 0 where
  closes : {c : List ℕ} (r : List ℕ) → Unclosed c → Closes (c ++ (bytes "*/" ++ r))
  never : {s : List ℕ} → Unclosed s → Closes s

find_close : (s : List ℕ) → Closes s
find_close [] = never unclosed_nil
find_close (b ∷ s) = go (close_here b s) refl (find_close s)
  where
    go : {s : List ℕ} (t : Bool) → close_here b s ≡ t → Closes s → Closes (b ∷ s)
    go {s} true e k = begins Closes 42 47 refl (λ s. closes s unclosed_nil) b s e
    go false e (closes {c} r u) = closes r (unclosed_more (sym (close_over b c r) ∙ e) u)
    go false e (never u) = never (unclosed_more e u)

-- ---- what stands at the front

-- one thing to skip, a comment that is not closed, or nothing to skip: always one of the five (`front`), and the scanner measures it
pub data Front : List ℕ → Type 0 where
  blank_here : {b : ℕ} (s : List ℕ) → blank b ≡ true → Front (b ∷ s)
  line_here : {c s : List ℕ} → Each no_LF c → LineEnd s → Front (bytes "//" ++ (c ++ s))
  comment_here : {c : List ℕ} (s : List ℕ) → Unclosed c → Front (bytes "/*" ++ (c ++ (bytes "*/" ++ s)))
  never_closed : {s : List ℕ} → Unclosed s → Front (bytes "/*" ++ s)
  settled : {s : List ℕ} → Settled s → Front s

gap_blank : (b : ℕ) (s : List ℕ) → blank b ≡ true → gap (b ∷ s) ≡ some 1
unfolding gap when◌then◌else◌
gap_blank b s e = rw e

gap_line : {c s : List ℕ} → Each no_LF c → LineEnd s → gap (bytes "//" ++ (c ++ s)) ≡ some (suc (suc (length c)))
unfolding gap blank when◌then◌else◌
gap_line c s = rw (span_run c (line_stops s)) (ap some (omega arith))

gap_comment : (c s : List ℕ) → Unclosed c → gap (bytes "/*" ++ ((c ++ bytes "*/") ++ s)) ≡ some (suc (suc (length (c ++ bytes "*/"))))
unfolding gap blank when◌then◌else◌
gap_comment c s u = rw (append_assoc, closing_some c s u) (ap some (omega (arith, length-append c (bytes "*/"))))

gap_never_closed : (s : List ℕ) → Unclosed s → gap (bytes "/*" ++ s) ≡ none
unfolding gap blank when◌then◌else◌
gap_never_closed s u = rw (closing_none s u)

gap_settled : (s : List ℕ) → Settled s → gap s ≡ some 0
unfolding gap blank when◌then◌else◌
gap_settled [] h = refl
gap_settled (b ∷ s) h = rw (h.no_blank, slash 47 refl (λ s h. (h.no_comment s).0 refl), slash 42 refl (λ s h. (h.no_comment s).1 refl))
  where
    slash : (d : ℕ) → eqb d 256 ≡ false → ((s : List ℕ) → Settled (47 ∷ d ∷ s) → ⊥) → (eqb 47 b && eqb d (at s 0)) ≡ false
    slash d o n = is_false (λ i. begins (λ l. Settled l → ⊥) 47 d o n b s i h)

-- by the tests that the scanner makes
settles : (s : List ℕ) → blank (at s 0) ≡ false → (is "/" (at s 0) && is "/" (at s 1)) ≡ false → (is "/" (at s 0) && is "*" (at s 1)) ≡ false → Settled s
settles s e i j = record {
  no_blank = e;
  no_comment = λ r. (
    λ q. true≢false (ap (λ l. is "/" (at l 0) && is "/" (at l 1)) (sym q) ∙ i),
    λ q. true≢false (ap (λ l. is "/" (at l 0) && is "*" (at l 1)) (sym q) ∙ j),
  );
}

settled_nil : Settled []
unfolding blank
settled_nil = settles [] refl refl refl

pub front : (s : List ℕ) → Front s
front [] = settled settled_nil
front (b ∷ s) = go (blank b) refl (is "/" b && is "/" (at s 0)) refl (is "/" b && is "*" (at s 0)) refl
  where
    line : {s : List ℕ} → Run no_LF s → Front (bytes "//" ++ s)
    line (run c e) = line_here c (stops_line e)

    comment : {s : List ℕ} → Closes s → Front (bytes "/*" ++ s)
    comment (closes r u) = comment_here r u
    comment (never u) = never_closed u

    go : (t : Bool) → blank b ≡ t → (u : Bool) → (is "/" b && is "/" (at s 0)) ≡ u → (v : Bool) → (is "/" b && is "*" (at s 0)) ≡ v → Front (b ∷ s)
    go true e u i v j = blank_here s e
    go false e true i v j = begins Front 47 47 refl (λ s. line (runs no_LF s)) b s i
    go false e false i true j = begins Front 47 42 refl (λ s. comment (find_close s)) b s j
    go false e false i false j = settled (settles (b ∷ s) e i j)

-- ---- the scanner's skipping

-- from s at p on `skip` answers x, whatever its count, if only it is enough
abbrev pub Gets : ℕ → List ℕ → Answer Here → Type 0
Gets p s x = (f : ℕ) → length s ≤ f → skip f (record { place = p; rest = s }) ≡ x

pub gets_settled : (p : ℕ) (s : List ℕ) → Settled s → Gets p s (ok (record { place = p; rest = s }))
unfolding skip
gets_settled p s h zero l = refl
gets_settled p s h (suc f) l = rw (gap_settled s h, skip)

pub gets_refused : (p : ℕ) (s : List ℕ) → Unclosed s → Gets p (bytes "/*" ++ s) (refused 2 p)
unfolding skip
gets_refused p s u zero l = absurd (omega arith)
gets_refused p s u (suc f) l = rw (gap_never_closed s u, skip)

-- past the bytes b and w, which are skipped
gets_step : (b : ℕ) (w s : List ℕ) (p : ℕ) {x : Answer Here} → gap (b ∷ (w ++ s)) ≡ some (suc (length w)) → Gets (p + suc (length w)) s x → Gets p (b ∷ (w ++ s)) x
unfolding skip past
gets_step b w s p e k zero l = absurd (omega arith)
gets_step b w s p e k (suc f) l = rw (e, drop-append_seam, skip) (k f (omega (arith, length-append w s)))

pub gets_along : {s r : List ℕ} (p q : ℕ) {x : Answer Here} → Skipped s r → q + length r ≡ p + length s → Gets q r x → Gets p s x
gets_along {s} p q {x} nothing m k = let e : q ≡ p = omega arith in subst (λ i. Gets i s x) e k
gets_along p q (a_blank {b} {s} e n) m k = gets_step b [] s p (gap_blank b s e) (gets_along (p + 1) q n (omega arith) k)
gets_along p q (a_line {c} {s} a e n) m k = gets_step 47 (47 ∷ c) s p (gap_line a e) (gets_along (p + suc (suc (length c))) q n (omega (arith, length-append c s)) k)
gets_along p q {x} (a_comment {c} {s} u n) m k =
    let w = c ++ bytes "*/" in
    subst (λ l. Gets p (bytes "/*" ++ l) x) (append_assoc c (bytes "*/") s)
    (gets_step 47 (42 ∷ w) s p (gap_comment c s u) (gets_along (p + suc (suc (length w))) q n (omega (arith, length-append c (bytes "*/"), length-append c (bytes "*/" ++ s))) k))

-- ---- where it ends

-- what is skipped ends at a token, or at a comment that is not closed
pub data Ends (p : ℕ) (s : List ℕ) : Type 0 where
  at_token : {r : List ℕ} (q : ℕ) → Skipped s r → q + length r ≡ p + length s → Settled r → Ends p s
  at_comment : {c : List ℕ} (q : ℕ) → Skipped s (bytes "/*" ++ c) → q + length (bytes "/*" ++ c) ≡ p + length s → Unclosed c → Ends p s

ends_more : {p p' : ℕ} {s s' : List ℕ} → ((r : List ℕ) → Skipped s r → Skipped s' r) → p + length s ≡ p' + length s' → Ends p s → Ends p' s'
ends_more f e (at_token q n m h) = at_token q (f _ n) (m ∙ e) h
ends_more f e (at_comment q n m u) = at_comment q (f _ n) (m ∙ e) u

pub ends : (f p : ℕ) (s : List ℕ) → length s ≤ f → Ends p s
ends zero p [] l = at_token p nothing refl settled_nil
ends zero p (b ∷ s) l = absurd (omega arith)
ends (suc f) p s l = step (front s) l (λ p s l. ends f p s l)
  where
    step : {s : List ℕ} → Front s → length s ≤ suc f → ((p : ℕ) (s : List ℕ) → length s ≤ f → Ends p s) → Ends p s
    step (blank_here s e) l again = ends_more (λ r n. a_blank e n) (omega arith) (again (p + 1) s (omega arith))
    step (line_here {c} {s} a e) l again = ends_more (λ r n. a_line a e n) (omega (arith, length-append c s)) (again (p + suc (suc (length c))) s (omega (arith, length-append c s)))
    step (comment_here {c} s u) l again = ends_more (λ r n. a_comment u n) (omega (arith, length-append c (bytes "*/" ++ s))) (again (p + (length c + 4)) s (omega (arith, length-append c (bytes "*/" ++ s))))
    step (never_closed u) l again = at_comment p nothing refl u
    step (settled h) l again = at_token p nothing refl h
