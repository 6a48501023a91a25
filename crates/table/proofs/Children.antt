-- The rules of a look among attributes, and of the test that no name stands twice, one for each way through the code. Assumes nothing.
use Rattle.std.specs.Prelude.{Option as RustOption, Some, None, is_some}
use Prim.Native.Nat.{ℕ, zero, suc, ◌+◌, ◌*◌, ◌-◌, ◌≤◌, ◌<◌}
use native.Mathlib.Omega.{arith}
use native.Mathlib.Nat.{le_refl}
use mathlib.Core.Path.{◌≡◌, refl, sym, ◌∙◌, ap}
use mathlib.Core.Bool.{Bool, true, false, not, ◌&&◌}
use mathlib.Core.List.{List, [], ◌∷◌}
use mathlib.Core.Logic.{⊎_elim}
use mathlib.Core.Option.{some}
use Rattle.memory.proofs.Laws.{fit}
use lib.ListN.{length}
use lib.Pointwise.{pointwise}
use lib.Dec.{leb, ltb, eqb}
use borrow.Author.Tests.{ltb-true, ltb-false, leb-true, lt-ltb, le-ltb, le-leb, lt-leb, eq-eqb, ne_eqb}
use Rattle.paper.specs.Bytes.{same, when◌then◌else◌}
use Rattle.paper.specs.Maybe.{require}
use Rattle.paper.specs.Store.{Store, ∅, entry, Value, component, lookup}
use Rattle.paper.specs.Store as S
use Rattle.paper.specs.Decoder.{Cursor}
use Rattle.paper.specs.TableDecoder.{in_table, absent, distinct}
use Rattle.theorems.proofs.Laws.DecodeAt.{Bytes}
use Rattle.paper.specs.DecodeAt.{word, raw_at, cursor}
use Rattle.theorems.proofs.Laws.DecodeFree.{entries_none}
use Rattle.paper.specs.DecodeFrom.{basic_from, entry_value}
use Rattle.layout.proofs.Heads.{and_true}
use Rattle.table.specs.Walk.{entries_here}
use Rattle.table.specs.Child.{named_at, span_in, found_from, found_in, Spanned, SpanAt, Child, Holds, FoundIs, AloneIs, DistinctIs, DistinctInIs}
use Rattle.table.proofs.Inside.{bind_some, some_is, Entry, entry_of}

-- ---- two runs of bytes

-- the test of slices is the paper's
pub same_is : (a b : List ℕ) → pointwise eqb a b ≡ same a b
same_is [] [] = refl
same_is [] (y ∷ b) = refl
same_is (x ∷ a) [] = refl
same_is (x ∷ a) (y ∷ b) = ap (λ c. eqb x y && c) (same_is a b)

-- ---- none are left

no_more : (recs text : List ℕ) (i n d p : ℕ) (s : Store) (after : Cursor) → n ≡ 0 → Holds recs text i n d p s after → s ≡ ∅
no_more recs text i n d p s after z H =
    sym (ap (λ x. x.0) (some_is (∅, cursor recs text i p) (s, after) (sym (entries_none d (cursor recs text i p)) ∙ (rw z at H.is))))

-- ---- a look

lookup_here : (s t : Store) (m n : List ℕ) (v : Value) → s ≡ entry m v t → same m n ≡ true → lookup s n ≡ some v
unfolding lookup
lookup_here s t m n v e h = rw (e, h, lookup)

lookup_on : (s t : Store) (m n : List ℕ) (v : Value) → s ≡ entry m v t → same m n ≡ false → lookup s n ≡ lookup t n
unfolding lookup
lookup_on s t m n v e h = rw (e, h, lookup)

child_of : (recs text : List ℕ) (d : ℕ) (s t : Store) (after : Cursor) (name : List ℕ) (r : RustOption ℕ) → lookup s name ≡ lookup t name → Child recs text d t after name r → Child recs text d s after name r
child_of recs text d s t after name (Some j) e C =
    record { what = C.what; looked = e ∙ C.looked; called = C.called; others = C.others; left = C.left; place = C.place; some_left = C.some_left; holds = C.holds }
child_of recs text d s t after name None e C = e ∙ C

pub find_end : (recs text : List ℕ) (i n : ℕ) (name : List ℕ) → n ≡ 0 → FoundIs recs text i n name None
unfolding lookup
find_end recs text i n name z = record { told = λ d p s after H. rw (no_more recs text i n d p s after z H) }

module _ (recs text : List ℕ) (i n : ℕ) (b : Bytes recs) (l : 0 < n) where
  first : (d p : ℕ) (s : Store) (after : Cursor) → Holds recs text i n d p s after → Entry recs text i n d p s after
  first d p s after H = entry_of recs text i n d p b l s after H

  stuck : (m d p : ℕ) (s : Store) (after : Cursor) → SpanAt recs i n m → m < 1 → Holds recs text i n d p s after → ⊥
  stuck m d p s after S h H =
      let E = first d p s after H in
      let e = S.found E.span in
      omega (arith, E.span.some)

  pub find_stuck : (name : List ℕ) (m : ℕ) → SpanAt recs i n m → m < 1 → FoundIs recs text i n name None
  find_stuck name m S h = record { told = λ d p s after H. absurd (stuck m d p s after S h H) }

  pub find_here : (name : List ℕ) → same (named_at recs text i) name ≡ true → FoundIs recs text i n name (Some i)
  find_here name h =
      record {
        told = λ d p s after H.
            let E = first d p s after H in
            record { what = E.value; looked = lookup_here s E.others E.name name E.value E.is (rw E.named at h); called = E.name; others = E.others; left = n; place = p; some_left = l; holds = record { is = H.is ∙ ap (λ x. some (x, after)) E.is } };
      }

  module _ (m : ℕ) (S : Spanned recs i m n) where
    pub find_more : (name : List ℕ) (r : RustOption ℕ) → same (named_at recs text i) name ≡ false → FoundIs recs text (i + 16 * m) (n - m) name r → FoundIs recs text i n name r
    find_more name r h F =
        record {
          told = λ d p s after H.
              let E = first d p s after H in
              child_of recs text d s E.others after name r (lookup_on s E.others E.name name E.value E.is (rw E.named at h)) (F.told d E.next E.others after (rw S.is E.rest));
        }

-- ---- no name twice

pub distinct_end : (recs text : List ℕ) (i n : ℕ) → n ≡ 0 → DistinctIs recs text i n true
unfolding distinct
distinct_end recs text i n z = record { told = λ d p s after H. rw (no_more recs text i n d p s after z H) }

alone_no : (recs text : List ℕ) (i m n j : ℕ) → FoundIs recs text (i + 16 * m) (n - m) (named_at recs text i) (Some j) → AloneIs recs text i m n false
unfolding absent
alone_no recs text i m n j F = record { told = λ d p s after H. rw (F.told d p s after H).looked }

alone_yes : (recs text : List ℕ) (i m n : ℕ) → FoundIs recs text (i + 16 * m) (n - m) (named_at recs text i) None → AloneIs recs text i m n true
unfolding absent
alone_yes recs text i m n F = record { told = λ d p s after H. rw (F.told d p s after H) }

pub alone_is : (recs text : List ℕ) (i m n : ℕ) (r : RustOption ℕ) (t : Bool) → is_some r ≡ not t → FoundIs recs text (i + 16 * m) (n - m) (named_at recs text i) r → AloneIs recs text i m n t
alone_is recs text i m n (Some j) true e F = cc
alone_is recs text i m n (Some j) false e F = alone_no recs text i m n j F
alone_is recs text i m n None true e F = alone_yes recs text i m n F
alone_is recs text i m n None false e F = cc

module _ (recs text : List ℕ) (i n : ℕ) (b : Bytes recs) (l : 0 < n) where
  pub distinct_stuck : (m : ℕ) → SpanAt recs i n m → m < 1 → DistinctIs recs text i n false
  distinct_stuck m S h = record { told = λ d p s after H. absurd (stuck recs text i n b l m d p s after S h H) }

  module _ (m : ℕ) (S : Spanned recs i m n) where
    and_no : (a c : Bool) → (a && (false && c)) ≡ false
    and_no true c = refl
    and_no false c = refl

    pub distinct_twice : AloneIs recs text i m n false → DistinctIs recs text i n false
    unfolding distinct
    distinct_twice A =
        record {
          told = λ d p s after H.
              let E = first recs text i n b l d p s after H in
              let a = rw E.named at (A.told d E.next E.others after (rw S.is E.rest)) in
              rw (E.is, ← a);
        }

    pub distinct_below : DistinctInIs recs text i m false → DistinctIs recs text i n false
    unfolding distinct
    distinct_below D =
        record {
          told = λ d p s after H.
              let E = first recs text i n b l d p s after H in
              let e = D.told d _ E.value _ E.valued in
              rw (E.is, ← e) (sym (and_no (absent (lookup E.others E.name)) (distinct E.others)));
        }

    pub distinct_more : (r : Bool) → AloneIs recs text i m n true → DistinctInIs recs text i m true → DistinctIs recs text (i + 16 * m) (n - m) r → DistinctIs recs text i n r
    unfolding distinct
    distinct_more r A D R =
        record {
          told = λ d p s after H.
              let E = first recs text i n b l d p s after H in
              let rest : Holds recs text (i + 16 * m) (n - m) d E.next E.others after = rw S.is E.rest in
              let a = rw E.named at (A.told d E.next E.others after rest) in
              let e = D.told d _ E.value _ E.valued in
              rw (E.is, ← a, ← e) (R.told d E.next E.others after rest);
        }

-- ---- in a value

module _ (recs text : List ℕ) (i m k : ℕ) (f : m ≡ word 2 recs (i + 6)) (e : k ≡ word 2 recs i) where
  pub distinct_basic : (k ≡ 0 → ⊥) → DistinctInIs recs text i m true
  unfolding entry_value raw_at when◌then◌else◌ distinct
  distinct_basic h =
      record {
        told = λ d p v after w.
            let z : eqb (word 2 recs i) 0 ≡ false = rw (← e) (ne_eqb k 0 h) in
            let q = rw z at w in
            let x = bind_some (basic_from in_table d (word 2 recs i) (word 2 recs (i + 6)) (word 8 recs (i + 8)) (cursor recs text (i + 16) p)) _ _ q in
            let a : S.basic x.0.0 ≡ v = ap (λ y. y.0) (some_is _ _ x.2) in
            rw (← a);
      }

  pub distinct_component : (r : Bool) → k ≡ 0 → DistinctIs recs text (i + 16) (m - 1) r → DistinctInIs recs text i m r
  unfolding entry_value raw_at when◌then◌else◌ distinct
  distinct_component r h D =
      record {
        told = λ d p v after w.
            let z : eqb (word 2 recs i) 0 ≡ true = rw (← e) (eq-eqb k 0 h) in
            let q = rw z at w in
            let y = bind_some (require _) _ _ q in
            let x = bind_some (entries_here recs text (suc d) (word 2 recs (i + 6) - 1) (i + 16) p) _ _ y.2 in
            let a : component x.0.0 ≡ v = ap (λ u. u.0) (some_is _ _ x.2) in
            let H : Holds recs text (i + 16) (m - 1) (suc d) p x.0.0 x.0.1 = record { is = rw f x.1 } in
            rw (← a) (D.told (suc d) p x.0.0 x.0.1 H);
      }

-- ---- what the code answers, for every input

module _ (recs : List ℕ) (i left : ℕ) where
  abbrev test : Bool
  test = leb (i + 16) (length recs) && (leb (word 2 recs (i + 6)) left && leb (i + 16 * word 2 recs (i + 6)) (length recs))

  pub span_yes : i + 16 ≤ length recs → word 2 recs (i + 6) ≤ left → i + 16 * word 2 recs (i + 6) ≤ length recs → word 2 recs (i + 6) ≡ span_in recs i left
  unfolding span_in when◌then◌else◌
  span_yes a b c = rw (le-leb (i + 16) (length recs) a, le-leb (word 2 recs (i + 6)) left b, le-leb (i + 16 * word 2 recs (i + 6)) (length recs) c)

  pub span_outside : length recs < i + 16 → 0 ≡ span_in recs i left
  unfolding span_in when◌then◌else◌
  span_outside a = rw (lt-leb (i + 16) (length recs) a)

  pub span_many : i + 16 ≤ length recs → left < word 2 recs (i + 6) → 0 ≡ span_in recs i left
  unfolding span_in when◌then◌else◌
  span_many a b = rw (le-leb (i + 16) (length recs) a, lt-leb (word 2 recs (i + 6)) left b)

  pub span_long : i + 16 ≤ length recs → word 2 recs (i + 6) ≤ left → length recs < i + 16 * word 2 recs (i + 6) → 0 ≡ span_in recs i left
  unfolding span_in when◌then◌else◌
  span_long a b c = rw (le-leb (i + 16) (length recs) a, le-leb (word 2 recs (i + 6)) left b, lt-leb (i + 16 * word 2 recs (i + 6)) (length recs) c)

  module _ (m : ℕ) (e : i + 16 ≤ length recs → m ≡ word 2 recs (i + 6)) where
    -- the ways to none, and the one span
    zero_when : (t : Bool) (w : ℕ) → w ≡ 0 → (when t then w else 0) < 1
    unfolding when◌then◌else◌
    zero_when true w z = omega arith
    zero_when false w z = omega arith

    inside_or : {P : Type 0} → (i + 16 ≤ length recs → P) → (0 ≡ span_in recs i left → P) → P
    inside_or f g = ⊎_elim f (λ h. g (span_outside h)) (fit (i + 16) (length recs))

    pub no_span : m ≡ 0 → span_in recs i left < 1
    unfolding span_in
    no_span z = inside_or (λ h. zero_when test _ (sym (e h) ∙ z)) (λ h. omega (arith, h))

    pub many_span : left < m → span_in recs i left < 1
    many_span g = inside_or (λ h. omega (arith, span_many h (omega (arith, e h)))) (λ h. omega (arith, h))

    pub long_span : m ≤ left → length recs < i + 16 * m → span_in recs i left < 1
    long_span g k = inside_or (λ h. let q = e h in omega (arith, span_long h (omega (arith, q)) (omega (arith, q)))) (λ h. omega (arith, h))

    pub one_span : 1 ≤ m → m ≤ left → i + 16 * m ≤ length recs → m ≡ span_in recs i left
    one_span l g k = let h : i + 16 ≤ length recs = omega arith in let q = e h in q ∙ span_yes h (omega (arith, q)) (omega (arith, q))

  span_cases : SpanAt recs i left (span_in recs i left)
  unfolding span_in when◌then◌else◌
  span_cases = case test refl
    where
      case : (t : Bool) → test ≡ t → SpanAt recs i left (when t then word 2 recs (i + 6) else 0)
      case true e =
          let a = and_true (leb (i + 16) (length recs)) _ e in
          let b = and_true (leb (word 2 recs (i + 6)) left) _ a.1 in
          record {
            good = λ h. record { head = leb-true _ _ a.0; some = h; few = leb-true _ _ b.0; within = leb-true _ _ b.1; is = refl };
            found = λ S. refl;
          }
      case false e =
          record {
            good = λ h. absurd (omega arith);
            found = λ S.
                let z : test ≡ true = rw (le-leb (i + 16) (length recs) S.head, le-leb (word 2 recs (i + 6)) left S.few, le-leb (i + 16 * word 2 recs (i + 6)) (length recs) S.within) in
                let o : ◌≡◌ {A = ℕ} 0 1 = cc in absurd (omega arith);
          }

  pub span_at_of : (m : ℕ) → m ≡ span_in recs i left → SpanAt recs i left m
  span_at_of m e = rw e span_cases

module _ (recs text name : List ℕ) where
  pub found_none : (f i left : ℕ) → left ≡ 0 → None ≡ found_from f recs text i left name
  unfolding found_from when◌then◌else◌
  found_none zero i left z = refl
  found_none (suc f) i left z = rw (z, found_from)

  module _ (i left m : ℕ) (e : m ≡ span_in recs i left) (l : 0 < left) where
    pub found_stuck : (f : ℕ) → left ≤ f → m < 1 → None ≡ found_from f recs text i left name
    unfolding found_from when◌then◌else◌
    found_stuck zero h k = absurd (omega arith)
    found_stuck (suc f) h k = rw (found_from, ne_eqb left 0 (λ z. omega arith), ← e, lt-ltb m 1 k)

    module _ (k : 1 ≤ m) where
      pub found_here : (f : ℕ) → left ≤ f → same (named_at recs text i) name ≡ true → Some i ≡ found_from f recs text i left name
      unfolding found_from when◌then◌else◌
      found_here zero h s = absurd (omega arith)
      found_here (suc f) h s = rw (found_from, ne_eqb left 0 (λ z. omega arith), ← e, le-ltb m 1 k, s)

      pub found_on : (f : ℕ) → left ≤ f → same (named_at recs text i) name ≡ false → found_from f recs text i left name ≡ found_from (f - 1) recs text (i + 16 * m) (left - m) name
      unfolding found_from when◌then◌else◌
      found_on zero h s = absurd (omega arith)
      found_on (suc f) h s =
          let q : suc f - 1 ≡ f = omega arith in
          rw (q, found_from, ne_eqb left 0 (λ z. omega arith), ← e, le-ltb m 1 k, s)

  -- for a store's attributes it is what the store has
  found_step : Bytes recs → (f i left : ℕ) → left ≤ suc f → ((j k : ℕ) → k ≤ f → FoundIs recs text j k name (found_from f recs text j k name)) → FoundIs recs text i left name (found_from (suc f) recs text i left name)
  found_step b f i left h again = by_left (ltb 0 left) refl
    where
      by_name : 0 < left → 1 ≤ span_in recs i left → (t : Bool) → same (named_at recs text i) name ≡ t → FoundIs recs text i left name (found_from (suc f) recs text i left name)
      by_name l k true s = rw (← found_here i left (span_in recs i left) refl l k (suc f) h s) (find_here recs text i left b l name s)
      by_name l k false s =
          let S = (span_at_of recs i left (span_in recs i left) refl).good k in
          let q : suc f - 1 ≡ f = omega arith in
          rw (found_on i left (span_in recs i left) refl l k (suc f) h s, q)
          (find_more recs text i left b l (span_in recs i left) S name _ s (again (i + 16 * span_in recs i left) (left - span_in recs i left) (omega arith)))

      by_span : 0 < left → (t : Bool) → ltb (span_in recs i left) 1 ≡ t → FoundIs recs text i left name (found_from (suc f) recs text i left name)
      by_span l true e =
          rw (← found_stuck i left (span_in recs i left) refl l (suc f) h (ltb-true _ _ e))
          (find_stuck recs text i left b l name (span_in recs i left) (span_at_of recs i left (span_in recs i left) refl) (ltb-true _ _ e))
      by_span l false e = by_name l (ltb-false _ _ e) (same (named_at recs text i) name) refl

      by_left : (t : Bool) → ltb 0 left ≡ t → FoundIs recs text i left name (found_from (suc f) recs text i left name)
      by_left true e = by_span (ltb-true _ _ e) (ltb (span_in recs i left) 1) refl
      by_left false e =
          let z : left ≡ 0 = omega (arith, ltb-false 0 left e) in
          rw (← found_none (suc f) i left z) (find_end recs text i left name z)

  found_is : Bytes recs → (f i left : ℕ) → left ≤ f → FoundIs recs text i left name (found_from f recs text i left name)
  found_is b zero i left h = rw (← found_none zero i left (omega arith)) (find_end recs text i left name (omega arith))
  found_is b (suc f) i left h = found_step b f i left h (λ j k l. found_is b f j k l)

pub found_told : (recs text : List ℕ) (i n : ℕ) (name : List ℕ) (r : RustOption ℕ) → Bytes recs → r ≡ found_in recs text i n name → FoundIs recs text i n name r
unfolding found_in
found_told recs text i n name r b e = rw e (found_is recs text name b n i n (le_refl n))
