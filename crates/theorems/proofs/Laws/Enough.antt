-- The readers' counts are always enough: no description is refused with number 0. Assumes nothing.
use Prim.Native.Nat.{ℕ, zero, suc, ◌+◌, ◌*◌, ◌-◌, ◌≤◌, ◌<◌}
use native.Mathlib.Omega.{arith}
use native.Mathlib.Nat.{le_trans, le_refl, lt_of_lt_of_le, le_of_lt}
use Prim.Native.Char.{Char}
use Prim.Native.String.{String}
use mathlib.Core.Path.{◌≡◌, refl, sym, ◌∙◌, ap}
use mathlib.Core.Bool.{Bool, true, false, true≢false, false≢true, ◌||◌}
use mathlib.Core.List.{List, [], ◌∷◌}
use mathlib.Core.Option.{Option, none, some}
use lib.ListN.{length, drop, length-drop}
use lib.Dec.{eqb}
use borrow.Author.Tests.{ltb-true}
use Rattle.paper.specs.Bytes.{when◌then◌else◌, at}
use Rattle.paper.specs.Answer.{Answer, refused}
use Rattle.paper.specs.Syntax.{Basic}
use Rattle.paper.specs.Tokens.{Token, name, literal, mark, end, starts, goes_on, Here, is_name, is_mark}
use Rattle.paper.specs.Scanner.{Scanned, token, fault, gap, skip, scan, found, next, number, named, text, span, past}
use Rattle.paper.specs.Reader.{expect, expect_word, names, path, word, basic_at, basics, statements, value, prototypes, read, is_word}
use Rattle.theorems.proofs.Laws.Answers.{if_case, All, holds, numbered, all_bind, all_demand}

abbrev left : Here → ℕ
left h = length h.rest

-- ---- tokens

-- a token of n bytes is some of what is there, or the end
pub data ScanGood (s : List ℕ) : Scanned → Type 0 where
  ended : ScanGood s (token end 0)
  some_bytes : {t : Token} {n : ℕ} → 1 ≤ n → 1 ≤ length s → ScanGood s (token t n)
  faulty : {n : ℕ} → 1 ≤ n → ScanGood s (fault n)

1≤ : {n : ℕ} → 1 ≤ suc n
1≤ = omega arith

or_false : (a b : Bool) → (a || b) ≡ false → a ≡ false
or_false true b e = e
or_false false b e = refl

nonzero : (n : ℕ) → eqb n 0 ≡ false → 1 ≤ n
nonzero zero e = absurd (true≢false e)
nonzero (suc n) e = omega arith

span_starts : (b : ℕ) (s : List ℕ) → starts b ≡ true → 1 ≤ span goes_on (b ∷ s)
unfolding span goes_on
span_starts b s e = rw (e, span) (omega arith)

module _ (s : List ℕ) (l : 1 ≤ length s) where
  number_good : (n m : ℕ) → ScanGood s (number n m s)
  unfolding number
  number_good n m =
      if_case (ScanGood s) _ _ _ (λ e. faulty 1≤) (λ e.
      if_case (ScanGood s) _ _ _ (λ e'. if_case (ScanGood s) _ _ _ (λ e''. some_bytes (omega (arith, ltb-true n m e')) l) (λ e''. faulty 1≤)) (λ e'.
      if_case (ScanGood s) _ _ _ (λ e''. some_bytes (nonzero n (or_false _ _ (or_false _ _ e))) l) (λ e''. faulty 1≤)))

  text_good : (o : Option (List ℕ × ℕ)) → ScanGood s (text o)
  unfolding text
  text_good none = faulty 1≤
  text_good (some r) = if_case (ScanGood s) _ _ _ (λ e. some_bytes 1≤ l) (λ e. faulty 1≤)

  named_good : (n : ℕ) → 1 ≤ n → ScanGood s (named n s)
  unfolding named
  named_good n h = if_case (ScanGood s) _ _ _ (λ e. some_bytes h l) (λ e. faulty 1≤)

scan_end : scan [] ≡ token end 0
unfolding scan when◌then◌else◌
scan_end = refl

pub scan_good : (s : List ℕ) → ScanGood s (scan s)
unfolding scan
scan_good [] = rw scan_end ended
scan_good (b ∷ s) =
    if_case (ScanGood (b ∷ s)) _ _ _ (λ e. ended) (λ _.
    if_case (ScanGood (b ∷ s)) _ _ _ (λ e. named_good (b ∷ s) 1≤ _ (span_starts b s e)) (λ _.
    if_case (ScanGood (b ∷ s)) _ _ _ (λ e. number_good (b ∷ s) 1≤ _ _) (λ _.
    if_case (ScanGood (b ∷ s)) _ _ _ (λ e. text_good (b ∷ s) 1≤ _) (λ _.
    if_case (ScanGood (b ∷ s)) _ _ _ (λ e. some_bytes 1≤ 1≤) (λ _. faulty 1≤)))))

-- ---- the next token

length_drop_le : (n : ℕ) (s : List ℕ) → length (drop n s) ≤ length s
length_drop_le n s = simp length-drop (omega arith)

length_drop_lt : (n : ℕ) (s : List ℕ) → 1 ≤ n → 1 ≤ length s → length (drop n s) < length s
length_drop_lt n s a b = simp length-drop (omega arith)

past_le : (n : ℕ) (h : Here) → left (past n h) ≤ left h
unfolding past
past_le n h = length_drop_le n h.rest

past_lt : (n : ℕ) (h : Here) → 1 ≤ n → 1 ≤ left h → left (past n h) < left h
unfolding past
past_lt n h a b = length_drop_lt n h.rest a b

-- ---- answers

-- at most k bytes are left; fewer than k
pub record Most (k : ℕ) (h : Here) : Type 0 where
  pub most : left h ≤ k

pub record Fewer {A : Type 0} (k : ℕ) (x : A × Here) : Type 0 where
  pub fewer : left x.1 < k

pub record Fewer' (k : ℕ) (h : Here) : Type 0 where
  pub fewer : left h < k

-- ---- the next token

skip_good : (k f : ℕ) (h : Here) → left h ≤ k → All (Most k) (skip f h)
unfolding skip
skip_good k zero h l = holds (record { most = l })
skip_good k (suc f) h l = go (gap h.rest) refl (λ h l. skip_good k f h l)
  where
    go : (g : Option ℕ) → gap h.rest ≡ g → ((h : Here) → left h ≤ k → All (Most k) (skip f h)) → All (Most k) (skip (suc f) h)
    go none e again = rw (e, skip) (numbered 1≤)
    go (some zero) e again = rw (e, skip) (holds (record { most = l }))
    go (some (suc n)) e again = rw (e, skip) (again (past (suc n) h) (le_trans (past_le (suc n) h) l))

-- what is after a token: never more than there was, and less after a name, a literal or a mark
pub record After (k : ℕ) (x : Token × Here × Here) : Type 0 where
  pub le : left x.2 ≤ k
  pub lt : (x.0 ≡ end → ⊥) → left x.2 < k

found_good : (k : ℕ) (h : Here) (x : Scanned) → left h ≤ k → ScanGood h.rest x → All (After k) (found h x)
unfolding found
found_good k h x l ended = holds (record { le = le_trans (past_le 0 h) l; lt = λ ne. absurd (ne refl) })
found_good k h x l (some_bytes {n = n} a b) = let m = lt_of_lt_of_le (past_lt n h a b) l in holds (record { le = le_of_lt m; lt = λ ne. m })
found_good k h x l (faulty a) = numbered a

pub next_good : (h : Here) → All (After (left h)) (next h)
unfolding next
next_good h = all_bind _ (skip_good (left h) (left h) h (le_refl (left h))) (λ h' l. found_good (left h) h' (scan h'.rest) l.most (scan_good h'.rest))

-- no name, word or mark is the end
name_not_end : (t : Token) → is_name t ≡ true → t ≡ end → ⊥
unfolding is_name
name_not_end t e z = false≢true (sym (ap is_name z) ∙ e)

word_not_end : (w : String) (t : Token) → is_word w t ≡ true → t ≡ end → ⊥
unfolding is_word
word_not_end w t e z = false≢true (sym (ap (is_word w) z) ∙ e)

mark_not_end : (c : Char) (t : Token) → is_mark c t ≡ true → t ≡ end → ⊥
unfolding is_mark
mark_not_end c t e z = false≢true (sym (ap (is_mark c) z) ∙ e)

-- ---- readers

expect_good : (c : Char) (at : Here) → All (Fewer' (left at)) (expect c at)
unfolding expect
expect_good c at =
    all_bind _ (next_good at) (λ x g.
    all_demand _ 3 _ _ 1≤ (λ e. holds (record { fewer = g.lt (mark_not_end c x.0 e) })))

expect_word_good : (w : String) (at : Here) → All (Fewer' (left at)) (expect_word w at)
unfolding expect_word
expect_word_good w at =
    all_bind _ (next_good at) (λ x g.
    all_demand _ 3 _ _ 1≤ (λ e. holds (record { fewer = g.lt (word_not_end w x.0 e) })))

names_good : (k : ℕ) (at : Here) → All (Fewer (left at)) (names k at)
unfolding names
names_good zero at =
    all_bind _ (next_good at) (λ x g.
    all_demand _ 3 _ _ 1≤ (λ e. numbered 1≤))
names_good (suc k) at =
    all_bind _ (next_good at) (λ x g.
    all_demand _ 3 _ _ 1≤ (λ e.
    let l = g.lt (name_not_end x.0 e) in
    all_bind _ (next_good x.2) (λ y _.
    if_case (All (Fewer (left at))) _ _ _
    (λ _.
    all_bind _ (expect_good ":" x.2) (λ h a.
    all_bind _ (names_good k h) (λ z b. holds (record { fewer = omega arith }))))
    (λ _. holds (record { fewer = l })))))

path_good : (at : Here) → All (Fewer (left at)) (path at)
unfolding path
path_good at = names_good 32 at

word_good : (t : Token) (h after : Here) {k : ℕ} → left after < k → All (Fewer k) (word t h after)
unfolding word
word_good t h after {k} l =
    if_case (All (Fewer k)) _ _ _ (λ _. holds (record { fewer = l })) (λ _.
    if_case (All (Fewer k)) _ _ _ (λ _. holds (record { fewer = l })) (λ _.
    if_case (All (Fewer k)) _ _ _ (λ _. holds (record { fewer = l })) (λ _.
    if_case (All (Fewer k)) _ _ _ (λ _. all_bind _ (path_good after) (λ x g. holds (record { fewer = omega arith }))) (λ _.
    numbered 1≤))))

-- by the four sorts of token
token_cases : {P : Type 0} (t : Token) → ((n : List ℕ) → t ≡ name n → P) → ((b : Basic) → t ≡ literal b → P) → ((m : ℕ) → t ≡ mark m → P) → (t ≡ end → P) → P
token_cases (name n) f g h k = f n refl
token_cases (literal b) f g h k = g b refl
token_cases (mark m) f g h k = h m refl
token_cases end f g h k = k refl

-- what is not the end
proper : Token → Bool
proper t = elim t [ name n ↦ true | literal b ↦ true | mark m ↦ true | end ↦ false ]

not_end : (t u : Token) → t ≡ u → proper u ≡ true → t ≡ end → ⊥
unfolding proper
not_end t u e p z = false≢true (ap proper (sym z ∙ e) ∙ p)

mutual
  unfolding basic_at proper

  basic_good : (f d : ℕ) (at : Here) → 2 * left at + 1 ≤ f → All (Fewer (left at)) (basic_at f d at)
  basic_good zero d at le = absurd (omega arith)
  basic_good (suc f) d at le =
      all_bind _ (next_good at) (λ x g.
      token_cases x.0
      (λ n e. rw e (word_good (name n) x.1 x.2 (g.lt (not_end _ _ e refl))))
      (λ b e. rw e (holds (record { fewer = g.lt (not_end _ _ e refl) })))
      (λ m e. rw e (
      all_bind _ (expect_good "[" at) (λ h a.
      all_demand _ 5 _ _ 1≤ (λ _.
      all_bind _ (next_good h) (λ y b.
      if_case (All (Fewer (left at))) _ _ _
      (λ _. holds (record { fewer = omega arith }))
      (λ _. all_bind _ (basics_good f (d - 1) h (omega arith)) (λ z c. holds (record { fewer = omega arith }))))))))
      (λ e. rw e (numbered 1≤)))

  basics_good : (f d : ℕ) (at : Here) → 2 * left at + 2 ≤ f → All (Fewer (left at)) (basics f d at)
  basics_good zero d at le = absurd (omega arith)
  basics_good (suc f) d at le =
      all_bind _ (basic_good f d at (omega arith)) (λ x g.
      all_bind _ (next_good x.1) (λ y _.
      if_case (All (Fewer (left at))) _ _ _
      (λ _.
      all_bind _ (expect_good "," x.1) (λ h a.
      all_bind _ (basics_good f d h (omega arith)) (λ z b. holds (record { fewer = omega arith }))))
      (λ _.
      all_bind _ (expect_good "]" x.1) (λ h a. holds (record { fewer = omega arith })))))

mutual
  unfolding statements

  statements_good : (f d : ℕ) (at : Here) → 2 * left at + 1 ≤ f → All (Fewer (suc (left at))) (statements f d at)
  statements_good zero d at le = absurd (omega arith)
  statements_good (suc f) d at le =
      all_bind _ (next_good at) (λ x g.
      if_case (All (Fewer (suc (left at)))) _ _ _
      (λ _.
      all_bind _ (path_good at) (λ r a.
      all_bind _ (value_good f d x.1.place r.1 (omega arith)) (λ v b.
      all_bind _ (statements_good f d v.1 (omega arith)) (λ s c. holds (record { fewer = omega arith })))))
      (λ _. holds (record { fewer = omega arith })))

  value_good : (f d p : ℕ) (at : Here) → 2 * left at + 2 ≤ f → All (Fewer (left at)) (value f d p at)
  value_good zero d p at le = absurd (omega arith)
  value_good (suc f) d p at le =
      all_bind _ (next_good at) (λ x g.
      if_case (All (Fewer (left at))) _ _ _
      (λ _.
      all_bind _ (expect_word_good "extends" at) (λ h a.
      all_bind _ (prototypes_good f d h (omega arith)) (λ ps b. holds (record { fewer = omega arith }))))
      (λ _.
      if_case (All (Fewer (left at))) _ _ _
      (λ _.
      all_bind _ (path_good at) (λ r a.
      all_bind _ (expect_good ";" r.1) (λ h b. holds (record { fewer = omega arith }))))
      (λ _.
      all_bind _ (basic_good f d at (omega arith)) (λ r a.
      all_bind _ (expect_good ";" r.1) (λ h b. holds (record { fewer = omega arith }))))))

  prototypes_good : (f d : ℕ) (at : Here) → 2 * left at + 2 ≤ f → All (Fewer (left at)) (prototypes f d at)
  prototypes_good zero d at le = absurd (omega arith)
  prototypes_good (suc f) d at le =
      all_bind _ (next_good at) (λ x g.
      if_case (All (Fewer (left at))) _ _ _
      (λ _.
      all_bind _ (path_good at) (λ r a.
      all_bind _ (next_good r.1) (λ y _.
      if_case (All (Fewer (left at))) _ _ _
      (λ _.
      all_bind _ (expect_good "," r.1) (λ h b.
      all_bind _ (prototypes_good f d h (omega arith)) (λ ps c. holds (record { fewer = omega arith }))))
      (λ _.
      all_bind _ (expect_good ";" r.1) (λ h b. holds (record { fewer = omega arith }))))))
      (λ _.
      all_bind _ (expect_good "{" at) (λ h a.
      all_demand _ 5 _ _ 1≤ (λ _.
      all_bind _ (statements_good f (d - 1) h (omega arith)) (λ b c.
      all_bind _ (expect_good "}" b.1) (λ i e.
      all_bind _ (next_good i) (λ y _.
      if_case (All (Fewer (left at))) _ _ _
      (λ _.
      all_bind _ (expect_good "," i) (λ j k.
      all_bind _ (prototypes_good f d j (omega arith)) (λ ps m. holds (record { fewer = omega arith }))))
      (λ _. holds (record { fewer = omega arith })))))))))

pub record Any {A : Type 0} (x : A) : Type 0 where

read_good : (source : List ℕ) → All Any (read source)
unfolding read
read_good source =
    all_demand _ 1 _ _ 1≤ (λ _.
    all_bind _ (statements_good _ 32 _ (omega arith)) (λ b _.
    all_bind _ (next_good b.1) (λ y _.
    all_demand _ 3 _ _ 1≤ (λ _. holds (record {})))))

refusal_numbered : {X : Type 0} {P : X → Type 0} {m : Answer X} → All P m → (n p : ℕ) → m ≡ refused n p → 1 ≤ n
refusal_numbered (holds h) n p e = let z : ◌≡◌ {A = ℕ} 0 1 = cc in omega arith
refusal_numbered (numbered {n = k} a) n p e = let q : k ≡ n = cc in omega arith

-- the theorem: the count that `read` starts with never runs out
pub enough : (source : List ℕ) (p : ℕ) → read source ≡ refused 0 p → ⊥
enough source p e = let h = refusal_numbered (read_good source) 0 p e in omega arith
