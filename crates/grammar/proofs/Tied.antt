-- The drafts are the description's: the readers of drafts go the way of paper's reader, refuse as it does, and leave the drafts of its steps.
-- Assumes nothing.
pub mod Tokens
use Prim.Native.Nat.{ℕ, zero, suc, ◌+◌, ◌*◌, ◌-◌}
use native.Mathlib.Omega.{arith}
use mathlib.Core.Path.{◌≡◌, refl, sym, ◌∙◌, ap, subst}
use mathlib.Core.Bool.{Bool, true, false}
use mathlib.Core.List.{List, [], ◌∷◌, ◌++◌, append_assoc, append-nil}
use lib.ListN.{length, drop, length-append}
use Rattle.paper.specs.Bytes.{when◌then◌else◌}
use Rattle.paper.specs.Answer.{Answer, ok, refused, ◌>>=◌, demand}
use Rattle.paper.specs.Syntax.{Path, Basic, boolean, null, integer, decimal, string, reference, vector, Basics, εⱽ, ◌∷ⱽ◌, Block, εᴮ, ◌∷ᴮ◌, assign, Value, basic, link, extends, Prototypes, εᴾ, named, block}
use Rattle.paper.specs.Tokens.{Token, name, literal, mark, end, Here}
use Rattle.paper.specs.Scanner.{token, scan, next}
use Rattle.paper.specs.Reader.{expect, expect_word, path, word, basic_at, basics, statements, value, prototypes, read}
use Rattle.paper.specs.Layout.{Field, number, text, Row, path_text, long_text, little, row_text, text_of, texts, kind, content, elements, each}
use Rattle.paper.specs.Steps.{Step, steps, value_steps, prototype_steps}
use Rattle.paper.specs.StepLayout.{step_row, item, step_rows, all_rows}
use Rattle.theorems.proofs.Decoded.Parts.{length_little}
use Rattle.grammar.specs.Drafts.{Draft, Drafted, draft, one, several, set_draft, item_draft, draft_word, draft_literal, draft_basic, draft_basics, make_draft, take_draft, bare_draft, link_draft, draft_statements, draft_value, draft_prototypes, drafts, text_size}
use Rattle.grammar.specs.Places.{here}
use Rattle.grammar.specs.Ties.{has_path, is_path, Reads, Labelled, no_label, path_label, Valued, same_number, path_value, decimal_value, string_value, Tied, AllTied, none, also, Alike, both, neither, DraftsOf, Given, AreDrafts}
use Tokens.{Stands, stands_here, Literal, integer_literal, decimal_literal, string_literal, scanned_literal, Found, next_found, expect_stands, expect_word_stands, path_stands, path_again, path_there}

-- ---- two readers that answer alike

-- what the two readers give, and the one place where both then stand
data Twin {A B : Type 0} (P : A → B → Here → Type 0) : A × Here → B × Here → Type 0 where
  twin : {a : A} {b : B} {h : Here} → P a b h → Twin P (a, h) (b, h)

alike_bind : {A B C D : Type 0} {P : A → B → Here → Type 0} {Q : C → D → Type 0} {m : Answer (A × Here)} {n : Answer (B × Here)} (f : A × Here → Answer C) (g : B × Here → Answer D)
    → Alike (Twin P) m n → ((a : A) (b : B) (h : Here) → P a b h → Alike Q (f (a, h)) (g (b, h))) → Alike Q (m >>= f) (n >>= g)
unfolding ◌>>=◌
alike_bind f g (both (twin {a} {b} {h} p)) k = k a b h p
alike_bind f g neither k = neither

-- after the same reader
alike_after : {X C D : Type 0} {Q : C → D → Type 0} (m : Answer X) (f : X → Answer C) (g : X → Answer D)
    → ((x : X) → m ≡ ok x → Alike Q (f x) (g x)) → Alike Q (m >>= f) (m >>= g)
unfolding ◌>>=◌
alike_after (ok x) f g k = k x refl
alike_after (refused n p) f g k = neither

alike_if : {C D : Type 0} {Q : C → D → Type 0} (c : Bool) {a b : Answer C} {x y : Answer D} → Alike Q a x → Alike Q b y → Alike Q (when c then a else b) (when c then x else y)
unfolding when◌then◌else◌
alike_if true p q = p
alike_if false p q = q

token_cases : {P : Type 0} (t : Token) → ((n : List ℕ) → t ≡ name n → P) → ((b : Basic) → t ≡ literal b → P) → ((m : ℕ) → t ≡ mark m → P) → (t ≡ end → P) → P
token_cases (name n) f g h k = f n refl
token_cases (literal b) f g h k = g b refl
token_cases (mark m) f g h k = h m refl
token_cases end f g h k = k refl

-- ---- lists of drafts

module _ (s : List ℕ) where
  join : {ds es : List Draft} {xs ys : List Row} → AllTied s ds xs → AllTied s es ys → AllTied s (ds ++ es) (xs ++ ys)
  join none b = b
  join (also t a) b = also t (join a b)

  same_length : {ds : List Draft} {xs : List Row} → AllTied s ds xs → length ds ≡ length xs
  same_length none = refl
  same_length (also t a) = ap suc (same_length a)

  same_size : {ds : List Draft} {xs : List Row} → AllTied s ds xs → text_size ds ≡ length (texts xs)
  unfolding text_size texts
  same_size none = refl
  same_size (also {x = x} {xs = xs} t a) = simp length-append (omega (arith, t.size, same_size a))

rows_append : (is js : List Step) → all_rows (is ++ js) ≡ all_rows is ++ all_rows js
unfolding all_rows
rows_append [] js = refl
rows_append (i ∷ is) js = rw (rows_append is js) (sym (append_assoc (step_rows i) (all_rows is) (all_rows js)))

-- ---- basics

-- what a draft of a basic says of it
record BasicTied (s : List ℕ) (b : Drafted) (c : Basic) (h : Here) : Type 0 where
  stands : Stands s h
  kinds : b.kind ≡ kind c
  value : Valued s 6 (kind c) (number b.value) (content c)
  size : b.size ≡ length (text_of (content c))
  items : (d : ℕ) → AllTied s b.items (elements item d c)

record BasicsTied (s : List ℕ) (is : List Draft) (bs : Basics) (h : Here) : Type 0 where
  stands : Stands s h
  items : (d : ℕ) → AllTied s is (each item d bs)

-- an item's value is judged as a set's
as_item : {s : List ℕ} {k : ℕ} {a b : Field} → Valued s 6 k a b → Valued s 7 k a b
unfolding is_path
as_item (same_number e f g) = same_number e f g
as_item (path_value e r) = path_value e r
as_item (decimal_value e f n) = decimal_value e f n
as_item (string_value e f g n) = string_value e f g n

long_size : (t : List ℕ) → 2 + length t ≡ length (long_text t)
unfolding long_text
long_size t = simp length-append (omega (arith, length_little 2 (length t)))

module _ (s : List ℕ) where
  literal_tied : (p n : ℕ) (b : Basic) (h : Here) → Stands s h → scan (drop p s) ≡ token (literal b) n → Literal b → BasicTied s (draft_literal b p) b h
  unfolding draft_literal one kind content text_of elements is_path
  literal_tied p n b h st e integer_literal = record { stands = st; kinds = refl; value = same_number refl refl refl; size = refl; items = λ d. none }
  literal_tied p n b h st e (decimal_literal {t}) = record { stands = st; kinds = refl; value = decimal_value refl refl e; size = long_size t; items = λ d. none }
  literal_tied p n b h st e (string_literal {t}) = record { stands = st; kinds = refl; value = string_value refl refl refl e; size = long_size t; items = λ d. none }

  word_tied : (t : Token) (h after : Here) → Stands s after → Alike (Twin (BasicTied s)) (draft_word t h after) (word t h after)
  unfolding draft_word word one kind content text_of elements is_path
  word_tied t h after st =
      alike_if _ (both (twin (record { stands = st; kinds = refl; value = same_number refl refl refl; size = refl; items = λ d. none })))
      (alike_if _ (both (twin (record { stands = st; kinds = refl; value = same_number refl refl refl; size = refl; items = λ d. none })))
      (alike_if _ (both (twin (record { stands = st; kinds = refl; value = same_number refl refl refl; size = refl; items = λ d. none })))
      (alike_if _
      (alike_after (path after) _ _ (λ r q.
      both (twin (record { stands = path_stands s after st r q; kinds = refl; value = path_value refl (path_there s after st r q); size = refl; items = λ d. none }))))
      neither)))

  -- an item: its draft and those beneath it
  item_tied : (b : Drafted) (c : Basic) (h : Here) (d : ℕ) → BasicTied s b c h
      → AllTied s (item_draft b) (item (kind c) d (suc (length (elements item d c))) (content c) ∷ elements item d c)
  unfolding item_draft draft item step_row row_text text_of has_path
  item_tied b c h d t =
      also
      (record { step = refl; kind = t.kinds; label = no_label refl; span = ap suc (same_length s (t.items d)); value = as_item t.value; last = refl; size = t.size })
      (t.items d)

  mutual
    unfolding draft_basic basic_at several kind content text_of elements is_path

    basic_tied : (f d : ℕ) (at : Here) → Stands s at → Alike (Twin (BasicTied s)) (draft_basic f d at) (basic_at f d at)
    basic_tied zero d at st = neither
    basic_tied (suc f) d at st =
        alike_after (next at) _ _ (λ x e.
        let F = next_found s at st x e in
        token_cases x.0
        (λ n q. rw q (word_tied (name n) x.1 x.2 F.after))
        (λ b q.
        let e₁ = F.scanned ∙ ap (λ (t : Token). token t F.size) q in
        rw q (both (twin (literal_tied x.1.place F.size b x.2 F.after e₁ (scanned_literal _ b F.size e₁)))))
        (λ m q. rw q (
        alike_after (expect "[" at) _ _ (λ a j.
        let st₁ = expect_stands s "[" at st a j in
        alike_after (demand _ 5 _) _ _ (λ _ _.
        alike_after (next a) _ _ (λ y i.
        alike_if _
        (both (twin (record { stands = (next_found s a st₁ y i).after; kinds = refl; value = same_number refl refl refl; size = refl; items = λ d. none })))
        (alike_bind _ _ (basics_tied f (d - 1) a st₁) (λ is bs h t.
        both (twin (record { stands = t.stands; kinds = refl; value = same_number refl refl refl; size = refl; items = λ d. t.items (suc d) })))))))))
        (λ q. rw q neither))

    basics_tied : (f d : ℕ) (at : Here) → Stands s at → Alike (Twin (BasicsTied s)) (draft_basics f d at) (basics f d at)
    basics_tied zero d at st = neither
    basics_tied (suc f) d at st =
        alike_bind _ _ (basic_tied f d at st) (λ b c h t.
        alike_after (next h) _ _ (λ y _.
        alike_if _
        (alike_after (expect "," h) _ _ (λ a j.
        alike_bind _ _ (basics_tied f d a (expect_stands s "," h t.stands a j)) (λ is bs k u.
        both (twin (record { stands = u.stands; items = λ d. join s (item_tied b c h d t) (u.items d) })))))
        (alike_after (expect "]" h) _ _ (λ a j.
        both (twin (record { stands = expect_stands s "]" h t.stands a j; items = λ d. rw append-nil (item_tied b c h d t) }))))))

-- ---- statements

-- drafts of the steps that something read stands for
record StepsTied {A : Type 0} (s : List ℕ) (says : A → List Step) (ds : List Draft) (a : A) (h : Here) : Type 0 where
  stands : Stands s h
  drafts : AllTied s ds (all_rows (says a))

module _ (s : List ℕ) where
  bare_tied : (i : ℕ) → has_path i ≡ false → is_path i 0 ≡ false → Tied s (bare_draft i) (step_row i 0 (number 0) 0 (number 0) 0)
  unfolding bare_draft draft step_row row_text text_of
  bare_tied i e f = record { step = refl; kind = refl; label = no_label e; span = refl; value = same_number f refl refl; last = refl; size = refl }

  -- a step with a path and no more
  path_tied : (i p : ℕ) (r : Path) → has_path i ≡ true → is_path i 0 ≡ false → Reads s p r → Tied s (draft i 0 p 0 0 p (length (path_text r))) (step_row i 0 (text (path_text r)) 0 (number 0) p)
  unfolding draft step_row row_text text_of
  path_tied i p r e f R = record { step = refl; kind = refl; label = path_label e R; span = refl; value = same_number f refl refl; last = refl; size = rw append-nil refl }

  set_tied : (p : ℕ) (r : Path) (b : Drafted) (c : Basic) (h : Here) → Reads s p r → BasicTied s b c h
      → AllTied s (set_draft p (length (path_text r)) b) (step_row 6 (kind c) (text (path_text r)) (suc (length (elements item 0 c))) (content c) p ∷ elements item 0 c)
  unfolding set_draft draft step_row row_text text_of has_path
  set_tied p r b c h R t =
      also
      (record {
        step = refl;
        kind = t.kinds;
        label = path_label refl R;
        span = ap suc (same_length s (t.items 0));
        value = t.value;
        last = refl;
        size = ap (λ (k : ℕ). length (path_text r) + k) t.size ∙ sym (length-append (path_text r) (text_of (content c)));
      })
      (t.items 0)

  link_tied : (p q : ℕ) (r l : Path) → Reads s p r → Reads s q l → Tied s (link_draft p q (length (path_text r) + length (path_text l))) (step_row 8 0 (text (path_text r)) 0 (text (path_text l)) q)
  unfolding link_draft draft step_row row_text text_of has_path is_path
  link_tied p q r l R L =
      record { step = refl; kind = refl; label = path_label refl R; span = refl; value = path_value refl L; last = refl; size = sym (length-append (path_text r) (path_text l)) }

  mutual
    unfolding draft_statements statements steps all_rows step_rows make_draft take_draft has_path is_path

    statements_tied : (f d : ℕ) (at : Here) → Stands s at → Alike (Twin (StepsTied s steps)) (draft_statements f d at) (statements f d at)
    statements_tied zero d at st = neither
    statements_tied (suc f) d at st =
        alike_after (next at) _ _ (λ x e.
        let F = next_found s at st x e in
        alike_if _
        (alike_after (path at) _ _ (λ r q.
        alike_bind _ _ (value_tied f d x.1.place r.0 r.1 (path_again s at x e F r q) (path_stands s at st r q)) (λ ds v h t.
        alike_bind _ _ (statements_tied f d h t.stands) (λ es b k u.
        both (twin (record { stands = u.stands; drafts = rw (rows_append (value_steps v r.0) (steps b)) (join s t.drafts u.drafts) }))))))
        (both (twin (record { stands = st; drafts = none }))))

    value_tied : (f d p : ℕ) (r : Path) (at : Here) → Reads s p r → Stands s at
        → Alike (Twin (StepsTied s (λ v. value_steps v r))) (draft_value f d p (length (path_text r)) at) (value f d p at)
    value_tied zero d p r at R st = neither
    value_tied (suc f) d p r at R st =
        alike_after (next at) _ _ (λ x e.
        let F = next_found s at st x e in
        alike_if _
        (alike_after (expect_word "extends" at) _ _ (λ a j.
        alike_bind _ _ (prototypes_tied f d a (expect_word_stands s "extends" at st a j)) (λ ds ps h t.
        both (twin (record {
          stands = t.stands;
          drafts = also (path_tied 1 p r refl refl R) (rw (rows_append (prototype_steps ps) (Step.done ∷ [])) (join s t.drafts (also (bare_tied 5 refl refl) none)));
        })))))
        (alike_if _
        (alike_after (path at) _ _ (λ l q.
        alike_after (expect ";" l.1) _ _ (λ a j.
        both (twin (record {
          stands = expect_stands s ";" l.1 (path_stands s at st l q) a j;
          drafts = also (link_tied p x.1.place r l.0 R (path_again s at x e F l q)) none;
        })))))
        (alike_bind _ _ (basic_tied s f d at st) (λ b c h t.
        alike_after (expect ";" h) _ _ (λ a j.
        both (twin (record { stands = expect_stands s ";" h t.stands a j; drafts = rw append-nil (set_tied p r b c h R t) })))))))

    prototypes_tied : (f d : ℕ) (at : Here) → Stands s at → Alike (Twin (StepsTied s prototype_steps)) (draft_prototypes f d at) (prototypes f d at)
    prototypes_tied zero d at st = neither
    prototypes_tied (suc f) d at st =
        alike_after (next at) _ _ (λ x e.
        let F = next_found s at st x e in
        alike_if _
        (alike_after (path at) _ _ (λ r q.
        let st₁ = path_stands s at st r q in
        let R = path_tied 2 x.1.place r.0 refl refl (path_again s at x e F r q) in
        alike_after (next r.1) _ _ (λ y _.
        alike_if _
        (alike_after (expect "," r.1) _ _ (λ a j.
        alike_bind _ _ (prototypes_tied f d a (expect_stands s "," r.1 st₁ a j)) (λ ds ps h t.
        both (twin (record { stands = t.stands; drafts = also R t.drafts })))))
        (alike_after (expect ";" r.1) _ _ (λ a j.
        both (twin (record { stands = expect_stands s ";" r.1 st₁ a j; drafts = also R none })))))))
        (alike_after (expect "{" at) _ _ (λ a j.
        alike_after (demand _ 5 _) _ _ (λ _ _.
        alike_bind _ _ (statements_tied f (d - 1) a (expect_stands s "{" at st a j)) (λ ds b h t.
        alike_after (expect "}" h) _ _ (λ c i.
        let st₁ = expect_stands s "}" h t.stands c i in
        alike_after (next c) _ _ (λ y _.
        alike_if _
        (alike_after (expect "," c) _ _ (λ k m.
        alike_bind _ _ (prototypes_tied f d k (expect_stands s "," c st₁ k m)) (λ es ps l u.
        both (twin (record {
          stands = u.stands;
          drafts = also (bare_tied 3 refl refl) (rw (rows_append (steps b) (Step.leave ∷ prototype_steps ps)) (join s t.drafts (also (bare_tied 4 refl refl) u.drafts)));
        })))))
        (both (twin (record {
          stands = st₁;
          drafts = also (bare_tied 3 refl refl) (rw (rows_append (steps b) (Step.leave ∷ [])) (join s t.drafts (also (bare_tied 4 refl refl) none)));
        }))))))))))

-- ---- the whole description

start : (s : List ℕ) → Stands s (record { place = 0; rest = s })
start s = record { is = refl }

alike : (s : List ℕ) → Alike (DraftsOf s) (drafts s) (read s)
unfolding drafts read
alike s =
    alike_after (demand _ 1 0) _ _ (λ _ _.
    alike_bind _ _ (statements_tied s (2 * length s + 2) 32 (record { place = 0; rest = s }) (start s)) (λ ds b h t.
    alike_after (next h) _ _ (λ x _.
    alike_after (demand _ 3 _) _ _ (λ _ _. both t.drafts))))

-- an answer is not both given and refused, and is one
no_refusal : {A : Type 0} {a : A} {n p : ℕ} → ok a ≡ refused n p → ⊥
no_refusal e = let z : ◌≡◌ {A = ℕ} 0 1 = cc in omega arith

inside : {A : Type 0} {a b : A} → ok a ≡ ok b → a ≡ b
inside e = cc

module _ (s : List ℕ) (b : Block) where
  given : (m : Answer (List Draft)) (n : Answer Block) → drafts s ≡ m → Alike (DraftsOf s) m n → n ≡ ok b → Given s b
  given m n e (both {a = ds} t) q =
      let u : DraftsOf s ds b = subst (λ (b : Block). DraftsOf s ds b) (inside q) t in
      record { all = ds; is = e; tied = u; count = same_length s u; size = same_size s u }
  given m n e neither q = absurd (no_refusal (sym q))

refuses : {A B : Type 0} {P : A → B → Type 0} {m : Answer A} {k : Answer B} → Alike P m k → (n p : ℕ) → k ≡ refused n p → m ≡ refused n p
refuses (both t) n p e = absurd (no_refusal e)
refuses {A} {B} (neither {n = a} {p = b}) n p e = again e
  where
    again : ◌≡◌ {A = Answer B} (refused a b) (refused n p) → ◌≡◌ {A = Answer A} (refused a b) (refused n p)
    again e = let x : a ≡ n = cc in let y : b ≡ p = cc in cc

refused_by : {A B : Type 0} {P : A → B → Type 0} {m : Answer A} {k : Answer B} → Alike P m k → (n p : ℕ) → m ≡ refused n p → k ≡ refused n p
refused_by (both t) n p e = absurd (no_refusal e)
refused_by {A} {B} (neither {n = a} {p = b}) n p e = again e
  where
    again : ◌≡◌ {A = Answer A} (refused a b) (refused n p) → ◌≡◌ {A = Answer B} (refused a b) (refused n p)
    again e = let x : a ≡ n = cc in let y : b ≡ p = cc in cc

-- The drafts of a source and its block are given or refused alike, with the same number at the same place. The drafts that are given are tied
-- to the rows of the block's steps, one by one: so there are as many, and they take as much text.
pub drafts_tied : (source : List ℕ) → AreDrafts source
drafts_tied s =
    record {
      alike = alike s;
      given = λ b e. given s b (drafts s) (read s) refl (alike s) e;
      refuses = refuses (alike s);
      refused_by = refused_by (alike s);
    }
