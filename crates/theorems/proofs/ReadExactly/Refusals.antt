-- The refusals are the grammar's: within the size, the reader refuses with n at p exactly where p is the first place at which one of 2 to 6
-- applies, and n that one. Assumes nothing.
use Prim.Native.Nat.{ℕ, ◌≤◌, ◌<◌}
use native.Mathlib.Omega.{arith}
use mathlib.Core.Path.{◌≡◌, refl, sym, ◌∙◌, ap, subst}
use mathlib.Core.Bool.{Bool, true, false, false≢true}
use mathlib.Core.List.{List, [], ◌∷◌, ◌++◌, append_assoc}
use mathlib.Core.Logic.{◌↔◌}
use lib.ListN.{length}
use lib.Dec.{leb}
use borrow.Author.Tests.{leb-true}
use Rattle.paper.specs.Answer.{Answer, ok, refused, ◌>>=◌, demand}
use Rattle.paper.specs.Syntax.{Block}
use Rattle.paper.specs.Tokens.{Token, end, Here, is_name, is_mark}
use Rattle.paper.specs.Scanner.{next}
use Rattle.paper.specs.Grammar.{Spelt, plain, says}
use Rattle.paper.specs.Reader.{read}
use Rattle.paper.specs.Described.{Begins, opens, Fault, cannot, opening, another_name, start}
use Rattle.theorems.proofs.Laws.Enough.{enough}
use Rattle.theorems.proofs.ReadExactly.Continues.{cannot_continue}
use Rattle.theorems.proofs.ReadExactly.Limits.{Passable, State, Turns, stay, turn, at_first, open_32, joined_32, begins_less, fine, append_nil}
use Rattle.theorems.proofs.ReadExactly.Sequence.{Scans, none_yet, and_then}
use Rattle.theorems.proofs.ReadExactly.Sound.{name_true}
use Rattle.theorems.proofs.ReadExactly.Stuck.{Tells, tells, stuck, short, Went, done, more, Shows, Stuck, BeginBlock, Whole, read_tells}
use Rattle.theorems.proofs.ReadExactly.Stuck as R

-- what stands at mid is refused with n at p: there is no token, or it is refused
pub data At (before : List Token) (mid : Here) : ℕ → ℕ → Type 0 where
  no_next : {n p : ℕ} → next mid ≡ refused n p → At before mid n p
  not_here : {t : Token} {h after : Here} {n : ℕ} → next mid ≡ ok (t, h, after) → Fault before t n → At before mid n h.place

-- the first of 2 to 6 that applies to the source is n, at p
pub record FirstRefusal (source : List ℕ) (n p : ℕ) : Type 0 where
  pub before : List Token
  pub mid : Here
  pub are : Scans (start source) before mid
  pub fine : Passable before
  pub at : At before mid n p

-- ---- where the reader is stuck, there is the first refusal

turns : {s s₁ : State} {at out : Here} {xs : List Spelt} → Went s at xs out s₁ → Turns s (plain xs) s₁
turns done = stay
turns (more e t r) = turn t (turns r)

passes : {s s₁ : State} {at out : Here} {xs : List Spelt} → Went s at xs out s₁ → Scans at (plain xs) out
passes done = none_yet
passes (more e t r) = and_then e (passes r)

plain_append : (xs ys : List Spelt) → plain (xs ++ ys) ≡ plain xs ++ plain ys
plain_append [] ys = refl
plain_append (x ∷ xs) ys = ap (λ l. x.0 ∷ l) (plain_append xs ys)

begins : (xs ys : List Spelt) → BeginBlock (xs ++ ys) → Begins (plain xs ++ plain ys)
begins xs ys b = record {
  it = b.it;
  rest = plain b.rest ++ (end ∷ []);
  formed = b.formed;
  eq = ap (λ l. l ++ (end ∷ [])) (ap plain b.eq ∙ plain_append (xs ++ ys) b.rest ∙ ap (λ l. l ++ plain b.rest) (plain_append xs ys)) ∙ append_assoc (plain xs ++ plain ys) (plain b.rest) (end ∷ []);
}

shown : (source : List ℕ) {n p : ℕ} (xs ys : List Spelt) {s : State} {mid : Here} → read source ≡ refused n p → Went at_first (start source) xs mid s → BeginBlock (xs ++ ys) → Shows s mid n p ys → At (plain xs) mid n p
shown source xs ys {mid = mid} e w b (R.cannot {t = t} {h = h} {after = a} i) =
    not_here i (cannot (λ c. cannot_continue source h.place e (plain xs) c.rest t mid h a (passes w) i refl c.it c.formed (c.eq ∙ append_assoc (plain xs) (t ∷ []) c.rest)))
shown source xs ys e w b (R.none_there i) = no_next i
shown source xs ys e w b (R.opening i o z) = not_here i (opening (begins xs ys b) o (open_32 (turns w) z))
shown source xs ys e w b (R.another_name i n z) = not_here i (another_name (begins xs ys b) n (joined_32 (turns w) z))

refused_apart : {X : Type 0} {n p m q : ℕ} → ◌≡◌ {A = Answer X} (refused n p) (refused m q) → (n ≡ m) × (p ≡ q)
refused_apart e = (number e, place e)
  where
    number : {X : Type 0} {n p m q : ℕ} → ◌≡◌ {A = Answer X} (refused n p) (refused m q) → n ≡ m
    number e = cc

    place : {X : Type 0} {n p m q : ℕ} → ◌≡◌ {A = Answer X} (refused n p) (refused m q) → p ≡ q
    place e = cc

clash : {A X : Type 0} {x : X} {n p : ℕ} → ok x ≡ refused n p → A
clash e = let z : ◌≡◌ {A = ℕ} 0 1 = cc in absurd (omega arith)

first : (source : List ℕ) (n p : ℕ) → length source ≤ 32768 → read source ≡ refused n p → FirstRefusal source n p
first source n p size e = go (read_tells source size) e
  where
    go : {m : Answer Block} → Tells (Whole source) (Stuck BeginBlock at_first (start source)) m → m ≡ refused n p → FirstRefusal source n p
    go (tells h) w = clash w
    go (stuck {n = k} {q = q} s) w =
        let i = refused_apart w in
        let x : At (plain s.before) s.mid k q = shown source s.before s.further (e ∙ sym w) s.went s.so s.shows in
        record {
          before = plain s.before;
          mid = s.mid;
          are = passes s.went;
          fine = fine (turns s.went) (begins_less (plain s.before) (plain s.further) (begins s.before s.further s.so));
          at = subst (λ a. At (plain s.before) s.mid a p) i.0 (subst (λ a. At (plain s.before) s.mid k a) i.1 x);
        }
    go (short {q = q}) w = absurd (enough source q (e ∙ sym w))

-- ---- there is but one

inside : {X : Type 0} {a b : X} → ok a ≡ ok b → a ≡ b
inside e = cc

-- tokens from one place: the same, or the ones begin the others
data Compared (ts : List Token) (mid : Here) (us : List Token) (mid' : Here) : Type 0 where
  alike : ts ≡ us → mid ≡ mid' → Compared ts mid us mid'
  shorter : {t : Token} {h after : Here} (rest : List Token) → next mid ≡ ok (t, h, after) → us ≡ ts ++ (t ∷ rest) → Compared ts mid us mid'
  longer : {t : Token} {h after : Here} (rest : List Token) → next mid' ≡ ok (t, h, after) → ts ≡ us ++ (t ∷ rest) → Compared ts mid us mid'

cons : (t : Token) {ts us : List Token} {mid mid' : Here} → Compared ts mid us mid' → Compared (t ∷ ts) mid (t ∷ us) mid'
cons t (alike a b) = alike (ap (λ l. t ∷ l) a) b
cons t (shorter l e w) = shorter l e (ap (λ l. t ∷ l) w)
cons t (longer l e w) = longer l e (ap (λ l. t ∷ l) w)

compare : {at mid mid' : Here} {ts us : List Token} → Scans at ts mid → Scans at us mid' → Compared ts mid us mid'
compare none_yet none_yet = alike refl refl
compare none_yet (and_then {ts = ts} e r) = shorter ts e refl
compare (and_then {ts = ts} e r) none_yet = longer ts e refl
compare {mid = mid} {mid' = mid'} (and_then {h = h} {after = a} {t = t} {ts = ts} e r) (and_then {h = h'} {after = a'} {t = t'} {ts = us} e' r') =
    let q = inside (sym e ∙ e') in
    let i : t ≡ t' = ap (λ y. y.0) q in
    let j : a ≡ a' = ap (λ y. y.2) q in
    subst (λ x. Compared (t ∷ ts) mid (x ∷ us) mid') i (cons t (compare r (subst (λ x. Scans x us mid') (sym j) r')))

no_opening_name : (t : Token) → opens t ≡ true → is_name t ≡ true → ⊥
unfolding opens is_mark
no_opening_name t o n = false≢true (sym (ap opens (name_true t n)) ∙ o)

one_fault : {ts : List Token} {t : Token} {n m : ℕ} → Fault ts t n → Fault ts t m → n ≡ m
one_fault (cannot c) (cannot d) = refl
one_fault (cannot c) (opening b o z) = absurd (c b)
one_fault (cannot c) (another_name b o z) = absurd (c b)
one_fault (opening b o z) (cannot c) = absurd (c b)
one_fault (opening b o z) (opening d u w) = refl
one_fault {t = t} (opening b o z) (another_name d u w) = absurd (no_opening_name t o u)
one_fault (another_name b o z) (cannot c) = absurd (c b)
one_fault {t = t} (another_name b o z) (opening d u w) = absurd (no_opening_name t u o)
one_fault (another_name b o z) (another_name d u w) = refl

one_at : {ts : List Token} {mid : Here} {n p m q : ℕ} → At ts mid n p → At ts mid m q → (n ≡ m) × (p ≡ q)
one_at (no_next e) (no_next f) = refused_apart (sym e ∙ f)
one_at (no_next e) (not_here f g) = clash (sym f ∙ e)
one_at (not_here e g) (no_next f) = clash (sym e ∙ f)
one_at {ts} (not_here {n = n} e g) (not_here {n = m} f k) =
    let i = inside (sym e ∙ f) in
    (one_fault (subst (λ t. Fault ts t n) (ap (λ y. y.0) i) g) k, ap (λ y. y.1.place) i)

-- what is refused is not among tokens that are not
not_among : {ts us : List Token} {t : Token} {mid h after : Here} {n p : ℕ} (rest : List Token) → At ts mid n p → next mid ≡ ok (t, h, after) → Passable us → us ≡ ts ++ (t ∷ rest) → ⊥
not_among rest (no_next e) f g w = clash (sym f ∙ e)
not_among {ts} {t = t} rest (not_here {n = n} e k) f g w = (g ts rest t w).1 n (subst (λ t. Fault ts t n) (ap (λ y. y.0) (inside (sym e ∙ f))) k)

one_first : (source : List ℕ) {n p m q : ℕ} → FirstRefusal source n p → FirstRefusal source m q → (n ≡ m) × (p ≡ q)
one_first source {n} {p} {m} {q} a b = go (compare a.are b.are)
  where
    go : Compared a.before a.mid b.before b.mid → (n ≡ m) × (p ≡ q)
    go (alike e f) = one_at (subst (λ ts. At ts b.mid n p) e (subst (λ mid. At a.before mid n p) f a.at)) b.at
    go (shorter rest e w) = absurd (not_among rest a.at e b.fine w)
    go (longer rest e w) = absurd (not_among rest b.at e a.fine w)

-- ---- what is read has none

end_fine : (source : List ℕ) (b : Block) → Whole source b → {n : ℕ} → Fault (says b) end n → ⊥
unfolding opens is_mark is_name
end_fine source b w (cannot c) = c (record { it = b; rest = []; formed = w.formed; eq = sym (append_nil (says b ++ (end ∷ []))) })
end_fine source b w (opening _ o _) = false≢true o
end_fine source b w (another_name _ n _) = false≢true n

none_first : (source : List ℕ) (b : Block) {n p : ℕ} → Whole source b → FirstRefusal source n p → ⊥
none_first source b {n} {p} w a = go (compare a.are (passes w.went))
  where
    at_end : {n p : ℕ} → At (says b) w.out n p → ⊥
    at_end (no_next e) = clash (sym w.ended ∙ e)
    at_end (not_here {n = n} e f) = end_fine source b w (subst (λ t. Fault (says b) t n) (ap (λ y. y.0) (inside (sym e ∙ w.ended))) f)

    all_begin : Begins (says b)
    all_begin = record { it = b; rest = end ∷ []; formed = w.formed; eq = refl }

    go : Compared a.before a.mid (says b) w.out → ⊥
    go (alike e f) = at_end (subst (λ ts. At ts w.out n p) e (subst (λ mid. At a.before mid n p) f a.at))
    go (shorter rest e v) = not_among rest a.at e (fine (turns w.went) all_begin) v
    go (longer {t = t} rest e v) = (a.fine (says b) rest t v).0 (ap (λ y. y.0) (inside (sym e ∙ w.ended)))

-- ---- the theorem

pub refused_first : (source : List ℕ) (n p : ℕ) → length source ≤ 32768 → (read source ≡ refused n p) ↔ FirstRefusal source n p
refused_first source n p size = (first source n p size, λ a. back a (read source) refl (read_tells source size))
  where
    back : FirstRefusal source n p → (m : Answer Block) → read source ≡ m → Tells (Whole source) (Stuck BeginBlock at_first (start source)) m → m ≡ refused n p
    back a (ok b) e (tells w) = absurd (none_first source b w a)
    back a (refused k q) e _ = let i = one_first source (first source k q size e) a in ap (λ x. refused x q) i.0 ∙ ap (refused n) i.1

-- over the size it is 1
pub too_big : (source : List ℕ) → 32768 < length source → read source ≡ refused 1 0
unfolding read demand ◌>>=◌
too_big source l = go (leb (length source) 32768) refl
  where
    go : (c : Bool) → leb (length source) 32768 ≡ c → read source ≡ refused 1 0
    go true e = let k = leb-true (length source) 32768 e in absurd (omega arith)
    go false e = rw e
