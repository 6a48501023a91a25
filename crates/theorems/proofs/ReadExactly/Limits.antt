-- The limits of 32, a token at a time. Tokens that keep them, and begin what some block says, are not refused. Assumes nothing.
use Prim.Native.Nat.{ℕ, suc, ◌+◌, ◌≤◌, ◌<◌}
use native.Mathlib.Omega.{arith}
use Prim.Native.Char.{code}
use Prim.Native.String.{String}
use mathlib.Core.Path.{◌≡◌, refl, sym, ◌∙◌, ap, subst}
use mathlib.Core.Bool.{Bool, true, false, true≢false, false≢true}
use mathlib.Core.List.{List, [], ◌∷◌, ◌++◌, append_assoc}
use lib.ListN.{length}
use borrow.Author.Tests.{not-true}
use Rattle.paper.specs.Bytes.{bytes}
use Rattle.paper.specs.Syntax.{Path, Basic}
use Rattle.paper.specs.Tokens.{Token, name, literal, mark, end, reserved, member, is_name, is_mark}
use Rattle.paper.specs.Reader.{is_end, spelling}
use Rattle.paper.specs.Grammar.{Free}
use Rattle.paper.specs.Described.{Begins, counted, opens, closes, Open, joined, Joined, Fault, cannot, opening, another_name}
use Rattle.theorems.proofs.ReadExactly.Complete.{name_free}
use Rattle.theorems.proofs.ReadExactly.Sound.{mark_true, name_true}

-- ---- how the tokens turn what is left

-- the reference that stands last: so many names, each followed by `:`; or so many, the last not followed yet
pub data Run : Type 0 where
  joins : ℕ → Run
  ends : ℕ → Run

-- how many names a name that comes now is joined to
abbrev pub chain : Run → ℕ
chain (joins c) = c
chain (ends c) = 0

-- how many more openings are allowed, and the reference that stands last
abbrev pub State : Type 0
State = ℕ × Run

-- with nothing joined
abbrev pub fresh : ℕ → State
fresh d = (d, joins 0)

abbrev pub at_first : State
at_first = fresh 32

-- what a token is: an opening, a closing, a name, a `:`; and not the end
pub record Looks (t : Token) (o c n j : Bool) : Type 0 where
  pub opens? : opens t ≡ o
  pub closes? : closes t ≡ c
  pub name? : is_name t ≡ n
  pub colon? : is_mark ":" t ≡ j
  pub end? : is_end t ≡ false

-- one token, where the limits allow it: the state before and after
pub data Turn (s : State) (t : Token) : State → Type 0 where
  an_opening : {d : ℕ} → Looks t true false false false → s.0 ≡ suc d → Turn s t (fresh d)
  a_closing : {d : ℕ} → Looks t false true false false → d ≡ suc s.0 → Turn s t (fresh d)
  a_name : Looks t false false true false → chain s.1 < 32 → Turn s t (s.0, ends (suc (chain s.1)))
  a_colon : {c : ℕ} → Looks t false false false true → s.1 ≡ ends c → Turn s t (s.0, joins c)
  another : Looks t false false false false → Turn s t (fresh s.0)

-- tokens in turn
pub data Turns : State → List Token → State → Type 0 where
  stay : {s : State} → Turns s [] s
  turn : {s s₁ s₂ : State} {t : Token} {ts : List Token} → Turn s t s₁ → Turns s₁ ts s₂ → Turns s (t ∷ ts) s₂

record Halves (s : State) (xs ys : List Token) (s₂ : State) : Type 0 where
  mid : State
  first : Turns s xs mid
  second : Turns mid ys s₂

halves : {s s₂ : State} (xs : List Token) {ys : List Token} → Turns s (xs ++ ys) s₂ → Halves s xs ys s₂
halves {s} [] r = record { mid = s; first = stay; second = r }
halves (x ∷ xs) (turn t r) = let h = halves xs r in record { mid = h.mid; first = turn t h.first; second = h.second }

-- ---- how the tokens of the grammar turn the state

looks : (t : Token) → is_end t ≡ false → Looks t (opens t) (closes t) (is_name t) (is_mark ":" t)
looks t e = record { opens? = refl; closes? = refl; name? = refl; colon? = refl; end? = e }

pub comma : {s : State} → Turn s (mark (code ",")) (fresh s.0)
unfolding opens closes is_mark is_name is_end
comma = another (looks _ refl)

pub semicolon : {s : State} → Turn s (mark (code ";")) (fresh s.0)
unfolding opens closes is_mark is_name is_end
semicolon = another (looks _ refl)

pub a_literal : {s : State} (b : Basic) → Turn s (literal b) (fresh s.0)
unfolding opens closes is_mark is_name is_end
a_literal b = another (looks _ refl)

pub a_word : {s : State} (w : String) → member (bytes w) reserved ≡ true → Turn s (name (bytes w)) (fresh s.0)
unfolding opens closes is_mark is_name is_end
a_word w e = another (rw e at (looks (name (bytes w)) refl))

pub free_name : {s : State} (n : List ℕ) → member n reserved ≡ false → chain s.1 < 32 → Turn s (name n) (s.0, ends (suc (chain s.1)))
unfolding opens closes is_mark is_name is_end
free_name n e l = a_name (rw e at (looks (name n) refl)) l

pub joint : {d c : ℕ} → Turn (d, ends c) (mark (code ":")) (d, joins c)
unfolding opens closes is_mark is_name is_end
joint = a_colon (looks _ refl) refl

pub bracket : {s : State} {d : ℕ} → s.0 ≡ suc d → Turn s (mark (code "[")) (fresh d)
unfolding opens closes is_mark is_name is_end
bracket e = an_opening (looks _ refl) e

pub brace : {s : State} {d : ℕ} → s.0 ≡ suc d → Turn s (mark (code "{")) (fresh d)
unfolding opens closes is_mark is_name is_end
brace e = an_opening (looks _ refl) e

pub end_bracket : {s : State} {d : ℕ} → d ≡ suc s.0 → Turn s (mark (code "]")) (fresh d)
unfolding opens closes is_mark is_name is_end
end_bracket e = a_closing (looks _ refl) e

pub end_brace : {s : State} {d : ℕ} → d ≡ suc s.0 → Turn s (mark (code "}")) (fresh d)
unfolding opens closes is_mark is_name is_end
end_brace e = a_closing (looks _ refl) e

-- ---- openings

-- what is left, and what was opened, is what was left, and what was closed
counts : {s s₂ : State} {ts : List Token} → Turns s ts s₂ → s₂.0 + counted opens ts ≡ s.0 + counted closes ts
unfolding counted
counts stay = refl
counts (turn {s} {s₁} {s₂} {t} {ts} x r) = by x (counts r)
  where
    by : {s₁ : State} → Turn s t s₁ → s₂.0 + counted opens ts ≡ s₁.0 + counted closes ts → s₂.0 + counted opens (t ∷ ts) ≡ s.0 + counted closes (t ∷ ts)
    by (an_opening l e) h = rw (l.opens?, l.closes?, counted) (omega arith)
    by (a_closing l e) h = rw (l.opens?, l.closes?, counted) (omega arith)
    by (a_name l e) h = rw (l.opens?, l.closes?, counted) h
    by (a_colon l e) h = rw (l.opens?, l.closes?, counted) h
    by (another l) h = rw (l.opens?, l.closes?, counted) h

clash : {A : Type 0} {b : Bool} → b ≡ true → b ≡ false → A
clash e f = absurd (true≢false (sym e ∙ f))

opening_left : {s s₁ : State} {t : Token} → Turn s t s₁ → opens t ≡ true → 1 ≤ s.0
opening_left (an_opening l e) o = omega arith
opening_left (a_closing l e) o = clash o l.opens?
opening_left (a_name l e) o = clash o l.opens?
opening_left (a_colon l e) o = clash o l.opens?
opening_left (another l) o = clash o l.opens?

-- ---- names

record Named (s s₁ : State) : Type 0 where
  few : chain s.1 < 32
  now : s₁.1 ≡ ends (suc (chain s.1))

named : {s s₁ : State} {t : Token} → Turn s t s₁ → is_name t ≡ true → Named s s₁
named (an_opening l e) n = clash n l.name?
named (a_closing l e) n = clash n l.name?
named (a_name l e) n = record { few = e; now = refl }
named (a_colon l e) n = clash n l.name?
named (another l) n = clash n l.name?

ends_apart : {a b : ℕ} → ends a ≡ ends b → a ≡ b
ends_apart e = cc

colon : {s s₁ : State} {t : Token} {c : ℕ} → Turn s t s₁ → is_mark ":" t ≡ true → s.1 ≡ ends c → s₁.1 ≡ joins c
colon (an_opening l e) n q = clash n l.colon?
colon (a_closing l e) n q = clash n l.colon?
colon (a_name l e) n q = clash n l.colon?
colon (a_colon l e) n q = ap joins (ends_apart (sym e ∙ q))
colon (another l) n q = clash n l.colon?

-- names that are joined make the chain as long
long : {s s₂ : State} (r : Path) → Free r → Turns s (joined r) s₂ → chain s.1 + length r ≤ chain s₂.1
unfolding is_mark
long [] f stay = omega arith
long (n ∷ r) f (turn x (turn y z)) =
    let w = named x (name_free n f.0) in
    let q = ap chain (colon y refl w.now) in
    let l = long r f.1 z in
    omega arith

-- what stands last is so: names, each followed by `:`, and perhaps one more
data Tied (ts : List Token) : Run → Type 0 where
  after_colon : {c : ℕ} → Joined c ts → Tied ts (joins c)
  after_name : {c : ℕ} {us : List Token} (n : List ℕ) → member n reserved ≡ false → Joined c us → ts ≡ us ++ (name n ∷ []) → Tied ts (ends (suc c))

pub append_nil : {A : Type 0} (xs : List A) → xs ++ [] ≡ xs
append_nil [] = refl
append_nil (x ∷ xs) = ap (λ l. x ∷ l) (append_nil xs)

none_joined : (ts : List Token) → Joined 0 ts
none_joined ts = record { front = ts; names = []; count = refl; free = tt; eq = sym (append_nil ts) }

tied_now : {ts : List Token} {r : Run} → Tied ts r → Joined (chain r) ts
tied_now (after_colon j) = j
tied_now {ts} (after_name n f j e) = none_joined ts

joined_end : (r : Path) (n : List ℕ) → joined (r ++ (n ∷ [])) ≡ joined r ++ (name n ∷ mark (code ":") ∷ [])
joined_end [] n = refl
joined_end (m ∷ r) n = ap (λ l. name m ∷ mark (code ":") ∷ l) (joined_end r n)

free_end : (r : Path) (n : List ℕ) → Free r → member n reserved ≡ false → Free (r ++ (n ∷ []))
free_end [] n f e = (e, tt)
free_end (m ∷ r) n f e = (f.0, free_end r n f.1 e)

length_end : (r : Path) (n : List ℕ) → length (r ++ (n ∷ [])) ≡ suc (length r)
length_end [] n = refl
length_end (m ∷ r) n = ap suc (length_end r n)

one_more : {c : ℕ} {us : List Token} (n : List ℕ) → member n reserved ≡ false → Joined c us → Joined (suc c) ((us ++ (name n ∷ [])) ++ (mark (code ":") ∷ []))
one_more {c} {us} n f j = record {
  front = j.front;
  names = j.names ++ (n ∷ []);
  count = length_end j.names n ∙ ap suc j.count;
  free = free_end j.names n j.free f;
  eq = rw (joined_end j.names n, j.eq) (simp append_assoc);
}

pub name_is_free : (t : Token) → is_name t ≡ true → member (spelling t) reserved ≡ false
unfolding is_name spelling
name_is_free (name n) e = not-true _ e
name_is_free (literal b) e = absurd (false≢true e)
name_is_free (mark m) e = absurd (false≢true e)
name_is_free end e = absurd (false≢true e)

tie : {s s₁ : State} {t : Token} (ts : List Token) → Turn s t s₁ → Tied ts s.1 → Tied (ts ++ (t ∷ [])) s₁.1
tie ts (an_opening l e) h = after_colon (none_joined _)
tie ts (a_closing l e) h = after_colon (none_joined _)
tie {t = t} ts (a_name l e) h = after_name (spelling t) (name_is_free t l.name?) (tied_now h) (ap (λ x. ts ++ (x ∷ [])) (name_true t l.name?))
tie {t = t} ts (a_colon {c = c} l e) h = go (subst (Tied ts) e h)
  where
    go : {c : ℕ} → Tied ts (ends c) → Tied (ts ++ (t ∷ [])) (joins c)
    go (after_name {c = b} n f j w) = after_colon {c = suc b} (rw (mark_true ":" t l.colon?, w) (one_more n f j))
tie ts (another l) h = after_colon (none_joined _)

ties : {s s₂ : State} {us : List Token} (ts : List Token) → Turns s us s₂ → Tied ts s.1 → Tied (ts ++ us) s₂.1
ties ts stay h = rw append_nil h
ties {s₂ = s₂} ts (turn {t = t} {ts = us} x r) h = subst (λ l. Tied l s₂.1) (append_assoc ts (t ∷ []) us) (ties (ts ++ (t ∷ [])) r (tie ts x h))

-- ---- tokens that keep the limits, from the first on

not_end : {s s₁ : State} {t : Token} → Turn s t s₁ → is_end t ≡ false
not_end (an_opening l e) = l.end?
not_end (a_closing l e) = l.end?
not_end (a_name l e) = l.end?
not_end (a_colon l e) = l.end?
not_end (another l) = l.end?

-- where no opening is left, 32 are open; where no name may be joined, 32 are joined
pub open_32 : {s : State} {ts : List Token} → Turns at_first ts s → s.0 ≡ 0 → Open 32 ts
open_32 r e = let c = counts r in omega arith

pub joined_32 : {s : State} {ts : List Token} → Turns at_first ts s → chain s.1 ≡ 32 → Joined 32 ts
joined_32 {ts = ts} r e = subst (λ c. Joined c ts) e (tied_now (ties [] r (after_colon (none_joined []))))

-- what begins a block, begins it with less
pub begins_less : (ts us : List Token) → Begins (ts ++ us) → Begins ts
begins_less ts us b = record { it = b.it; rest = us ++ b.rest; formed = b.formed; eq = b.eq ∙ append_assoc ts us b.rest }

-- none of the tokens is the end (past which a source ends again), and none is refused
abbrev pub Passable : List Token → Type 0
Passable ts = (xs ys : List Token) (t : Token) → ts ≡ xs ++ (t ∷ ys) → (t ≡ end → ⊥) × ((n : ℕ) → Fault xs t n → ⊥)

pub fine : {s : State} {ts : List Token} → Turns at_first ts s → Begins ts → Passable ts
unfolding is_end
fine {s} {ts} r b xs ys t e = go (halves xs (subst (λ l. Turns at_first l s) e r))
  where
    faultless : {m s₁ : State} → Turns at_first xs m → Turn m t s₁ → (n : ℕ) → Fault xs t n → ⊥
    faultless p x _ (cannot c) = c (begins_less (xs ++ (t ∷ [])) ys (subst Begins (e ∙ sym (append_assoc xs (t ∷ []) ys)) b))
    faultless p x _ (opening _ o c) = let h = counts p in let l = opening_left x o in omega arith
    faultless {m} p x _ (another_name _ n j) =
        let h = halves j.front (subst (λ l. Turns at_first l m) j.eq p) in
        let l = long j.names j.free h.second in
        omega (arith, (named x n).few, j.count)

    go : Halves at_first xs (t ∷ ys) s → (t ≡ end → ⊥) × ((n : ℕ) → Fault xs t n → ⊥)
    go h = by h.first h.second
      where
        by : {m : State} → Turns at_first xs m → Turns m (t ∷ ys) s → (t ≡ end → ⊥) × ((n : ℕ) → Fault xs t n → ⊥)
        by p (turn x _) = (λ z. true≢false (sym (ap is_end z) ∙ not_end x), faultless p x)
