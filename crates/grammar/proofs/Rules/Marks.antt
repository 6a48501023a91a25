-- What single tokens are not, and what a mark is. Assumes nothing.
use Prim.Native.Nat.{ℕ}
use Prim.Native.Char.{Char, code}
use mathlib.Core.Path.{◌≡◌, refl, sym, ap, ◌∙◌}
use mathlib.Core.Bool.{false}
use mathlib.Core.List.{List}
use borrow.Author.Tests.{eq-eqb, ne_eqb}
use Rattle.paper.specs.Answer.{refused, ok, ◌>>=◌, demand}
use Rattle.paper.specs.Tokens.{Token, name, mark, end, is_name, is_mark, member, reserved}
use Rattle.paper.specs.Scanner.{next}
use Rattle.paper.specs.Reader.{expect, is_end}
use Rattle.grammar.specs.Places.{here, Shown, Stood}
use Rattle.tokens.specs.Kinds.{spelling}
use Rattle.grammar.specs.Seen.{KindIs, NotMark, ends, Unlike, absent, another}
use Rattle.grammar.specs.Refusals.{Refuses}
use Rattle.refusal.specs.declared.Refusal.{Refusal}
use Rattle.grammar.specs.Paths.{NoName}
use Rattle.tokens.specs.declared.names.Word.{Word}
use Rattle.tokens.specs.declared.names.Word.TheVariants.{Extends, Data, Null, True, False, Root, Parent, This, Attrib, Lazy, Host, Process, Property, Iproperty}
use Rattle.tokens.specs.declared.Kind.{Kind}
use Rattle.tokens.specs.declared.Kind.TheVariants.{Name, Word as Reserved, Integer, Decimal, Text, Mark, End}

-- a token at p that is not the mark b
pub record NoMark (s : List ℕ) (at p b : ℕ) : Type 0 where
  pub token : Token
  pub stood : Stood s at token p
  pub other : (c : Char) → code c ≡ b → is_mark c token ≡ false

-- a token at p that is no name
pub record Unnamed (s : List ℕ) (at p : ℕ) : Type 0 where
  pub token : Token
  pub stood : Stood s at token p
  pub other : is_name token ≡ false

pub stands : {s : List ℕ} {at p e : ℕ} {t : Token} → Shown s at t p e → Stood s at t p
stands {s} {e = e} N = record { after = here s e; is = N.is }

other_mark : (m b : ℕ) → (m ≡ b → ⊥) → (c : Char) → code c ≡ b → is_mark c (mark m) ≡ false
unfolding is_mark
other_mark m b ne c q = ne_eqb (code c) m (λ e. ne (sym e ∙ q))

pub word_reserved : (w : Word) → is_name (name (spelling w)) ≡ false
unfolding is_name member reserved
word_reserved Extends = refl
word_reserved Data = refl
word_reserved Null = refl
word_reserved True = refl
word_reserved False = refl
word_reserved Root = refl
word_reserved Parent = refl
word_reserved This = refl
word_reserved Attrib = refl
word_reserved Lazy = refl
word_reserved Host = refl
word_reserved Process = refl
word_reserved Property = refl
word_reserved Iproperty = refl

module _ (s : List ℕ) (at p e : ℕ) where
  -- a token of another kind than the mark b
  pub no_mark : (k : Kind) → KindIs s at p e k → (b : ℕ) → (k ≡ Mark b → ⊥) → NoMark s at p b
  unfolding is_mark
  no_mark Name N b ne = record { token = name N.spelt; stood = stands N.shown; other = λ c q. refl }
  no_mark (Reserved w) N b ne = record { token = name (spelling w); stood = stands N; other = λ c q. refl }
  no_mark (Integer x) N b ne = record { token = _; stood = stands N.shown; other = λ c q. refl }
  no_mark Decimal N b ne = record { token = _; stood = stands N.shown; other = λ c q. refl }
  no_mark (Text n) N b ne = record { token = _; stood = stands N.shown; other = λ c q. refl }
  no_mark (Mark m) N b ne = record { token = mark m; stood = stands N; other = other_mark m b (λ z. ne (ap Mark z)) }
  no_mark End N b ne = record { token = end; stood = N; other = λ c q. refl }

  -- a token of another kind than a name
  pub unnamed : (k : Kind) → KindIs s at p e k → (k ≡ Name → ⊥) → Unnamed s at p
  unfolding is_name
  unnamed Name N ne = absurd (ne refl)
  unnamed (Reserved w) N ne = record { token = name (spelling w); stood = stands N; other = word_reserved w }
  unnamed (Integer x) N ne = record { token = _; stood = stands N.shown; other = refl }
  unnamed Decimal N ne = record { token = _; stood = stands N.shown; other = refl }
  unnamed (Text n) N ne = record { token = _; stood = stands N.shown; other = refl }
  unnamed (Mark m) N ne = record { token = mark m; stood = stands N; other = refl }
  unnamed End N ne = record { token = end; stood = N; other = refl }

  not_ended : {t : Token} → Stood s at t p → is_end t ≡ false → ends (here s at) ≡ refused 3 p
  unfolding ends ◌>>=◌ demand
  not_ended N i = rw (N.is, i)

  -- a token of another kind than the end
  goes_on : (k : Kind) → KindIs s at p e k → (k ≡ End → ⊥) → ends (here s at) ≡ refused 3 p
  unfolding is_end
  goes_on Name N ne = not_ended (stands N.shown) refl
  goes_on (Reserved w) N ne = not_ended (stands N) refl
  goes_on (Integer x) N ne = not_ended (stands N.shown) refl
  goes_on Decimal N ne = not_ended (stands N.shown) refl
  goes_on (Text n) N ne = not_ended (stands N.shown) refl
  goes_on (Mark m) N ne = not_ended (stands N) refl
  goes_on End N ne = absurd (ne refl)

pub is_ended : {s : List ℕ} {at p : ℕ} → Stood s at end p → ends (here s at) ≡ ok tt
unfolding ends ◌>>=◌ demand is_end
is_ended N = rw N.is

ends_fault : (s : List ℕ) (at : ℕ) {n p : ℕ} → next (here s at) ≡ refused n p → ends (here s at) ≡ refused n p
unfolding ends ◌>>=◌
ends_fault s at e = rw e

pub not_the_end : {s : List ℕ} {at : ℕ} {e : Refusal} → Unlike s at End e → Refuses (ends (here s at)) e
not_the_end {s} {at} (absent f) = ends_fault s at f
not_the_end {s} {at} {e} (another j m N ne r) = rw r (goes_on s at e.place m j N ne)

pub no_name : {s : List ℕ} {at p : ℕ} → Unnamed s at p → NoName s at
no_name {p = p} U = record { token = U.token; place = p; stood = U.stood; other = U.other }

-- ---- a mark that is expected

pub missing : {s : List ℕ} {at p b : ℕ} → NoMark s at p b → (c : Char) → code c ≡ b → expect c (here s at) ≡ refused 3 p
unfolding expect ◌>>=◌ demand
missing N c q = rw (N.stood.is, N.other c q)

pub missing_fault : (s : List ℕ) (at : ℕ) {n p : ℕ} → next (here s at) ≡ refused n p → (c : Char) → expect c (here s at) ≡ refused n p
unfolding expect ◌>>=◌
missing_fault s at e c = rw e

pub no_such_mark : {s : List ℕ} {at b : ℕ} {e : Refusal} → Unlike s at (Mark b) e → (c : Char) → code c ≡ b → Refuses (expect c (here s at)) e
no_such_mark {s} {at} (absent f) c q = missing_fault s at f c
no_such_mark {s} {at} {b} {e} (another j m N ne r) c q = rw r (missing (no_mark s at e.place m j N b ne) c q)

-- the mark that is expected
pub expected : {s : List ℕ} {at p e : ℕ} (c : Char) → Shown s at (mark (code c)) p e → expect c (here s at) ≡ ok (here s e)
unfolding expect ◌>>=◌ demand is_mark
expected c N = rw (N.is, eq-eqb (code c) (code c) refl)

-- ---- a mark that may stand here

pub not_mark : {s : List ℕ} {at p b : ℕ} → NoMark s at p b → NotMark s at b
not_mark {p = p} N = record { token = N.token; place = p; stood = N.stood; other = N.other }
