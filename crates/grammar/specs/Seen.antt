-- What the readers of single tokens answer, by cases. Assumes nothing.
use Rattle.std.specs.Prelude.{ℕ, ◌+◌, ◌≤◌, ◌≡◌, true, false, List, length, ℤ, Result, Ok, Err, Option, Some, None}
use Prim.Native.Char.{Char, code}
use Rattle.paper.specs.Answer.{Answer, ◌>>=◌, demand}
use Rattle.paper.specs.Syntax.{integer, decimal, string}
use Rattle.paper.specs.Tokens.{Token, name, literal, mark, end, is_name, is_mark, Here}
use Rattle.paper.specs.Scanner.{next}
use Rattle.paper.specs.Reader.{is_end}
use Rattle.paper.specs.Layout.{complement}
use Rattle.refusal.specs.declared.Refusal.{Refusal}
use Rattle.refusal.specs.declared.Reason.TheVariants.{Unexpected}
use Rattle.tokens.specs.Kinds.{spelling}
use Rattle.tokens.specs.declared.Kind.{Kind}
use Rattle.tokens.specs.declared.Kind.TheVariants as kinds
use Rattle.tokens.specs.declared.Token.{Token as Read}
use Rattle.grammar.specs.declared.token.Spot.{Spot}
use Rattle.grammar.specs.Places.{here, Shown, Stood}
use Rattle.grammar.specs.Refusals.{Refuses}

-- a name that is not reserved
pub record NameSeen (s : List ℕ) (at p e : ℕ) : Type 0 where
  pub spelt : List ℕ
  pub shown : Shown s at (name spelt) p e
  pub free : is_name (name spelt) ≡ true
  pub long : p + length spelt ≡ e

pub record IntegerSeen (s : List ℕ) (at p e x : ℕ) : Type 0 where
  pub number : ℤ
  pub shown : Shown s at (literal (integer number)) p e
  pub bits : x ≡ complement number

pub record DecimalSeen (s : List ℕ) (at p e : ℕ) : Type 0 where
  pub said : List ℕ
  pub shown : Shown s at (literal (decimal said)) p e
  pub long : p + length said ≡ e

pub record TextSeen (s : List ℕ) (at p e n : ℕ) : Type 0 where
  pub said : List ℕ
  pub shown : Shown s at (literal (string said)) p e
  pub size : n ≡ length said
  pub short : p + n ≤ e

-- the token of this kind, which stands from p to e, is paper's next token from `at` on
abbrev pub KindIs : List ℕ → ℕ → ℕ → ℕ → Kind → Type 0
KindIs s at p e kinds.Name = NameSeen s at p e
KindIs s at p e (kinds.Word w) = Shown s at (name (spelling w)) p e
KindIs s at p e (kinds.Integer x) = IntegerSeen s at p e x
KindIs s at p e kinds.Decimal = DecimalSeen s at p e
KindIs s at p e (kinds.Text n) = TextSeen s at p e n
KindIs s at p e (kinds.Mark b) = Shown s at (mark b) p e
KindIs s at p e kinds.End = Stood s at end p

-- the token that is seen from `at` on is paper's next token
abbrev pub SeenIs : List ℕ → ℕ → Result Read Refusal → Type 0
SeenIs s at (Ok t) = KindIs s at t.at t.end t.kind
SeenIs s at (Err e) = Refuses (next (here s at)) e

-- what has to stand next does not: there is no token, or one of another kind, which is refused where it stands
pub data Unlike (s : List ℕ) (at : ℕ) (k : Kind) (e : Refusal) : Type 0 where
  absent : Refuses (next (here s at)) e → Unlike s at k e
  another : (j : Kind) (end : ℕ) → KindIs s at e.place end j → (j ≡ k → ⊥) → e.reason ≡ Unexpected → Unlike s at k e

-- the token of this kind that has to stand next is taken, or refused
abbrev pub ExpectedIs : List ℕ → ℕ → Kind → Result Spot Refusal → Type 0
ExpectedIs s at k (Ok m) = KindIs s at m.place m.next k
ExpectedIs s at k (Err e) = Unlike s at k e

-- a token that is not the mark b
pub record NotMark (s : List ℕ) (at b : ℕ) : Type 0 where
  pub token : Token
  pub place : ℕ
  pub stood : Stood s at token place
  pub other : (c : Char) → code c ≡ b → is_mark c token ≡ false

abbrev pub FollowsIs : List ℕ → ℕ → ℕ → Result (Option Spot) Refusal → Type 0
FollowsIs s at b (Ok (Some m)) = Shown s at (mark b) m.place m.next
FollowsIs s at b (Ok None) = NotMark s at b
FollowsIs s at b (Err e) = Refuses (next (here s at)) e

-- the end has to stand here
unfoldable pub ends : Here → Answer (Unit {0})
ends at = do
  (t, h, _) ← next at
  demand (is_end t) 3 h.place
