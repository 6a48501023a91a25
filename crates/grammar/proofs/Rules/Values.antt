-- What a value begins with: the rules of its readers. Assumes nothing.
use Prim.Native.Nat.{ℕ, suc}
use native.Mathlib.Omega.{arith}
use mathlib.Core.Path.{◌≡◌, refl, ap, ◌∙◌}
use mathlib.Core.Bool.{false}
use mathlib.Core.List.{List}
use Rattle.paper.specs.Bytes.{bytes, when◌then◌else◌}
use Rattle.paper.specs.Answer.{Answer, ok, refused, ◌>>=◌, demand}
use Rattle.paper.specs.Tokens.{Token, name, is_name, Here}
use Rattle.paper.specs.Scanner.{next}
use Rattle.paper.specs.Reader.{expect_word, is_word}
use Rattle.grammar.specs.Drafts.{draft_basic, draft_value}
use Rattle.grammar.specs.Places.{here, Shown, Stood}
use Rattle.tokens.specs.Kinds.{spelling}
use Rattle.refusal.specs.declared.Refusal.{Refusal}
use Rattle.grammar.specs.Refusals.{Refuses}
use Rattle.grammar.specs.Seen.{KindIs}
use Rattle.grammar.specs.Paths.{RefSeen, NoName, RefFault, no_token, no_path}
use Rattle.grammar.specs.declared.path.Reference.{Reference}
use Rattle.grammar.specs.Basics.{BasicFound}
use Rattle.grammar.specs.Values.{rest_value, ValueFound}
use Rattle.grammar.specs.declared.basic.Basic.{Basic as Basics}
use Rattle.grammar.specs.declared.value.Value.TheVariants.{Basic, Link, Extends}
use Rattle.tokens.specs.declared.names.Word.{Word}
use Rattle.tokens.specs.declared.names.Word.TheVariants.{Extends as OfExtends, Data, Null, True, False, Root, Parent, This, Attrib, Lazy, Host, Process, Property, Iproperty}
use Rattle.tokens.specs.declared.Kind.{Kind}
use Rattle.tokens.specs.declared.Kind.TheVariants.{Name, Word as Reserved, Integer, Decimal, Text, Mark, End}
use Rattle.grammar.proofs.Rules.Marks.{stands}
use Rattle.grammar.proofs.Rules.Basics.{free_word}

-- neither `extends` nor a name stands next
pub record Neither (s : List ℕ) (at : ℕ) : Type 0 where
  pub token : Token
  pub place : ℕ
  pub stood : Stood s at token place
  pub no_extends : is_word "extends" token ≡ false
  pub no_name : is_name token ≡ false

-- what stands next is not `extends`
pub record Unextended (s : List ℕ) (at : ℕ) : Type 0 where
  pub token : Token
  pub place : ℕ
  pub stood : Stood s at token place
  pub no_extends : is_word "extends" token ≡ false

same_ok : {X : Type 0} {m : Answer X} {a b : X} → m ≡ ok a → m ≡ ok b → a ≡ b
same_ok e f = cc

-- whatever it is
unextended_is : {s : List ℕ} {at p : ℕ} {t : Token} → Unextended s at → Stood s at t p → is_word "extends" t ≡ false
unextended_is U N = ap (λ (x : Token × Here × Here). is_word "extends" x.0) (same_ok N.is U.stood.is) ∙ U.no_extends

pub neither : {s : List ℕ} {at : ℕ} → Unextended s at → NoName s at → Neither s at
neither U N = record { token = N.token; place = N.place; stood = N.stood; no_extends = unextended_is U N.stood; no_name = N.other }

module _ (s : List ℕ) (at : ℕ) where
  pub extends_value : (p e : ℕ) → Shown s at (name (bytes "extends")) p e → ValueFound s at Extends e
  unfolding draft_value rest_value expect_word ◌>>=◌ demand when◌then◌else◌ is_word
  extends_value p e N = record { is = λ f d q z. rw N.is; ahead = omega (arith, N); within = N.within; light = omega (arith, N) }

  pub basic_value : (b : Basics) (e : ℕ) → Neither s at → BasicFound s at b e → ValueFound s at (Basic b) e
  unfolding draft_value rest_value ◌>>=◌ when◌then◌else◌
  basic_value b e N B =
      record { is = λ f d p z. rw (N.stood.is, N.no_extends, N.no_name, B.is f d); ahead = B.ahead; within = B.within; light = B.light }

  pub basic_fault : (n q : ℕ) → Neither s at → ((f d : ℕ) → draft_basic (suc f) d (here s at) ≡ refused n q) → (f d p z : ℕ) → draft_value (suc (suc f)) d p z (here s at) ≡ refused n q
  unfolding draft_value ◌>>=◌ when◌then◌else◌
  basic_fault n q N B f d p z = rw (N.stood.is, N.no_extends, N.no_name, B f d)

  pub value_fault : (n v : ℕ) → next (here s at) ≡ refused n v → (f d p z : ℕ) → draft_value (suc (suc f)) d p z (here s at) ≡ refused n v
  unfolding draft_value ◌>>=◌
  value_fault n v e f d p z = rw e

  pub link_value : (r : Reference) → Unextended s at → RefSeen s at r.place r.next r.size → ValueFound s at (Link r) r.next
  unfolding draft_value rest_value ◌>>=◌ when◌then◌else◌
  link_value r U R =
      let other = unextended_is U R.stood in
      record {
        is = λ f d p z. rw (R.stood.is, other, R.named, R.whole.is, R.whole.size);
        ahead = R.whole.ahead;
        within = R.whole.within;
        light = omega (arith, R.whole.light, R.whole.ahead);
      }

  pub link_fault : (x : Refusal) → Unextended s at → RefFault s at x → (f d p z : ℕ) → Refuses (draft_value (suc (suc f)) d p z (here s at)) x
  unfolding draft_value ◌>>=◌ when◌then◌else◌
  link_fault x U (no_token e) = value_fault _ _ e
  link_fault x U (no_path N i e) = λ f d p z. let other = unextended_is U N in rw (N.is, other, i, e)

-- ---- not `extends`

module _ (s : List ℕ) (at p e : ℕ) where
  word_unextended : (w : Word) → Shown s at (name (spelling w)) p e → (w ≡ OfExtends → ⊥) → Unextended s at
  unfolding is_word
  word_unextended OfExtends N ne = absurd (ne refl)
  word_unextended Data N ne = record { token = _; place = p; stood = stands N; no_extends = refl }
  word_unextended Null N ne = record { token = _; place = p; stood = stands N; no_extends = refl }
  word_unextended True N ne = record { token = _; place = p; stood = stands N; no_extends = refl }
  word_unextended False N ne = record { token = _; place = p; stood = stands N; no_extends = refl }
  word_unextended Root N ne = record { token = _; place = p; stood = stands N; no_extends = refl }
  word_unextended Parent N ne = record { token = _; place = p; stood = stands N; no_extends = refl }
  word_unextended This N ne = record { token = _; place = p; stood = stands N; no_extends = refl }
  word_unextended Attrib N ne = record { token = _; place = p; stood = stands N; no_extends = refl }
  word_unextended Lazy N ne = record { token = _; place = p; stood = stands N; no_extends = refl }
  word_unextended Host N ne = record { token = _; place = p; stood = stands N; no_extends = refl }
  word_unextended Process N ne = record { token = _; place = p; stood = stands N; no_extends = refl }
  word_unextended Property N ne = record { token = _; place = p; stood = stands N; no_extends = refl }
  word_unextended Iproperty N ne = record { token = _; place = p; stood = stands N; no_extends = refl }

  -- a token of another kind
  pub unextended : (k : Kind) → KindIs s at p e k → (k ≡ Reserved OfExtends → ⊥) → Unextended s at
  unfolding is_word
  unextended Name N x = record { token = _; place = p; stood = stands N.shown; no_extends = (free_word N.spelt N.free).no_extends }
  unextended (Reserved w) N x = word_unextended w N (λ z. x (ap Reserved z))
  unextended (Integer v) N x = record { token = _; place = p; stood = stands N.shown; no_extends = refl }
  unextended Decimal N x = record { token = _; place = p; stood = stands N.shown; no_extends = refl }
  unextended (Text v) N x = record { token = _; place = p; stood = stands N.shown; no_extends = refl }
  unextended (Mark m) N x = record { token = _; place = p; stood = stands N; no_extends = refl }
  unextended End N x = record { token = _; place = p; stood = N; no_extends = refl }
