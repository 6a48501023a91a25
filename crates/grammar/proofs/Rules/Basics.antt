-- What a basic begins with: the rules of its readers. Assumes nothing.
use Prim.Native.Nat.{ℕ, suc, ◌+◌, ◌-◌}
use native.Mathlib.Omega.{arith}
use mathlib.Core.Path.{◌≡◌, refl, ap}
use mathlib.Core.Bool.{Bool, true, false, not, ◌||◌, false≢true}
use mathlib.Core.List.{List}
use lib.ListN.{length}
use Rattle.paper.specs.Bytes.{bytes, when◌then◌else◌}
use Rattle.paper.specs.Answer.{refused, ◌>>=◌}
use Rattle.paper.specs.Tokens.{Token, name, mark, end, is_name, member, reserved}
use Rattle.paper.specs.Scanner.{next}
use Rattle.paper.specs.Reader.{path, is_word}
use Rattle.grammar.specs.Drafts.{draft_word, draft_literal, draft_basic}
use Rattle.grammar.specs.Places.{here, Shown, Stood}
use Rattle.tokens.specs.Kinds.{spelling}
use Rattle.grammar.specs.Seen.{KindIs, IntegerSeen, DecimalSeen, TextSeen}
use Rattle.grammar.specs.Paths.{PathSeen}
use Rattle.grammar.specs.Basics.{rest_vector, BasicFound}
use Rattle.grammar.specs.declared.basic.Basic.TheVariants.{Boolean, Null, Integer, Decimal, Text, Data, Vector}
use Rattle.tokens.specs.declared.names.Word.{Word}
use Rattle.tokens.specs.declared.names.Word.TheVariants.{Extends, Data as OfData, Null as OfNull, True, False, Root, Parent, This, Attrib, Lazy, Host, Process, Property, Iproperty}
use Rattle.tokens.specs.declared.Kind.{Kind}
use Rattle.tokens.specs.declared.Kind.TheVariants.{Name, Word as Reserved, Mark, End}
use Rattle.tokens.specs.declared.Kind.TheVariants as kinds
use Rattle.grammar.proofs.Rules.Marks.{stands, no_mark, expected, missing}

-- a token that is none of the words that something begins with
pub record NoWord (t : Token) : Type 0 where
  pub no_extends : is_word "extends" t ≡ false
  pub no_data : is_word "DATA" t ≡ false
  pub no_null : is_word "NULL" t ≡ false
  pub no_true : is_word "true" t ≡ false
  pub no_false : is_word "false" t ≡ false

neither : (a b : Bool) → not (a || b) ≡ true → (a ≡ false) × (not b ≡ true)
neither true b e = absurd (false≢true e)
neither false b e = (refl, e)

-- a name that is not reserved is none of them
pub free_word : (n : List ℕ) → is_name (name n) ≡ true → NoWord (name n)
unfolding is_name is_word member reserved
free_word n e =
    let a = neither _ _ e in
    let b = neither _ _ a.1 in
    let c = neither _ _ b.1 in
    let d = neither _ _ c.1 in
    let f = neither _ _ d.1 in
    record { no_extends = a.0; no_data = b.0; no_null = c.0; no_true = d.0; no_false = f.0 }

module _ (s : List ℕ) (at p : ℕ) where
  -- ---- what no basic begins with

  no_basic : (n : List ℕ) → Stood s at (name n) p → NoWord (name n) → (f d : ℕ) → draft_basic (suc f) d (here s at) ≡ refused 3 p
  unfolding draft_basic draft_word ◌>>=◌ when◌then◌else◌
  no_basic n N W f d = rw (N.is, draft_word, W.no_true, W.no_false, W.no_null, W.no_data)

  pub word_basic : (e : ℕ) (w : Word) → Shown s at (name (spelling w)) p e → (w ≡ True → ⊥) → (w ≡ False → ⊥) → (w ≡ OfNull → ⊥) → (w ≡ OfData → ⊥)
      → (f d : ℕ) → draft_basic (suc f) d (here s at) ≡ refused 3 p
  unfolding draft_basic draft_word ◌>>=◌ when◌then◌else◌ is_word
  word_basic e True N t u n b f d = absurd (t refl)
  word_basic e False N t u n b f d = absurd (u refl)
  word_basic e OfNull N t u n b f d = absurd (n refl)
  word_basic e OfData N t u n b f d = absurd (b refl)
  word_basic e Extends N t u n b f d = rw N.is
  word_basic e Root N t u n b f d = rw N.is
  word_basic e Parent N t u n b f d = rw N.is
  word_basic e This N t u n b f d = rw N.is
  word_basic e Attrib N t u n b f d = rw N.is
  word_basic e Lazy N t u n b f d = rw N.is
  word_basic e Host N t u n b f d = rw N.is
  word_basic e Process N t u n b f d = rw N.is
  word_basic e Property N t u n b f d = rw N.is
  word_basic e Iproperty N t u n b f d = rw N.is

  end_basic : Stood s at end p → (f d : ℕ) → draft_basic (suc f) d (here s at) ≡ refused 3 p
  unfolding draft_basic ◌>>=◌
  end_basic N f d = rw N.is

  pub mark_basic : {m e : ℕ} → Shown s at (mark m) p e → (m ≡ 91 → ⊥) → (f d : ℕ) → draft_basic (suc f) d (here s at) ≡ refused 3 p
  unfolding draft_basic ◌>>=◌
  mark_basic N ne f d = rw (N.is, missing (no_mark s at p _ (Mark _) N 91 (λ z. let e : _ ≡ 91 = cc in ne e)) "[" refl)

  -- a token that is no word and no literal; of marks only another than the bracket
  pub other_basic : (e : ℕ) (k : Kind) → KindIs s at p e k → ((w : Word) → k ≡ Reserved w → ⊥) → ((x : ℕ) → k ≡ kinds.Integer x → ⊥) → (k ≡ kinds.Decimal → ⊥)
      → ((n : ℕ) → k ≡ kinds.Text n → ⊥) → (k ≡ Mark 91 → ⊥) → (f d : ℕ) → draft_basic (suc f) d (here s at) ≡ refused 3 p
  other_basic e Name N w i c t m = no_basic _ (stands N.shown) (free_word _ N.free)
  other_basic e (Reserved x) N w i c t m = absurd (w x refl)
  other_basic e (kinds.Integer x) N w i c t m = absurd (i x refl)
  other_basic e kinds.Decimal N w i c t m = absurd (c refl)
  other_basic e (kinds.Text n) N w i c t m = absurd (t n refl)
  other_basic e (Mark b) N w i c t m = mark_basic N (λ z. m (ap Mark z))
  other_basic e End N w i c t m = end_basic N

  pub fault_basic : (n : ℕ) → next (here s at) ≡ refused n p → (f d : ℕ) → draft_basic (suc f) d (here s at) ≡ refused n p
  unfolding draft_basic ◌>>=◌
  fault_basic n e f d = rw e

  -- ---- what a basic begins with

  module _ (e : ℕ) where
    pub true_basic : Shown s at (name (bytes "true")) p e → BasicFound s at (Boolean true) e
    unfolding draft_basic draft_word ◌>>=◌ when◌then◌else◌ is_word
    true_basic N = record { is = λ f d. rw N.is; ahead = omega (arith, N); within = N.within; light = omega (arith, N) }

    pub false_basic : Shown s at (name (bytes "false")) p e → BasicFound s at (Boolean false) e
    unfolding draft_basic draft_word ◌>>=◌ when◌then◌else◌ is_word
    false_basic N = record { is = λ f d. rw N.is; ahead = omega (arith, N); within = N.within; light = omega (arith, N) }

    pub null_basic : Shown s at (name (bytes "NULL")) p e → BasicFound s at Null e
    unfolding draft_basic draft_word ◌>>=◌ when◌then◌else◌ is_word
    null_basic N = record { is = λ f d. rw N.is; ahead = omega (arith, N); within = N.within; light = omega (arith, N) }

    pub data_basic : (g z : ℕ) → Shown s at (name (bytes "DATA")) p e → PathSeen s e g z → BasicFound s at (Data e z) g
    unfolding draft_basic draft_word ◌>>=◌ when◌then◌else◌ is_word
    data_basic g z N P = record { is = λ f d. rw (N.is, P.is, P.size); ahead = omega (arith, N, P.ahead); within = P.within; light = omega (arith, N, P.light, P.ahead) }

    pub data_fault : (n q : ℕ) → Shown s at (name (bytes "DATA")) p e → path (here s e) ≡ refused n q → (f d : ℕ) → draft_basic (suc f) d (here s at) ≡ refused n q
    unfolding draft_basic draft_word ◌>>=◌ when◌then◌else◌ is_word
    data_fault n q N P f d = rw (N.is, P)

    pub integer_basic : (x : ℕ) → IntegerSeen s at p e x → BasicFound s at (Integer x) e
    unfolding draft_basic ◌>>=◌ draft_literal
    integer_basic x N = record { is = λ f d. rw (N.shown.is, N.bits); ahead = omega (arith, N.shown); within = N.shown.within; light = omega (arith, N.shown) }

    pub decimal_basic : DecimalSeen s at p e → BasicFound s at (Decimal p (e - p + 2)) e
    unfolding draft_basic ◌>>=◌ draft_literal
    decimal_basic N =
        let z : e - p + 2 ≡ 2 + length N.said = omega (arith, N.long, N.shown) in
        record { is = λ f d. rw (N.shown.is, z); ahead = omega (arith, N.shown); within = N.shown.within; light = omega (arith, N.shown) }

    pub text_basic : (n : ℕ) → TextSeen s at p e n → BasicFound s at (Text p (n + 2)) e
    unfolding draft_basic ◌>>=◌ draft_literal
    text_basic n N =
        let z : n + 2 ≡ 2 + length N.said = omega (arith, N.size) in
        record { is = λ f d. rw (N.shown.is, z); ahead = omega (arith, N.shown); within = N.shown.within; light = omega (arith, N.shown, N.short) }

    pub vector_basic : Shown s at (mark 91) p e → BasicFound s at (Vector p) e
    unfolding draft_basic ◌>>=◌ rest_vector
    vector_basic N = record { is = λ f d. rw (N.is, expected "[" N); ahead = omega (arith, N); within = N.within; light = omega (arith, N) }
