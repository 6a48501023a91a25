-- References: the rules of their readers. Assumes nothing.
use Rattle.std.specs.Prelude.{Result, Ok, Err}
use Prim.Native.Nat.{ℕ, zero, suc, ◌+◌, ◌-◌, ◌≤◌, ◌<◌}
use native.Mathlib.Omega.{arith}
use mathlib.Core.Path.{◌≡◌, refl, sym, subst}
use mathlib.Core.List.{List, [], ◌∷◌}
use lib.ListN.{length, length-append}
use Rattle.paper.specs.Bytes.{when◌then◌else◌}
use Rattle.paper.specs.Answer.{refused, ◌>>=◌, demand}
use Rattle.paper.specs.Tokens.{mark, is_mark}
use Rattle.paper.specs.Scanner.{next}
use Rattle.paper.specs.Reader.{names, path, spelling}
use Rattle.paper.specs.Layout.{path_text, names_text, name_text}
use Rattle.grammar.specs.Places.{here, Shown}
use Rattle.grammar.specs.Seen.{NameSeen, NotMark, Unlike, absent, another}
use Rattle.grammar.specs.Paths.{NamesIs, PathIs}
use Rattle.refusal.specs.declared.Refusal.{Refusal}
use Rattle.refusal.specs.declared.Reason.TheVariants.{TokenTooLong}
use Rattle.grammar.specs.Refusals.{Refuses}
use Rattle.grammar.specs.declared.path.Path.{Path as Read}
use Rattle.grammar.proofs.Rules.Marks.{Unnamed, unnamed, expected}
use Rattle.tokens.specs.declared.Kind.TheVariants.{Name}

names_unnamed : {s : List ℕ} {at p : ℕ} → Unnamed s at p → (k : ℕ) → names k (here s at) ≡ refused 3 p
unfolding names ◌>>=◌ demand
names_unnamed U zero = rw (U.stood.is, U.other)
names_unnamed U (suc k) = rw (U.stood.is, U.other)

names_fault : (s : List ℕ) (at n p : ℕ) → next (here s at) ≡ refused n p → (k : ℕ) → names k (here s at) ≡ refused n p
unfolding names ◌>>=◌
names_fault s at n p e zero = rw e
names_fault s at n p e (suc k) = rw e

pub no_such_name : {s : List ℕ} {at : ℕ} {e : Refusal} → Unlike s at Name e → (k : ℕ) → Refuses (names k (here s at)) e
no_such_name {s} {at} {e} (absent f) = names_fault s at _ _ f
no_such_name {s} {at} {e} (another j m N ne r) = rw r (names_unnamed (unnamed s at e.place m j N ne))

no_names : length (names_text []) ≡ 0
unfolding names_text
no_names = refl

names_size : (n : List ℕ) (r : List (List ℕ)) → length (names_text (n ∷ r)) ≡ length n + 1 + length (names_text r)
unfolding names_text name_text
names_size n r = simp length-append (omega arith)

module _ {s : List ℕ} {at p e : ℕ} (N : NameSeen s at p e) (y : ℕ) where
  too_many : NamesIs 0 s at y (Err (record { reason = TokenTooLong; place = p }))
  unfolding names ◌>>=◌ demand
  too_many = rw (N.shown.is, N.free)

  pub last_name : (k : ℕ) → NotMark s e 58 → NamesIs (suc k) s at y (Ok (record { next = e; size = y + (e - p + 1) }))
  unfolding names ◌>>=◌ demand when◌then◌else◌ spelling
  last_name k M =
      record {
        spelt = N.spelt ∷ [];
        is = rw (N.shown.is, N.free, M.stood.is, M.other ":" refl);
        size = omega (arith, N.long, N.shown, names_size N.spelt [], no_names);
        ahead = omega (arith, N.shown);
        within = N.shown.within;
        light = omega (arith, N.shown);
      }

  pub fault_after : (k : ℕ) (x : Refusal) → Refuses (next (here s e)) x → NamesIs (suc k) s at y (Err x)
  unfolding names ◌>>=◌ demand
  fault_after k x f = rw (N.shown.is, N.free, f)

  module _ (q g : ℕ) (M : Shown s e (mark 58) q g) where
    pub more_names : (k : ℕ) (r : Result Read Refusal) → NamesIs k s g (y + (e - p + 1)) r → NamesIs (suc k) s at y r
    unfolding names ◌>>=◌ demand when◌then◌else◌ is_mark spelling
    more_names k (Ok x) R =
        record {
          spelt = N.spelt ∷ R.spelt;
          is = rw (N.shown.is, N.free, M.is, expected ":" M, R.is);
          size = omega (arith, R.size, N.long, N.shown, names_size N.spelt R.spelt);
          ahead = omega (arith, R.ahead, M, N.shown);
          within = R.within;
          light = omega (arith, R.light, M, N.shown);
        }
    more_names k (Err x) R = rw (N.shown.is, N.free, M.is, expected ":" M, R)

pub whole_path : (s : List ℕ) (at : ℕ) (r : Result Read Refusal) → NamesIs 32 s at 1 r → PathIs s at r
unfolding path path_text
whole_path s at (Ok x) R = record { spelt = R.spelt; is = R.is; size = omega (arith, R.size); ahead = R.ahead; within = R.within; light = omega (arith, R.light) }
whole_path s at (Err x) R = R

-- the loop that reads names: whatever is read from here on is, with what was read before, what is read from the start
pub record PathLoop (s : List ℕ) (at i left size : ℕ) : Type 0 where
  pub within : i ≤ length s
  pub few : size ≤ i + 1
  pub onward : (r : Result Read Refusal) → NamesIs left s i size r → NamesIs 32 s at 1 r

-- one more name is read: one less may follow
pub one_less : (i : ℕ) → i < 32 → (s : List ℕ) (at y : ℕ) (r : Result Read Refusal) → NamesIs (suc (32 - (i + 1))) s at y r → NamesIs (32 - i) s at y r
one_less i h s at y r R = let e : suc (32 - (i + 1)) ≡ 32 - i = omega arith in subst (λ (j : ℕ). NamesIs j s at y r) e R

-- a name stands where none may follow
pub one_too_many : {s : List ℕ} {at i left size p e : ℕ} → PathLoop s at i left size → left ≡ 0 → NameSeen s i p e → path (here s at) ≡ refused 6 p
unfolding path
one_too_many {s} {at} {i} {left} {size} {p} L z N =
    let x : Result Read Refusal = Err (record { reason = TokenTooLong; place = p }) in
    L.onward x (subst (λ (j : ℕ). NamesIs j s i size x) (sym z) (too_many N size))
