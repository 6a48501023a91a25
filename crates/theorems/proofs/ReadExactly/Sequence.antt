-- The tokens of a source as the scanner finds them, in turn: those that are spelt, and any. Assumes nothing.
use Prim.Native.Nat.{ℕ}
use mathlib.Core.Path.{◌≡◌, ◌∙◌, ap}
use mathlib.Core.List.{List, [], ◌∷◌, ◌++◌}
use Rattle.paper.specs.Answer.{ok}
use Rattle.paper.specs.Tokens.{Token, end, Here}
use Rattle.paper.specs.Scanner.{next}
use Rattle.paper.specs.Grammar.{Spelt}
use Rattle.paper.specs.Described.{start, Sits}

-- the next tokens at the first place are those spelt, one by one, and the second place is after them
pub data Reads : Here → List Spelt → Here → Type 0 where
  done : {at : Here} → Reads at [] at
  more : {at h after out : Here} {x : Spelt} {xs : List Spelt} → next at ≡ ok (x.0, h, after) → Sits x.1 h.place → Reads after xs out → Reads at (x ∷ xs) out

-- all the tokens of the source, up to its end, are those spelt
pub record Tokens (source : List ℕ) (xs : List Spelt) : Type 0 where
  pub out : Here
  pub h : Here
  pub after : Here
  pub reads : Reads (start source) xs out
  pub ended : next out ≡ ok (end, h, after)

-- the next tokens at the first place are these, wherever they stand, and the second place is after them
pub data Scans : Here → List Token → Here → Type 0 where
  none_yet : {at : Here} → Scans at [] at
  and_then : {at h after out : Here} {t : Token} {ts : List Token} → next at ≡ ok (t, h, after) → Scans after ts out → Scans at (t ∷ ts) out

-- ---- laws

pub step : {at out : Here} {x : Token × Here × Here} {y : Spelt} {ys : List Spelt} → next at ≡ ok x → x.0 ≡ y.0 → Sits y.1 x.1.place → Reads x.2 ys out → Reads at (y ∷ ys) out
step {x = x} e q s r = more (e ∙ ap (λ t. ok (t, x.1, x.2)) q) s r

pub join : {at mid out : Here} {xs ys : List Spelt} → Reads at xs mid → Reads mid ys out → Reads at (xs ++ ys) out
join done s = s
join (more e p r) s = more e p (join r s)

pub record Split (at : Here) (xs ys : List Spelt) (out : Here) : Type 0 where
  pub mid : Here
  pub first : Reads at xs mid
  pub second : Reads mid ys out

pub split : {at out : Here} (xs : List Spelt) {ys : List Spelt} → Reads at (xs ++ ys) out → Split at xs ys out
split {at} [] r = record { mid = at; first = done; second = r }
split (x ∷ xs) (more e p r) = let s = split xs r in record { mid = s.mid; first = more e p s.first; second = s.second }

-- the first of the tokens
pub record First (at : Here) (x : Spelt) (xs : List Spelt) (out : Here) : Type 0 where
  pub h : Here
  pub after : Here
  pub is : next at ≡ ok (x.0, h, after)
  pub sits : Sits x.1 h.place
  pub second : Reads after xs out

pub uncons : {at out : Here} {x : Spelt} {xs : List Spelt} → Reads at (x ∷ xs) out → First at x xs out
uncons (more {h = h} {after = a} e p r) = record { h = h; after = a; is = e; sits = p; second = r }

-- the last of the tokens
pub record Last (at : Here) (x : Spelt) (out : Here) : Type 0 where
  pub h : Here
  pub is : next at ≡ ok (x.0, h, out)
  pub sits : Sits x.1 h.place

pub final : {at out : Here} {x : Spelt} → Reads at (x ∷ []) out → Last at x out
final (more {h = h} e p done) = record { h = h; is = e; sits = p }

-- the next token is one of which P holds
pub record Ahead (P : Token → Type 0) (at : Here) : Type 0 where
  pub token : Token
  pub h : Here
  pub after : Here
  pub is : next at ≡ ok (token, h, after)
  pub so : P token
