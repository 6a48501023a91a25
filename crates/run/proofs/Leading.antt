-- One name of a path after another. Assumes nothing.
use Prim.Native.Nat.{ℕ, suc, ◌+◌, ◌≤◌}
use native.Mathlib.Omega.{arith}
use native.Mathlib.Nat.{add-zero}
use mathlib.Core.Path.{◌≡◌, refl, sym, ap, ◌∙◌, subst}
use mathlib.Core.List.{List, [], ◌∷◌, ◌++◌, append_assoc}
use mathlib.Core.Option.{none, some}
use lib.ListN.{length, drop, length-append}
use lib.Seq.{drop_at}
use Rattle.paper.specs.Answer.{ok, refused, ◌>>=◌}
use Rattle.paper.specs.Syntax.{Name, Path, Basic, boolean, null, integer, decimal, string, reference, vector}
use Rattle.paper.specs.Store.{Store, Value, basic, component, put, lookup, find, bind}
use Rattle.paper.specs.Layout.{Row, table_row, kind}
use Rattle.rows.specs.Search.{seek}
use Rattle.rows.specs.Flat.{sized, flat, flat_value, Low}
use Rattle.rows.proofs.Trees.{line, head, beneath, flat_head, Spot, Spot.absent, Spot.present, spot}
use Rattle.refusal.specs.Refused.{number_of}
use Rattle.refusal.specs.declared.Reason.{Reason}
use Rattle.refusal.specs.declared.Reason.TheVariants.{TargetAbsent, TargetIsNoComponent}
use Rattle.std.specs.Prelude.{Result, Ok, Err}
use Rattle.run.specs.Paths.{Bound, Reached, Missing, Descends}

pub none≢some : {A : Type 0} {a : A} → none ≡ some a → ⊥
none≢some e = let z : ◌≡◌ {A = ℕ} 0 1 = cc in absurd (omega arith)

pub some_is : {A : Type 0} {a b : A} → some a ≡ some b → a ≡ b
some_is e = cc

-- ---- in the store

-- a first name that leads to a component
bind_through : (p : ℕ) (n : Name) (r : Path) (m : Name) (v : Value) (s c : Store) → lookup s n ≡ some (component c)
    → bind p (n ∷ (r ++ (m ∷ []))) v s ≡ bind p (r ++ (m ∷ [])) v c >>= λ c. ok (put s n (component c))
unfolding bind ◌>>=◌
bind_through p n [] m v s c e = rw (e, bind)
bind_through p n (x ∷ r) m v s c e = rw (e, bind)

bind_absent : (p : ℕ) (n : Name) (r : Path) (m : Name) (v : Value) (s : Store) → lookup s n ≡ none → bind p (n ∷ (r ++ (m ∷ []))) v s ≡ refused 14 p
unfolding bind
bind_absent p n [] m v s e = rw (e, bind)
bind_absent p n (x ∷ r) m v s e = rw (e, bind)

bind_basic : (p : ℕ) (n : Name) (r : Path) (m : Name) (v : Value) (s : Store) (b : Basic) → lookup s n ≡ some (basic b) → bind p (n ∷ (r ++ (m ∷ []))) v s ≡ refused 15 p
unfolding bind
bind_basic p n [] m v s b e = rw (e, bind)
bind_basic p n (x ∷ r) m v s b e = rw (e, bind)

pub find_first : (n : Name) (r : Path) (s : Store) (v : Value) → lookup s n ≡ some v → find (n ∷ r) (component s) ≡ find r v
unfolding find
find_first n r s v e = rw (e, find)

pub find_none : (n : Name) (r : Path) (s : Store) → lookup s n ≡ none → find (n ∷ r) (component s) ≡ none
unfolding find
find_none n r s e = rw (e, find)

find_basic : (m : Name) (r ns : Path) (b : Basic) → find (ns ++ (m ∷ r)) (basic b) ≡ none
unfolding find
find_basic m r [] b = refl
find_basic m r (x ∷ ns) b = refl

-- ---- among rows

-- the kind of the first of some rows
abbrev pub first_of : List Row → ℕ
first_of [] = 0
first_of (x ∷ xs) = x.first

-- a value's kind is 0 for a component alone
basic_kind : (b : Basic) → 1 ≤ kind b
unfolding kind
basic_kind (boolean b) = omega arith
basic_kind null = omega arith
basic_kind (integer z) = omega arith
basic_kind (decimal t) = omega arith
basic_kind (string t) = omega arith
basic_kind (reference r) = omega arith
basic_kind (vector bs) = omega arith

pub data Sort (d : ℕ) (n : Name) : Value → Type 0 where
  is_basic : {b : Basic} → 1 ≤ (head d n (basic b)).first → Sort d n (basic b)
  is_component : {c : Store} → (head d n (component c)).first ≡ 0 → Sort d n (component c)

pub sort : (d : ℕ) (n : Name) (v : Value) → Sort d n v
unfolding head line sized table_row
sort d n (basic b) = is_basic (basic_kind b)
sort d n (component c) = is_component refl

module _ (xs : List Row) (d : ℕ) (pre q : List Row) (s : Store) (low : Low d q) (is : xs ≡ pre ++ (flat d s ++ q)) (n : Name) (ns : Path) where
  from_here : drop (length pre) xs ≡ flat d s ++ q
  from_here = ap (drop (length pre)) is ∙ drop_at pre (flat d s ++ q) (length pre) refl

  -- the rows where a name was found
  module _ (v : Value) (a z : List Row) (t : flat d s ≡ a ++ (flat_value d n v ++ z)) where
    abbrev pre' : List Row
    pre' = (pre ++ a) ++ (head d n v ∷ [])

    -- with anything in the place of the rows beneath
    around : (x : List Row) → pre ++ ((a ++ ((head d n v ∷ x) ++ z)) ++ q) ≡ pre' ++ (x ++ (z ++ q))
    around x =
        ap (λ r. pre ++ r) (append_assoc a ((head d n v ∷ x) ++ z) q ∙ ap (λ r. a ++ (head d n v ∷ r)) (append_assoc x z q))
        ∙ sym (append_assoc pre a (head d n v ∷ (x ++ (z ++ q)))) ∙ sym (append_assoc (pre ++ a) (head d n v ∷ []) (x ++ (z ++ q)))

    found_rows : xs ≡ pre' ++ (beneath d v ++ (z ++ q))
    found_rows = is ∙ ap (λ r. pre ++ (r ++ q)) (t ∙ ap (λ r. a ++ (r ++ z)) (flat_head d n v)) ∙ around (beneath d v)

    found_first : (i : ℕ) → i ≡ length a + length pre → first_of (drop i xs) ≡ (head d n v).first
    found_first i e =
        let f : drop i xs ≡ head d n v ∷ (beneath d v ++ (z ++ q)) =
        ap (drop i) (found_rows ∙ append_assoc (pre ++ a) (head d n v ∷ []) (beneath d v ++ (z ++ q))) ∙ drop_at (pre ++ a) (head d n v ∷ (beneath d v ++ (z ++ q))) i (length-append pre a ∙ omega arith) in
        ap first_of f

    found_length : (i : ℕ) → i ≡ length a + length pre → length pre' ≡ suc i
    found_length i e = simp length-append (omega arith)

-- ---- one name of the path

-- what the path's other names lead to from the component that its first name leads to, they lead to from here
module _ (xs : List Row) (d : ℕ) (pre q : List Row) (s : Store) (n : Name) (ns : Path) (c : Store) (a z : List Row)
    (looked : lookup s n ≡ some (component c)) (changes : (w : Value) → flat d (put s n w) ≡ a ++ (flat_value d n w ++ z)) where
  abbrev pre'' : List Row
  pre'' = (pre ++ a) ++ (head d n (component c) ∷ [])

  head_same : (e : Store) → head d n (component e) ≡ head d n (component c)
  unfolding head
  head_same e = refl

  changed : (e : Store) → pre ++ (flat d (put s n (component e)) ++ q) ≡ pre'' ++ (flat (suc d) e ++ (z ++ q))
  unfolding beneath
  changed e =
      ap (λ r. pre ++ (r ++ q)) (changes (component e) ∙ ap (λ r. a ++ (r ++ z)) (flat_head d n (component e) ∙ ap (λ x. x ∷ flat (suc d) e) (head_same e)))
      ∙ ap (λ r. pre ++ r) (append_assoc a ((head d n (component c) ∷ flat (suc d) e) ++ z) q ∙ ap (λ r. a ++ (head d n (component c) ∷ r)) (append_assoc (flat (suc d) e) z q))
      ∙ sym (append_assoc pre a (head d n (component c) ∷ (flat (suc d) e ++ (z ++ q)))) ∙ sym (append_assoc (pre ++ a) (head d n (component c) ∷ []) (flat (suc d) e ++ (z ++ q)))

  binds_up : (p : ℕ) (m : Name) (v : Value) (new : List Row) → Bound (suc d) pre'' (z ++ q) (bind p (ns ++ (m ∷ [])) v c) new → Bound d pre q (bind p ((n ∷ ns) ++ (m ∷ [])) v s) new
  unfolding ◌>>=◌
  binds_up p m v new h =
      record {
        store = put s n (component h.store);
        is = bind_through p n ns m v s c looked ∙ ap (λ o. o >>= λ c. ok (put s n (component c))) h.is;
        rows = changed h.store ∙ h.rows;
      }

  finds_up : (m : Name) (r : Path) → find ((n ∷ ns) ++ (m ∷ r)) (component s) ≡ find (ns ++ (m ∷ r)) (component c)
  finds_up m r = find_first n (ns ++ (m ∷ r)) s (component c) looked

  pub reached_up : (lo : ℕ) → Reached xs (suc d) ns pre'' (z ++ q) c lo → Reached xs d (n ∷ ns) pre q s lo
  reached_up lo h =
      let e : suc d + length ns ≡ d + suc (length ns) = omega arith in
      record {
        inner = h.inner;
        before = h.before;
        after = h.after;
        at = h.at;
        low = subst (λ k. Low k h.after) e h.low;
        rows = subst (λ k. xs ≡ h.before ++ (flat k h.inner ++ h.after)) e h.rows;
        binds = λ p m v. binds_up p m v _ (subst (λ k. Bound (suc d) pre'' (z ++ q) (bind p (ns ++ (m ∷ [])) v c) (h.before ++ (flat k (put h.inner m v) ++ h.after))) e (h.binds p m v));
        finds = λ m r. finds_up m r ∙ h.finds m r;
      }

  pub missing_up : (k : ℕ) → Missing k ns c → Missing k (n ∷ ns) s
  unfolding ◌>>=◌
  missing_up k h =
      record {
        binds = λ p m v. bind_through p n ns m v s c looked ∙ ap (λ o. o >>= λ c. ok (put s n (component c))) (h.binds p m v);
        finds = λ m r. finds_up m r ∙ h.finds m r;
      }

  pub descends_up : (o : Result ℕ Reason) → Descends xs (suc d) ns pre'' (z ++ q) c o → Descends xs d (n ∷ ns) pre q s o
  descends_up (Ok lo) h = reached_up lo h
  descends_up (Err reason) h = missing_up (number_of reason) h

-- ---- the three ways through a name, and the end of the path

module _ (xs : List Row) (d : ℕ) (pre q : List Row) (s : Store) (low : Low d q) (is : xs ≡ pre ++ (flat d s ++ q)) where
  pub ends : (lo : ℕ) → length pre ≡ lo → Descends xs d [] pre q s (Ok lo)
  unfolding bind
  ends lo e =
      let z : d + 0 ≡ d = add-zero d in
      record {
        inner = s;
        before = pre;
        after = q;
        at = e;
        low = subst (λ k. Low k q) (sym z) low;
        rows = subst (λ k. xs ≡ pre ++ (flat k s ++ q)) (sym z) is;
        binds = λ p m v. record { store = put s m v; is = refl; rows = ap (λ k. pre ++ (flat k (put s m v) ++ q)) (sym z) };
        finds = λ m r. refl;
      }

  module _ (n : Name) (ns : Path) (lo : ℕ) (e : length pre ≡ lo) where
    look : drop lo xs ≡ flat d s ++ q
    look = ap (λ k. drop k xs) (sym e) ∙ from_here xs d pre q s low is n ns

    pub absent_here : seek n d (drop lo xs) lo ≡ none → Descends xs d (n ∷ ns) pre q s (Err TargetAbsent)
    absent_here h = go (spot n d q low s lo)
      where
        go : Spot n d s q lo → Missing 14 (n ∷ ns) s
        go (absent f k g) = record { binds = λ p m v. bind_absent p n ns m v s f; finds = λ m r. find_none n (ns ++ (m ∷ r)) s f }
        go (present v a z f k t l g) = absurd (none≢some (sym h ∙ ap (λ r. seek n d r lo) look ∙ k))

    -- what stands where a name was found
    pub data Hit (i : ℕ) : Type 0 where
      hit_basic : (b : Basic) → lookup s n ≡ some (basic b) → 1 ≤ first_of (drop i xs) → Hit i
      hit_component : (c : Store) (a z : List Row) → lookup s n ≡ some (component c) → ((w : Value) → flat d (put s n w) ≡ a ++ (flat_value d n w ++ z))
          → first_of (drop i xs) ≡ 0 → Low (suc d) (z ++ q) → xs ≡ ((pre ++ a) ++ (head d n (component c) ∷ [])) ++ (flat (suc d) c ++ (z ++ q)) → length ((pre ++ a) ++ (head d n (component c) ∷ [])) ≡ i + 1 → Hit i

    pub hit_here : (i : ℕ) → seek n d (drop lo xs) lo ≡ some i → Hit i
    unfolding beneath
    hit_here i h = go (spot n d q low s lo)
      where
        go : Spot n d s q lo → Hit i
        go (absent f k g) = absurd (none≢some (sym k ∙ ap (λ r. seek n d r lo) (sym look) ∙ h))
        go (present v a z f k t l g) =
            let ei : i ≡ length a + length pre = some_is (sym h ∙ ap (λ r. seek n d r lo) look ∙ k) ∙ ap (λ j. length a + j) (sym e) in
            sorted v f t (found_first xs d pre q s low is n ns v a z t i ei) (sort d n v) ei
          where
            sorted : (v : Value) → lookup s n ≡ some v → flat d s ≡ a ++ (flat_value d n v ++ z) → first_of (drop i xs) ≡ (head d n v).first → Sort d n v → i ≡ length a + length pre → Hit i
            sorted (basic b) f t m (is_basic o) ei = hit_basic b f (omega (arith, m, o))
            sorted (component c) f t m (is_component o) ei =
                hit_component c a z f g (m ∙ o) l (found_rows xs d pre q s low is n ns (component c) a z t) (found_length xs d pre q s low is n ns (component c) a z t i ei ∙ omega arith)

    pub stuck_here : (i : ℕ) → seek n d (drop lo xs) lo ≡ some i → (first_of (drop i xs) ≡ 0 → ⊥) → Descends xs d (n ∷ ns) pre q s (Err TargetIsNoComponent)
    stuck_here i h nz = go (hit_here i h)
      where
        go : Hit i → Missing 15 (n ∷ ns) s
        go (hit_basic b f o) = record { binds = λ p m v. bind_basic p n ns m v s b f; finds = λ m r. find_first n (ns ++ (m ∷ r)) s (basic b) f ∙ find_basic m r ns b }
        go (hit_component c a z f g o l r k) = absurd (nz o)

    -- the path's other names, from the component that was found
    pub on_from_here : (i : ℕ) (o : Result ℕ Reason) → seek n d (drop lo xs) lo ≡ some i → first_of (drop i xs) ≡ 0
        → ((pre q : List Row) (s : Store) → Low (suc d) q → length pre ≡ i + 1 → xs ≡ pre ++ (flat (suc d) s ++ q) → Descends xs (suc d) ns pre q s o) → Descends xs d (n ∷ ns) pre q s o
    on_from_here i o h z again = go (hit_here i h)
      where
        go : Hit i → Descends xs d (n ∷ ns) pre q s o
        go (hit_basic b f k) = absurd (omega arith)
        go (hit_component c a y f g m l r k) = descends_up xs d pre q s n ns c a y f g o (again ((pre ++ a) ++ (head d n (component c) ∷ [])) (y ++ q) c l k r)
