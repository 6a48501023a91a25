-- One step, from what its calls answer. Assumes nothing.
use Prim.Native.Nat.{ℕ, suc, ◌+◌, ◌-◌, ◌*◌, ◌%◌, ◌≤◌, ◌<◌}
use native.Mathlib.Omega.{arith}
use mathlib.Core.Path.{◌≡◌, refl, sym, ap, ◌∙◌, subst}
use mathlib.Core.Logic.{inl}
use mathlib.Core.List.{List, [], ◌∷◌, ◌++◌, append-nil}
use mathlib.Core.Option.{some}
use lib.ListN.{length, take, drop, get_or, length-append, length-drop}
use lib.Seq.{drop_at, take_at, take_all, get_or-drop}
use borrow.Author.Tests.{ne_eqb}
use Rattle.paper.specs.Bytes.{when◌then◌else◌}
use Rattle.paper.specs.Syntax.{Name, Path}
use Rattle.paper.specs.Store.{Store, ∅, Value, basic, component, resolve, resolve_in}
use Rattle.paper.specs.Bounds.{assign}
use Rattle.paper.specs.Meaning.{linked, inherit, copy}
use Rattle.paper.specs.Layout.{Field, number, text, Row, name_text, path_text, text_of, table_row, figure, row_text, texts, deepest}
use Rattle.paper.specs.Layout as Layout
use Rattle.paper.specs.Steps as Steps
use Rattle.paper.specs.StepLayout.{step_rows, step_row}
use Rattle.paper.specs.WellFormed.{IsPath, IsPlace}
use Rattle.memory.specs.Memory.{word_at, stored}
use Rattle.memory.proofs.Laws.{length_stored, word_in, same_word, word_other}
use Rattle.std.specs.Prelude as Std
use Rattle.rows.specs.View.{groups, view, byte_of, label_of, label_text, name_of, value_of}
use Rattle.rows.specs.Search.{text_bytes}
use Rattle.rows.specs.Change.{field_at, row_bytes, row_stored}
use Rattle.rows.specs.Flat.{sized, flat, flat_value}
use Rattle.rows.proofs.Views.{seen_row, view_row}
use Rattle.rows.proofs.Trees.{line, head, beneath, flat_head, flat_none, deepest_flat, text_bytes_flat}
use Rattle.refusal.specs.declared.Reason.{Reason}
use Rattle.refusal.specs.declared.Reason.TheVariants.{LinkFindsNothing, PrototypeFindsNothing, PrototypeIsNoComponent}
use Rattle.run.specs.declared.size.Size.{Size}
use Rattle.std.specs.Prelude.{Result, Err}
use Rattle.run.specs.Paths.{names, StandsAt, FindIs, ResolvesIn}
use Rattle.run.specs.Puts.{Held, RanIs, Assigns, Copies}
use Rattle.run.specs.Takes.{AttributesTaken, ValueTaken}
use Rattle.run.specs.Listed.{SetIn, Lies, path_count, places, step_field}
use Rattle.run.specs.Stepping.{scope_in, ScopeKept, Target, NamesPut, BindsLast, Makes, Sets, Links, Takes}
use Rattle.run.proofs.Leading.{Sort, Sort.is_basic, Sort.is_component, sort, first_of}
use Rattle.run.proofs.Walking.{kind_here}
use Rattle.run.proofs.Finding.{length_names, names_take}
use Rattle.run.proofs.Assigning.{name_there}
use Rattle.run.proofs.Taking.{byte_label}
use Rattle.run.proofs.Lying.{lies_first, lies_label, lies_value, small_take, small_link}
use Rattle.run.proofs.Placing.{put_none, length_places, path_placed, names_stored, names_kept}

-- the part of a slice from a place on
pub cut : (s : List ℕ) (a k : ℕ) → length s ≡ a + k → take k (drop a s) ≡ drop a s
cut s a k e = let h : length (drop a s) ≤ k = omega (arith, length-drop a s) in take_all k (drop a s) h

pub cut_long : (s : List ℕ) (a k n : ℕ) → length s ≡ a + k → n ≤ k → n ≤ length (take k (drop a s))
cut_long s a k n e h = rw (cut s a k e, length-drop) (omega arith)

few_path : (t : List ℕ) (p : ℕ) → path_count t p ≤ 32
unfolding path_count
few_path t p = omega arith

pub names_none : (t s : List ℕ) (p at : ℕ) → 32768 < p → NamesPut t p s at s 0
names_none t s p at h = record { few = omega arith; is = put_none t s (p + 1) at; count = λ l. absurd (omega arith) }

pub names_some : (t s s' : List ℕ) (p at n : ℕ) → n ≡ path_count t p → s' ≡ stored s at (places t (p + 1) n) → NamesPut t p s at s' n
names_some t s s' p at n e f = record { few = omega (arith, e, few_path t p); is = f; count = λ _. e }

-- ---- the target

module _ (t u z : List ℕ) (k : ℕ) (front : Path) (last : Name) (some-name : 1 ≤ k) (T : Target t u z k front last) where
  pub front_length : length front ≡ k - 1
  front_length =
      let a : length (names t u z k) ≡ length front + 1 = ap length T.names_are ∙ length-append front (last ∷ []) in
      omega (arith, a, length_names t u z k)

  pub front_is : names t u z (k - 1) ≡ front
  front_is = sym (names_take t u z k (k - 1) (omega arith)) ∙ ap (take (k - 1)) T.names_are ∙ take_at front (last ∷ []) (k - 1) front_length

pub binds_last : (t u w s w' : List ℕ) (n m k tb label : ℕ) (name : Name) (r : Result Size Reason) → 1 ≤ k → name ≡ name_of t u label → Assigns t u n (names t u (drop 32768 s) (k - 1)) name m tb w s w' r → BindsLast t u n tb k label m s w w' r
binds_last t u w s w' n m k tb label name r some-name en A st front last v p held T el hv =
    let z : List ℕ = drop 32768 s in
    let a : names t u z (k - 1) ≡ front = front_is t u z k front last some-name T in
    let b : name ≡ last = en ∙ ap (name_of t u) el ∙ name_there t u (word_at 2 z ((k - 1) * 2)) last T.label in
    let d : k ≡ 1 + length (names t u z (k - 1)) = omega (arith, length_names t u z (k - 1)) in
    let e : names t u z (k - 1) ++ (name ∷ []) ≡ front ++ (last ∷ []) = λ i. a i ++ (b i ∷ []) in
    subst (λ x. RanIs p (view t u w') (assign p x v st) r) e (A st v p held (hv ∙ (λ i. flat_value (d i) (sym b i) v)))

-- ---- make

name_size : (n : Name) → 1 + length n ≡ length (name_text n ++ [])
unfolding name_text
name_size n = omega (arith, length-append n [])

module _ (t u s : List ℕ) (k label size : ℕ) (name : Name) (low : label < 32768) (few : k ≤ 64) (named : label_text t u label ≡ name_text name) (es : size ≡ 1 + byte_of t u label) (es' : size < 65536) (room : 65536 ≤ length s) where
  label_is : label_of t u label ≡ text (name_text name)
  unfolding label_of when◌then◌else◌
  label_is = rw (ne_eqb label 65535 (λ e. omega arith)) (ap text named)

  empty_row : seen_row t u 0 k label size 0 ≡ head k name (component ∅)
  unfolding seen_row head line sized table_row row_text text_of value_of when◌then◌else◌
  empty_row =
      let a : size ≡ length (name_text name ++ []) = es ∙ ap (λ x. 1 + x) (byte_label t u label name named) ∙ name_size name in
      λ i. record { first = 0; second = k; label = label_is i; span = a i; value = number 0; last = [] }

  pub empty_rows : view t u (row_stored s 0 (row_bytes 0 k label size 0)) 1 ≡ flat_value k name (component ∅)
  unfolding view groups beneath
  empty_rows =
      view_row t u 0 k label size 0 (omega arith) (omega arith) (omega arith) es' (omega arith) s 0 (omega arith) (omega arith) ∙ ap (λ x. x ∷ []) empty_row
      ∙ sym (flat_head k name (component ∅) ∙ ap (λ r. head k name (component ∅) ∷ r) (flat_none (suc k)))

-- ---- a reference's names

pub reference_there : (t u s s' : List ℕ) (p m : ℕ) (r : Path) (more : List ℕ) → NamesPut t p s 33024 s' m → IsPath r → length t ≤ 32768 → 65536 ≤ length s → p ≤ 32768 → drop p t ≡ path_text r ++ more → (m ≡ length r) × (names t u (drop 33024 s') m ≡ r)
reference_there t u s s' p m r more N P h room low e =
    let Q = path_placed t u p r more P h e in
    let c : m ≡ length r = N.count low ∙ Q.0 in
    let l = length_places t (p + 1) m in
    let f = N.few in
    let a : names t u (drop 33024 s') m ≡ names t u (places t (p + 1) m) m = ap (λ x. names t u (drop 33024 x) m) N.is ∙ names_stored t u s 33024 (places t (p + 1) m) m (omega arith) (omega arith) in
    let b : names t u (places t (p + 1) m) m ≡ r = (λ i. names t u (places t (p + 1) (c i)) (c i)) ∙ ap (λ x. names t u x (length r)) (sym (append-nil (places t (p + 1) (length r)))) ∙ Q.1 [] in
    (c, a ∙ b)

pub reference_kept : (t s s' : List ℕ) (p m : ℕ) → NamesPut t p s 33024 s' m → 65536 ≤ length s → ScopeKept s s'
reference_kept t s s' p m N room x u =
    ap (λ y. names x u (drop 32768 y) 64) N.is ∙ names_kept x u s 32768 64 33024 (places t (p + 1) m) (inl (omega arith)) (omega arith)

pub drop_kept : (s s' : List ℕ) → drop 32768 s' ≡ drop 32768 s → ScopeKept s s'
drop_kept s s' e t u = ap (λ y. names t u y 64) e

pub kept_then : (a b c : List ℕ) → ScopeKept a b → ScopeKept b c → ScopeKept a c
kept_then a b c f g t u = g t u ∙ f t u

-- fewer names are kept as well
pub kept_fewer : (s s' t u : List ℕ) (k : ℕ) → ScopeKept s s' → k ≤ 64 → scope_in t u s' k ≡ scope_in t u s k
kept_fewer s s' t u k K h = sym (names_take t u (drop 32768 s') 64 k h) ∙ ap (take k) (K t u) ∙ names_take t u (drop 32768 s) 64 k h

-- ---- the target, while other bytes change

pub word_drop : (n : ℕ) (s : List ℕ) (a x : ℕ) → a + (x + n) ≤ length s → word_at n (drop a s) x ≡ word_at n s (a + x)
word_drop n s a x h =
    word_in n (drop a s) x (simp length-drop (omega arith)) ∙ same_word n (drop a s) s x (a + x) (λ k l. let q : a + (x + k) ≡ a + x + k = omega arith in get_or-drop a s (x + k) 0 ∙ ap (λ j. get_or s j 0) q) ∙ sym (word_in n s (a + x) (omega arith))

module _ (t u s s' : List ℕ) (p m k : ℕ) (N : NamesPut t p s 33024 s' m) (room : 65536 ≤ length s) (l₁ : 1 ≤ k) (l₂ : k ≤ 64) where
  pub label_kept : word_at 2 (drop 32768 s') ((k - 1) * 2) ≡ word_at 2 (drop 32768 s) ((k - 1) * 2)
  label_kept =
      let x : ℕ = (k - 1) * 2 in
      let l : length s' ≡ length s = ap length N.is ∙ length_stored s 33024 (places t (p + 1) m) in
      word_drop 2 s' 32768 x (omega arith) ∙ ap (λ y. word_at 2 y (32768 + x)) N.is ∙ word_other 2 s 33024 (places t (p + 1) m) (32768 + x) (inl (omega arith)) ∙ sym (word_drop 2 s 32768 x (omega arith))

  pub target_kept : (front : Path) (last : Name) → Target t u (drop 32768 s) k front last → Target t u (drop 32768 s') k front last
  target_kept front last T =
      record {
        names_are = kept_fewer s s' t u k (reference_kept t s s' p m N room) l₂ ∙ T.names_are;
        low = subst (λ y. y < 32768) (sym label_kept) T.low;
        label = subst (λ y. label_text t u y ≡ name_text last) (sym label_kept) T.label;
      }

-- ---- measures of a store that is held

pub held_shallow : (xs : List Row) (tb : ℕ) (st : Store) → Held xs tb st → deepest xs ≤ 32
held_shallow xs tb st h = omega (arith, ap deepest h.rows, deepest_flat 1 st, h.bounds.depth)

pub held_short : (xs : List Row) (tb : ℕ) (st : Store) → Held xs tb st → text_bytes xs ≤ 16384
held_short xs tb st h = omega (arith, ap text_bytes h.rows, text_bytes_flat 1 st, h.bounds.text)

-- ---- what resolve finds, in the whole scope

module _ (t u w s : List ℕ) (n j m : ℕ) where
  abbrev xs : List Row
  xs = view t u w n

  pub resolved : (r : Path) (o : Std.Option ℕ) (st : Store) → ResolvesIn xs j (scope_in t u s j) r o → xs ≡ flat 1 st → FindIs xs (resolve (scope_in t u s j) r st) o
  unfolding resolve
  resolved r o st R e =
      let l : length (scope_in t u s j) ≡ j = length_names t u (drop 32768 s) j in
      subst (λ k. FindIs xs (resolve_in k (scope_in t u s j) r st) o) (sym l) (R st (scope_in t u s j) e (take_all j (scope_in t u s j) (omega arith)))

-- ---- the steps

-- the place that was read is the last name's
abbrev pub LabelRead : List ℕ → ℕ → ℕ → Type 0
LabelRead z k label = (label < 32768) × (word_at 2 z ((k - 1) * 2) < 32768 → label ≡ word_at 2 z ((k - 1) * 2))

module _ (t u w s s₁ w' : List ℕ) (n tb k label size : ℕ) (r : Result Size Reason) (room : 65536 ≤ length s) (l₁ : 1 ≤ k) (l₂ : k ≤ 64) (L : LabelRead (drop 32768 s) k label) where
  pub makes : size ≡ 1 + byte_of t u label → size < 65536 → s₁ ≡ row_stored s 0 (row_bytes 0 k label size 0) → drop 32768 s₁ ≡ drop 32768 s → BindsLast t u n tb k label 1 s₁ w w' r → Makes t u n tb k s w w' r
  makes es ls e₁ ed B st front last p held T =
      let el = L.1 T.low in
      let named : label_text t u label ≡ name_text last = ap (label_text t u) el ∙ T.label in
      B st front last (component ∅) p held (subst (λ z. Target t u z k front last) (sym ed) T) (el ∙ ap (λ z. word_at 2 z ((k - 1) * 2)) (sym ed))
      (ap (λ x. view t u x 1) e₁ ∙ empty_rows t u s k label size last L.0 l₂ named es ls room)

  pub sets : (list : List ℕ) (i rows : ℕ) → SetIn list t i label k s s₁ rows → drop 32768 s₁ ≡ drop 32768 s → BindsLast t u n tb k label rows s₁ w w' r → Sets list i t u n tb k s w w' r
  sets list i rows S ed B st front last p q l b rest held T Y hl hb h =
      let el = L.1 T.low in
      let named : label_text t u label ≡ name_text last = ap (label_text t u) el ∙ T.label in
      B st front last (basic b) p held (subst (λ z. Target t u z k front last) (sym ed) T) (el ∙ ap (λ z. word_at 2 z ((k - 1) * 2)) (sym ed)) (S p q l b rest u last Y hl hb h named).1

-- ---- link

module _ (list t u w s s₁ : List ℕ) (i n tb j k label p₀ m : ℕ) (room : 65536 ≤ length s) (l₁ : 1 ≤ k) (l₂ : k ≤ 64) (lj : j ≤ 32) (L : LabelRead (drop 32768 s) k label)
    (ep : p₀ ≡ step_field 8 list i 8 % 65536) (N : NamesPut t p₀ s 33024 s₁ m) where
  -- where the reference stands, and what its names are
  pub record Refers (r : Path) : Type 0 where
    pub count : m ≡ length r
    pub names_are : names t u (drop 33024 s₁) m ≡ r
    pub scope : scope_in t u s₁ j ≡ scope_in t u s j

  pub link_refers : (p q : ℕ) (l r : Path) (rest : List Row) → Lies list t i q (step_rows (Steps.link p l r) ++ rest) → IsPath l → IsPath r → IsPlace p → length t ≤ 32768 → Refers r
  unfolding step_rows step_row path_text Layout.names_text text_of figure
  link_refers p q l r rest Y hl hr hp h =
      let S = (small_link p l r hp).0 in
      let F = lies_first Y S h in
      let v : drop (q + length (path_text l)) t ≡ path_text r ++ texts rest = lies_value Y in
      let low : q + length (path_text l) < 32768 = there (q + length (path_text l)) v in
      let e : p₀ ≡ q + length (path_text l) = ep ∙ ap (λ x. x % 65536) F.value ∙ small_mod (q + length (path_text l)) (omega arith) in
      let R = reference_there t u s s₁ p₀ m r (texts rest) N hr h room (omega arith) (ap (λ x. drop x t) e ∙ v) in
      record { count = R.0; names_are = R.1; scope = kept_fewer s s₁ t u j (reference_kept t s s₁ p₀ m N room) (omega arith) }
    where
      small_mod : (x : ℕ) → x < 65536 → x % 65536 ≡ x
      small_mod x h = omega arith

      there : (x : ℕ) → drop x t ≡ path_text r ++ texts rest → x < 32768
      there x e = let a : length (drop x t) ≡ suc (length (Layout.names_text r ++ texts rest)) = ap length e in omega (arith, length-drop x t, a, h)

  pub links_none : (w' : List ℕ) → m < 1 → Links list i t u n tb j k s w w' (Err LinkFindsNothing)
  links_none w' z st front last p q l r rest held T Y hl hr hp h = absurd (omega (arith, z, (link_refers p q l r rest Y hl hr hp h).count, hr.some))

  module _ (o : Std.Option ℕ) (R : ResolvesIn (view t u w n) j (scope_in t u s₁ j) (names t u (drop 33024 s₁) m) o) where
    found_value : (r : Path) (st : Store) → Refers r → view t u w n ≡ flat 1 st → FindIs (view t u w n) (resolve (scope_in t u s j) r st) o
    found_value r st F e =
        subst (λ x. FindIs (view t u w n) (resolve x r st) o) F.scope (subst (λ x. FindIs (view t u w n) (resolve (scope_in t u s₁ j) x st) o) F.names_are (resolved t u w s₁ n j m (names t u (drop 33024 s₁) m) o st R e))

  pub links_nothing : (w' : List ℕ) → ResolvesIn (view t u w n) j (scope_in t u s₁ j) (names t u (drop 33024 s₁) m) Std.None → Links list i t u n tb j k s w w' (Err LinkFindsNothing)
  unfolding linked
  links_nothing w' R st front last p q l r rest held T Y hl hr hp h = rw (found_value Std.None R r st (link_refers p q l r rest Y hl hr hp h) held.rows)

  pub links_value : (at rows : ℕ) (s₂ w' : List ℕ) (o : Result Size Reason) → ResolvesIn (view t u w n) j (scope_in t u s₁ j) (names t u (drop 33024 s₁) m) (Std.Some at) → ValueTaken t u w n at label k s₂ rows → drop 32768 s₂ ≡ drop 32768 s₁
      → BindsLast t u n tb k label rows s₂ w w' o → Links list i t u n tb j k s w w' o
  unfolding linked
  links_value at rows s₂ w' o R taken ed B st front last p q l r rest held T Y hl hr hp h =
      let F = found_value (Std.Some at) R r st (link_refers p q l r rest Y hl hr hp h) held.rows in
      let el = L.1 T.low in
      let named : label_text t u label ≡ name_text last = ap (label_text t u) el ∙ T.label in
      let T₁ = target_kept t u s s₁ p₀ m k N room l₁ l₂ front last T in
      let T₂ : Target t u (drop 32768 s₂) k front last = subst (λ z. Target t u z k front last) (sym ed) T₁ in
      let e₂ : label ≡ word_at 2 (drop 32768 s₂) ((k - 1) * 2) = el ∙ sym (label_kept t u s s₁ p₀ m k N room l₁ l₂) ∙ ap (λ z. word_at 2 z ((k - 1) * 2)) (sym ed) in
      rw F.1 (B st front last F.0 p held T₂ e₂ (taken F.0 last F.2 named (held_shallow (view t u w n) tb st held) (held_short (view t u w n) tb st held)))

-- ---- take

module _ (list t u w s s₁ : List ℕ) (i n tb j k p₀ m : ℕ) (room : 65536 ≤ length s) (l₂ : k ≤ 32) (lj : j ≤ 32) (few : n ≤ 1024) (store-room : n * 16 ≤ length w)
    (ep : p₀ ≡ step_field 2 list i 4) (N : NamesPut t p₀ s 33024 s₁ m) where
  pub record Names (r : Path) : Type 0 where
    pub count : m ≡ length r
    pub names_are : names t u (drop 33024 s₁) m ≡ r

  pub take_refers : (p q : ℕ) (r : Path) (rest : List Row) → Lies list t i q (step_rows (Steps.take p r) ++ rest) → IsPath r → IsPlace p → length t ≤ 32768 → Names r
  unfolding step_rows step_row path_text Layout.names_text text_of figure
  take_refers p q r rest Y hr hp h =
      let S = (small_take p r hp).0 in
      let F = lies_first Y S h in
      let v : drop q t ≡ path_text r ++ texts rest = lies_label Y in
      let low : q < 32768 = there q v in
      let e : p₀ ≡ q = ep ∙ F.path in
      let R = reference_there t u s s₁ p₀ m r (texts rest) N hr h room (omega arith) (ap (λ x. drop x t) e ∙ v) in
      record { count = R.0; names_are = R.1 }
    where
      there : (x : ℕ) → drop x t ≡ path_text r ++ texts rest → x < 32768
      there x e = let a : length (drop x t) ≡ suc (length (Layout.names_text r ++ texts rest)) = ap length e in omega (arith, length-drop x t, a, h)

  scope_kept : (a : ℕ) → a ≤ 32 → scope_in t u s₁ a ≡ scope_in t u s a
  scope_kept a h = kept_fewer s s₁ t u a (reference_kept t s s₁ p₀ m N room) (omega arith)

  pub takes_none : (w' : List ℕ) → m < 1 → Takes list i t u n tb j k s w w' (Err PrototypeFindsNothing)
  takes_none w' z st p q r rest held Y hr hp h = absurd (omega (arith, z, (take_refers p q r rest Y hr hp h).count, hr.some))

  taken_value : (o : Std.Option ℕ) → ResolvesIn (view t u w n) j (scope_in t u s₁ j) (names t u (drop 33024 s₁) m) o → (r : Path) (st : Store) → Names r → view t u w n ≡ flat 1 st → FindIs (view t u w n) (resolve (scope_in t u s j) r st) o
  taken_value o R r st F e =
      subst (λ x. FindIs (view t u w n) (resolve x r st) o) (scope_kept j lj) (subst (λ x. FindIs (view t u w n) (resolve (scope_in t u s₁ j) x st) o) F.names_are (resolved t u w s₁ n j m (names t u (drop 33024 s₁) m) o st R e))

  pub takes_nothing : (w' : List ℕ) → ResolvesIn (view t u w n) j (scope_in t u s₁ j) (names t u (drop 33024 s₁) m) Std.None → Takes list i t u n tb j k s w w' (Err PrototypeFindsNothing)
  unfolding inherit
  takes_nothing w' R st p q r rest held Y hr hp h = rw (taken_value Std.None R r st (take_refers p q r rest Y hr hp h) held.rows)

  -- what was found, by its kind
  found_kind : (at : ℕ) (v : Value) → at < n → StandsAt (view t u w n) v at → (d : ℕ) × (nm : Name) × (field_at 2 w at 0 ≡ (head d nm v).first)
  found_kind at v h S =
      (S.depth, S.name, sym (kind_here t u w n (omega arith) store-room at h) ∙ ap first_of (ap (drop at) (S.rows ∙ ap (λ r. S.before ++ (r ++ S.after)) (flat_head S.depth S.name v)) ∙ drop_at S.before (head S.depth S.name v ∷ (beneath S.depth v ++ S.after)) at S.at))

  pub takes_basic : (at : ℕ) (w' : List ℕ) → at < n → ResolvesIn (view t u w n) j (scope_in t u s₁ j) (names t u (drop 33024 s₁) m) (Std.Some at) → (field_at 2 w at 0 ≡ 0 → ⊥) → Takes list i t u n tb j k s w w' (Err PrototypeIsNoComponent)
  unfolding inherit
  takes_basic at w' la R nz st p q r rest held Y hr hp h =
      let F = taken_value (Std.Some at) R r st (take_refers p q r rest Y hr hp h) held.rows in
      let K = found_kind at F.0 la F.2 in
      rw F.1 (go F.0 (sort K.0 K.1 F.0) K.2)
    where
      go : (v : Value) {d : ℕ} {nm : Name} → Sort d nm v → field_at 2 w at 0 ≡ (head d nm v).first → RanIs p (view t u w') (inherit p (scope_in t u s k) (some v) st) (Err PrototypeIsNoComponent)
      go (basic b) (is_basic o) e = refl
      go (component c) (is_component o) e = absurd (nz (e ∙ o))

  pub takes_component : (at rows : ℕ) (s₂ w' : List ℕ) (o : Result Size Reason) → at < n → ResolvesIn (view t u w n) j (scope_in t u s₁ j) (names t u (drop 33024 s₁) m) (Std.Some at) → field_at 2 w at 0 ≡ 0
      → AttributesTaken w n at (k + 1) s₂ rows → drop 32768 s₂ ≡ drop 32768 s₁ → Copies t u n (scope_in t u s₂ k) rows tb w s₂ w' o → Takes list i t u n tb j k s w w' o
  unfolding inherit
  takes_component at rows s₂ w' o la R z A ed C st p q r rest held Y hr hp h =
      let F = taken_value (Std.Some at) R r st (take_refers p q r rest Y hr hp h) held.rows in
      let K = found_kind at F.0 la F.2 in
      rw F.1 (go F.0 F.2 (sort K.0 K.1 F.0) K.2)
    where
      scope₂ : scope_in t u s₂ k ≡ scope_in t u s k
      scope₂ = ap (λ y. names t u y k) ed ∙ scope_kept k l₂

      deep : k + 1 ≡ 1 + length (scope_in t u s₂ k)
      deep = omega (arith, length_names t u (drop 32768 s₂) k)

      go : (v : Value) {d : ℕ} {nm : Name} → StandsAt (view t u w n) v at → Sort d nm v → field_at 2 w at 0 ≡ (head d nm v).first → RanIs p (view t u w') (inherit p (scope_in t u s k) (some v) st) o
      go (basic b) S (is_basic x) e = absurd (omega (arith, e, z, x))
      go (component c) S (is_component x) e =
          subst (λ y. RanIs p (view t u w') (copy p y c st) o) scope₂ (C st c p held (A t u c S (held_shallow (view t u w n) tb st held) ∙ ap (λ y. flat y c) deep))
