-- A path's text is written name by name, as its names are read. Assumes nothing.
use Rattle.std.specs.Prelude.{Some, None}
use Prim.Native.Nat.{ℕ, zero, suc, ◌+◌, ◌-◌, ◌≤◌, ◌<◌}
use native.Mathlib.Omega.{arith}
use mathlib.Core.Path.{◌≡◌, refl, sym, ap, ap₂, subst, ◌∙◌}
use mathlib.Core.Bool.{true, false, true≢false, false≢true}
use mathlib.Core.List.{List, [], ◌∷◌, ◌++◌}
use mathlib.Core.Logic.{◌⊎◌, inl, inr}
use lib.ListN.{length, take, drop, set, length-append, length-set, drop_of_length-le}
use Rattle.paper.specs.Bytes.{when◌then◌else◌}
use Rattle.paper.specs.Answer.{Answer, ok, refused, ◌>>=◌, demand}
use Rattle.paper.specs.Syntax.{Path}
use Rattle.paper.specs.Tokens.{Token, name, literal, mark, end, is_name, is_mark, Here}
use Rattle.paper.specs.Scanner.{next, skip, found, scan}
use Rattle.paper.specs.Reader.{expect, names, path, spelling}
use Rattle.paper.specs.Layout.{name_text, names_text, path_text}
use Rattle.theorems.proofs.Laws.Answers.{if_case}
use Rattle.theorems.proofs.Laws.Gives.{Gives, gives, refuses, gives_bind, gives_demand, gives_ok}
use Rattle.memory.specs.Memory.{stored}
use Rattle.memory.proofs.Laws.{length_stored, then_stored, stored_none, fit}
use Rattle.grammar.specs.Places.{here}
use Rattle.grammar.specs.Ties.{Reads}
use Rattle.translate.specs.Settled.{path_in, path_at, PathThere}
use Rattle.translate.specs.Puts.{NameNext, NameSpan, MoreIs, Put, NameFits, PathFits}
use Rattle.translate.specs.declared.token.Span.{Span}
use Rattle.translate.proofs.Rules.Stores.{stored_before, set_stored}

abbrev Ok : {X : Type 0} → (X → Type 0) → Answer X → Type 0
Ok P m = Gives (λ _. Unit {0}) P m

itself : {X : Type 0} (m : Answer X) → Ok (λ x. m ≡ ok x) m
itself (ok x) = gives refl
itself (refused n p) = refuses tt

-- ---- one name of a path

data Name (at : Here) : ℕ → Path × Here → Type 0 where
  final : {n : List ℕ} {h a z : Here} {y : Token × Here × Here} {j : ℕ} → next at ≡ ok (name n, h, a) → is_name (name n) ≡ true → next a ≡ ok y → is_mark ":" y.0 ≡ false → Name at (suc j) (n ∷ [], z)
  joined : {n : List ℕ} {h a z : Here} {y : Token × Here × Here} {j : ℕ} {q : Path} → next at ≡ ok (name n, h, a) → is_name (name n) ≡ true → next a ≡ ok y → is_mark ":" y.0 ≡ true
      → names j y.2 ≡ ok (q, z) → Name at (suc j) (n ∷ q, z)

spelt : (t : Token) → is_name t ≡ true → t ≡ name (spelling t)
unfolding is_name spelling
spelt (name n) e = refl
spelt (literal b) e = absurd (false≢true e)
spelt (mark m) e = absurd (false≢true e)
spelt end e = absurd (false≢true e)

same_ok : {X : Type 0} {m : Answer X} {a b : X} → m ≡ ok a → m ≡ ok b → a ≡ b
same_ok e f = cc

expect_on : (at : Here) → Ok (λ b. (y : Token × Here × Here) → next at ≡ ok y → b ≡ y.2) (expect ":" at)
unfolding expect
expect_on at = gives_bind _ (itself (next at)) (λ x e. gives_demand _ 3 _ _ tt (λ _. gives (λ y f. ap (λ (x : Token × Here × Here). x.2) (same_ok e f))))

names_name : (k : ℕ) (at : Here) → Ok (Name at k) (names k at)
unfolding names
names_name zero at = gives_bind _ (itself (next at)) (λ x e. gives_demand _ 3 _ _ tt (λ _. refuses tt))
names_name (suc k) at =
    gives_bind _ (itself (next at)) (λ x e.
    gives_demand _ 3 _ _ tt (λ i.
    let e₁ : next at ≡ ok (name (spelling x.0), x.1, x.2) = e ∙ ap (λ (t : Token). ok (t, x.1, x.2)) (spelt x.0 i) in
    let i₁ : is_name (name (spelling x.0)) ≡ true = ap is_name (sym (spelt x.0 i)) ∙ i in
    gives_bind _ (itself (next x.2)) (λ y f.
    if_case (Ok (Name at (suc k))) _ _ _
    (λ c.
    gives_bind _ (expect_on x.2) (λ b g.
    gives_bind _ (itself (names k b)) (λ z q.
    gives (joined e₁ i₁ f c (ap (names k) (sym (g y f)) ∙ q)))))
    (λ c. gives (final e₁ i₁ f c)))))

-- where the name that is read stands, and what is after it
data Turn (s : List ℕ) (e : ℕ) (n : List ℕ) : ℕ → Path → Type 0 where
  last : {j : ℕ} {y : Token × Here × Here} → next (here s e) ≡ ok y → is_mark ":" y.0 ≡ false → Turn s e n (suc j) (n ∷ [])
  more : {j : ℕ} {y : Token × Here × Here} {q : Path} {z : Here} → next (here s e) ≡ ok y → is_mark ":" y.0 ≡ true → names j y.2 ≡ ok (q, z) → Turn s e n (suc j) (n ∷ q)

record Same (n m : List ℕ) (a b : Here) : Type 0 where
  text : n ≡ m
  on : a ≡ b

same_name : {x : Answer (Token × Here × Here)} {n m : List ℕ} {h a g b : Here} → x ≡ ok (name n, h, a) → x ≡ ok (name m, g, b) → Same n m a b
same_name e f = let t : name _ ≡ name _ = ap (λ (x : Token × Here × Here). x.0) (same_ok e f) in record { text = cc; on = ap (λ (x : Token × Here × Here). x.2) (same_ok e f) }

turn : {s : List ℕ} {i k : ℕ} {sp : Span} {r : Path × Here} → names k (here s i) ≡ ok r → (N : NameSpan s i sp) → Turn s sp.end N.spelt k r.0
turn {s} {i} {k} {sp} {r} e N = go k r (gives_ok (names_name k (here s i)) e)
  where
    go : (k : ℕ) (r : Path × Here) → Name (here s i) k r → Turn s sp.end N.spelt k r.0
    go k r (final {j = j} f u g c) =
        let w = same_name f N.is in
        subst (λ (m : List ℕ). Turn s sp.end N.spelt (suc j) (m ∷ [])) (sym w.text) (last (ap next (sym w.on) ∙ g) c)
    go k r (joined {j = j} {q = q} f u g c d) =
        let w = same_name f N.is in
        subst (λ (m : List ℕ). Turn s sp.end N.spelt (suc j) (m ∷ q)) (sym w.text) (more (ap next (sym w.on) ∙ g) c d)

-- ---- where a path stands

nothing_there : (k p : ℕ) → names (suc k) (record { place = p; rest = [] }) ≡ refused 3 p
unfolding names next skip scan found is_name ◌>>=◌ demand when◌then◌else◌
nothing_there k p = refl

pub reads_within : {s : List ℕ} {p : ℕ} {r : Path} → Reads s p r → p < length s
unfolding path
reads_within {s} {p} {r} R = go (fit (suc p) (length s))
  where
    go : (suc p ≤ length s) ⊎ (length s < suc p) → p < length s
    go (inl h) = omega arith
    go (inr h) =
        let e : path (record { place = p; rest = [] }) ≡ ok (r, R.after) = ap (λ (t : List ℕ). path (record { place = p; rest = t })) (sym (drop_of_length-le s {i = p} (omega arith))) ∙ R.is in
        let f : ◌≡◌ {A = Answer (Path × Here)} (refused 3 p) (ok (r, R.after)) = sym (nothing_there 31 p) ∙ e in
        let z : ◌≡◌ {A = ℕ} 0 1 = cc in absurd (omega arith)

-- the path that is read is the one that is there
pub path_is : {s : List ℕ} {p : ℕ} {r : Path} → Reads s p r → path_at s p ≡ r
unfolding path_at path_in
path_is R = rw R.is

pub path_there : {s : List ℕ} {p : ℕ} {r : Path} → Reads s p r → PathThere s p
path_there {s} {p} {r} R = record { reads = subst (λ (q : Path). Reads s p q) (sym (path_is R)) R }

-- ---- the loop

-- Of the path r, whose text is to be at `to`, n names are written, up to e, and those at i are left.
-- Were they stored at e, and their number at `to`, then the whole text would be.
pub record PathLoop (s : List ℕ) (r : Path) (o₀ : List ℕ) (to : ℕ) (o : List ℕ) (i n e : ℕ) : Type 0 where
  pub left : Path
  pub most : ℕ
  pub after : Here
  pub reads : names most (here s i) ≡ ok (left, after)
  pub within : i ≤ length s
  pub long : length o ≡ length o₀
  pub count : n + length left ≡ length r
  pub few : n + most ≤ 32
  pub ends : e + length (names_text left) ≡ to + length (path_text r)
  pub room : to + length (path_text r) ≤ length o₀
  pub some : to < length o₀
  pub onward : stored (stored o e (names_text left)) to (length r ∷ []) ≡ stored o₀ to (path_text r)

path_size : (r : Path) → length (path_text r) ≡ suc (length (names_text r))
unfolding path_text
path_size r = refl

pub path_begin : (s : List ℕ) (at : ℕ) (o : List ℕ) (to : ℕ) → PathFits s at o to → PathLoop s (path_at s at) o to o at 0 (to + 1)
unfolding path path_text
path_begin s at o to F =
    let r = path_at s at in
    let z = path_size r in
    record {
      left = r;
      most = 32;
      after = F.there.reads.after;
      reads = F.there.reads.is;
      within = omega (arith, reads_within F.there.reads);
      long = refl;
      count = omega arith;
      few = omega arith;
      ends = omega arith;
      room = F.room.room;
      some = omega (arith, F.room.room);
      onward = stored_before o to (to + 1) (length r ∷ []) (names_text r) (omega arith) (omega (arith, F.room.room));
    }

names_cons : (n : List ℕ) (q : Path) → names_text (n ∷ q) ≡ name_text n ++ names_text q
unfolding names_text
names_cons n q = refl

names_none : names_text [] ≡ []
unfolding names_text
names_none = refl

module _ {s : List ℕ} {r : Path} {o₀ : List ℕ} {to : ℕ} {o : List ℕ} {i n e : ℕ} (L : PathLoop s r o₀ to o i n e) where
  -- a name is next
  pub path_next : NameNext s i
  path_next = go L.most (L.left, L.after) (gives_ok (names_name L.most (here s i)) L.reads)
    where
      go : (k : ℕ) (x : Path × Here) → Name (here s i) k x → NameNext s i
      go k x (final {n} {h} {a} f u g c) = record { spelt = n; there = h; after = a; is = f; free = u; within = L.within }
      go k x (joined {n} {h} {a} f u g c d) = record { spelt = n; there = h; after = a; is = f; free = u; within = L.within }

  module _ {sp : Span} (N : NameSpan s i sp) where
    part : List ℕ
    part = take (sp.end - sp.at) (drop sp.at s)

    -- what is left begins with it
    pub path_room : NameFits (take (sp.end - sp.at) (drop sp.at s)) o e
    path_room = go L.most L.left (turn L.reads N) L.ends
      where
        fits : (q : Path) → e + length (names_text (N.spelt ∷ q)) ≡ to + length (path_text r) → NameFits (take (sp.end - sp.at) (drop sp.at s)) o e
        fits q h =
            rw N.part (record {
              short = N.short;
              room = record { room = omega (arith, L.room, L.long, rw (names_cons N.spelt q, length-append (name_text N.spelt) (names_text q)) at h) };
            })

        go : (k : ℕ) (q : Path) → Turn s sp.end N.spelt k q → e + length (names_text q) ≡ to + length (path_text r) → NameFits (take (sp.end - sp.at) (drop sp.at s)) o e
        go k q (last g c) h = fits [] h
        go k q (more {q = ns} g c d) h = fits ns h

    pub path_few : n + 1 ≤ 32
    path_few = go L.most L.left (turn L.reads N) L.few
      where
        go : (k : ℕ) (q : Path) → Turn s sp.end N.spelt k q → n + k ≤ 32 → n + 1 ≤ 32
        go k q (last g c) h = omega arith
        go k q (more g c d) h = omega arith

    module _ {o' : List ℕ} {e' : ℕ} (P : Put o o' e (name_text (take (sp.end - sp.at) (drop sp.at s))) e') where
      -- the name is written, and those of q are left
      record Wrote (q : Path) : Type 0 where
        long : length o' ≡ length o₀
        count : n + 1 + length q ≡ length r
        ends : e' + length (names_text q) ≡ to + length (path_text r)
        onward : stored (stored o' e' (names_text q)) to (length r ∷ []) ≡ stored o₀ to (path_text r)

      wrote : (q : Path) → L.left ≡ N.spelt ∷ q → Wrote q
      wrote q w =
          let t : o' ≡ stored o e (name_text N.spelt) = P.is ∙ rw N.part refl in
          let z : e' ≡ e + length (name_text N.spelt) = P.end ∙ rw N.part refl in
          let h : e + length (name_text N.spelt ++ names_text q) ≡ to + length (path_text r) = rw (names_cons N.spelt q) at (rw w at L.ends) in
          let f : stored (stored o e (name_text N.spelt ++ names_text q)) to (length r ∷ []) ≡ stored o₀ to (path_text r) = rw (names_cons N.spelt q) at (rw w at L.onward) in
          let l = length-append (name_text N.spelt) (names_text q) in
          record {
            long = ap length t ∙ length_stored o e (name_text N.spelt) ∙ L.long;
            count = omega (arith, rw w at L.count);
            ends = omega arith;
            onward =
                ap (λ (x : List ℕ). stored (stored x e' (names_text q)) to (length r ∷ [])) t
                ∙ ap (λ (x : List ℕ). stored x to (length r ∷ [])) (then_stored o e e' (name_text N.spelt) (names_text q) z (omega (arith, L.room, L.long)))
                ∙ f;
          }

      pub path_more : (g : ℕ) → MoreIs s sp.end (Some g) → PathLoop s r o₀ to o' g (n + 1) e'
      path_more g M = go L.most L.left refl (turn L.reads N) L.few
        where
          go : (k : ℕ) (q : Path) → L.left ≡ q → Turn s sp.end N.spelt k q → n + k ≤ 32 → PathLoop s r o₀ to o' g (n + 1) e'
          go k q w (last f c) h = absurd (true≢false (sym (M.is _ f).is ∙ c))
          go k q w (more {j = j} {q = ns} {z = z} f c d) h =
              let W = wrote ns w in
              let C = M.is _ f in
              record {
                left = ns;
                most = j;
                after = z;
                reads = ap (names j) (sym C.on) ∙ d;
                within = C.within;
                long = W.long;
                count = W.count;
                few = omega arith;
                ends = W.ends;
                room = L.room;
                some = L.some;
                onward = W.onward;
              }

      pub path_end : MoreIs s sp.end None → Put o₀ (set o' to (n + 1)) to (path_text r) e'
      path_end M = go L.most L.left refl (turn L.reads N)
        where
          go : (k : ℕ) (q : Path) → L.left ≡ q → Turn s sp.end N.spelt k q → Put o₀ (set o' to (n + 1)) to (path_text r) e'
          go k q w (more f c d) = absurd (true≢false (sym c ∙ M.is _ f))
          go k q w (last f c) =
              let W = wrote [] w in
              let t : stored (stored o' e' []) to (length r ∷ []) ≡ stored o₀ to (path_text r) = rw names_none at W.onward in
              let x : e' + 0 ≡ to + length (path_text r) = rw names_none at W.ends in
              let y : n + 1 ≡ length r = omega (arith, W.count) in
              record {
                is =
                    set_stored o' to (n + 1) (omega (arith, W.long, L.some))
                    ∙ ap₂ (λ (a : List ℕ) (b : ℕ). stored a to (b ∷ [])) (sym (stored_none o' e')) y
                    ∙ t;
                end = omega arith;
              }

      pub path_long : length o' ≡ length o₀
      path_long = ap length P.is ∙ length_stored o e (name_text (take (sp.end - sp.at) (drop sp.at s))) ∙ L.long

-- ---- a name

pub name_size : (n : List ℕ) → length (name_text n) ≡ suc (length n)
unfolding name_text
name_size n = refl

pub name_kept : (n o : List ℕ) {o' : List ℕ} (to x : ℕ) → o' ≡ stored (set o to x) (to + 1) n → length o' ≡ length o
name_kept n o {o'} to x e = ap length e ∙ length_stored (set o to x) (to + 1) n ∙ length-set o to x

pub name_put : {n o : List ℕ} {to : ℕ} → NameFits n o to → {o' : List ℕ} → o' ≡ stored (set o to (length n)) (to + 1) n → Put o o' to (name_text n) (to + 1 + length n)
unfolding name_text
name_put {n} {o} {to} F {o'} e =
    let z = name_size n in
    record {
      is = e ∙ ap (λ (x : List ℕ). stored x (to + 1) n) (set_stored o to (length n) (omega (arith, F.room.room))) ∙ then_stored o to (to + 1) (length n ∷ []) n (omega arith) (omega (arith, F.room.room));
      end = omega arith;
    }
