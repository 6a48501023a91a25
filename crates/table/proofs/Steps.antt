-- The rules by which what each function over records answers follows from what its calls answered, one for each way through its code.
-- Assumes nothing.
use Rattle.std.specs.Prelude.{Option as RustOption, Some, None}
use Rattle.layout.specs.declared.walk.Place.{Place}
use Rattle.layout.proofs.Steps.{place}
use Prim.Native.Nat.{ℕ, ◌+◌, ◌-◌, ◌≤◌}
use native.Mathlib.Omega.{arith}
use native.Mathlib.Numerals.{add-one}
use mathlib.Core.Path.{◌≡◌, ◌∙◌}
use mathlib.Core.List.{List}
use mathlib.Core.Option.{none}
use lib.ListN.{length}
use borrow.Author.Tests.{eq-eqb, ne_eqb}
use Rattle.paper.specs.Bytes.{when◌then◌else◌}
use Rattle.paper.specs.Maybe.{◌>>=◌, require}
use Rattle.paper.specs.Store.{∅, entry, component}
use Rattle.paper.specs.Store as S
use Rattle.paper.specs.TableDecoder.{in_table}
use Rattle.theorems.proofs.Laws.DecodeAt.{Bytes}
use Rattle.paper.specs.DecodeAt.{word, raw_at, cursor}
use Rattle.theorems.proofs.Laws.DecodeFree.{entries_none}
use Rattle.paper.specs.DecodeFrom.{entry_value}
use Rattle.memory.specs.Memory.{word_at}
use Rattle.memory.proofs.Laws.{word_in}
use Rattle.forms.specs.declared.form.Form.TheVariants.{Table}
use Rattle.forms.specs.Form.{form_of, size_of}
use Rattle.layout.specs.Walk.{WalkIs, basic_here}
use Rattle.layout.proofs.Heads.{basic_inside}
use Rattle.layout.proofs.Steps.{onto}
use Rattle.table.specs.Walk.{LabelIs, value_here, entries_here}
use Rattle.table.proofs.Heads.{Head, entries_open}

-- ---- an attribute's value

module _ (recs text : List ℕ) (d m i p : ℕ) (b : Bytes recs) (l : i + 16 ≤ length recs) (s : m ≡ word 2 recs (i + 6)) (k : ℕ) (a : k ≡ word_at 2 recs i) where
  e : k ≡ word 2 recs i
  e = a ∙ word_in 2 recs i (omega arith)

  pub value_basic : (r : RustOption Place) → (k ≡ 0 → ⊥) → WalkIs (basic_here Table recs text d m i p) recs text r → WalkIs (value_here recs text d i p) recs text r
  unfolding entry_value raw_at size_of form_of in_table when◌then◌else◌
  value_basic r h w =
      let q = basic_inside Table recs text i p b d m l in
      rw (← e, ne_eqb k 0 h, ← s) (onto recs text _ S.basic r (rw (q, ← e) at w))

  module _ (v : ℕ) (g : v ≡ word_at 8 recs (i + 8)) (z : k ≡ 0) where
    f : v ≡ word 8 recs (i + 8)
    f = g ∙ word_in 8 recs (i + 8) (omega arith)

    pub value_valued : (v ≡ 0 → ⊥) → value_here recs text d i p ≡ none
    unfolding entry_value raw_at when◌then◌else◌ ◌>>=◌ require
    value_valued h = rw (← e, z, ← f, ne_eqb v 0 h)

    pub value_component : (r : RustOption Place) → v ≡ 0 → WalkIs (entries_here recs text (d + 1) (m - 1) (i + 16) p) recs text r → WalkIs (value_here recs text d i p) recs text r
    unfolding entry_value raw_at when◌then◌else◌ ◌>>=◌ require
    value_component r h w = rw (← e, z, ← f, eq-eqb v 0 h, ← s) (onto recs text _ component r (rw (add-one d) at w))

-- ---- attributes

pub entries_end : (recs text : List ℕ) (d n i p : ℕ) → n ≡ 0 → WalkIs (entries_here recs text d n i p) recs text (Some (place i p))
entries_end recs text d n i p z = (∅, rw z (entries_none d (cursor recs text i p)))

module _ (recs text : List ℕ) (d n i p : ℕ) (b : Bytes recs) (H : Head recs i d n) where
  pub entries_unnamed : LabelIs recs text i p None → entries_here recs text d n i p ≡ none
  unfolding ◌>>=◌
  entries_unnamed w = entries_open recs text i p d b n H ∙ rw w

  module _ (q : ℕ) (L : LabelIs recs text i p (Some q)) where
    pub entries_no : value_here recs text d i q ≡ none → entries_here recs text d n i p ≡ none
    unfolding ◌>>=◌
    entries_no w = entries_open recs text i p d b n H ∙ rw (L.1, w)

    pub entries_more : (s : ℕ) → s ≡ word 2 recs (i + 6) → (j t : ℕ) (r : RustOption Place) → WalkIs (value_here recs text d i q) recs text (Some (place j t)) → WalkIs (entries_here recs text d (n - s) j t) recs text r
        → WalkIs (entries_here recs text d n i p) recs text r
    unfolding ◌>>=◌
    entries_more s f j t r w u = rw (entries_open recs text i p d b n H, ← f, L.1, w.1) (onto recs text _ (entry L.0 w.0) r u)
