-- What an attribute's head says, and what the paper's reader of attributes does with it. Assumes nothing.
use Rattle.std.specs.Prelude.{Option as RustOption, Some, None}
use Prim.Native.Nat.{ℕ, zero, suc, ◌+◌, ◌-◌, ◌≤◌, ◌<◌}
use native.Mathlib.Omega.{arith}
use mathlib.Core.Path.{◌≡◌, refl, ◌∙◌}
use mathlib.Core.Bool.{Bool, true, false, ◌&&◌}
use mathlib.Core.List.{List}
use mathlib.Core.Logic.{◌⊎◌, inl, inr, ⊎_elim}
use mathlib.Core.Option.{none, some}
use lib.ListN.{length}
use lib.Dec.{leb, eqb}
use borrow.Author.Tests.{eqb-true, le-leb, eq-eqb}
use Rattle.paper.specs.Maybe.{◌>>=◌, require}
use Rattle.paper.specs.Store.{entry}
use Rattle.paper.specs.Decoder.{field, name_of}
use Rattle.paper.specs.TableDecoder.{in_table}
use Rattle.theorems.proofs.Laws.DecodeAt.{Bytes}
use Rattle.paper.specs.DecodeAt.{word, raw_at, cursor}
use Rattle.theorems.proofs.Laws.DecodeFree.{entry_body, entries_some}
use Rattle.paper.specs.DecodeFrom.{basic_from, entries_from, entry_value}
use Rattle.memory.specs.Memory.{word_at}
use Rattle.memory.proofs.Laws.{fit, word_in}
use Rattle.forms.specs.declared.form.Form.TheVariants.{Table}
use Rattle.forms.specs.Form.{form_of, size_of}
use Rattle.texts.specs.Text.{FieldIs}
use Rattle.layout.specs.Walk as Layout
use Rattle.layout.proofs.Heads.{and_true, stop, goes, stops, headless, record_inside, record_outside}
use Rattle.layout.proofs.Heads as Nodes
use Rattle.table.specs.Walk.{heads, LabelIs}

-- ---- the head

pub record Head (recs : List ℕ) (i d n : ℕ) : Type 0 where
  pub within : i + 16 ≤ length recs
  pub deep : d ≤ 32
  pub placed : word 2 recs (i + 2) ≡ d
  pub some : 1 ≤ word 2 recs (i + 6)
  pub few : word 2 recs (i + 6) ≤ n

module _ (recs : List ℕ) (i d n : ℕ) where
  pub head_of : heads recs i d n ≡ true → Head recs i d n
  unfolding heads size_of form_of in_table
  head_of h =
      let a = and_true (Layout.heads Table recs i d n) _ h in
      let H = Nodes.head_of Table recs i d n a.0 in
      record { within = H.within; deep = H.deep; placed = eqb-true _ _ a.1; some = H.some; few = H.few }

  -- the ways through the code
  pub head_wrong : Layout.heads Table recs i d n ≡ false → false ≡ heads recs i d n
  unfolding heads
  head_wrong h = rw h

  pub head_placed : (m : ℕ) → m ≡ word_at 2 recs (i + 2) → Layout.heads Table recs i d n ≡ true → eqb m d ≡ heads recs i d n
  unfolding heads size_of form_of in_table
  head_placed m e h =
      let H = Nodes.head_of Table recs i d n h in
      let f : m ≡ word 2 recs (i + 2) = e ∙ word_in 2 recs (i + 2) (omega (arith, H.within)) in
      rw (h, ← f)

-- ---- the name

pub label_is : (recs text : List ℕ) (i p m : ℕ) → i + 16 ≤ length recs → m ≡ word_at 2 recs (i + 4) → (r : RustOption ℕ) → FieldIs name_of text m p r → LabelIs recs text i p r
label_is recs text i p m l e (Some q) F = rw (← word_in 2 recs (i + 4) (omega arith), ← e) (F recs (i + 16))
label_is recs text i p m l e None F = rw (← word_in 2 recs (i + 4) (omega arith), ← e) (F recs (i + 16))

-- ---- attributes

module _ (recs text : List ℕ) (i p d : ℕ) (b : Bytes recs) where
  by_head : (n : ℕ) → heads recs i d n ≡ false → (Layout.heads Table recs i d n ≡ false) ⊎ ((Layout.heads Table recs i d n ≡ true) × (eqb (word 2 recs (i + 2)) d ≡ false))
  unfolding heads
  by_head n h = case (Layout.heads Table recs i d n) refl h
    where
      case : (t : Bool) → Layout.heads Table recs i d n ≡ t → (t && eqb (word 2 recs (i + 2)) d) ≡ false → (Layout.heads Table recs i d n ≡ false) ⊎ ((Layout.heads Table recs i d n ≡ true) × (eqb (word 2 recs (i + 2)) d ≡ false))
      case true e f = inr (e, f)
      case false e f = inl e

  headless_wrong : (k : ℕ) → Layout.heads Table recs i d (suc k) ≡ false → entry_body (basic_from in_table) entries_from d k (cursor recs text i p) ≡ none
  unfolding entry_body raw_at size_of form_of in_table
  headless_wrong k e =
      ⊎_elim
      (λ w. goes _ (record_inside Table recs text i p b w) (stops (leb d 32) (eqb (word 2 recs (i + 2)) d) (leb 1 (word 2 recs (i + 6))) (leb (word 2 recs (i + 6)) (suc k)) _ (headless Table recs i d (suc k) w e)))
      (λ w. stop _ (record_outside Table recs text i p b w))
      (fit (i + size_of Table) (length recs))

  headless_elsewhere : (k : ℕ) → (Layout.heads Table recs i d (suc k) ≡ true) × (eqb (word 2 recs (i + 2)) d ≡ false) → entry_body (basic_from in_table) entries_from d k (cursor recs text i p) ≡ none
  unfolding entry_body raw_at size_of form_of in_table ◌>>=◌ require
  headless_elsewhere k e =
      let H = Nodes.head_of Table recs i d (suc k) e.0 in
      rw (record_inside Table recs text i p b H.within, le-leb d 32 H.deep, e.1)

  pub entries_headless : (n : ℕ) → 0 < n → heads recs i d n ≡ false → entries_from d n (cursor recs text i p) ≡ none
  entries_headless zero l h = absurd (omega arith)
  entries_headless (suc k) l h = entries_some d k (cursor recs text i p) ∙ ⊎_elim (headless_wrong k) (headless_elsewhere k) (by_head (suc k) h)

  -- the name, the value, and then the others
  pub entries_open : (n : ℕ) → Head recs i d n → entries_from d n (cursor recs text i p)
      ≡ field name_of (word 2 recs (i + 4)) (cursor recs text (i + 16) p) >>= λ x. entry_value (basic_from in_table) entries_from d (raw_at 0 recs i) x.1 >>= λ v.
      entries_from d (n - word 2 recs (i + 6)) v.1 >>= λ s. some (entry x.0 v.0 s.0, s.1)
  unfolding entry_body raw_at size_of form_of in_table ◌>>=◌ require
  entries_open zero H = absurd (omega (arith, H.some, H.few))
  entries_open (suc k) H =
      entries_some d k (cursor recs text i p)
      ∙ rw (record_inside Table recs text i p b H.within, le-leb d 32 H.deep, eq-eqb (word 2 recs (i + 2)) d H.placed, le-leb 1 (word 2 recs (i + 6)) H.some, le-leb (word 2 recs (i + 6)) (suc k) H.few)
