-- The header: the paper's reader, one law for each way through the code. Assumes nothing.
use Prim.Native.Nat.{ℕ, ◌+◌, ◌*◌, ◌≤◌, ◌<◌}
use native.Mathlib.Omega.{arith}
use native.Mathlib.Nat.{mul-le-mul_right}
use mathlib.Core.Path.{◌≡◌, refl, sym, ◌∙◌, ap}
use mathlib.Core.List.{List}
use mathlib.Core.Option.{Option, none, some}
use lib.ListN.{length, take, drop, length-append, length-drop}
use lib.Seq.{take_all, drop-drop, length-take-le}
use lib.Dec.{leb, eqb}
use borrow.Author.Tests.{le-leb, lt-leb, eq-eqb, ne_eqb}
use Rattle.paper.specs.Maybe.{◌>>=◌, require}
use Rattle.paper.specs.Decoder.{Cursor, header}
use Rattle.paper.specs.Decoder as Decoder
use Rattle.theorems.proofs.Decoded.Header.{header_sound}
use Rattle.theorems.proofs.Decoded.Parts.{length_little}
use Rattle.theorems.proofs.Laws.Found.{found_some}
use Rattle.theorems.proofs.Laws.DecodeAt.{Bytes, number_at}
use Rattle.paper.specs.DecodeAt.{cursor, headed}
use Rattle.memory.specs.Memory.{word_at}
use Rattle.memory.proofs.Laws.{word_in, part_in}
use Rattle.forms.specs.declared.form.Form.{Form}
use Rattle.forms.specs.Form.{number_of, size_of, most_text}
use Rattle.forms.specs.Header.{header_in, records_of, text_of, Sized}

headed_long : (f n p : ℕ) (c : Cursor) → length (headed f n p c.recs c.text) ≡ 24 + (length c.recs + length c.text)
unfolding headed
headed_long f n p c = simp (length-append, length_little) (omega arith)

pub header_short : (form : Form) (b : List ℕ) → length b < 24 → header_in form b ≡ none
unfolding header_in
header_short form b l = go (header_in form b) refl
  where
    go : (o : Option (ℕ × Cursor)) → header_in form b ≡ o → header_in form b ≡ none
    go none e = e
    go (some x) e =
        let h = found_some (header_sound (number_of form) (size_of form) 1024 (most_text form) b) e in
        absurd (omega (arith, ap length h.bytes ∙ headed_long _ _ _ x.1))

-- a record has so few bytes that no product overflows
pub few_times : (z n : ℕ) → z ≤ 20 → z * n ≤ 20 * n
few_times z n h = mul-le-mul_right n h

module _ (form : Form) (b : List ℕ) (B : Bytes b) (l : 24 ≤ length b) where
  reads : (j k : ℕ) → j + 4 ≡ k → k ≤ 24 → Decoder.number_of 4 (drop j b) ≡ some (word_at 4 b j, drop k b)
  reads j k e h = rw (word_in 4 b j (omega arith), ← e) (number_at 4 b j B (omega arith))

  header_open : header_in form b
      ≡ require (eqb (word_at 4 b 0) (number_of form)) >>= λ _. require (eqb (word_at 4 b 12) 24) >>= λ _. require (leb (word_at 4 b 8) 1024) >>= λ _. require (leb (word_at 4 b 16) (most_text form)) >>= λ _.
      require (eqb (word_at 4 b 20) (24 + size_of form * word_at 4 b 8)) >>= λ _. require (eqb (word_at 4 b 4) (word_at 4 b 20 + word_at 4 b 16)) >>= λ _. require (eqb (word_at 4 b 4) (length b)) >>= λ _.
      some (word_at 4 b 8, record { recs = take (size_of form * word_at 4 b 8) (drop 24 b); text = drop (size_of form * word_at 4 b 8) (drop 24 b); pos = 0 })
  unfolding header_in header ◌>>=◌
  header_open =
      let e₀ : Decoder.number_of 4 b ≡ some (word_at 4 b 0, drop 4 b) = reads 0 4 refl (omega arith) in
      rw (e₀, reads 4 8 refl (omega arith), reads 8 12 refl (omega arith), reads 12 16 refl (omega arith), reads 16 20 refl (omega arith), reads 20 24 refl (omega arith))

  module _ (f k : ℕ) (ef : f ≡ word_at 4 b 0) (ek : k ≡ number_of form) where
    pub header_form : (f ≡ k → ⊥) → header_in form b ≡ none
    unfolding ◌>>=◌ require
    header_form h = header_open ∙ rw (← ef, ← ek, ne_eqb f k h)

    module _ (of : f ≡ k) (s : ℕ) (es : s ≡ word_at 4 b 12) where
      pub header_start : (s ≡ 24 → ⊥) → header_in form b ≡ none
      unfolding ◌>>=◌ require
      header_start h = header_open ∙ rw (← ef, ← ek, eq-eqb f k of, ← es, ne_eqb s 24 h)

      module _ (os : s ≡ 24) (n : ℕ) (en : n ≡ word_at 4 b 8) where
        pub header_many : 1024 < n → header_in form b ≡ none
        unfolding ◌>>=◌ require
        header_many h = header_open ∙ rw (← ef, ← ek, eq-eqb f k of, ← es, eq-eqb s 24 os, ← en, lt-leb n 1024 h)

        module _ (on : n ≤ 1024) (t m : ℕ) (et : t ≡ word_at 4 b 16) (em : m ≡ most_text form) where
          pub header_long : m < t → header_in form b ≡ none
          unfolding ◌>>=◌ require
          header_long h = header_open ∙ rw (← ef, ← ek, eq-eqb f k of, ← es, eq-eqb s 24 os, ← en, le-leb n 1024 on, ← et, ← em, lt-leb t m h)

          module _ (ot : t ≤ m) (z p : ℕ) (ez : z ≡ size_of form) (ep : p ≡ word_at 4 b 20) where
            pub header_place : (p ≡ 24 + z * n → ⊥) → header_in form b ≡ none
            unfolding ◌>>=◌ require
            header_place h =
                header_open ∙ rw (← ef, ← ek, eq-eqb f k of, ← es, eq-eqb s 24 os, ← en, le-leb n 1024 on, ← et, ← em, le-leb t m ot, ← ep, ← ez, ne_eqb p (24 + z * n) h)

            module _ (op : p ≡ 24 + z * n) (a : ℕ) (ea : a ≡ word_at 4 b 4) where
              header_total : header_in form b
                  ≡ require (eqb a (24 + z * n + t)) >>= λ _. require (eqb a (length b)) >>= λ _. some (n, record { recs = take (z * n) (drop 24 b); text = drop (z * n) (drop 24 b); pos = 0 })
              unfolding ◌>>=◌ require
              header_total =
                  header_open ∙ rw (← ef, ← ek, eq-eqb f k of, ← es, eq-eqb s 24 os, ← en, le-leb n 1024 on, ← et, ← em, le-leb t m ot, ← ep, ← ez, eq-eqb p (24 + z * n) op, ← ea, op)

              pub header_sum : (a ≡ 24 + z * n + t → ⊥) → header_in form b ≡ none
              unfolding ◌>>=◌ require
              header_sum h = header_total ∙ rw (ne_eqb a (24 + z * n + t) h)

              pub header_size : a ≡ 24 + z * n + t → (24 + z * n + t ≡ length b → ⊥) → header_in form b ≡ none
              unfolding ◌>>=◌ require
              header_size g h = header_total ∙ rw (eq-eqb a (24 + z * n + t) g, ne_eqb a (length b) (λ q. h (sym g ∙ q)))

              module _ (h : 24 + z * n + t ≡ length b) where
                records_are : records_of form b ≡ take (z * n) (drop 24 b)
                unfolding records_of
                records_are = rw (← ez, ← en) (part_in b 24 (z * n) (omega arith))

                text_is : text_of b ≡ drop (z * n) (drop 24 b)
                unfolding text_of
                text_is =
                    let q : drop p b ≡ drop (z * n) (drop 24 b) = ap (λ k. drop k b) op ∙ sym (drop-drop (z * n) 24 b) in
                    rw (← ep, ← et) (part_in b p t (omega arith) ∙ take_all t (drop p b) (omega (arith, length-drop p b)) ∙ q)

                records_long : length (records_of form b) ≡ size_of form * n
                records_long = rw (← ez, records_are) (length-take-le (z * n) (drop 24 b) (simp length-drop (omega arith)))

                text_long : length (text_of b) ≤ most_text form
                text_long = rw (text_is, length-drop, length-drop, ← em) (omega arith)

                pub header_good : a ≡ 24 + z * n + t → Sized form b n
                unfolding ◌>>=◌ require cursor
                header_good g =
                    record { is = header_total ∙ rw (eq-eqb a (24 + z * n + t) g, eq-eqb a (length b) (g ∙ h), records_are, text_is); few = on; many = records_long; short = text_long }
