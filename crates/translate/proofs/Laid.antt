-- Records and text written one by one are the step list written whole. Assumes nothing.
use Prim.Native.Nat.{ℕ, suc, ◌+◌, ◌*◌, ◌≤◌}
use native.Mathlib.Omega.{arith}
use mathlib.Core.Path.{◌≡◌, sym, ◌∙◌, ap}
use mathlib.Core.List.{List, [], ◌∷◌, ◌++◌, append_assoc}
use lib.ListN.{length, drop, length-append}
use Rattle.paper.specs.Layout.{Row, row_bytes, row_text, records, texts, laid_out}
use Rattle.theorems.proofs.Decoded.Parts.{length_little}
use Rattle.theorems.proofs.Decoded.Header.{Lasts, records_length}
use Rattle.memory.specs.Memory.{stored}
use Rattle.memory.proofs.Laws.{length_stored, then_stored, stored_none, stored_apart, stored_front}
use Rattle.forms.specs.declared.form.Form.TheVariants.{Steps}
use Rattle.forms.specs.Header.{header_of}
use Rattle.forms.proofs.Puts.{list_header}
use Rattle.grammar.proofs.Rules.Fronts.{row_length}
use Rattle.translate.specs.Lay.{lay_row, lay}

-- all the rows from the i-th on are two stores: of their records, and of their text
lay_all : (b : ℕ) (o : List ℕ) (i t : ℕ) (xs : List Row) → Lasts 4 xs → 24 + 20 * (i + length xs) ≤ b → b + t + length (texts xs) ≤ length o
    → lay b o i t xs ≡ stored (stored o (24 + 20 * i) (records t xs)) (b + t) (texts xs)
unfolding lay lay_row records texts
lay_all b o i t [] h l m = sym (stored_none (stored o (24 + 20 * i) []) (b + t) ∙ stored_none o (24 + 20 * i))
lay_all b o i t (x ∷ xs) h l m =
    let R = row_bytes t x in
    let T = row_text x in
    let rs = records (t + length T) xs in
    let ts = texts xs in
    let A = 24 + 20 * i in
    let A' = 24 + 20 * suc i in
    let B = b + t in
    let rl = row_length t x h.0 in
    let rsl = records_length 4 xs (t + length T) h.1 in
    let ml : B + (length T + length ts) ≤ length o = omega (arith, length-append T ts) in
    let q : b + (t + length T) ≡ B + length T = omega arith in
    lay_all b (stored (stored o A R) B T) (suc i) (t + length T) xs h.1 (omega arith) (rw (length_stored (stored o A R) B T, length_stored o A R) (omega arith))
    ∙ ap (λ s. stored s (b + (t + length T)) ts) (stored_apart (stored o A R) A' rs B T (omega arith) (rw (length_stored o A R) (omega arith)))
    ∙ ap (λ s. stored (stored s B T) (b + (t + length T)) ts) (then_stored o A A' R rs (omega arith) (omega arith))
    ∙ then_stored (stored o A (R ++ rs)) B (b + (t + length T)) T ts q (rw (length_stored o A (R ++ rs)) (omega arith))

-- of a step list
abbrev pub head : ℕ → ℕ → List ℕ
head = header_of Steps

head_length : (n t : ℕ) → length (head n t) ≡ 24
head_length n t = rw list_header (simp (length-append, length_little) (omega arith))

-- header, records and text, one behind the other
whole : (xs : List Row) → Lasts 4 xs → laid_out 1 xs ≡ (head (length xs) (length (texts xs)) ++ records 0 xs) ++ texts xs
unfolding laid_out
whole xs h =
    let l : length (records 0 xs) ≡ 20 * length xs = records_length 4 xs 0 h in
    rw (list_header, l) (simp append_assoc)

pub laid_length : (xs : List Row) → Lasts 4 xs → length (laid_out 1 xs) ≡ 24 + 20 * length xs + length (texts xs)
laid_length xs h =
    let n = length xs in
    let hl : length (head n (length (texts xs))) ≡ 24 = head_length n (length (texts xs)) in
    let rl : length (records 0 xs) ≡ 20 * n = records_length 4 xs 0 h in
    ap length (whole xs h) ∙ simp length-append (omega arith)

pub laid : (o : List ℕ) (xs : List Row) → Lasts 4 xs → length (laid_out 1 xs) ≤ length o
    → lay (24 + 20 * length xs) (stored o 0 (head (length xs) (length (texts xs)))) 0 0 xs ≡ laid_out 1 xs ++ drop (length (laid_out 1 xs)) o
laid o xs h l =
    let n = length xs in
    let H = head n (length (texts xs)) in
    let R = records 0 xs in
    let T = texts xs in
    let hl : length H ≡ 24 = head_length n (length T) in
    let rl : length R ≡ 20 * n = records_length 4 xs 0 h in
    let w : length (laid_out 1 xs) ≡ 24 + 20 * n + length T = laid_length xs h in
    let z : 24 + 20 * n + 0 ≡ 24 + 20 * n = omega arith in
    lay_all (24 + 20 * n) (stored o 0 H) 0 0 xs h (omega arith) (rw (length_stored o 0 H) (omega arith))
    ∙ ap (λ p. stored (stored (stored o 0 H) (24 + 20 * 0) R) p T) z
    ∙ ap (λ s. stored s (24 + 20 * n) T) (then_stored o 0 (24 + 20 * 0) H R (omega arith) (omega arith))
    ∙ then_stored o 0 (24 + 20 * n) (H ++ R) T (simp length-append (omega arith)) (omega arith)
    ∙ ap (stored o 0) (sym (whole xs h))
    ∙ stored_front o (laid_out 1 xs) l
