-- The drafts in the work slice, settled, are the rows of the steps. Assumes nothing.
use Prim.Native.Nat.{ℕ, zero, suc, ◌+◌, ◌*◌, ◌/◌, ◌%◌, ◌≤◌, ◌<◌}
use native.Mathlib.Nat.{add-zero, zero-add, suc-add}
use native.Mathlib.Omega.{arith}
use mathlib.Core.Path.{◌≡◌, refl, sym, ap, ap₂, subst, ◌∙◌}
use mathlib.Core.Bool.{true≢false}
use mathlib.Core.List.{List, [], ◌∷◌, ◌++◌}
use mathlib.Core.Logic.{inl, ⊎_elim}
use lib.ListN.{length, drop, get_or, length-append, get_or-append}
use lib.Seq.{get_or-append-add}
use lib.Dec.{lit<}
use Rattle.paper.specs.Bytes.{when◌then◌else◌}
use Rattle.paper.specs.Syntax.{Path, Basic, boolean, null, integer, decimal, string, reference, vector, Basics, εⱽ, ◌∷ⱽ◌}
use Rattle.paper.specs.Tokens.{literal}
use Rattle.paper.specs.Scanner.{token, scan}
use Rattle.paper.specs.Layout.{Field, text, Row, little, path_text, long_text, text_of, row_text, row_bytes, figure, texts, records, laid_out, kind, elements, each}
use Rattle.paper.specs.Steps.{Step, make, take, enter, leave, done, set, link}
use Rattle.paper.specs.StepLayout.{step_row, item, step_rows, all_rows}
use Rattle.theorems.proofs.Decoded.Parts.{length_little}
use Rattle.theorems.proofs.Decoded.Rows.{kind_below}
use Rattle.paper.specs.DecodeAt.{word}
use Rattle.memory.specs.Memory.{word_at}
use Rattle.memory.proofs.Laws.{word_in, same_word, word_little, fit, stored_sets, byte_stored, byte_other}
use Rattle.grammar.specs.Drafts.{Draft, text_size}
use Rattle.grammar.specs.Puts.{put_row, puts, Frame}
use Rattle.grammar.specs.Ties.{Labelled, no_label, path_label, Valued, same_number, path_value, decimal_value, string_value, Tied, AllTied, none, also}
use Rattle.grammar.proofs.Rules.Puts.{put_in, put_out, put_frame, frame_same, frame_then}
use Rattle.translate.specs.Settled.{path_at, said_by, said_in, said_at, is_long, label_at, value_at, fields_at, settled, rows_at, PathThere, DecimalThere, StringThere, LabelThere, ValueThere, RowThere}
use Rattle.translate.specs.declared.record.Fields.{Fields}
use Rattle.grammar.proofs.Rules.Fronts.{AllTwenty, all_twenty, all_lasts}
use Rattle.translate.proofs.Rules.Paths.{reads_within, path_is, path_there}
use Rattle.translate.proofs.Rules.Tokens.{decimal_within, string_within}

-- ---- numbers in bytes

little_word : (n v : ℕ) → little n (word n (little n v) 0) ≡ little n v
unfolding little word
little_word zero v = refl
little_word (suc n) v =
    let y = word n (little n (v / 256)) 0 in
    let e : word n (v % 256 ∷ little n (v / 256)) 1 ≡ y = same_word n (v % 256 ∷ little n (v / 256)) (little n (v / 256)) 1 0 (λ k l. rw (suc-add 0 k)) in
    let W = v % 256 + 256 * word n (v % 256 ∷ little n (v / 256)) 1 in
    let a : W % 256 ≡ v % 256 = omega (arith, e) in
    let b : W / 256 ≡ y = omega (arith, e) in
    ap₂ (λ (h : ℕ) (t : List ℕ). h ∷ t) a (ap (little n) b ∙ little_word n (v / 256))

skip_word : (n : ℕ) (a s : List ℕ) (i j : ℕ) → i ≡ length a + j → word n (a ++ s) i ≡ word n s j
skip_word n a s i j e =
    same_word n (a ++ s) s i j (λ k h.
    let q : i + k ≡ length a + (j + k) = omega arith in
    ap (λ (m : ℕ). get_or (a ++ s) m 0) q ∙ get_or-append-add a s (j + k) 0)

front_word : (n : ℕ) (a s : List ℕ) → length a ≡ n → word n (a ++ s) 0 ≡ word n a 0
front_word n a s e = same_word n (a ++ s) a 0 0 (λ k h. get_or-append a s 0 (0 + k) (omega arith))

-- ---- a record in a slice

-- the bytes of the row's record are record number i
record KeptAt (w : List ℕ) (i : ℕ) (x : Row) : Type 0 where
  bytes : (k : ℕ) → k < 20 → get_or w (20 * i + k) 0 ≡ get_or (row_bytes 0 x) k 0
  room : 20 * i + 20 ≤ length w

-- its numbers, as bytes
record Numbers (f : Fields) (r : Row) : Type 0 where
  step : f.step ≡ word 2 (little 2 r.first) 0
  kind : f.kind ≡ word 2 (little 2 r.second) 0
  path : f.path ≡ word 2 (little 2 (figure 0 r.label)) 0
  span : f.span ≡ word 2 (little 2 r.span) 0
  value : f.value ≡ word 8 (little 8 (figure (0 + length (text_of r.label)) r.value)) 0
  place : f.place ≡ word 4 r.last 0

module _ {w : List ℕ} {i : ℕ} {r : Row} (K : KeptAt w i r) where
  there : (n j : ℕ) → j + n ≤ 20 → word_at n w (20 * i + j) ≡ word n (row_bytes 0 r) j
  there n j h =
      word_in n w (20 * i + j) (omega (arith, K.room))
      ∙ same_word n w (row_bytes 0 r) (20 * i + j) j (λ k l.
      let q : 20 * i + j + k ≡ 20 * i + (j + k) = omega arith in
      ap (λ (m : ℕ). get_or w m 0) q ∙ K.bytes (j + k) (omega arith))

  numbers : length r.last ≡ 4 → Numbers (fields_at w (20 * i)) r
  unfolding fields_at row_bytes
  numbers l =
      let A = little 2 r.first in
      let B = little 2 r.second in
      let C = little 2 (figure 0 r.label) in
      let D = little 2 r.span in
      let E = little 8 (figure (0 + length (text_of r.label)) r.value) in
      let F = r.last in
      let a = length_little 2 r.first in
      let b = length_little 2 r.second in
      let c = length_little 2 (figure 0 r.label) in
      let d = length_little 2 r.span in
      let e = length_little 8 (figure (0 + length (text_of r.label)) r.value) in
      record {
        step = ap (λ (m : ℕ). word_at 2 w m) (sym (add-zero (20 * i))) ∙ there 2 0 (omega arith) ∙ front_word 2 A (B ++ (C ++ (D ++ (E ++ F)))) a;
        kind = there 2 2 (omega arith) ∙ skip_word 2 A (B ++ (C ++ (D ++ (E ++ F)))) 2 0 (omega arith) ∙ front_word 2 B (C ++ (D ++ (E ++ F))) b;
        path = there 2 4 (omega arith) ∙ skip_word 2 A (B ++ (C ++ (D ++ (E ++ F)))) 4 2 (omega arith) ∙ skip_word 2 B (C ++ (D ++ (E ++ F))) 2 0 (omega arith) ∙ front_word 2 C (D ++ (E ++ F)) c;
        span =
            there 2 6 (omega arith) ∙ skip_word 2 A (B ++ (C ++ (D ++ (E ++ F)))) 6 4 (omega arith) ∙ skip_word 2 B (C ++ (D ++ (E ++ F))) 4 2 (omega arith)
            ∙ skip_word 2 C (D ++ (E ++ F)) 2 0 (omega arith) ∙ front_word 2 D (E ++ F) d;
        value =
            there 8 8 (omega arith) ∙ skip_word 8 A (B ++ (C ++ (D ++ (E ++ F)))) 8 6 (omega arith) ∙ skip_word 8 B (C ++ (D ++ (E ++ F))) 6 4 (omega arith)
            ∙ skip_word 8 C (D ++ (E ++ F)) 4 2 (omega arith) ∙ skip_word 8 D (E ++ F) 2 0 (omega arith) ∙ front_word 8 E F e;
        place =
            there 4 16 (omega arith) ∙ skip_word 4 A (B ++ (C ++ (D ++ (E ++ F)))) 16 14 (omega arith) ∙ skip_word 4 B (C ++ (D ++ (E ++ F))) 14 12 (omega arith)
            ∙ skip_word 4 C (D ++ (E ++ F)) 12 10 (omega arith) ∙ skip_word 4 D (E ++ F) 10 8 (omega arith) ∙ skip_word 4 E F 8 0 (omega arith);
      }

-- ---- rows of steps

-- of every row of a step list
record Shaped (x : Row) : Type 0 where
  first : x.first < 65536
  second : x.second < 65536
  place : ℕ
  last : x.last ≡ little 4 place

abbrev AllShaped : List Row → Type 0
AllShaped [] = Unit
AllShaped (x ∷ xs) = Shaped x × AllShaped xs

shaped-++ : (xs ys : List Row) → AllShaped xs → AllShaped ys → AllShaped (xs ++ ys)
shaped-++ [] ys f g = g
shaped-++ (x ∷ xs) ys f g = (f.0, shaped-++ xs ys f.1 g)

step_shaped : (i k : ℕ) (r : Field) (m : ℕ) (v : Field) (p : ℕ) → i < 65536 → k < 65536 → Shaped (step_row i k r m v p)
unfolding step_row
step_shaped i k r m v p l n = record { first = l; second = n; place = p; last = refl }

mutual
  unfolding elements item

  items_shaped : (d : ℕ) (b : Basic) → AllShaped (elements item d b)
  items_shaped d (boolean b) = tt
  items_shaped d null = tt
  items_shaped d (integer z) = tt
  items_shaped d (decimal t) = tt
  items_shaped d (string t) = tt
  items_shaped d (reference r) = tt
  items_shaped d (vector bs) = each_shaped (suc d) bs

  each_shaped : (d : ℕ) (bs : Basics) → AllShaped (each item d bs)
  each_shaped d εⱽ = tt
  each_shaped d (b ∷ⱽ bs) = (step_shaped 7 (kind b) _ _ _ _ (lit< tt) (kind_below b), shaped-++ (elements item d b) (each item d bs) (items_shaped d b) (each_shaped d bs))

rows_shaped : (i : Step) → AllShaped (step_rows i)
unfolding step_rows
rows_shaped (make p r) = (step_shaped 1 0 _ _ _ _ (lit< tt) (lit< tt), tt)
rows_shaped (take p r) = (step_shaped 2 0 _ _ _ _ (lit< tt) (lit< tt), tt)
rows_shaped enter = (step_shaped 3 0 _ _ _ _ (lit< tt) (lit< tt), tt)
rows_shaped leave = (step_shaped 4 0 _ _ _ _ (lit< tt) (lit< tt), tt)
rows_shaped done = (step_shaped 5 0 _ _ _ _ (lit< tt) (lit< tt), tt)
rows_shaped (set p r b) = (step_shaped 6 (kind b) _ _ _ _ (lit< tt) (kind_below b), items_shaped 0 b)
rows_shaped (link p r l) = (step_shaped 8 0 _ _ _ _ (lit< tt) (lit< tt), tt)

all_shaped : (is : List Step) → AllShaped (all_rows is)
unfolding all_rows
all_shaped [] = tt
all_shaped (i ∷ is) = shaped-++ (step_rows i) (all_rows is) (rows_shaped i) (all_shaped is)

-- ---- a draft, settled

record SameRow (x y : Row) : Type 0 where
  bytes : (t : ℕ) → row_bytes t x ≡ row_bytes t y
  text : row_text x ≡ row_text y

record SameLabel (s : List ℕ) (i p : ℕ) (m : Field) : Type 0 where
  is : label_at s i p ≡ m
  there : LabelThere s i p

label_case : {s : List ℕ} {i p : ℕ} {l m : Field} → length s ≤ 32768 → Labelled s i l m → p ≡ word 2 (little 2 (figure 0 l)) 0 → SameLabel s i p m
unfolding label_at figure when◌then◌else◌
label_case short (no_label e) q = record { is = rw e; there = record { path = λ t. absurd (true≢false (sym t ∙ e)) } }
label_case {s} {i} {p} short (path_label {p = p'} {r = r} e R) q =
    let z : p ≡ p' = q ∙ word_little 2 p' (omega (arith, reads_within R)) in
    record {
      is = rw e (ap (λ (n : ℕ). text (path_text (path_at s n))) z ∙ ap (λ (r : Path). text (path_text r)) (path_is R));
      there = record { path = λ _. subst (PathThere s) (sym z) (path_there R) };
    }

record SameValue (s : List ℕ) (i k v : ℕ) (m : Field) : Type 0 where
  text : text_of (value_at s i k v) ≡ text_of m
  figures : (t : ℕ) → little 8 (figure t (value_at s i k v)) ≡ little 8 (figure t m)
  there : ValueThere s i k v

-- a value that is the row's
same_value : {s : List ℕ} {i k v : ℕ} {m : Field} → value_at s i k v ≡ m → ValueThere s i k v → SameValue s i k v m
same_value e t = record { text = ap text_of e; figures = λ n. ap (λ (f : Field). little 8 (figure n f)) e; there = t }

decimal_there : (s : List ℕ) (p : ℕ) {n : ℕ} {t : List ℕ} → scan (drop p s) ≡ token (literal (decimal t)) n → (said_at s p ≡ t) × DecimalThere s p
unfolding said_at said_in said_by
decimal_there s p {n} {t} c =
    let e : said_at s p ≡ t = rw c in
    (e, record { size = n; scanned = c ∙ ap (λ (u : List ℕ). token (literal (decimal u)) n) (sym e) })

string_there : (s : List ℕ) (p : ℕ) {n : ℕ} {t : List ℕ} → scan (drop p s) ≡ token (literal (string t)) n → (said_at s p ≡ t) × StringThere s p
unfolding said_at said_in said_by
string_there s p {n} {t} c =
    let e : said_at s p ≡ t = rw c in
    (e, record { size = n; scanned = c ∙ ap (λ (u : List ℕ). token (literal (string u)) n) (sym e) })

module _ {s : List ℕ} {i k v : ℕ} (short : length s ≤ 32768) where
  value_case : (z : ℕ) {l m : Field} → Valued s i k l m → v ≡ word 8 (little 8 (figure z l)) 0 → SameValue s i k v m
  unfolding value_at figure text_of is_long when◌then◌else◌
  value_case z (same_number {v = v'} e f g) q =
      record {
        text = rw (e, f, g);
        figures = λ t. rw (e, f, g) (ap (little 8) q ∙ little_word 8 v');
        there = record {
          path = λ t. absurd (true≢false (sym t ∙ e));
          decimal = λ _ t. absurd (true≢false (sym t ∙ f));
          string = λ _ _ t. absurd (true≢false (sym t ∙ g));
        };
      }
  value_case z (path_value {p = p} {r = r} e R) q =
      let y : v ≡ p = q ∙ word_little 8 p (omega (arith, reads_within R)) in
      same_value
      (rw e (ap (λ (n : ℕ). text (path_text (path_at s n))) y ∙ ap (λ (r : Path). text (path_text r)) (path_is R)))
      (record {
        path = λ _. subst (PathThere s) (sym y) (path_there R);
        decimal = λ t. absurd (true≢false (sym e ∙ t));
        string = λ t. absurd (true≢false (sym e ∙ t));
      })
  value_case z (decimal_value {p = p} {n = n} {t = t} e f c) q =
      let D = decimal_there s p c in
      let y : v ≡ p = q ∙ word_little 8 p (omega (arith, decimal_within D.1)) in
      same_value
      (rw (e, f) (ap (λ (n : ℕ). text (long_text (said_at s n))) y ∙ ap (λ (u : List ℕ). text (long_text u)) D.0))
      (record {
        path = λ t. absurd (true≢false (sym t ∙ e));
        decimal = λ _ _. subst (DecimalThere s) (sym y) D.1;
        string = λ _ t. absurd (true≢false (sym f ∙ t));
      })
  value_case z (string_value {p = p} {n = n} {t = t} e f g c) q =
      let D = string_there s p c in
      let y : v ≡ p = q ∙ word_little 8 p (omega (arith, string_within D.1)) in
      same_value
      (rw (e, f, g) (ap (λ (n : ℕ). text (long_text (said_at s n))) y ∙ ap (λ (u : List ℕ). text (long_text u)) D.0))
      (record {
        path = λ t. absurd (true≢false (sym t ∙ e));
        decimal = λ _ t. absurd (true≢false (sym t ∙ f));
        string = λ _ _ _. subst (StringThere s) (sym y) D.1;
      })

record Settles (s : List ℕ) (f : Fields) (x : Row) : Type 0 where
  same : SameRow (settled s f) x
  there : RowThere s f

settles : {s : List ℕ} {d : Draft} {x : Row} {f : Fields} → length s ≤ 32768 → Tied s d x → Shaped x → Numbers f d.row → Settles s f x
unfolding settled row_bytes row_text
settles {s} {d} {x} {f} short T S N =
    let e₁ : f.step ≡ x.first = N.step ∙ ap (λ (n : ℕ). word 2 (little 2 n) 0) T.step ∙ word_little 2 x.first (omega (arith, S.first)) in
    let e₂ : f.kind ≡ x.second = N.kind ∙ ap (λ (n : ℕ). word 2 (little 2 n) 0) T.kind ∙ word_little 2 x.second (omega (arith, S.second)) in
    let L : SameLabel s x.first f.path x.label = label_case short T.label N.path in
    let W : SameValue s x.first x.second f.value x.value = value_case short _ T.value N.value in
    let e₃ : label_at s f.step f.path ≡ x.label = ap (λ (i : ℕ). label_at s i f.path) e₁ ∙ L.is in
    let e₄ : little 2 f.span ≡ little 2 x.span = ap (little 2) (N.span ∙ ap (λ (n : ℕ). word 2 (little 2 n) 0) T.span) ∙ little_word 2 x.span in
    let v : value_at s f.step f.kind f.value ≡ value_at s x.first x.second f.value = ap₂ (λ (i k : ℕ). value_at s i k f.value) e₁ e₂ in
    let e₆ : little 4 f.place ≡ x.last = ap (little 4) (N.place ∙ ap (λ (l : List ℕ). word 4 l 0) (T.last ∙ S.last)) ∙ little_word 4 S.place ∙ sym S.last in
    record {
      same = record {
        bytes = λ t.
            let e₅ : little 8 (figure (t + length (text_of (label_at s f.step f.path))) (value_at s f.step f.kind f.value)) ≡ little 8 (figure (t + length (text_of x.label)) x.value) =
            ap₂ (λ (l w : Field). little 8 (figure (t + length (text_of l)) w)) e₃ v ∙ W.figures (t + length (text_of x.label)) in
            λ i. little 2 (e₁ i) ++ (little 2 (e₂ i) ++ (little 2 (figure t (e₃ i)) ++ (e₄ i ++ (e₅ i ++ e₆ i))));
        text = ap₂ (λ (a b : List ℕ). a ++ b) (ap text_of e₃) (ap text_of v ∙ W.text);
      };
      there = record {
        label = subst (λ (i : ℕ). LabelThere s i f.path) (sym e₁) L.there;
        value = subst (λ (i : ℕ). ValueThere s i f.kind f.value) (sym e₁) (subst (λ (k : ℕ). ValueThere s x.first k f.value) (sym e₂) W.there);
      };
    }

-- ---- all of them

abbrev AllKept : List ℕ → ℕ → List Draft → Type 0
AllKept w i [] = Unit
AllKept w i (d ∷ ds) = KeptAt w i d.row × AllKept w (suc i) ds

puts_below : (b : List ℕ) (j : ℕ) (ds : List Draft) (k : ℕ) → AllTwenty ds → 20480 ≤ length b → k < 20 * j → get_or (puts b j ds) k 0 ≡ get_or b k 0
unfolding puts
puts_below b j [] k t l h = refl
puts_below b j (d ∷ ds) k t l h =
    puts_below (put_row b j d.row) (suc j) ds k t.1 (omega (arith, (put_frame b j d.row t.0).long)) (omega arith)
    ∙ ⊎_elim
    (λ m.
    let f : 20 * j + length (row_bytes 0 d.row) ≤ length b = omega (arith, t.0.long) in
    ap (λ (w : List ℕ). get_or w k 0) (put_in b j d.row (omega arith) ∙ sym (stored_sets b (20 * j) (row_bytes 0 d.row) f)) ∙ byte_other b (20 * j) (row_bytes 0 d.row) k (inl h))
    (λ m. ap (λ (w : List ℕ). get_or w k 0) (put_out b j d.row (omega arith)))
    (fit (suc j) 1024)

puts_kept : (b : List ℕ) (i : ℕ) (ds : List Draft) → AllTwenty ds → 20480 ≤ length b → i + length ds ≤ 1024 → AllKept (puts b i ds) i ds
unfolding puts
puts_kept b i [] t l h = tt
puts_kept b i (d ∷ ds) t l h =
    let R = row_bytes 0 d.row in
    let b' = put_row b i d.row in
    let l' : 20480 ≤ length b' = omega (arith, (put_frame b i d.row t.0).long) in
    let f : 20 * i + length R ≤ length b = omega (arith, t.0.long) in (
      record {
        bytes = λ k m.
            puts_below b' (suc i) ds (20 * i + k) t.1 l' (omega arith)
            ∙ ap (λ (w : List ℕ). get_or w (20 * i + k) 0) (put_in b i d.row (omega arith) ∙ sym (stored_sets b (20 * i) R f))
            ∙ byte_stored b (20 * i) R k f (omega (arith, t.0.long));
        room = omega (arith, puts_long b' (suc i) ds t.1);
      },
      puts_kept b' (suc i) ds t.1 l' (omega arith),
    )
  where
    puts_long : (b : List ℕ) (i : ℕ) (ds : List Draft) → AllTwenty ds → length (puts b i ds) ≡ length b
    puts_long b i [] t = refl
    puts_long b i (d ∷ ds) t = puts_long (put_row b i d.row) (suc i) ds t.1 ∙ (put_frame b i d.row t.0).long

puts_frame : (b : List ℕ) (i : ℕ) (ds : List Draft) → AllTwenty ds → Frame b (puts b i ds)
unfolding puts
puts_frame b i [] t = frame_same b
puts_frame b i (d ∷ ds) t = frame_then (put_frame b i d.row t.0) (puts_frame (put_row b i d.row) (suc i) ds t.1)

abbrev AllSame : List Row → List Row → Type 0
AllSame [] [] = Unit
AllSame [] (y ∷ ys) = ⊥
AllSame (x ∷ xs) [] = ⊥
AllSame (x ∷ xs) (y ∷ ys) = SameRow x y × AllSame xs ys

abbrev AllThere : List ℕ → List ℕ → ℕ → ℕ → Type 0
AllThere s w i zero = Unit
AllThere s w i (suc n) = RowThere s (fields_at w (20 * i)) × AllThere s w (suc i) n

all_settle : {s : List ℕ} (w : List ℕ) {ds : List Draft} {xs : List Row} (i : ℕ) → length s ≤ 32768 → AllTied s ds xs → AllShaped xs → AllKept w i ds
    → AllSame (rows_at s w i (length ds)) xs × AllThere s w i (length ds)
unfolding rows_at
all_settle w i short none S K = (tt, tt)
all_settle w i short (also T A) S K =
    let N = numbers K.0 (ap length (T.last ∙ S.0.last) ∙ length_little 4 S.0.place) in
    let one = settles short T S.0 N in
    let others = all_settle w (suc i) short A S.1 K.1 in
    ((one.same, others.0), (one.there, others.1))

all_there : (s w : List ℕ) (i n : ℕ) → AllThere s w i n → (j : ℕ) → j < n → RowThere s (fields_at w (20 * (i + j)))
all_there s w i zero T j h = absurd (omega arith)
all_there s w i (suc n) T zero h = subst (λ (m : ℕ). RowThere s (fields_at w (20 * m))) (sym (add-zero i)) T.0
all_there s w i (suc n) T (suc j) h =
    let e : suc i + j ≡ i + suc j = omega arith in
    subst (λ (m : ℕ). RowThere s (fields_at w (20 * m))) e (all_there s w (suc i) n T.1 j (omega arith))

-- ---- the same rows make the same list

same_texts : (xs ys : List Row) → AllSame xs ys → texts xs ≡ texts ys
unfolding texts
same_texts [] [] e = refl
same_texts [] (y ∷ ys) e = absurd e
same_texts (x ∷ xs) [] e = absurd e
same_texts (x ∷ xs) (y ∷ ys) e = ap₂ (λ (a b : List ℕ). a ++ b) e.0.text (same_texts xs ys e.1)

same_records : (t : ℕ) (xs ys : List Row) → AllSame xs ys → records t xs ≡ records t ys
unfolding records
same_records t [] [] e = refl
same_records t [] (y ∷ ys) e = absurd e
same_records t (x ∷ xs) [] e = absurd e
same_records t (x ∷ xs) (y ∷ ys) e =
    ap₂ (λ (a b : List ℕ). a ++ b) (e.0.bytes t)
    (ap (λ (r : List ℕ). records (t + length r) xs) e.0.text ∙ same_records (t + length (row_text y)) xs ys e.1)

same_length : (xs ys : List Row) → AllSame xs ys → length xs ≡ length ys
same_length [] [] e = refl
same_length [] (y ∷ ys) e = absurd e
same_length (x ∷ xs) [] e = absurd e
same_length (x ∷ xs) (y ∷ ys) e = ap suc (same_length xs ys e.1)

same_list : (xs ys : List Row) → AllSame xs ys → laid_out 1 xs ≡ laid_out 1 ys
unfolding laid_out
same_list xs ys e = rw (same_records 0 xs ys e, same_texts xs ys e, same_length xs ys e)

-- ---- the whole

-- what is in the work slice after reading is a list of drafts whose rows are the steps'
pub record Drafted (s w : List ℕ) (xs : List Row) (n : ℕ) : Type 0 where
  pub list : laid_out 1 (rows_at s w 0 n) ≡ laid_out 1 xs
  pub texts : texts (rows_at s w 0 n) ≡ texts xs
  pub there : (i : ℕ) → i < n → RowThere s (fields_at w (20 * i))

pub drafted : (s b : List ℕ) (ds : List Draft) (is : List Step) → length s ≤ 32768 → AllTied s ds (all_rows is) → 20480 ≤ length b → length ds ≤ 1024
    → Drafted s (puts b 0 ds) (all_rows is) (length ds)
drafted s b ds is short A l few =
    let xs = all_rows is in
    let S = all_shaped is in
    let w = puts b 0 ds in
    let R = all_settle w 0 short A S (puts_kept b 0 ds (all_twenty A (all_lasts is)) l (omega arith)) in
    record {
      list = same_list (rows_at s w 0 (length ds)) xs R.0;
      texts = same_texts (rows_at s w 0 (length ds)) xs R.0;
      there = λ i h. subst (λ (m : ℕ). RowThere s (fields_at w (20 * m))) (zero-add i) (all_there s w 0 (length ds) R.1 i h);
    }

pub drafts_frame : (s b : List ℕ) (ds : List Draft) (is : List Step) → AllTied s ds (all_rows is) → Frame b (puts b 0 ds)
drafts_frame s b ds is A = puts_frame b 0 ds (all_twenty A (all_lasts is))

-- ---- how many, how much, and how long

pub same_count : {s : List ℕ} {ds : List Draft} {xs : List Row} → AllTied s ds xs → length ds ≡ length xs
same_count none = refl
same_count (also T A) = ap suc (same_count A)

pub same_size : {s : List ℕ} {ds : List Draft} {xs : List Row} → AllTied s ds xs → text_size ds ≡ length (texts xs)
unfolding text_size texts
same_size none = refl
same_size (also {x = x} {xs = xs} T A) = simp length-append (omega (arith, T.size, same_size A))
