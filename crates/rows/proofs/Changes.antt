-- Rows replaced, and rows copied: what the tests tell, and the turns of the copy. Assumes nothing.
use Prim.Native.Nat.{ℕ, zero, suc, ◌+◌, ◌-◌, ◌*◌, ◌≤◌, ◌<◌}
use native.Mathlib.Omega.{arith}
use mathlib.Core.Path.{◌≡◌, refl, sym, ap, ◌∙◌}
use mathlib.Core.Bool.{Bool, true, false, ◌&&◌, false≢true}
use mathlib.Core.List.{List}
use lib.ListN.{length, take, length-append}
use lib.Dec.{leb}
use borrow.Author.Tests.{le-leb, leb-true}
use Rattle.paper.specs.Bytes.{when◌then◌else◌}
use Rattle.memory.specs.Memory.{stored, slid, part_at}
use Rattle.memory.proofs.Laws.{stored_none, then_stored, part_in}
use Rattle.rows.specs.Change.{field_at, row_bytes, row_stored, fits_in, spliced, moved, lifted, lifts_in, lift_stored}
use Rattle.rows.proofs.Fields.{row_in, length_row}

and_true : (a b : Bool) → (a && b) ≡ true → (a ≡ true) × (b ≡ true)
and_true true b e = (refl, e)
and_true false b e = absurd (false≢true e)

-- ---- a part replaced

-- the rows from i up to e, of n in a slice of so many bytes, can be replaced by m rows of another
pub record Fits (size n i e have m : ℕ) : Type 0 where
  pub order : i ≤ e
  pub inside : e ≤ n
  pub few : n + m ≤ 4096
  pub room : (n + m) * 16 ≤ size
  pub given : m * 16 ≤ have

abbrev pub Test : ℕ → ℕ → ℕ → ℕ → ℕ → ℕ → Bool
Test size n i e have m = leb i e && (leb e n && (leb (n + m) 4096 && (leb ((n + m) * 16) size && leb (m * 16) have)))

pub fits_of : (size n i e have m : ℕ) {r : Bool} → r ≡ Test size n i e have m → r ≡ true → Fits size n i e have m
fits_of size n i e have m q h =
    let a = and_true (leb i e) _ (sym q ∙ h) in
    let b = and_true (leb e n) _ a.1 in
    let c = and_true (leb (n + m) 4096) _ b.1 in
    let d = and_true (leb ((n + m) * 16) size) _ c.1 in
    record { order = leb-true i e a.0; inside = leb-true e n b.0; few = leb-true (n + m) 4096 c.0; room = leb-true ((n + m) * 16) size d.0; given = leb-true (m * 16) have d.1 }

module _ (w : List ℕ) (n i e : ℕ) (s : List ℕ) (m : ℕ) where
  pub unfit : {r : Bool} → r ≡ Test (length w) n i e (length s) m → r ≡ false → spliced w n i e s m ≡ w
  unfolding spliced fits_in when◌then◌else◌
  unfit q h = let no : Test (length w) n i e (length s) m ≡ false = sym q ∙ h in rw no

  pub fit_spliced : Fits (length w) n i e (length s) m → spliced w n i e s m ≡ stored (slid w (e * 16) ((i + m) * 16) ((n - e) * 16)) (i * 16) (take (m * 16) s)
  unfolding spliced fits_in when◌then◌else◌
  fit_spliced F = rw (le-leb i e F.order, le-leb e n F.inside, le-leb (n + m) 4096 F.few, le-leb ((n + m) * 16) (length w) F.room, le-leb (m * 16) (length s) F.given)

  -- the bytes moved, and the new ones copied
  pub spliced_is : (a b x : List ℕ) → Fits (length w) n i e (length s) m → a ≡ slid w (e * 16) ((i + m) * 16) ((n - e) * 16) → x ≡ part_at s 0 (m * 16) → b ≡ stored a (i * 16) x → b ≡ spliced w n i e s m
  spliced_is a b x F p q r =
      r ∙ ap (λ y. stored y (i * 16) x) p ∙ ap (stored (slid w (e * 16) ((i + m) * 16) ((n - e) * 16)) (i * 16)) (q ∙ part_in s 0 (m * 16) (omega (arith, F.given))) ∙ sym (fit_spliced F)

-- ---- rows copied to another depth

pub record Lifts (size p e have q to : ℕ) : Type 0 where
  pub order : p ≤ e
  pub few : e ≤ 4096
  pub room : e * 16 ≤ size
  pub short : q + (e - p) ≤ 4096
  pub place : (q + (e - p)) * 16 ≤ have
  pub low : to ≤ 65535

abbrev pub LiftTest : ℕ → ℕ → ℕ → ℕ → ℕ → ℕ → Bool
LiftTest size p e have q to = leb p e && (leb e 4096 && (leb (e * 16) size && (leb (q + (e - p)) 4096 && (leb ((q + (e - p)) * 16) have && leb to 65535))))

pub lifts_of : (size p e have q to : ℕ) {r : Bool} → r ≡ LiftTest size p e have q to → r ≡ true → Lifts size p e have q to
lifts_of size p e have q to k h =
    let a = and_true (leb p e) _ (sym k ∙ h) in
    let b = and_true (leb e 4096) _ a.1 in
    let c = and_true (leb (e * 16) size) _ b.1 in
    let d = and_true (leb (q + (e - p)) 4096) _ c.1 in
    let f = and_true (leb ((q + (e - p)) * 16) have) _ d.1 in
    record {
      order = leb-true p e a.0;
      few = leb-true e 4096 b.0;
      room = leb-true (e * 16) size c.0;
      short = leb-true (q + (e - p)) 4096 d.0;
      place = leb-true ((q + (e - p)) * 16) have f.0;
      low = leb-true to 65535 f.1;
    }

module _ (w : List ℕ) (p e : ℕ) (s : List ℕ) (q from to : ℕ) where
  pub unlifted : {r : Bool} → r ≡ LiftTest (length w) p e (length s) q to → r ≡ false → lift_stored w p e s q from to ≡ s
  unfolding lift_stored lifts_in when◌then◌else◌
  unlifted k h = let no : LiftTest (length w) p e (length s) q to ≡ false = sym k ∙ h in rw no

  pub lifted_is : Lifts (length w) p e (length s) q to → lift_stored w p e s q from to ≡ stored s (q * 16) (lifted w from to p (e - p))
  unfolding lift_stored lifts_in when◌then◌else◌
  lifted_is L =
      rw (le-leb p e L.order, le-leb e 4096 L.few, le-leb (e * 16) (length w) L.room, le-leb (q + (e - p)) 4096 L.short, le-leb ((q + (e - p)) * 16) (length s) L.place, le-leb to 65535 L.low)

pub length_lifted : (w : List ℕ) (from to i k : ℕ) → length (lifted w from to i k) ≡ k * 16
unfolding lifted
length_lifted w from to i zero = omega arith
length_lifted w from to i (suc k) =
    let a = row_bytes (field_at 2 w i 0) (moved from to (field_at 2 w i 2)) (field_at 2 w i 4) (field_at 2 w i 6) (field_at 8 w i 8) in
    omega (arith, length-append a (lifted w from to (suc i) k), length_row (field_at 2 w i 0) (moved from to (field_at 2 w i 2)) (field_at 2 w i 4) (field_at 2 w i 6) (field_at 8 w i 8), length_lifted w from to (suc i) k)

-- a turn: the next row goes to its place, and the others are left
pub lift_turn : (w s o z : List ℕ) (p q from to k j a b c d v : ℕ) → j < k → q + k ≤ 4096 → (q + k) * 16 ≤ length s
    → a ≡ field_at 2 w (p + j) 0 → b ≡ moved from to (field_at 2 w (p + j) 2) → c ≡ field_at 2 w (p + j) 4 → d ≡ field_at 2 w (p + j) 6 → v ≡ field_at 8 w (p + j) 8
    → o ≡ row_stored s (q + j) (row_bytes a b c d v)
    → stored s ((q + j) * 16) (lifted w from to (p + j) (k - j)) ≡ z
    → stored o ((q + (j + 1)) * 16) (lifted w from to (p + (j + 1)) (k - (j + 1))) ≡ z
unfolding lifted
lift_turn w s o z p q from to k j a b c d v h l m ea eb ec ed ev eo inv =
    let x = row_bytes (field_at 2 w (p + j) 0) (moved from to (field_at 2 w (p + j) 2)) (field_at 2 w (p + j) 4) (field_at 2 w (p + j) 6) (field_at 8 w (p + j) 8) in
    let y = lifted w from to (suc (p + j)) (k - (j + 1)) in
    let lx : length x ≡ 16 = length_row (field_at 2 w (p + j) 0) (moved from to (field_at 2 w (p + j) 2)) (field_at 2 w (p + j) 4) (field_at 2 w (p + j) 6) (field_at 8 w (p + j) 8) in
    let ly : length y ≡ (k - (j + 1)) * 16 = length_lifted w from to (suc (p + j)) (k - (j + 1)) in
    let e₁ : p + (j + 1) ≡ suc (p + j) = omega arith in
    let e₂ : k - j ≡ suc (k - (j + 1)) = omega arith in
    let eq : o ≡ stored s ((q + j) * 16) x = eo ∙ (λ i. row_stored s (q + j) (row_bytes (ea i) (eb i) (ec i) (ed i) (ev i))) ∙ row_in s (q + j) x (omega arith) in
    rw e₁
    (ap (λ r. stored r ((q + (j + 1)) * 16) y) eq
    ∙ then_stored s ((q + j) * 16) ((q + (j + 1)) * 16) x y (omega arith) (omega arith)
    ∙ (rw e₂ at inv))

pub lift_end : (w s z : List ℕ) (p q from to k j : ℕ) → k ≤ j → stored s ((q + j) * 16) (lifted w from to (p + j) (k - j)) ≡ z → s ≡ z
unfolding lifted
lift_end w s z p q from to k j h inv =
    let e : k - j ≡ 0 = omega arith in
    sym (stored_none s ((q + j) * 16)) ∙ (rw e at inv)
