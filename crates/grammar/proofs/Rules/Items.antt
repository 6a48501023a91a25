-- Basics and items: the rules of the readers that call one another. Assumes nothing.
use Rattle.std.specs.Prelude.{Ok, Err}
use Prim.Native.Nat.{ℕ, suc, ◌+◌, ◌-◌, ◌≤◌}
use native.Mathlib.Omega.{arith}
use native.Mathlib.Nat.{zero-add}
use native.Mathlib.Numerals.{add-one}
use mathlib.Core.Path.{◌≡◌, refl, ap, ◌∙◌}
use mathlib.Core.Bool.{true}
use mathlib.Core.List.{List, [], ◌∷◌, ◌++◌}
use lib.Dec.{ltb}
use lib.ListN.{length}
use borrow.Author.Tests.{lt-ltb}
use Rattle.paper.specs.Bytes.{when◌then◌else◌}
use Rattle.paper.specs.Answer.{◌>>=◌, demand}
use Rattle.paper.specs.Tokens.{mark, is_mark}
use Rattle.paper.specs.Scanner.{next}
use Rattle.grammar.specs.Drafts.{Draft, Drafted, draft, one, several, item_draft, draft_basic, draft_basics, text_size}
use Rattle.grammar.specs.Places.{here, Shown}
use Rattle.grammar.specs.Seen.{NotMark}
use Rattle.grammar.specs.Basics.{laid_of, laid_size, rest_vector, BasicFound}
use Rattle.grammar.specs.Puts.{put_row, puts, Frame}
use Rattle.grammar.specs.Went.{Went, one_more, PassIs, Answers, AheadIs}
use Rattle.grammar.specs.Readers.{Fit, FitBasic, itself, own_row, own_drafts, BasicRead, ItemsRead}
use Rattle.grammar.specs.declared.basic.Basic.{Basic}
use Rattle.grammar.specs.declared.basic.Laid.TheVariants.{Plain, Opened}
use Rattle.refusal.specs.declared.Refusal.{Refusal}
use Rattle.refusal.specs.declared.Reason.TheVariants.{TooManyOpenings}
use Rattle.grammar.specs.Refusals.{Refuses}
use Rattle.grammar.specs.declared.cursor.Cursor.{Cursor}
use Rattle.kinds.specs.Numbers.{kind_number, step_number}
use Rattle.kinds.specs.declared.Kind.{Kind}
use Rattle.kinds.specs.declared.Kind.TheVariants as kinds
use Rattle.kinds.specs.declared.Step.TheVariants.{Item}
use Rattle.grammar.specs.declared.vectors.Own.{Own}
use Rattle.grammar.proofs.Rules.Marks.{expected}
use Rattle.grammar.proofs.Rules.Puts.{twenty, put_frame, frame_same, frame_then, put_before}
use Rattle.grammar.proofs.Rules.Answers.{fuel_two, after, keep, ahead_after, ahead_back}

abbrev pub cursor : ℕ → ℕ → ℕ → Cursor
cursor at n t = record { at = at; count = n; text = t }

-- an item has no path and no place
abbrev pub item_own : Own
item_own = record { step = Item; place = 0; size = 0 }

own_item : (b : Drafted) → own_drafts item_own b ≡ item_draft b
unfolding own_drafts item_draft
own_item b = ap (λ (z : ℕ). draft 7 b.kind 0 (suc (length b.items)) b.value 0 z ∷ b.items) (zero-add b.size)

-- the row of a basic has 20 bytes
own_frame : (b : List ℕ) (n : ℕ) (o : Own) (k : Kind) (m v : ℕ) → Frame b (put_row b n (own_row o k m v))
own_frame b n o k m v = put_frame b n (own_row o k m v) (twenty (step_number o.step) (kind_number k) m o.place _ _)

-- ---- basics

module _ (s : List ℕ) (b : Basic) (o : Own) (from : Cursor) (d : ℕ) (b₀ : List ℕ) where
  pub basic_plain : (b₁ : List ℕ) (k : Kind) (v z : ℕ) → laid_of b ≡ Plain k v z → FitBasic s b o from → b₁ ≡ put_row b₀ from.count (own_row o k 1 v)
      → BasicRead s b o from d b₀ b₁ (Ok (one_more from (o.size + z)))
  unfolding own_drafts puts draft one text_size
  basic_plain b₁ k v z e F w =
      record {
        is = λ n le. record {
          it = one (kind_number k) v z;
          is = rw e;
          count = refl;
          text = omega arith;
          work = w;
          frame = rw w (own_frame b₀ from.count o k 1 v);
        };
        ahead = rw e (record { on = omega arith; within = F.fits.within; few = omega arith; light = omega arith });
      }

  module _ (p : ℕ) (e : laid_of b ≡ Opened p) where
    pub basic_deep : d ≡ 0 → BasicRead s b o from d b₀ b₀ (Err (record { reason = TooManyOpenings; place = p }))
    unfolding rest_vector ◌>>=◌ demand
    basic_deep z = record { is = λ n le. record { is = rw (e, z); frame = frame_same b₀ }; ahead = tt }

    module _ (h : d ≡ 0 → ⊥) where
      open_left : ltb 0 d ≡ true
      open_left = lt-ltb 0 d (omega arith)

      pub basic_fault : (x : Refusal) → Refuses (next (here s from.at)) x → BasicRead s b o from d b₀ b₀ (Err x)
      unfolding rest_vector ◌>>=◌ demand
      basic_fault x f = record { is = λ m le. record { is = rw (e, open_left, f); frame = frame_same b₀ }; ahead = tt }

      pub basic_empty : (b₁ : List ℕ) (q g : ℕ) → FitBasic s b o from → Shown s from.at (mark 93) q g → b₁ ≡ put_row b₀ from.count (own_row o kinds.Vector (from.count + 1 - from.count) 0)
          → BasicRead s b o from d b₀ b₁ (Ok (cursor g (from.count + 1) (from.text + o.size)))
      unfolding rest_vector ◌>>=◌ demand is_mark when◌then◌else◌ own_drafts puts draft several text_size
      basic_empty b₁ q g F M w =
          let m : from.count + 1 - from.count ≡ 1 = omega arith in
          record {
            is = λ n le. record {
              it = several [];
              is = rw (e, open_left, M.is);
              count = refl;
              text = omega arith;
              work = w ∙ ap (λ (k : ℕ). put_row b₀ from.count (own_row o kinds.Vector k 0)) m;
              frame = rw w (own_frame b₀ from.count o kinds.Vector (from.count + 1 - from.count) 0);
            };
            ahead = rw e (record { on = omega (arith, M); within = M.within; few = omega (arith, M); light = omega (arith, M) });
          }

      module _ (M : NotMark s from.at 93) (b₁ : List ℕ) where
        pub basic_no : (x : Refusal) → ItemsRead s (one_more from o.size) (d - 1) b₀ b₁ (Err x) → BasicRead s b o from d b₀ b₁ (Err x)
        unfolding rest_vector ◌>>=◌ demand when◌then◌else◌
        basic_no x I =
            record {
              is = λ m le. let w = I.is m le in record { is = rw (e, open_left, M.stood.is, M.other "]" refl, w.is); frame = w.frame };
              ahead = tt;
            }

        pub basic_items : (b₂ : List ℕ) (to : Cursor) → ItemsRead s (one_more from o.size) (d - 1) b₀ b₁ (Ok to)
            → b₂ ≡ put_row b₁ from.count (own_row o kinds.Vector (to.count - from.count) 0)
            → BasicRead s b o from d b₀ b₂ (Ok to)
        unfolding rest_vector ◌>>=◌ demand when◌then◌else◌ own_drafts puts draft several text_size
        basic_items b₂ to I e₂ =
            record {
              is = λ n le.
                  let w = I.is n le in
                  let m : to.count - from.count ≡ suc (length w.it) = omega (arith, w.count) in
                  let x : b₂ ≡ put_row (puts b₀ (suc from.count) w.it) from.count (own_row o kinds.Vector (suc (length w.it)) 0) =
                  e₂
                  ∙ ap (λ (k : ℕ). put_row b₁ from.count (own_row o kinds.Vector k 0)) m
                  ∙ ap (λ (c : List ℕ). put_row c from.count (own_row o kinds.Vector (suc (length w.it)) 0)) (w.work ∙ ap (λ (k : ℕ). puts b₀ k w.it) (add-one from.count)) in
                  record {
                    it = several w.it;
                    is = rw (e, open_left, M.stood.is, M.other "]" refl, w.is);
                    count = omega (arith, w.count);
                    text = omega (arith, w.text);
                    work = x ∙ put_before w.it b₀ from.count (suc from.count) (own_row o kinds.Vector (suc (length w.it)) 0) (twenty (step_number o.step) 7 (suc (length w.it)) o.place _ _) (omega arith);
                    frame = frame_then w.frame (rw e₂ (own_frame b₁ from.count o kinds.Vector (to.count - from.count) 0));
                  };
              ahead = rw e (record { on = I.ahead.on; within = I.ahead.within; few = I.ahead.few; light = omega (arith, I.ahead.light) });
            }

-- ---- items

module _ (s : List ℕ) (from : Cursor) (d : ℕ) (b₀ : List ℕ) where
  -- the items that are read from here on, if the calls go at most n deep
  abbrev ItemsOut : List ℕ → Went → ℕ → Type 0
  ItemsOut b₁ r n = Answers itself s b₀ b₁ from r (draft_basics n d (here s from.at))

  pub items_none : (x : Refusal) → ((f d : ℕ) → Refuses (draft_basic (suc f) d (here s from.at)) x) → ItemsRead s from d b₀ b₀ (Err x)
  unfolding draft_basics ◌>>=◌
  items_none x B =
      record { is = fuel_two (ItemsOut b₀ (Err x)) _ (omega arith) (λ m le. record { is = rw (B m d); frame = frame_same b₀ }); ahead = tt }

  module _ (b : Basic) (e : ℕ) (B : BasicFound s from.at b e) (b₁ : List ℕ) where
    pub items_no : (x : Refusal) → BasicRead s b item_own (cursor e from.count from.text) d b₀ b₁ (Err x) → ItemsRead s from d b₀ b₁ (Err x)
    unfolding draft_basics ◌>>=◌
    items_no x R =
        record {
          is = fuel_two (ItemsOut b₁ (Err x)) _ (omega arith) (λ m le. let w = R.is m (omega (arith, B.ahead, B.within)) in record { is = rw (B.is m d, w.is); frame = w.frame });
          ahead = tt;
        }

    module _ (mid : Cursor) (R : BasicRead s b item_own (cursor e from.count from.text) d b₀ b₁ (Ok mid)) where
      -- what the first item comes to
      one_ahead : AheadIs s from.at from.count from.text mid
      one_ahead = ahead_back s from.at from.count from.text e (from.count + 1) (from.text + (0 + laid_size (laid_of b))) (Ok mid) (omega (arith, B.ahead)) (omega (arith, B.ahead)) (omega (arith, B.light)) R.ahead

      pub items_fault : (x : Refusal) → Refuses (next (here s mid.at)) x → ItemsRead s from d b₀ b₁ (Err x)
      unfolding draft_basics ◌>>=◌
      items_fault x f =
          record {
            is = fuel_two (ItemsOut b₁ (Err x)) _ (omega arith) (λ m le. let w = R.is m (omega (arith, B.ahead, B.within)) in record { is = rw (B.is m d, w.is, f); frame = w.frame });
            ahead = tt;
          }

      module _ (M : NotMark s mid.at 44) where
        pub items_last : (r : Went) → PassIs s mid 93 r → ItemsRead s from d b₀ b₁ r
        unfolding draft_basics ◌>>=◌ when◌then◌else◌
        items_last (Err x) P =
            record {
              is = fuel_two (ItemsOut b₁ (Err x)) _ (omega arith)
                  (λ m le. let w = R.is m (omega (arith, B.ahead, B.within)) in record { is = rw (B.is m d, w.is, M.stood.is, M.other "," refl, P "]" refl); frame = w.frame });
              ahead = tt;
            }
        items_last (Ok to) P =
            record {
              is = fuel_two (ItemsOut b₁ (Ok to)) _ (omega arith)
                  (λ m le.
                  let w = R.is m (omega (arith, B.ahead, B.within)) in
                  let i = own_item w.it in
                  record {
                    it = item_draft w.it;
                    is = rw (B.is m d, w.is, M.stood.is, M.other "," refl, expected "]" P.shown);
                    count = P.count ∙ w.count ∙ ap (λ (ds : List Draft). from.count + length ds) i;
                    text = P.text ∙ w.text ∙ ap (λ (ds : List Draft). from.text + text_size ds) i;
                    work = w.work ∙ ap (λ (ds : List Draft). puts b₀ from.count ds) i;
                    frame = w.frame;
                  });
              ahead = record {
                on = omega (arith, one_ahead, P.shown);
                within = P.shown.within;
                few = omega (arith, one_ahead, P.shown, P.count);
                light = omega (arith, one_ahead, P.shown, P.text);
              };
            }

      pub items_more : (q g : ℕ) (b₂ : List ℕ) (r : Went) → Shown s mid.at (mark 44) q g → ItemsRead s (cursor g mid.count mid.text) d b₁ b₂ r → ItemsRead s from d b₀ b₂ r
      unfolding draft_basics ◌>>=◌ when◌then◌else◌ is_mark
      items_more q g b₂ r M I =
          record {
            is = fuel_two (λ n. Answers itself s b₀ b₂ from r (draft_basics n d (here s from.at))) _ (omega arith)
                (λ m le.
                let w = R.is m (omega (arith, B.ahead, B.within)) in
                let i = own_item w.it in
                rw (B.is m d, w.is, M.is, expected "," M)
                (keep itself (λ is. item_draft w.it ++ is) s b₀ b₂ from r (draft_basics (suc m) d (here s g))
                (after itself s b₀ b₁ b₂ from (cursor g mid.count mid.text) (item_draft w.it) r
                (w.work ∙ ap (λ (ds : List Draft). puts b₀ from.count ds) i)
                (w.count ∙ ap (λ (ds : List Draft). from.count + length ds) i)
                (w.text ∙ ap (λ (ds : List Draft). from.text + text_size ds) i)
                w.frame (draft_basics (suc m) d (here s g)) (I.is (suc m) (omega (arith, B.ahead, B.within, M, R.ahead))))));
            ahead = ahead_after one_ahead r (ahead_back s mid.at mid.count mid.text g mid.count mid.text r (omega (arith, M)) (omega (arith, M)) (omega (arith, M)) I.ahead);
          }

-- the loop that reads items: whatever is read from here on is, with what was read before, what is read from the start
pub record ItemsLoop (s : List ℕ) (from : Cursor) (d : ℕ) (b₀ b : List ℕ) (c : Cursor) : Type 0 where
  pub fit : Fit s c
  pub on : from.at ≤ c.at
  pub onward : (e : List ℕ) (r : Went) → ItemsRead s c d b e r → ItemsRead s from d b₀ e r
