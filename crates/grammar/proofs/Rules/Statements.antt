-- Statements and their values: the rules of their readers. Assumes nothing.
use Rattle.std.specs.Prelude.{Ok, Err}
use Prim.Native.Nat.{ℕ, suc, ◌+◌, ◌≤◌}
use native.Mathlib.Omega.{arith}
use mathlib.Core.Path.{◌≡◌, refl, ◌∙◌}
use mathlib.Core.List.{List, [], ◌∷◌, ◌++◌}
use Rattle.paper.specs.Bytes.{when◌then◌else◌}
use Rattle.paper.specs.Answer.{Answer, ◌>>=◌}
use Rattle.paper.specs.Tokens.{Here}
use Rattle.paper.specs.Layout.{number}
use Rattle.paper.specs.StepLayout.{step_row}
use Rattle.grammar.specs.Drafts.{Draft, draft, set_draft, make_draft, bare_draft, link_draft, draft_value, draft_statements, text_size}
use Rattle.grammar.specs.Places.{here}
use Rattle.grammar.specs.Paths.{RefSeen, NoName, RefFault, no_token, no_path}
use Rattle.grammar.specs.Values.{rest_value, ValueFound}
use Rattle.grammar.specs.Puts.{path_row, put_row, puts, Frame}
use Rattle.grammar.specs.Went.{Went, moved_to, one_more, PassIs, Answers}
use Rattle.grammar.specs.Readers.{Fit, itself, own_drafts, BasicRead, ValueRead, LinkRead, PrototypesRead, StatementsRead}
use Rattle.grammar.specs.declared.basic.Basic.{Basic as Data}
use Rattle.grammar.specs.declared.value.Value.TheVariants.{Basic, Link, Extends}
use Rattle.refusal.specs.declared.Refusal.{Refusal}
use Rattle.kinds.specs.declared.Step.TheVariants.{Set, Make, Done}
use Rattle.grammar.specs.Refusals.{Refuses}
use Rattle.grammar.specs.declared.cursor.Cursor.{Cursor}
use Rattle.grammar.specs.declared.vectors.Own.{Own}
use Rattle.grammar.specs.declared.path.Reference.{Reference}
use Rattle.grammar.proofs.Rules.Marks.{expected}
use Rattle.grammar.proofs.Rules.Puts.{twenty, put_frame, frame_same, frame_then}
use Rattle.grammar.proofs.Rules.Answers.{fuel, fuel_two, after, keep, ahead_after, ahead_back}
use Rattle.grammar.proofs.Rules.Items.{cursor}
use Rattle.grammar.proofs.Rules.Blocks.{path_frame, between, between_count, between_text}

-- ---- links

module _ (s : List ℕ) (t l : Reference) (from : Cursor) (b₀ b₁ : List ℕ) (w₁ : b₁ ≡ put_row b₀ from.count (step_row 8 0 (number t.place) 0 (number l.place) l.place)) where
  linked : Frame b₀ b₁
  linked = rw w₁ (put_frame b₀ from.count (step_row 8 0 (number t.place) 0 (number l.place) l.place) (twenty 8 0 0 l.place _ _))

  pub link_read : (r : Went) → PassIs s (one_more from (t.size + l.size)) 59 r → LinkRead s t l from b₀ b₁ r
  unfolding rest_value ◌>>=◌ link_draft draft puts text_size
  link_read (Err x) P = record { is = λ n d. record { is = rw (P ";" refl); frame = linked }; ahead = tt }
  link_read (Ok to) P =
      record {
        is = λ n d. record {
          it = link_draft t.place l.place (t.size + l.size) ∷ [];
          is = rw (expected ";" P.shown);
          count = P.count;
          text = P.text ∙ omega arith;
          work = w₁;
          frame = linked;
        };
        ahead = record { on = omega (arith, P.shown); within = P.shown.within; few = omega (arith, P.shown, P.count); light = omega (arith, P.shown, P.text) };
      }

-- ---- values

-- what a set is for
abbrev pub set_own : Reference → Own
set_own t = record { step = Set; place = t.place; size = t.size }

module _ (s : List ℕ) (t : Reference) (from : Cursor) (d : ℕ) (b₀ : List ℕ) where
  abbrev ValueOut : List ℕ → Went → ℕ → Type 0
  ValueOut b₁ r n = Answers itself s b₀ b₁ from r (draft_value n d t.place t.size (here s from.at))

  pub value_no : (x : Refusal) → ((f d p z : ℕ) → Refuses (draft_value (suc (suc f)) d p z (here s from.at)) x) → ValueRead s t from d b₀ b₀ (Err x)
  value_no x E =
      record { is = fuel_two (ValueOut b₀ (Err x)) _ (omega arith) (λ m le. record { is = E m d t.place t.size; frame = frame_same b₀ }); ahead = tt }

  module _ (b : Data) (e : ℕ) (V₁ : ValueFound s from.at (Basic b) e) (b₁ : List ℕ) where
    pub set_no : (x : Refusal) → BasicRead s b (set_own t) (cursor e from.count from.text) d b₀ b₁ (Err x) → ValueRead s t from d b₀ b₁ (Err x)
    unfolding rest_value ◌>>=◌
    set_no x B =
        record {
          is = fuel_two (ValueOut b₁ (Err x)) _ (omega arith)
              (λ m le. let w = B.is m (omega (arith, V₁.ahead, V₁.within)) in record { is = V₁.is m d t.place t.size ∙ rw w.is; frame = w.frame });
          ahead = tt;
        }

    pub set_done : (mid : Cursor) (r : Went) → BasicRead s b (set_own t) (cursor e from.count from.text) d b₀ b₁ (Ok mid) → PassIs s mid 59 r → ValueRead s t from d b₀ b₁ r
    unfolding rest_value ◌>>=◌ own_drafts set_draft
    set_done mid (Err x) B P =
        record {
          is = fuel_two (ValueOut b₁ (Err x)) _ (omega arith)
              (λ m le. let w = B.is m (omega (arith, V₁.ahead, V₁.within)) in record { is = V₁.is m d t.place t.size ∙ rw (w.is, P ";" refl); frame = w.frame });
          ahead = tt;
        }
    set_done mid (Ok to) B P =
        record {
          is = fuel_two (ValueOut b₁ (Ok to)) _ (omega arith)
              (λ m le.
              let w = B.is m (omega (arith, V₁.ahead, V₁.within)) in
              record {
                it = set_draft t.place t.size w.it;
                is = V₁.is m d t.place t.size ∙ rw (w.is, expected ";" P.shown);
                count = P.count ∙ w.count;
                text = P.text ∙ w.text;
                work = w.work;
                frame = w.frame;
              });
          ahead = record {
            on = omega (arith, V₁.ahead, B.ahead, P.shown);
            within = P.shown.within;
            few = omega (arith, V₁.ahead, B.ahead, P.shown, P.count);
            light = omega (arith, V₁.light, B.ahead, P.shown, P.text);
          };
        }

  pub link_done : (l : Reference) (e : ℕ) (b₁ : List ℕ) (r : Went) → ValueFound s from.at (Link l) e → LinkRead s t l (cursor e from.count from.text) b₀ b₁ r → ValueRead s t from d b₀ b₁ r
  link_done l e b₁ r F L =
      record {
        is = fuel_two (ValueOut b₁ r) _ (omega arith) (λ m le. rw (F.is m d t.place t.size) (moved r _ (L.is m d)));
        ahead = ahead_back s from.at (from.count + 1) (from.text + t.size) e (from.count + 1) (from.text + (t.size + l.size)) r (omega (arith, F.ahead)) (omega (arith, F.ahead)) (omega (arith, F.light)) L.ahead;
      }
    where
      -- the place of a cursor has no part in what is written
      moved : (r : Went) (g : Answer (List Draft × Here)) → Answers itself s b₀ b₁ (cursor e from.count from.text) r g → Answers itself s b₀ b₁ from r g
      moved (Ok to) g w = record { it = w.it; is = w.is; count = w.count; text = w.text; work = w.work; frame = w.frame }
      moved (Err x) g w = record { is = w.is; frame = w.frame }

  module _ (e : ℕ) (V₁ : ValueFound s from.at Extends e) (b₁ b₂ : List ℕ) (w₁ : b₁ ≡ put_row b₀ from.count (path_row Make t.place)) where
    made : Frame b₀ b₁
    made = rw w₁ (path_frame b₀ from.count Make t.place)

    pub extends_no : (x : Refusal) → PrototypesRead s (one_more (moved_to from e) t.size) d b₁ b₂ (Err x) → ValueRead s t from d b₀ b₂ (Err x)
    unfolding rest_value ◌>>=◌
    extends_no x P =
        record {
          is = fuel_two (ValueOut b₂ (Err x)) _ (omega arith)
              (λ m le. let w = P.is (suc m) (omega (arith, V₁.ahead, V₁.within)) in record { is = V₁.is m d t.place t.size ∙ rw w.is; frame = frame_then made w.frame });
          ahead = tt;
        }

    pub extends_done : (to : Cursor) (b₃ : List ℕ) → PrototypesRead s (one_more (moved_to from e) t.size) d b₁ b₂ (Ok to) → b₃ ≡ put_row b₂ to.count (path_row Done 0)
        → ValueRead s t from d b₀ b₃ (Ok (one_more to 0))
    unfolding rest_value ◌>>=◌ make_draft bare_draft draft
    extends_done to b₃ P w₃ =
        record {
          is = fuel_two (ValueOut b₃ (Ok (one_more to 0))) _ (omega arith)
              (λ m le.
              let w = P.is (suc m) (omega (arith, V₁.ahead, V₁.within)) in
              record {
                it = make_draft t.place t.size ∷ w.it ++ (bare_draft 5 ∷ []);
                is = V₁.is m d t.place t.size ∙ rw w.is;
                count = between_count from.count to.count (make_draft t.place t.size) (bare_draft 5) w.it w.count;
                text = between_text from.text to.text (make_draft t.place t.size) (bare_draft 5) w.it refl w.text;
                work = between b₀ b₁ b₂ b₃ from.count to.count (make_draft t.place t.size) (bare_draft 5) w.it w₁ w.work w.count w₃;
                frame = frame_then made (frame_then w.frame (rw w₃ (path_frame b₂ to.count Done 0)));
              });
          ahead = record { on = omega (arith, V₁.ahead, P.ahead); within = P.ahead.within; few = omega (arith, V₁.ahead, P.ahead); light = omega (arith, V₁.ahead, P.ahead) };
        }

-- ---- statements

module _ (s : List ℕ) (from : Cursor) (d : ℕ) (b₀ : List ℕ) where
  abbrev StatementsOut : List ℕ → Went → ℕ → Type 0
  StatementsOut b₁ r n = Answers itself s b₀ b₁ from r (draft_statements n d (here s from.at))

  pub statements_end : Fit s from → NoName s from.at → StatementsRead s from d b₀ b₀ (Ok from)
  unfolding draft_statements ◌>>=◌ when◌then◌else◌ puts text_size
  statements_end F N =
      record {
        is = fuel (StatementsOut b₀ (Ok from)) _ (omega arith)
            (λ m le. record { it = []; is = rw (N.stood.is, N.other); count = omega arith; text = omega arith; work = refl; frame = frame_same b₀ });
        ahead = record { on = omega arith; within = F.fits.within; few = omega arith; light = omega arith };
      }

  pub statements_fault : (x : Refusal) → RefFault s from.at x → StatementsRead s from d b₀ b₀ (Err x)
  unfolding draft_statements ◌>>=◌ when◌then◌else◌
  statements_fault x (no_token e) =
      record { is = fuel (StatementsOut b₀ (Err x)) _ (omega arith) (λ m le. record { is = rw e; frame = frame_same b₀ }); ahead = tt }
  statements_fault x (no_path N i e) =
      record { is = fuel (StatementsOut b₀ (Err x)) _ (omega arith) (λ m le. record { is = rw (N.is, i, e); frame = frame_same b₀ }); ahead = tt }

  module _ (t : Reference) (R : RefSeen s from.at t.place t.next t.size) (b₁ : List ℕ) where
    pub statements_no : (x : Refusal) → ValueRead s t (moved_to from t.next) d b₀ b₁ (Err x) → StatementsRead s from d b₀ b₁ (Err x)
    unfolding draft_statements ◌>>=◌ when◌then◌else◌
    statements_no x W =
        record {
          is = fuel (StatementsOut b₁ (Err x)) _ (omega arith)
              (λ m le. let w = W.is m (omega (arith, R.whole.ahead, R.whole.within)) in record { is = rw (R.stood.is, R.named, R.whole.is, ← R.whole.size, w.is); frame = w.frame });
          ahead = tt;
        }

    pub statements_more : (mid : Cursor) (b₂ : List ℕ) (r : Went) → ValueRead s t (moved_to from t.next) d b₀ b₁ (Ok mid)
        → StatementsRead s mid d b₁ b₂ r → StatementsRead s from d b₀ b₂ r
    unfolding draft_statements ◌>>=◌ when◌then◌else◌
    statements_more mid b₂ r W S =
        record {
          is = fuel (StatementsOut b₂ r) _ (omega arith)
              (λ m le.
              let w = W.is m (omega (arith, R.whole.ahead, R.whole.within)) in
              rw (R.stood.is, R.named, R.whole.is, ← R.whole.size, w.is)
              (keep itself (λ es. w.it ++ es) s b₀ b₂ from r (draft_statements m d (here s mid.at))
              (after itself s b₀ b₁ b₂ from mid w.it r w.work w.count w.text w.frame
              (draft_statements m d (here s mid.at)) (S.is m (omega (arith, R.whole.ahead, R.whole.within, W.ahead))))));
          ahead = ahead_back s from.at from.count from.text t.next (from.count + 1) (from.text + t.size) r
              (omega (arith, R.whole.ahead)) (omega (arith, R.whole.ahead)) (omega (arith, R.whole.ahead, R.whole.light)) (ahead_after W.ahead r S.ahead);
        }

-- the loop that reads statements: whatever is read from here on is, with what was read before, what is read from the start
pub record StatementsLoop (s : List ℕ) (from : Cursor) (d : ℕ) (b₀ b : List ℕ) (c : Cursor) : Type 0 where
  pub fit : Fit s c
  pub on : from.at ≤ c.at
  pub onward : (e : List ℕ) (r : Went) → StatementsRead s c d b e r → StatementsRead s from d b₀ e r
