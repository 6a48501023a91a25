-- Blocks and prototype lists: the rules of their readers. Assumes nothing.
use Rattle.std.specs.Prelude.{Ok, Err}
use Prim.Native.Nat.{ℕ, suc, ◌+◌, ◌-◌, ◌≤◌}
use Prim.Native.Char.{Char, code}
use native.Mathlib.Omega.{arith}
use native.Mathlib.Numerals.{add-one}
use mathlib.Core.Path.{◌≡◌, refl, sym, ap, ◌∙◌}
use mathlib.Core.Bool.{Bool, true, false}
use mathlib.Core.List.{List, [], ◌∷◌, ◌++◌, append_assoc}
use lib.Dec.{ltb}
use lib.ListN.{length, length-append}
use borrow.Author.Tests.{lt-ltb}
use Rattle.paper.specs.Bytes.{when◌then◌else◌}
use Rattle.paper.specs.Answer.{Answer, ok, refused, ◌>>=◌, demand}
use Rattle.paper.specs.Tokens.{Here, mark, is_mark}
use Rattle.paper.specs.Scanner.{next}
use Rattle.paper.specs.Reader.{expect}
use Rattle.paper.specs.Layout.{path_text}
use Rattle.theorems.proofs.Laws.Answers.{assoc, under}
use Rattle.grammar.specs.Drafts.{Draft, draft, take_draft, bare_draft, draft_statements, draft_prototypes, text_size}
use Rattle.grammar.specs.Places.{here, Shown}
use Rattle.grammar.specs.Seen.{NotMark}
use Rattle.grammar.specs.Paths.{RefSeen, NoName, RefFault, no_token, no_path}
use Rattle.grammar.specs.Puts.{path_row, put_row, puts, Frame}
use Rattle.grammar.specs.Went.{Went, moved_to, one_more, PassIs, Answers}
use Rattle.grammar.specs.Readers.{Fit, itself, StatementsRead, PrototypesRead, draft_block, BlockRead}
use Rattle.refusal.specs.declared.Refusal.{Refusal}
use Rattle.refusal.specs.declared.Reason.TheVariants.{TooManyOpenings}
use Rattle.kinds.specs.Numbers.{step_number}
use Rattle.kinds.specs.declared.Step.{Step}
use Rattle.kinds.specs.declared.Step.TheVariants.{Take, Enter, Leave}
use Rattle.grammar.specs.Refusals.{Refuses}
use Rattle.grammar.specs.declared.cursor.Cursor.{Cursor}
use Rattle.grammar.proofs.Rules.Marks.{expected, missing_fault}
use Rattle.grammar.proofs.Rules.Puts.{twenty, put_frame, frame_same, frame_then, puts_append, size_append}
use Rattle.grammar.proofs.Rules.Answers.{fuel, after, keep, ahead_after, ahead_back}
use Rattle.grammar.proofs.Rules.Items.{cursor}

-- the row of a step with a path and no more has 20 bytes
pub path_frame : (b : List ℕ) (n : ℕ) (i : Step) (p : ℕ) → Frame b (put_row b n (path_row i p))
path_frame b n i p = put_frame b n (path_row i p) (twenty (step_number i) 0 0 p _ _)

-- drafts between two
pub between : (b₀ b₁ b₂ b₃ : List ℕ) (n m : ℕ) (x y : Draft) (ds : List Draft)
    → b₁ ≡ put_row b₀ n x.row → b₂ ≡ puts b₁ (n + 1) ds → m ≡ n + 1 + length ds → b₃ ≡ put_row b₂ m y.row → b₃ ≡ puts b₀ n (x ∷ ds ++ (y ∷ []))
unfolding puts
between b₀ b₁ b₂ b₃ n m x y ds e₁ e₂ q e₃ =
    e₃
    ∙ ap (λ (b : List ℕ). put_row b m y.row) (e₂ ∙ ap (λ (b : List ℕ). puts b (n + 1) ds) e₁ ∙ ap (λ (k : ℕ). puts (put_row b₀ n x.row) k ds) (add-one n))
    ∙ ap (λ (k : ℕ). put_row (puts (put_row b₀ n x.row) (suc n) ds) k y.row) (omega arith)
    ∙ sym (puts_append ds (y ∷ []) (put_row b₀ n x.row) (suc n))

pub between_count : (n m : ℕ) (x y : Draft) (ds : List Draft) → m ≡ n + 1 + length ds → m + 1 ≡ n + length (x ∷ ds ++ (y ∷ []))
between_count n m x y ds e = omega (arith, length-append ds (y ∷ []))

pub between_text : (t u : ℕ) (x y : Draft) (ds : List Draft) → y.size ≡ 0 → u ≡ t + x.size + text_size ds → u + 0 ≡ t + text_size (x ∷ ds ++ (y ∷ []))
unfolding text_size
between_text t u x y ds z e = omega (arith, size_append ds (y ∷ []))

-- ---- blocks

-- a reader that refuses as the one before it does, refuses after it as well
refused_after : {X Y Z : Type 0} (m : Answer X) (a : Answer Y) (n p : ℕ) (k : X → Y → Answer Z) → a ≡ refused n p → ((u v : ℕ) → m ≡ refused u v → a ≡ refused u v)
    → m >>= (λ x. a >>= k x) ≡ refused n p
unfolding ◌>>=◌
refused_after (ok x) a n p k e h = rw e
refused_after {Y = Y} {Z = Z} (refused u v) a n p k e h = again (sym (h u v refl) ∙ e)
  where
    again : ◌≡◌ {A = Answer Y} (refused u v) (refused n p) → ◌≡◌ {A = Answer Z} (refused u v) (refused n p)
    again e = let x : u ≡ n = cc in let y : v ≡ p = cc in cc

if_same : {A : Type 0} (c : Bool) {a b : A} (x : A) → a ≡ b → (when c then a else x) ≡ (when c then b else x)
unfolding when◌then◌else◌
if_same true x e = e
if_same false x e = refl

module _ (s : List ℕ) (from : Cursor) (d : ℕ) (b₀ : List ℕ) where
  pub block_missing : (x : Refusal) → ((c : Char) → code c ≡ 123 → Refuses (expect c (here s from.at)) x) → BlockRead s from d b₀ b₀ (Err x)
  unfolding draft_block
  block_missing x E =
      record {
        is = λ m le. record {
          is = refused_after (next (here s from.at)) (expect "{" (here s from.at)) _ _ _ (E "{" refl) (λ u v q. missing_fault s from.at q "{");
          frame = frame_same b₀;
        };
        ahead = tt;
      }

  module _ (p e : ℕ) (M : Shown s from.at (mark 123) p e) where
    pub block_deep : d ≡ 0 → BlockRead s from d b₀ b₀ (Err (record { reason = TooManyOpenings; place = p }))
    unfolding draft_block ◌>>=◌ demand
    block_deep z = record { is = λ m le. record { is = rw (M.is, expected "{" M, z); frame = frame_same b₀ }; ahead = tt }

    module _ (h : d ≡ 0 → ⊥) (b₁ : List ℕ) (w₁ : b₁ ≡ put_row b₀ from.count (path_row Enter 0)) (b₂ : List ℕ) where
      open_left : ltb 0 d ≡ true
      open_left = lt-ltb 0 d (omega arith)

      entered : Frame b₀ b₁
      entered = rw w₁ (path_frame b₀ from.count Enter 0)

      pub block_no : (x : Refusal) → StatementsRead s (one_more (moved_to from e) 0) (d - 1) b₁ b₂ (Err x) → BlockRead s from d b₀ b₂ (Err x)
      unfolding draft_block ◌>>=◌ demand
      block_no x S =
          record {
            is = λ m le. let w = S.is m (omega (arith, M)) in record { is = rw (M.is, expected "{" M, open_left, w.is); frame = frame_then entered w.frame };
            ahead = tt;
          }

      module _ (mid : Cursor) (S : StatementsRead s (one_more (moved_to from e) 0) (d - 1) b₁ b₂ (Ok mid)) where
        pub block_open : (x : Refusal) → ((c : Char) → code c ≡ 125 → Refuses (expect c (here s mid.at)) x) → BlockRead s from d b₀ b₂ (Err x)
        unfolding draft_block ◌>>=◌ demand
        block_open x E =
            record {
              is = λ m le. let w = S.is m (omega (arith, M)) in record { is = rw (M.is, expected "{" M, open_left, w.is, E "}" refl); frame = frame_then entered w.frame };
              ahead = tt;
            }

        pub block_done : (q g : ℕ) (b₃ : List ℕ) → Shown s mid.at (mark 125) q g → b₃ ≡ put_row b₂ mid.count (path_row Leave 0)
            → BlockRead s from d b₀ b₃ (Ok (one_more (moved_to mid g) 0))
        unfolding draft_block ◌>>=◌ demand bare_draft draft
        block_done q g b₃ C w₃ =
            record {
              is = λ m le.
                  let w = S.is m (omega (arith, M)) in
                  record {
                    it = bare_draft 3 ∷ w.it ++ (bare_draft 4 ∷ []);
                    is = rw (M.is, expected "{" M, open_left, w.is, expected "}" C);
                    count = between_count from.count mid.count (bare_draft 3) (bare_draft 4) w.it w.count;
                    text = between_text from.text mid.text (bare_draft 3) (bare_draft 4) w.it refl (omega (arith, w.text));
                    work = between b₀ b₁ b₂ b₃ from.count mid.count (bare_draft 3) (bare_draft 4) w.it w₁ w.work w.count w₃;
                    frame = frame_then entered (frame_then w.frame (rw w₃ (path_frame b₂ mid.count Leave 0)));
                  };
              ahead = record { on = omega (arith, M, S.ahead, C); within = C.within; few = omega (arith, M, S.ahead, C); light = omega (arith, M, S.ahead, C) };
            }

-- ---- prototypes

-- what may follow a prototype that is a block
unfoldable pub after_block : ℕ → ℕ → List Draft → Here → Answer (List Draft × Here)
after_block n d bs at = do
  (u, _, _) ← next at
  when is_mark "," u
      then (do
        at ← expect "," at
        (es, at) ← draft_prototypes n d at
        ok (bs ++ es, at))
      else ok (bs, at)

block_first : (s : List ℕ) (at n d : ℕ) → NoName s at → draft_prototypes (suc n) d (here s at) ≡ draft_block n d (here s at) >>= (λ x. after_block n d x.0 x.1)
unfolding draft_prototypes draft_block after_block ◌>>=◌ when◌then◌else◌
block_first s at n d N =
    rw (N.stood.is, N.other)
    (sym (assoc (expect "{" (here s at)) _ _
    ∙ under (expect "{" (here s at)) (λ a. assoc (demand (ltb 0 d) 5 N.place) _ _
    ∙ under (demand (ltb 0 d) 5 N.place) (λ _. assoc (draft_statements n (d - 1) a) _ _
    ∙ under (draft_statements n (d - 1) a) (λ x. assoc (expect "}" x.1) _ _
    ∙ under (expect "}" x.1) (λ b.
    under (next b) (λ u. if_same (is_mark "," u.0) _ (under (expect "," b) (λ c. under (draft_prototypes n d c) (λ y. ap (λ (ds : List Draft). ok (bare_draft 3 ∷ ds, y.1)) (append_assoc x.0 (bare_draft 4 ∷ []) y.0)))))))))))

module _ (s : List ℕ) (from : Cursor) (d : ℕ) (b₀ : List ℕ) where
  -- the prototypes that are read from here on, if the calls go at most n deep
  abbrev PrototypesOut : List ℕ → Went → ℕ → Type 0
  PrototypesOut b₁ r n = Answers itself s b₀ b₁ from r (draft_prototypes n d (here s from.at))

  pub prototypes_fault : (x : Refusal) → RefFault s from.at x → PrototypesRead s from d b₀ b₀ (Err x)
  unfolding draft_prototypes ◌>>=◌ when◌then◌else◌
  prototypes_fault x (no_token e) =
      record { is = fuel (PrototypesOut b₀ (Err x)) _ (omega arith) (λ m le. record { is = rw e; frame = frame_same b₀ }); ahead = tt }
  prototypes_fault x (no_path N i e) =
      record { is = fuel (PrototypesOut b₀ (Err x)) _ (omega arith) (λ m le. record { is = rw (N.is, i, e); frame = frame_same b₀ }); ahead = tt }

  -- a prototype that is a reference
  module _ (p e z : ℕ) (R : RefSeen s from.at p e z) (b₁ : List ℕ) (w₁ : b₁ ≡ put_row b₀ from.count (path_row Take p)) where
    taken : Frame b₀ b₁
    taken = rw w₁ (path_frame b₀ from.count Take p)

    the_draft : Draft
    the_draft = take_draft p (length (path_text R.whole.spelt))

    one_written : b₁ ≡ puts b₀ from.count (the_draft ∷ [])
    unfolding puts the_draft take_draft draft
    one_written = w₁

    one_sized : from.text + z ≡ from.text + text_size (the_draft ∷ [])
    unfolding text_size the_draft take_draft draft
    one_sized = omega (arith, R.whole.size)

    pub ref_fault : (x : Refusal) → Refuses (next (here s e)) x → PrototypesRead s from d b₀ b₁ (Err x)
    unfolding draft_prototypes ◌>>=◌ when◌then◌else◌
    ref_fault x f =
        record {
          is = fuel (PrototypesOut b₁ (Err x)) _ (omega arith) (λ m le. record { is = rw (R.stood.is, R.named, R.whole.is, f); frame = taken });
          ahead = tt;
        }

    pub ref_last : NotMark s e 44 → (r : Went) → PassIs s (one_more (moved_to from e) z) 59 r → PrototypesRead s from d b₀ b₁ r
    unfolding draft_prototypes ◌>>=◌ when◌then◌else◌ the_draft
    ref_last M (Err x) P =
        record {
          is = fuel (PrototypesOut b₁ (Err x)) _ (omega arith)
              (λ m le. record { is = rw (R.stood.is, R.named, R.whole.is, M.stood.is, M.other "," refl, P ";" refl); frame = taken });
          ahead = tt;
        }
    ref_last M (Ok to) P =
        record {
          is = fuel (PrototypesOut b₁ (Ok to)) _ (omega arith)
              (λ m le. record {
                it = the_draft ∷ [];
                is = rw (R.stood.is, R.named, R.whole.is, M.stood.is, M.other "," refl, expected ";" P.shown);
                count = P.count;
                text = P.text ∙ one_sized;
                work = one_written;
                frame = taken;
              });
          ahead = record {
            on = omega (arith, R.whole.ahead, P.shown);
            within = P.shown.within;
            few = omega (arith, R.whole.ahead, P.shown, P.count);
            light = omega (arith, R.whole.ahead, R.whole.light, P.shown, P.text);
          };
        }

    pub ref_more : (q g : ℕ) (b₂ : List ℕ) (r : Went) → Shown s e (mark 44) q g → PrototypesRead s (cursor g (from.count + 1) (from.text + z)) d b₁ b₂ r → PrototypesRead s from d b₀ b₂ r
    unfolding draft_prototypes ◌>>=◌ when◌then◌else◌ is_mark the_draft
    ref_more q g b₂ r M P =
        record {
          is = fuel (PrototypesOut b₂ r) _ (omega arith)
              (λ m le.
              rw (R.stood.is, R.named, R.whole.is, M.is, expected "," M)
              (keep itself (λ ds. the_draft ∷ ds) s b₀ b₂ from r (draft_prototypes m d (here s g))
              (after itself s b₀ b₁ b₂ from (cursor g (from.count + 1) (from.text + z)) (the_draft ∷ []) r one_written refl one_sized taken
              (draft_prototypes m d (here s g)) (P.is m (omega (arith, R.whole.ahead, M))))));
          ahead = ahead_back s from.at from.count from.text g (from.count + 1) (from.text + z) r
              (omega (arith, R.whole.ahead, M)) (omega (arith, R.whole.ahead, M)) (omega (arith, R.whole.ahead, R.whole.light, M)) P.ahead;
        }

  -- a prototype that is a block
  module _ (N : NoName s from.at) (b₁ : List ℕ) where
    pub inner_no : (x : Refusal) → BlockRead s from d b₀ b₁ (Err x) → PrototypesRead s from d b₀ b₁ (Err x)
    unfolding ◌>>=◌
    inner_no x B =
        record {
          is = fuel (PrototypesOut b₁ (Err x)) _ (omega arith)
              (λ m le. let w = B.is m (omega arith) in record { is = block_first s from.at m d N ∙ rw w.is; frame = w.frame });
          ahead = tt;
        }

    module _ (mid : Cursor) (B : BlockRead s from d b₀ b₁ (Ok mid)) where
      pub inner_fault : (x : Refusal) → Refuses (next (here s mid.at)) x → PrototypesRead s from d b₀ b₁ (Err x)
      unfolding ◌>>=◌ after_block
      inner_fault x f =
          record {
            is = fuel (PrototypesOut b₁ (Err x)) _ (omega arith)
                (λ m le. let w = B.is m (omega arith) in record { is = block_first s from.at m d N ∙ rw (w.is, f); frame = w.frame });
            ahead = tt;
          }

      pub inner_last : NotMark s mid.at 44 → PrototypesRead s from d b₀ b₁ (Ok mid)
      unfolding ◌>>=◌ after_block when◌then◌else◌
      inner_last M =
          record {
            is = fuel (PrototypesOut b₁ (Ok mid)) _ (omega arith)
                (λ m le.
                let w = B.is m (omega arith) in
                record { it = w.it; is = block_first s from.at m d N ∙ rw (w.is, M.stood.is, M.other "," refl); count = w.count; text = w.text; work = w.work; frame = w.frame });
            ahead = B.ahead;
          }

      pub inner_more : (q g : ℕ) (b₂ : List ℕ) (r : Went) → Shown s mid.at (mark 44) q g → PrototypesRead s (cursor g mid.count mid.text) d b₁ b₂ r → PrototypesRead s from d b₀ b₂ r
      unfolding ◌>>=◌ after_block when◌then◌else◌ is_mark
      inner_more q g b₂ r M P =
          record {
            is = fuel (PrototypesOut b₂ r) _ (omega arith)
                (λ m le.
                let w = B.is m (omega arith) in
                rw (block_first s from.at m d N, w.is, M.is, expected "," M)
                (keep itself (λ ds. w.it ++ ds) s b₀ b₂ from r (draft_prototypes m d (here s g))
                (after itself s b₀ b₁ b₂ from (cursor g mid.count mid.text) w.it r w.work w.count w.text w.frame
                (draft_prototypes m d (here s g)) (P.is m (omega (arith, M, B.ahead))))));
            ahead = ahead_after B.ahead r (ahead_back s mid.at mid.count mid.text g mid.count mid.text r (omega (arith, M)) (omega (arith, M)) (omega (arith, M)) P.ahead);
          }

-- the loop that reads prototypes: whatever is read from here on is, with what was read before, what is read from the start
pub record PrototypesLoop (s : List ℕ) (from : Cursor) (d : ℕ) (b₀ b : List ℕ) (c : Cursor) : Type 0 where
  pub fit : Fit s c
  pub on : from.at ≤ c.at
  pub onward : (e : List ℕ) (r : Went) → PrototypesRead s c d b e r → PrototypesRead s from d b₀ e r
