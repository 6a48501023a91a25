-- The whole description: the rules of its reader. Assumes nothing.
use Rattle.std.specs.Prelude.{Result, Ok, Err, is_err}
use Prim.Native.Nat.{ℕ, ◌+◌, ◌*◌, ◌≤◌, ◌<◌}
use native.Mathlib.Omega.{arith}
use mathlib.Core.Path.{◌≡◌, sym, ap, ◌∙◌}
use mathlib.Core.Bool.{true, false, true≢false}
use mathlib.Core.List.{List, ◌++◌}
use lib.ListN.{length, drop, length-append, length-drop}
use lib.Seq.{drop-drop, drop_at}
use borrow.Author.Tests.{le-leb, lt-leb, lt-ltb, le-ltb}
use Rattle.paper.specs.Bytes.{when◌then◌else◌}
use Rattle.paper.specs.Answer.{Answer, ok, refused, ◌>>=◌, demand}
use Rattle.paper.specs.Tokens.{Here}
use Rattle.paper.specs.Reader.{is_end}
use Rattle.paper.specs.Scanner.{next}
use Rattle.paper.specs.Lent.{zeros, wiped}
use Rattle.theorems.proofs.Laws.Answers.{assoc}
use Rattle.memory.specs.Memory.{stored}
use Rattle.memory.proofs.Laws.{clear_wiped, length_zeros}
use Rattle.grammar.specs.Drafts.{Draft, drafts}
use Rattle.grammar.specs.Places.{here}
use Rattle.grammar.specs.Seen.{ends}
use Rattle.grammar.specs.Puts.{puts, Frame}
use Rattle.grammar.specs.Readers.{StatementsRead}
use Rattle.refusal.specs.Refused.{number_of, answered}
use Rattle.refusal.specs.declared.Refusal.{Refusal}
use Rattle.grammar.specs.Refusals.{Refuses}
use Rattle.grammar.specs.Reads.{Outcome, outcome_of, reads, WholeDone, WholeRefused, WholeIs}
use Rattle.grammar.specs.declared.answer.Drafts.{Drafts}
use Rattle.grammar.specs.declared.cursor.Cursor.{Cursor}
use Rattle.grammar.proofs.Rules.Items.{cursor}

-- the end, and then the drafts
ends_then : (h : Here) (ds : List Draft) → next h >>= (λ x. demand (is_end x.0) 3 x.1.place >>= (λ _. ok ds)) ≡ ends h >>= (λ _. ok ds)
unfolding ends
ends_then h ds = sym (assoc (next h) (λ x. demand (is_end x.0) 3 x.1.place) (λ _. ok ds))

module _ (s : List ℕ) (short : length s ≤ 32768) (b₀ b₁ : List ℕ) where
  pub whole_no : (x : Refusal) → StatementsRead s (cursor 0 0 0) 32 b₀ b₁ (Err x) → WholeRefused s b₀ b₁ (number_of x.reason) x.place
  unfolding drafts ◌>>=◌ demand
  whole_no x S =
      let w = S.is (2 * length s + 2) (omega arith) in
      record { is = rw (le-leb (length s) 32768 short, w.is); frame = w.frame }

  module _ (to : Cursor) (S : StatementsRead s (cursor 0 0 0) 32 b₀ b₁ (Ok to)) where
    pub whole_more : (x : Refusal) → Refuses (ends (here s to.at)) x → WholeRefused s b₀ b₁ (number_of x.reason) x.place
    unfolding drafts ◌>>=◌ demand
    whole_more x e =
        let w = S.is (2 * length s + 2) (omega arith) in
        record { is = rw (le-leb (length s) 32768 short, w.is) (ends_then (here s to.at) w.it ∙ rw e); frame = w.frame }

    pub whole_done : ends (here s to.at) ≡ ok tt → WholeDone s b₀ b₁ to.count to.text
    unfolding drafts ◌>>=◌ demand
    whole_done e =
        let w = S.is (2 * length s + 2) (omega arith) in
        record {
          all = w.it;
          is = rw (le-leb (length s) 32768 short, w.is) (ends_then (here s to.at) w.it ∙ rw e);
          count = w.count ∙ omega arith;
          text = w.text ∙ omega arith;
          work = w.work;
        }

-- ---- the lent slice

module _ (s b₀ : List ℕ) where
  pub reads_short : length b₀ < 65536 → ◌≡◌ {A = Outcome} (record { answer = refused 8 0; work = b₀ }) (reads s b₀)
  unfolding reads when◌then◌else◌
  reads_short h = rw (lt-ltb (length b₀) 65536 h)

  module _ (h : 65536 ≤ length b₀) where
    roomy : reads s b₀ ≡ outcome_of (drafts s) b₀
    unfolding reads when◌then◌else◌
    roomy = rw (le-ltb (length b₀) 65536 h)

    pub reads_long : (b₁ : List ℕ) → 32768 < length s → b₁ ≡ stored b₀ 0 (zeros 65536) → ◌≡◌ {A = Outcome} (record { answer = refused 1 0; work = b₁ }) (reads s b₀)
    unfolding outcome_of drafts ◌>>=◌ demand
    reads_long b₁ l e =
        ap (λ (w : List ℕ). record { answer = refused 1 0; work = w }) (e ∙ clear_wiped b₀ h) ∙ sym (roomy ∙ rw (lt-leb (length s) 32768 l))

    pub reads_done : (b₁ b₂ : List ℕ) (r : Result Drafts Refusal) → b₁ ≡ stored b₀ 0 (zeros 65536) → WholeIs s b₁ b₂ r → is_err r ≡ false
        → ◌≡◌ {A = Outcome} (record { answer = answered r; work = b₂ }) (reads s b₀)
    unfolding outcome_of
    reads_done b₁ b₂ (Ok d) e W z =
        let f : b₁ ≡ wiped b₀ = e ∙ clear_wiped b₀ h in
        (λ i. record { answer = ok (record { steps = W.count i; text = W.text i }); work = (W.work ∙ ap (λ (b : List ℕ). puts b 0 W.all) f) i })
        ∙ sym (roomy ∙ ap (λ (a : Answer (List Draft)). outcome_of a b₀) W.is)
    reads_done b₁ b₂ (Err x) e W z = absurd (true≢false z)

    -- cleared once more, it is as it was when it was cleared first
    again : (b₁ b₂ : List ℕ) → b₁ ≡ wiped b₀ → Frame b₁ b₂ → wiped b₂ ≡ wiped b₀
    unfolding wiped
    again b₁ b₂ e F =
        let a : drop 65536 b₂ ≡ drop 65536 b₁ = sym (drop-drop 45056 20480 b₂) ∙ ap (λ (b : List ℕ). drop 45056 b) F.rest ∙ drop-drop 45056 20480 b₁ in
        let c : drop 65536 b₁ ≡ drop 65536 b₀ = ap (λ (b : List ℕ). drop 65536 b) e ∙ drop_at (zeros 65536) (drop 65536 b₀) 65536 (length_zeros 65536) in
        ap (λ (b : List ℕ). zeros 65536 ++ b) (a ∙ c)

    wiped_long : length (wiped b₀) ≡ length b₀
    unfolding wiped
    wiped_long = length-append (zeros 65536) (drop 65536 b₀) ∙ omega (arith, length_zeros 65536, length-drop 65536 b₀)

    pub reads_no : (b₁ b₂ b₃ : List ℕ) (r : Result Drafts Refusal) → b₁ ≡ stored b₀ 0 (zeros 65536) → WholeIs s b₁ b₂ r → is_err r ≡ true → b₃ ≡ stored b₂ 0 (zeros 65536)
        → ◌≡◌ {A = Outcome} (record { answer = answered r; work = b₃ }) (reads s b₀)
    unfolding outcome_of
    reads_no b₁ b₂ b₃ (Ok d) e W z e₃ = absurd (true≢false (sym z))
    reads_no b₁ b₂ b₃ (Err x) e W z e₃ =
        let f : b₁ ≡ wiped b₀ = e ∙ clear_wiped b₀ h in
        let l : 65536 ≤ length b₂ = omega (arith, W.frame.long, ap length f, wiped_long) in
        ap (λ (w : List ℕ). record { answer = refused (number_of x.reason) x.place; work = w }) (e₃ ∙ clear_wiped b₂ l ∙ again b₁ b₂ f W.frame)
        ∙ sym (roomy ∙ ap (λ (a : Answer (List Draft)). outcome_of a b₀) W.is)
