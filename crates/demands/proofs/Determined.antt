-- Of each public function of this crate, any two results that its contract allows for the same arguments are one: the
-- answer as the code gives it, and the bytes of every slice that is lent. Assumes nothing.
use Prim.Native.Nat.{ℕ}
use mathlib.Core.Path.{◌≡◌, refl, sym, ap, subst, ◌∙◌}
use mathlib.Core.List.{List, [], map}
use Rattle.paper.specs.Answer.{Answer}
use Rattle.paper.specs.Limits.{least_list, least_table}
use Rattle.paper.specs.Lent.{Outcome, told, written, cleared, Enough, Lent, Call}
use Rattle.paper.specs.Allowed.{Translates, Runs, TakesMain, Resolves}
use Rattle.paper.specs.Determines.{Determines, ◌&◌}
use Rattle.theorems.proofs.Demands.Exact.{translates_exactly}
use Rattle.translate.proofs.Determined as Translate
use Rattle.run.proofs.Determined as Run
use Rattle.main_table.proofs.Determined as Main
use Rattle.resolve.proofs.Determined as Resolve
use Rattle.demands.specs.Slices.{Third}
use Rattle.demands.proofs.operations.translates.Reads as Translates-reads
use Rattle.demands.proofs.operations.runs.Reads as Runs-reads
use Rattle.demands.proofs.operations.takes_main.Reads as Main-reads
use Rattle.demands.proofs.operations.resolves.Reads as Resolves-reads
use Rattle.demands.proofs.evaluating.evaluates.Reads as Evaluates-reads

-- ---- a call has one outcome

module _ {Long : Type 0} {Allowed : Answer (List ℕ) → Type 0} {output : List ℕ} {works : List (List ℕ)} where
  one_call : (x y : Outcome) → Call Long Allowed output works x → Call Long Allowed output works y → x ≡ y
  one_call x y X Y =
      let a : X.answer ≡ Y.answer = Y.only X.answer X.allowed in
      let p : x.answer ≡ y.answer = X.answer_is ∙ ap told a ∙ sym Y.answer_is in
      let q : x.output ≡ y.output = X.output_is ∙ ap (λ b. written b output) a ∙ sym Y.output_is in
      let r : x.works ≡ y.works = X.works_are ∙ ap (λ b. map (cleared b) works) a ∙ sym Y.works_are in
      (λ i. record { answer = p i; output = q i; works = r i })

-- what a call is given: its inputs, and what the lent slices hold; `list` is that of demand 3
record Given : Type 0 where
  input : List ℕ
  table : List ℕ
  list : List ℕ
  output : List ℕ
  works : List (List ℕ)

abbrev given : List ℕ → List ℕ → List ℕ → List ℕ → List (List ℕ) → Given
given i t l o ws = record { input = i; table = t; list = l; output = o; works = ws }

same_given : {i i' t t' l l' o o' : List ℕ} {ws ws' : List (List ℕ)} → i ≡ i' → t ≡ t' → l ≡ l' → o ≡ o' → ws ≡ ws'
    → given i t l o ws ≡ given i' t' l' o' ws'
same_given a b c d e = λ i. record { input = a i; table = b i; list = c i; output = d i; works = e i }

module _ (Long : Given → Type 0) (Allowed : Given → Answer (List ℕ) → Type 0) where
  again : (g h : Given) → g ≡ h → (x y : Outcome) → Call (Long g) (Allowed g) g.output g.works x
      → Call (Long h) (Allowed h) h.output h.works y → x ≡ y
  again g h e x y X Y = one_call x y (subst (λ k. Call (Long k) (Allowed k) k.output k.works x) e X) Y

-- ---- demand 3 has one list too

one_sent : {Long : Type 0} (source : List ℕ) {a b : Answer (List ℕ)} → Lent Long (Translates source) a
    → Lent Long (Translates source) b → a ≡ b
one_sent source (Lent.too_short k) (Lent.too_short m) = refl
one_sent source (Lent.too_short k) (Lent.long l h) = absurd (k l)
one_sent source (Lent.long l h) (Lent.too_short k) = absurd (k l)
one_sent source (Lent.long {a = a} l h) (Lent.long {a = b} m g) =
    sym ((translates_exactly source a).1 h) ∙ (translates_exactly source b).1 g

-- what demand 3 is given, with its two work slices apart
record Lists : Type 0 where
  source : List ℕ
  table : List ℕ
  list : List ℕ
  output : List ℕ
  work₁ : List ℕ
  work₂ : List ℕ

same_lists : {s s' t t' l l' o o' v v' w w' : List ℕ} → s ≡ s' → t ≡ t' → l ≡ l' → o ≡ o' → v ≡ v' → w ≡ w'
    → ◌≡◌ {A = Lists} (record { source = s; table = t; list = l; output = o; work₁ = v; work₂ = w })
    (record { source = s'; table = t'; list = l'; output = o'; work₁ = v'; work₂ = w' })
same_lists a b c d e f = λ i. record { source = a i; table = b i; list = c i; output = d i; work₁ = e i; work₂ = f i }

abbrev Demanded : Lists → List ℕ → Outcome → Type 0
Demanded g = Third g.source g.table g.list g.output g.work₁ g.work₂

same_outcome : (g h : Lists) → g ≡ h → (l m : List ℕ) (x y : Outcome) → Demanded g l x → Demanded h m y → x ≡ y
same_outcome g h e l m x y X Y = one_call x y (subst (λ k. Demanded k l x) e X).ran Y.ran

same_list : (g h : Lists) → g ≡ h → (l m : List ℕ) (x y : Outcome) → Demanded g l x → Demanded h m y → l ≡ m
same_list g h e l m x y X Y =
    let Z = subst (λ k. Demanded k l x) e X in
    Z.sent.is ∙ ap (λ a. written a h.list) (one_sent h.source Z.sent.allowed Y.sent.allowed) ∙ sym Y.sent.is

-- ---- the theorem

pub record Evaluated : Type 0 where
  pub list : List ℕ
  pub rest : Run.Returned

same_evaluated : {l m : List ℕ} {a b : Run.Returned} → l ≡ m → a ≡ b
    → ◌≡◌ {A = Evaluated} (record { list = l; rest = a }) (record { list = m; rest = b })
same_evaluated p q = λ i. record { list = p i; rest = q i }

abbrev pub evaluated : List ℕ → Run.Returned → Evaluated
evaluated l r = record { list = l; rest = r }

pub record Determined : Type 0 where
  pub translates : Determines Translates-reads.Post (λ _ (src, (out, (work, _))). src.now & out.now & work.now)
      λ _ r (_, (out, (work, _))). Translate.returned r out.now work.now
  pub runs : Determines Runs-reads.Post
      (λ _ (steps, (table, (out, (work₁, (work₂, _))))). steps.now & table.now & out.now & work₁.now & work₂.now)
      λ _ r (_, (_, (out, (work₁, (work₂, _))))). Run.returned r out.now work₁.now work₂.now
  pub takes_main : Determines Main-reads.Post (λ _ (table, (out, _)). table.now & out.now)
      λ _ r (_, (out, _)). Main.returned r out.now
  pub resolves : Determines Resolves-reads.Post
      (λ _ (src, (out, (work₁, (work₂, (work₃, _))))). src.now & out.now & work₁.now & work₂.now & work₃.now)
      λ _ r (_, (out, (work₁, (work₂, (work₃, _))))). Resolve.returned r out.now work₁.now work₂.now work₃.now
  pub evaluates : Determines Evaluates-reads.Post
      (λ _ (src, (table, (list, (out, (work₁, (work₂, _)))))).
      src.now & table.now & list.now & out.now & work₁.now & work₂.now)
      λ _ r (_, (_, (list, (out, (work₁, (work₂, _)))))).
      evaluated list.now (Run.returned r out.now work₁.now work₂.now)

pub determined : Determined
determined =
    record {
      translates = λ _ _ _ _ r r' _ _ g e f.
          Translate.one r r' _ _ _ _
          (again (λ k. Enough least_list k.output k.works) (λ k. Translates k.input)
          _ _ (same_given {t = []} {l = []} (cc) refl refl (cc) (cc)) _ _ e f);
      runs = λ _ _ _ _ r r' _ _ g e f.
          Run.one r r' _ _ _ _ _ _
          (again (λ k. Enough least_table k.output k.works) (λ k. Runs k.input k.table)
          _ _ (same_given {l = []} (cc) (cc) refl (cc) (cc)) _ _ e f);
      takes_main = λ _ _ _ _ r r' _ _ g e f.
          Main.one r r' _ _
          (again (λ k. Enough least_table k.output k.works) (λ k. TakesMain k.input)
          _ _ (same_given {t = []} {l = []} (cc) refl refl (cc) refl) _ _ e f);
      resolves = λ _ _ _ _ r r' _ _ g e f.
          Resolve.one r r' _ _ _ _ _ _ _ _
          (again (λ k. Enough least_table k.output k.works) (λ k. Resolves k.input)
          _ _ (same_given {t = []} {l = []} (cc) refl refl (cc) (cc)) _ _ e f);
      evaluates = λ _ _ _ _ r r' _ _ g e f.
          same_evaluated (same_list _ _ (same_lists (cc) (cc) (cc) (cc) (cc) (cc)) _ _ _ _ e f)
          (Run.one r r' _ _ _ _ _ _ (same_outcome _ _ (same_lists (cc) (cc) (cc) (cc) (cc) (cc)) _ _ _ _ e f));
    }
