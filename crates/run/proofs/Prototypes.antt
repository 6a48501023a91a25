-- The ways through one prototype, and the turns of the two loops. Assumes nothing.
use Prim.Native.Nat.{ℕ, ◌+◌, ◌≤◌, ◌<◌}
use native.Mathlib.Omega.{arith}
use native.Mathlib.Nat.{add-zero}
use mathlib.Core.Path.{◌≡◌, refl, sym, ap, ◌∙◌, subst}
use mathlib.Core.Bool.{true, false, false≢true}
use mathlib.Core.List.{List, [], ◌∷◌, ◌++◌, append_assoc, append-nil}
use lib.ListN.{length, length-append}
use Rattle.paper.specs.Answer.{Answer, ok, refused, ◌>>=◌}
use Rattle.paper.specs.Syntax.{Path, Block, εᴮ, ◌∷ᴮ◌, Statement, assign, Value, basic, link, extends, Prototypes, εᴾ, named, block}
use Rattle.paper.specs.Store.{Store, resolve}
use Rattle.paper.specs.Meaning.{inherit, B⟦◌⟧, A⟦◌⟧, P⟦◌⟧}
use Rattle.paper.specs.Layout.{number, Row}
use Rattle.paper.specs.Steps as Steps
use Rattle.paper.specs.Steps.{steps, statement_steps, value_steps, prototype_steps}
use Rattle.paper.specs.StepLayout.{step_row, step_rows, all_rows}
use Rattle.paper.specs.WellFormed.{IsBlock, IsStatement, ArePrototypes}
use Rattle.theorems.proofs.Laws.Answers.{assoc}
use Rattle.rows.specs.View.{view}
use Rattle.refusal.specs.declared.Reason.{Reason}
use Rattle.refusal.specs.declared.Refusal.{Refusal}
use Rattle.run.specs.declared.size.Size.{Size}
use Rattle.std.specs.Prelude.{Result, Err}
use Rattle.run.specs.Puts.{Held}
use Rattle.run.specs.Listed.{Lies, step_field}
use Rattle.run.specs.Stepping.{scope_in, Takes}
use Rattle.run.specs.Blocks.{begins_statement, begins_prototype, Placed, WentIs, Stops, StatementsAre, One, One.reference, One.braces, PrototypeIs}
use Rattle.run.proofs.Lying.{Small, lies_first, lies_next, lies_end, small_take, small_enter, small_leave, small_done}
use Rattle.run.proofs.Evaluating.{all_rows-++, one_step, Long, long-++, long_steps, lies_few, lies_pass, code, placed_is, place_small, next_at, goes_on, first}

-- ---- records of a prototype

take_first : {list t : List ℕ} {i q : ℕ} (rest : List Row) (p : ℕ) (l : Path) → p < 32768 → length t ≤ 32768 → Lies list t i q (step_rows (Steps.take p l) ++ rest) → (step_field 2 list i 0 ≡ 2) × (step_field 4 list i 16 ≡ p)
unfolding step_rows step_row
take_first rest p l hp h L = let S = (small_take p l hp).0 in let F = lies_first L S h in (F.step, F.place ∙ place_small _ p refl hp S)

enter_first : {list t : List ℕ} {i q : ℕ} (rest : List Row) → length t ≤ 32768 → Lies list t i q (step_rows Steps.enter ++ rest) → step_field 2 list i 0 ≡ 3
unfolding step_rows step_row
enter_first rest h L = (lies_first L small_enter.0 h).step

done_first : {list t : List ℕ} {i q : ℕ} (rest : List Row) → length t ≤ 32768 → Lies list t i q (step_rows Steps.done ++ rest) → step_field 2 list i 0 ≡ 5
unfolding step_rows step_row
done_first rest h L = (lies_first L small_done.0 h).step

enter_next : {list t : List ℕ} {i q : ℕ} (rest : List Row) → Lies list t i q (step_rows Steps.enter ++ rest) → (q' : ℕ) × Lies list t (i + 1) q' rest
unfolding step_rows
enter_next rest L = (_, lies_next L small_enter.0)

take_length : (p : ℕ) (l : Path) → length (all_rows (prototype_steps (named p l εᴾ))) ≡ 1
unfolding prototype_steps all_rows step_rows
take_length p l = refl

take_rows : (p : ℕ) (l : Path) (rest : List Row) → all_rows (prototype_steps (named p l εᴾ)) ++ rest ≡ step_rows (Steps.take p l) ++ rest
unfolding prototype_steps
take_rows p l rest = ap (λ x. x ++ rest) (one_step (Steps.take p l))

block_rows : (b : Block) (rest : List Row) → all_rows (prototype_steps (block b εᴾ)) ++ rest ≡ step_rows Steps.enter ++ (all_rows (steps b) ++ (step_rows Steps.leave ++ rest))
unfolding prototype_steps
block_rows b rest =
    ap (λ x. x ++ rest) (enter_rows (steps b ++ (Steps.leave ∷ [])) ∙ ap (λ x. step_rows Steps.enter ++ x) (all_rows-++ (steps b) (Steps.leave ∷ []) ∙ ap (λ x. all_rows (steps b) ++ x) (one_step Steps.leave)))
    ∙ append_assoc (step_rows Steps.enter) (all_rows (steps b) ++ step_rows Steps.leave) rest ∙ ap (λ x. step_rows Steps.enter ++ x) (append_assoc (all_rows (steps b)) (step_rows Steps.leave) rest)
  where
    enter_rows : (is : List Steps.Step) → all_rows (Steps.enter ∷ is) ≡ step_rows Steps.enter ++ all_rows is
    enter_rows is = all_rows-++ (Steps.enter ∷ []) is ∙ ap (λ x. x ++ all_rows is) (one_step Steps.enter)

block_length : (b : Block) → length (all_rows (prototype_steps (block b εᴾ))) ≡ 1 + (length (all_rows (steps b)) + 1)
unfolding step_rows
block_length b =
    let e : all_rows (prototype_steps (block b εᴾ)) ≡ step_rows Steps.enter ++ (all_rows (steps b) ++ step_rows Steps.leave) = sym (append-nil (all_rows (prototype_steps (block b εᴾ)))) ∙ block_rows b [] ∙ ap (λ x. step_rows Steps.enter ++ (all_rows (steps b) ++ x)) (append-nil (step_rows Steps.leave)) in
    ap length e ∙ omega (arith, length-append (all_rows (steps b)) (step_rows Steps.leave))

leave_small : Small (step_row 4 0 (number 0) 0 (number 0) 0)
unfolding step_rows
leave_small = small_leave.0

long_leave : Long (step_rows Steps.leave)
long_leave = subst Long (one_step Steps.leave) (long_steps (Steps.leave ∷ []))

leave_one : length (step_rows Steps.leave) ≡ 1
unfolding step_rows
leave_one = refl

leave_stops : (rest : List Row) → Stops (step_rows Steps.leave ++ rest)
unfolding step_rows step_row
leave_stops rest = refl

-- ---- one prototype

ok_right : (a : Answer Store) → a >>= (λ s. ok s) ≡ a
unfolding ◌>>=◌
ok_right (ok s) = refl
ok_right (refused k p) = refl

module _ (list t u s w w' : List ℕ) (i n tb k own : ℕ) (hl : length list ≤ 20480) (hi : i < 1024) where
  pub prototype_take : (ran : Result Size Reason) → step_field 2 list i 0 ≡ 2 → Takes list i t u n tb k own s w w' ran → PrototypeIs list i t u n tb k own s w w' (Placed (step_field 4 list i 16) (i + 1) ran)
  unfolding P⟦◌⟧
  prototype_take ran e2 R εᴾ q rest st x5 g L h held = elim x5 [ ]
  prototype_take ran e2 R (named p l (named _ _ _)) q rest st x15 g L h held = elim x15 [ ]
  prototype_take ran e2 R (named p l (block _ _)) q rest st x15 g L h held = elim x15 [ ]
  prototype_take ran e2 R (block b (named _ _ _)) q rest st x16 g L h held = elim x16 [ ]
  prototype_take ran e2 R (block b (block _ _)) q rest st x16 g L h held = elim x16 [ ]
  prototype_take ran e2 R (named p l εᴾ) q rest st reference g L h held =
      let L₁ : Lies list t i q (step_rows (Steps.take p l) ++ rest) = subst (Lies list t i q) (take_rows p l rest) L in
      let F = take_first rest p l g.0 h L₁ in
      subst (λ y. WentIs (view t u w') (i + y) (inherit p (scope_in t u s own) (resolve (scope_in t u s k) l st) st >>= λ z. ok z) (Placed (step_field 4 list i 16) (i + 1) ran)) (sym (take_length p l))
      (subst (λ y. WentIs (view t u w') (i + 1) y (Placed (step_field 4 list i 16) (i + 1) ran)) (sym (ok_right (inherit p (scope_in t u s own) (resolve (scope_in t u s k) l st) st)))
      (placed_is p (view t u w') (i + 1) _ ran (step_field 4 list i 16) F.1 (R st p q l rest held L₁ g.1 g.0 h)))
  prototype_take ran e2 R (block b εᴾ) q rest st braces g L h held = absurd (omega (arith, e2, enter_first _ h (subst (Lies list t i q) (block_rows b rest) L)))

  not_take : (step_field 2 list i 0 ≡ 2 → ⊥) → (p : ℕ) (l : Path) (q : ℕ) (rest : List Row) → p < 32768 → length t ≤ 32768 → Lies list t i q (all_rows (prototype_steps (named p l εᴾ)) ++ rest) → ⊥
  not_take n2 p l q rest hp h L = n2 (take_first rest p l hp h (subst (Lies list t i q) (take_rows p l rest) L)).0

  pub block_refused : (refusal : Refusal) → (step_field 2 list i 0 ≡ 2 → ⊥) → StatementsAre list (i + 1) t u n tb own s w w' (Err refusal) → PrototypeIs list i t u n tb k own s w w' (Err refusal)
  unfolding P⟦◌⟧ ◌>>=◌
  block_refused refusal n2 R εᴾ q rest st x6 g L h held = elim x6 [ ]
  block_refused refusal n2 R (named p l (named _ _ _)) q rest st x16 g L h held = elim x16 [ ]
  block_refused refusal n2 R (named p l (block _ _)) q rest st x16 g L h held = elim x16 [ ]
  block_refused refusal n2 R (block b (named _ _ _)) q rest st x17 g L h held = elim x17 [ ]
  block_refused refusal n2 R (block b (block _ _)) q rest st x17 g L h held = elim x17 [ ]
  block_refused refusal n2 R (named p l εᴾ) q rest st reference g L h held = absurd (not_take n2 p l q rest g.0 h L)
  block_refused refusal n2 R (block b εᴾ) q rest st braces g L h held =
      let N = enter_next _ (subst (Lies list t i q) (block_rows b rest) L) in
      rw (R b N.0 (step_rows Steps.leave ++ rest) st g.0 N.1 (leave_stops rest) h held)

  pub block_on : (j next : ℕ) (size : Size) → (step_field 2 list i 0 ≡ 2 → ⊥) → StatementsAre list (i + 1) t u n tb own s w w' (next_at j size) → (j < 1024 → next ≡ j + 1) → PrototypeIs list i t u n tb k own s w w' (next_at next size)
  unfolding P⟦◌⟧ ◌>>=◌
  block_on j next size n2 R en εᴾ q rest st x5 g L h held = elim x5 [ ]
  block_on j next size n2 R en (named p l (named _ _ _)) q rest st x15 g L h held = elim x15 [ ]
  block_on j next size n2 R en (named p l (block _ _)) q rest st x15 g L h held = elim x15 [ ]
  block_on j next size n2 R en (block b (named _ _ _)) q rest st x16 g L h held = elim x16 [ ]
  block_on j next size n2 R en (block b (block _ _)) q rest st x16 g L h held = elim x16 [ ]
  block_on j next size n2 R en (named p l εᴾ) q rest st reference g L h held = absurd (not_take n2 p l q rest g.0 h L)
  block_on j next size n2 R en (block b εᴾ) q rest st braces g L h held =
      let N = enter_next _ (subst (Lies list t i q) (block_rows b rest) L) in
      go (B⟦ b ⟧ (scope_in t u s own) st) (R b N.0 (step_rows Steps.leave ++ rest) st g.0 N.1 (leave_stops rest) h held) (leave_in b rest N.0 N.1)
    where
      leave_in : (b : Block) (rest : List Row) (q : ℕ) → Lies list t (i + 1) q (all_rows (steps b) ++ (step_rows Steps.leave ++ rest)) → i + 1 + length (all_rows (steps b)) < 1024
      leave_in b rest q L =
          let e : all_rows (steps b) ++ (step_rows Steps.leave ++ rest) ≡ (all_rows (steps b) ++ step_rows Steps.leave) ++ rest = sym (append_assoc (all_rows (steps b)) (step_rows Steps.leave) rest) in
          let f = lies_few (all_rows (steps b) ++ step_rows Steps.leave) rest (subst (Lies list t (i + 1) q) e L) (long-++ (all_rows (steps b)) (step_rows Steps.leave) (long_steps (steps b)) long_leave) hl (omega arith) in
          omega (arith, f, length-append (all_rows (steps b)) (step_rows Steps.leave), leave_one)

      go : (a : Answer Store) → WentIs (view t u w') (i + 1 + length (all_rows (steps b))) a (next_at j size) → i + 1 + length (all_rows (steps b)) < 1024 → WentIs (view t u w') (i + length (all_rows (prototype_steps (block b εᴾ)))) (a >>= λ z. ok z) (next_at next size)
      go a W lj =
          let G = goes_on (view t u w') (i + 1 + length (all_rows (steps b))) a j size W in
          let c : i + length (all_rows (prototype_steps (block b εᴾ))) ≡ next = sym (en (omega (arith, G.at, lj)) ∙ omega (arith, G.at, block_length b)) in
          rw G.is (subst (λ y. WentIs (view t u w') (i + length (all_rows (prototype_steps (block b εᴾ)))) (ok G.store) (next_at y size)) c (G.store, refl, refl, G.held))

-- ---- statement after statement

-- where the run of a block stands
pub record MidBlock (list t u w : List ℕ) (i n tb : ℕ) (ns : Path) (rest : List Row) (all : Answer Store) (next : ℕ) : Type 0 where
  pub left : Block
  pub at : ℕ
  pub so_far : Store
  pub legal : IsBlock left
  pub lies : Lies list t i at (all_rows (steps left) ++ rest)
  pub held : Held (view t u w n) tb so_far
  pub goes : all ≡ B⟦ left ⟧ ns so_far
  pub reach : i + length (all_rows (steps left)) ≡ next

begins_code : (v : Value) (x : ℕ) → x ≡ code v → begins_statement x ≡ true
begins_code (basic p b) x e = rw e
begins_code (link p l) x e = rw e
begins_code (extends p ps) x e = rw e

block_first : (a : Statement) (b : Block) (rest : List Row) → all_rows (steps (a ∷ᴮ b)) ++ rest ≡ all_rows (statement_steps a) ++ (all_rows (steps b) ++ rest)
unfolding steps
block_first a b rest = ap (λ x. x ++ rest) (all_rows-++ (statement_steps a) (steps b)) ∙ append_assoc (all_rows (statement_steps a)) (all_rows (steps b)) rest

begins_first : (list t : List ℕ) (i q : ℕ) (a : Statement) (rest : List Row) → length t ≤ 32768 → length list ≤ 20480 → i < 1024 → IsStatement a → Lies list t i q (all_rows (statement_steps a) ++ rest) → begins_statement (step_field 2 list i 0) ≡ true
unfolding statement_steps
begins_first list t i q (assign r v) rest h hl hi g L = begins_code v (step_field 2 list i 0) (first list t i q r v rest h hl hi g.1 L).step

-- there is a record where a statement stands
some_record : (a : Statement) → 1 ≤ length (all_rows (statement_steps a))
unfolding statement_steps value_steps all_rows step_rows
some_record (assign r (basic p b)) = omega arith
some_record (assign r (link p l)) = omega arith
some_record (assign r (extends p ps)) = omega arith

record_in : (list t : List ℕ) (i q : ℕ) (a : Statement) (rest : List Row) → length list ≤ 20480 → i ≤ 1024 → Lies list t i q (all_rows (statement_steps a) ++ rest) → i < 1024
record_in list t i q a rest hl hi L = omega (arith, lies_few (all_rows (statement_steps a)) rest L (long_steps (statement_steps a)) hl hi, some_record a)

stop_step : (list t : List ℕ) (i q : ℕ) (rest : List Row) → length t ≤ 32768 → Lies list t i q rest → Stops rest → begins_statement (step_field 2 list i 0) ≡ false
unfolding step_row
stop_step list t i q [] h L s = rw (lies_end L)
stop_step list t i q (x ∷ rest) h L s =
    let S : Small x = subst Small (sym s) leave_small in
    rw ((lies_first L S h).step ∙ ap (λ y. y.first) s)

pub block_starts : (list t u w : List ℕ) (i n tb : ℕ) (ns : Path) (b : Block) (q : ℕ) (rest : List Row) (st : Store) → IsBlock b → Lies list t i q (all_rows (steps b) ++ rest) → Held (view t u w n) tb st
    → MidBlock list t u w i n tb ns rest (B⟦ b ⟧ ns st) (i + length (all_rows (steps b)))
block_starts list t u w i n tb ns b q rest st g L held = record { left = b; at = q; so_far = st; legal = g; lies = L; held = held; goes = refl; reach = refl }

module _ (list t u w : List ℕ) (i : ℕ) (size : Size) (ns : Path) (rest : List Row) (all : Answer Store) (next : ℕ) (h : length t ≤ 32768) (hl : length list ≤ 20480) (hi : i ≤ 1024) (stops : Stops rest) where
  pub block_ends : begins_statement (step_field 2 list i 0) ≡ false → MidBlock list t u w i size.rows size.text ns rest all next → WentIs (view t u w) next all (next_at i size)
  unfolding B⟦◌⟧ steps all_rows
  block_ends e M = rw M.goes (go M.left M.legal M.lies M.reach)
    where
      go : (b : Block) → IsBlock b → Lies list t i M.at (all_rows (steps b) ++ rest) → i + length (all_rows (steps b)) ≡ next → WentIs (view t u w) next (B⟦ b ⟧ ns M.so_far) (next_at i size)
      go εᴮ g L r = subst (λ y. WentIs (view t u w) next (ok M.so_far) (next_at y size)) (sym r ∙ add-zero i) (M.so_far, refl, refl, M.held)
      go (a ∷ᴮ b) g L r =
          let L₁ = subst (Lies list t i M.at) (block_first a b rest) L in
          absurd (false≢true (sym e ∙ begins_first list t i M.at a (all_rows (steps b) ++ rest) h hl (record_in list t i M.at a (all_rows (steps b) ++ rest) hl hi L₁) g.0 L₁))

  -- the statement that comes next
  pub record NextStatement : Type 0 where
    pub one : Statement
    pub others : Block
    pub at : ℕ
    pub so_far : Store
    pub legal : IsStatement one
    pub legal_others : IsBlock others
    pub lies : Lies list t i at (all_rows (statement_steps one) ++ (all_rows (steps others) ++ rest))
    pub held : Held (view t u w size.rows) size.text so_far
    pub goes : all ≡ A⟦ one ⟧ ns so_far >>= B⟦ others ⟧ ns
    pub reach : i + length (all_rows (statement_steps one)) + length (all_rows (steps others)) ≡ next

  pub next_statement : begins_statement (step_field 2 list i 0) ≡ true → MidBlock list t u w i size.rows size.text ns rest all next → NextStatement
  unfolding B⟦◌⟧ steps all_rows
  next_statement e M = go M.left M.legal M.lies M.goes M.reach
    where
      go : (b : Block) → IsBlock b → Lies list t i M.at (all_rows (steps b) ++ rest) → all ≡ B⟦ b ⟧ ns M.so_far → i + length (all_rows (steps b)) ≡ next → NextStatement
      go εᴮ g L k r = absurd (false≢true (sym (stop_step list t i M.at rest h L stops) ∙ e))
      go (a ∷ᴮ b) g L k r =
          record {
            one = a;
            others = b;
            at = M.at;
            so_far = M.so_far;
            legal = g.0;
            legal_others = g.1;
            lies = subst (Lies list t i M.at) (block_first a b rest) L;
            held = M.held;
            goes = k;
            reach = let c = ap length (all_rows-++ (statement_steps a) (steps b)) ∙ length-append (all_rows (statement_steps a)) (all_rows (steps b)) in omega (arith, c, r);
          }

  module _ (N : NextStatement) (w' : List ℕ) where
    pub statement_goes : (j : ℕ) (size' : Size) → WentIs (view t u w') (i + length (all_rows (statement_steps N.one))) (A⟦ N.one ⟧ ns N.so_far) (next_at j size') → MidBlock list t u w' j size'.rows size'.text ns rest all next
    unfolding ◌>>=◌
    statement_goes j size' W =
        let G = goes_on (view t u w') (i + length (all_rows (statement_steps N.one))) (A⟦ N.one ⟧ ns N.so_far) j size' W in
        let P = lies_pass (all_rows (statement_steps N.one)) (all_rows (steps N.others) ++ rest) N.lies (long_steps (statement_steps N.one)) in
        record {
          left = N.others;
          at = P.0;
          so_far = G.store;
          legal = N.legal_others;
          lies = subst (λ y. Lies list t y P.0 (all_rows (steps N.others) ++ rest)) (sym G.at) P.1;
          held = G.held;
          goes = N.goes ∙ ap (λ a. a >>= B⟦ N.others ⟧ ns) G.is;
          reach = omega (arith, G.at, N.reach);
        }

    pub statement_stops : (refusal : Refusal) → WentIs (view t u w') (i + length (all_rows (statement_steps N.one))) (A⟦ N.one ⟧ ns N.so_far) (Err refusal) → WentIs (view t u w') next all (Err refusal)
    unfolding ◌>>=◌
    statement_stops refusal W = rw (N.goes, W)

-- ---- prototype after prototype

pub record MidPrototypes (list t u w : List ℕ) (i n tb : ℕ) (ns own : Path) (rest : List Row) (all : Answer Store) (next : ℕ) : Type 0 where
  pub left : Prototypes
  pub at : ℕ
  pub so_far : Store
  pub legal : ArePrototypes left
  pub lies : Lies list t i at (all_rows (prototype_steps left ++ (Steps.done ∷ [])) ++ rest)
  pub held : Held (view t u w n) tb so_far
  pub goes : all ≡ P⟦ left ⟧ ns own so_far
  pub reach : i + length (all_rows (prototype_steps left ++ (Steps.done ∷ []))) ≡ next

pub prototypes_start : (list t u w : List ℕ) (i n tb : ℕ) (ns own : Path) (ps : Prototypes) (q : ℕ) (rest : List Row) (st : Store) → ArePrototypes ps → Lies list t i q (all_rows (prototype_steps ps ++ (Steps.done ∷ [])) ++ rest) → Held (view t u w n) tb st
    → MidPrototypes list t u w i n tb ns own rest (P⟦ ps ⟧ ns own st) (i + length (all_rows (prototype_steps ps ++ (Steps.done ∷ []))))
prototypes_start list t u w i n tb ns own ps q rest st g L held = record { left = ps; at = q; so_far = st; legal = g; lies = L; held = held; goes = refl; reach = refl }

-- the first of some prototypes, and the others
named_first : (p : ℕ) (l : Path) (ps : Prototypes) (rest : List Row) → all_rows (prototype_steps (named p l ps) ++ (Steps.done ∷ [])) ++ rest ≡ all_rows (prototype_steps (named p l εᴾ)) ++ (all_rows (prototype_steps ps ++ (Steps.done ∷ [])) ++ rest)
unfolding prototype_steps
named_first p l ps rest =
    ap (λ x. x ++ rest) (all_rows-++ (Steps.take p l ∷ []) (prototype_steps ps ++ (Steps.done ∷ []))) ∙ append_assoc (all_rows (Steps.take p l ∷ [])) (all_rows (prototype_steps ps ++ (Steps.done ∷ []))) rest

block_split : (b : Block) (ps : Prototypes) (rest : List Row) → all_rows (prototype_steps (block b ps) ++ (Steps.done ∷ [])) ++ rest ≡ all_rows (prototype_steps (block b εᴾ)) ++ (all_rows (prototype_steps ps ++ (Steps.done ∷ [])) ++ rest)
unfolding prototype_steps
block_split b ps rest =
    let e : Steps.enter ∷ (steps b ++ (Steps.leave ∷ prototype_steps ps)) ++ (Steps.done ∷ []) ≡ (Steps.enter ∷ (steps b ++ (Steps.leave ∷ []))) ++ (prototype_steps ps ++ (Steps.done ∷ [])) =
    ap (λ x. Steps.enter ∷ x) (append_assoc (steps b) (Steps.leave ∷ prototype_steps ps) (Steps.done ∷ []) ∙ sym (append_assoc (steps b) (Steps.leave ∷ []) (prototype_steps ps ++ (Steps.done ∷ [])))) in
    ap (λ x. all_rows x ++ rest) e ∙ ap (λ x. x ++ rest) (all_rows-++ (Steps.enter ∷ (steps b ++ (Steps.leave ∷ []))) (prototype_steps ps ++ (Steps.done ∷ [])))
    ∙ append_assoc (all_rows (Steps.enter ∷ (steps b ++ (Steps.leave ∷ [])))) (all_rows (prototype_steps ps ++ (Steps.done ∷ []))) rest

split_length : (ps one others : Prototypes) → ((rest : List Row) → all_rows (prototype_steps ps ++ (Steps.done ∷ [])) ++ rest ≡ all_rows (prototype_steps one) ++ (all_rows (prototype_steps others ++ (Steps.done ∷ [])) ++ rest))
    → length (all_rows (prototype_steps ps ++ (Steps.done ∷ []))) ≡ length (all_rows (prototype_steps one)) + length (all_rows (prototype_steps others ++ (Steps.done ∷ [])))
split_length ps one others f =
    let a = all_rows (prototype_steps ps ++ (Steps.done ∷ [])) in
    let b = all_rows (prototype_steps others ++ (Steps.done ∷ [])) in
    sym (ap length (append-nil a)) ∙ ap length (f []) ∙ length-append (all_rows (prototype_steps one)) (b ++ []) ∙ ap (λ x. length (all_rows (prototype_steps one)) + x) (ap length (append-nil b))

done_rows : (rest : List Row) → all_rows (prototype_steps εᴾ ++ (Steps.done ∷ [])) ++ rest ≡ step_rows Steps.done ++ rest
unfolding prototype_steps
done_rows rest = ap (λ x. x ++ rest) (one_step Steps.done)

done_length : length (all_rows (prototype_steps εᴾ ++ (Steps.done ∷ []))) ≡ 1
unfolding prototype_steps all_rows step_rows
done_length = refl

named_means : (p : ℕ) (l : Path) (ps : Prototypes) (ns own : Path) (st : Store) → P⟦ named p l ps ⟧ ns own st ≡ P⟦ named p l εᴾ ⟧ ns own st >>= P⟦ ps ⟧ ns own
unfolding P⟦◌⟧ ◌>>=◌
named_means p l ps ns own st = sym (assoc (inherit p own (resolve ns l st) st) (λ s. ok s) (P⟦ ps ⟧ ns own))

block_means : (b : Block) (ps : Prototypes) (ns own : Path) (st : Store) → P⟦ block b ps ⟧ ns own st ≡ P⟦ block b εᴾ ⟧ ns own st >>= P⟦ ps ⟧ ns own
unfolding P⟦◌⟧ ◌>>=◌
block_means b ps ns own st = sym (assoc (B⟦ b ⟧ own st) (λ s. ok s) (P⟦ ps ⟧ ns own))

module _ (list t u w : List ℕ) (i : ℕ) (size : Size) (ns own : Path) (rest : List Row) (all : Answer Store) (next : ℕ) (h : length t ≤ 32768) (hl : length list ≤ 20480) (hi : i ≤ 1024) where
  pub record NextPrototype : Type 0 where
    pub one : Prototypes
    pub single : One one
    pub others : Prototypes
    pub at : ℕ
    pub so_far : Store
    pub legal : ArePrototypes one
    pub legal_others : ArePrototypes others
    pub lies : Lies list t i at (all_rows (prototype_steps one) ++ (all_rows (prototype_steps others ++ (Steps.done ∷ [])) ++ rest))
    pub held : Held (view t u w size.rows) size.text so_far
    pub goes : all ≡ P⟦ one ⟧ ns own so_far >>= P⟦ others ⟧ ns own
    pub reach : i + length (all_rows (prototype_steps one)) + length (all_rows (prototype_steps others ++ (Steps.done ∷ []))) ≡ next

  pub next_prototype : begins_prototype (step_field 2 list i 0) ≡ true → MidPrototypes list t u w i size.rows size.text ns own rest all next → NextPrototype
  next_prototype e M = go M.left M.legal M.lies M.goes M.reach
    where
      go : (ps : Prototypes) → ArePrototypes ps → Lies list t i M.at (all_rows (prototype_steps ps ++ (Steps.done ∷ [])) ++ rest) → all ≡ P⟦ ps ⟧ ns own M.so_far → i + length (all_rows (prototype_steps ps ++ (Steps.done ∷ []))) ≡ next → NextPrototype
      go εᴾ g L k r =
          let f = done_first rest h (subst (Lies list t i M.at) (done_rows rest) L) in
          let z : begins_prototype (step_field 2 list i 0) ≡ false = rw f in
          absurd (false≢true (sym z ∙ e))
      go (named p l ps) g L k r =
          record {
            one = named p l εᴾ;
            single = reference;
            others = ps;
            at = M.at;
            so_far = M.so_far;
            legal = (g.0, g.1, tt);
            legal_others = g.2;
            lies = subst (Lies list t i M.at) (named_first p l ps rest) L;
            held = M.held;
            goes = k ∙ named_means p l ps ns own M.so_far;
            reach = omega (arith, split_length (named p l ps) (named p l εᴾ) ps (named_first p l ps), r);
          }
      go (block b ps) g L k r =
          record {
            one = block b εᴾ;
            single = braces;
            others = ps;
            at = M.at;
            so_far = M.so_far;
            legal = (g.0, tt);
            legal_others = g.1;
            lies = subst (Lies list t i M.at) (block_split b ps rest) L;
            held = M.held;
            goes = k ∙ block_means b ps ns own M.so_far;
            reach = omega (arith, split_length (block b ps) (block b εᴾ) ps (block_split b ps), r);
          }

  pub prototypes_end : (x : ℕ) → begins_prototype (step_field 2 list i 0) ≡ false → (i < 1024 → x ≡ i + 1) → MidPrototypes list t u w i size.rows size.text ns own rest all next → WentIs (view t u w) next all (next_at x size)
  unfolding P⟦◌⟧
  prototypes_end x e ex M = rw M.goes (go M.left M.legal M.lies M.reach)
    where
      go : (ps : Prototypes) → ArePrototypes ps → Lies list t i M.at (all_rows (prototype_steps ps ++ (Steps.done ∷ [])) ++ rest) → i + length (all_rows (prototype_steps ps ++ (Steps.done ∷ []))) ≡ next → WentIs (view t u w) next (P⟦ ps ⟧ ns own M.so_far) (next_at x size)
      go εᴾ g L r =
          let f = lies_few (all_rows (prototype_steps εᴾ ++ (Steps.done ∷ []))) rest L (long_steps (prototype_steps εᴾ ++ (Steps.done ∷ []))) hl hi in
          let c : next ≡ x = sym r ∙ omega (arith, done_length) ∙ sym (ex (omega (arith, f, done_length))) in
          subst (λ y. WentIs (view t u w) next (ok M.so_far) (next_at y size)) c (M.so_far, refl, refl, M.held)
      go (named p l ps) g L r =
          let f = (take_first (all_rows (prototype_steps ps ++ (Steps.done ∷ [])) ++ rest) p l g.0 h (subst (Lies list t i M.at) (named_first p l ps rest ∙ take_rows p l (all_rows (prototype_steps ps ++ (Steps.done ∷ [])) ++ rest)) L)).0 in
          let z : begins_prototype (step_field 2 list i 0) ≡ true = rw f in
          absurd (false≢true (sym e ∙ z))
      go (block b ps) g L r =
          let f = enter_first _ h (subst (Lies list t i M.at) (block_split b ps rest ∙ block_rows b (all_rows (prototype_steps ps ++ (Steps.done ∷ [])) ++ rest)) L) in
          let z : begins_prototype (step_field 2 list i 0) ≡ true = rw f in
          absurd (false≢true (sym e ∙ z))

  module _ (N : NextPrototype) (w' : List ℕ) where
    pub prototype_goes : (j : ℕ) (size' : Size) → WentIs (view t u w') (i + length (all_rows (prototype_steps N.one))) (P⟦ N.one ⟧ ns own N.so_far) (next_at j size') → MidPrototypes list t u w' j size'.rows size'.text ns own rest all next
    unfolding ◌>>=◌
    prototype_goes j size' W =
        let G = goes_on (view t u w') (i + length (all_rows (prototype_steps N.one))) (P⟦ N.one ⟧ ns own N.so_far) j size' W in
        let P = lies_pass (all_rows (prototype_steps N.one)) (all_rows (prototype_steps N.others ++ (Steps.done ∷ [])) ++ rest) N.lies (long_steps (prototype_steps N.one)) in
        record {
          left = N.others;
          at = P.0;
          so_far = G.store;
          legal = N.legal_others;
          lies = subst (λ y. Lies list t y P.0 (all_rows (prototype_steps N.others ++ (Steps.done ∷ [])) ++ rest)) (sym G.at) P.1;
          held = G.held;
          goes = N.goes ∙ ap (λ a. a >>= P⟦ N.others ⟧ ns own) G.is;
          reach = omega (arith, G.at, N.reach);
        }

    pub prototype_stops : (refusal : Refusal) → WentIs (view t u w') (i + length (all_rows (prototype_steps N.one))) (P⟦ N.one ⟧ ns own N.so_far) (Err refusal) → WentIs (view t u w') next all (Err refusal)
    unfolding ◌>>=◌
    prototype_stops refusal W = rw (N.goes, W)
