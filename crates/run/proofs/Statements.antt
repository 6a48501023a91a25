-- The ways through one statement, and through a component. Assumes nothing.
use Prim.Native.Nat.{ℕ, ◌+◌, ◌*◌, ◌≤◌, ◌<◌}
use native.Mathlib.Omega.{arith}
use mathlib.Core.Path.{◌≡◌, refl, sym, ap, ◌∙◌, subst}
use mathlib.Core.List.{List, [], ◌∷◌, ◌++◌}
use lib.ListN.{length, drop}
use Rattle.paper.specs.Answer.{◌>>=◌}
use Rattle.paper.specs.Syntax.{Path, Basic, assign, basic, link, extends, Prototypes}
use Rattle.paper.specs.Store.{Store, ∅, component, resolve}
use Rattle.paper.specs.Store as S
use Rattle.paper.specs.Bounds as Bounds
use Rattle.paper.specs.Meaning.{linked, A⟦◌⟧, V⟦◌⟧, P⟦◌⟧}
use Rattle.paper.specs.Layout.{number, text, Row, path_text, row_text}
use Rattle.run.specs.Paths.{names}
use Rattle.paper.specs.Steps as Steps
use Rattle.paper.specs.Steps.{statement_steps, value_steps, prototype_steps}
use Rattle.paper.specs.StepLayout.{step_row, step_rows, all_rows}
use Rattle.paper.specs.WellFormed.{IsValueOf}
use Rattle.rows.specs.View.{view}
use Rattle.refusal.specs.declared.Reason.{Reason}
use Rattle.refusal.specs.declared.Refusal.{Refusal}
use Rattle.run.specs.declared.size.Size.{Size}
use Rattle.run.specs.declared.block.Next.{Next}
use Rattle.std.specs.Prelude.{Result, Ok, Err}
use Rattle.run.specs.Puts.{RanIs}
use Rattle.run.specs.Listed.{Lies, step_field}
use Rattle.run.specs.Stepping.{scope_in, NamesPut, Makes, Sets, Links}
use Rattle.run.specs.Blocks.{Placed, WentIs, ComponentIs, StatementIs, PrototypesAre}
use Rattle.run.proofs.Lying.{lies_first, lies_next, small_make, small_set}
use Rattle.run.proofs.Evaluating.{one_step, long_set, lies_few, placed_is, first, make_rows, set_rows, link_rows, joined, target_count, names_before}

set_some : (p : ℕ) (l : Path) (b : Basic) → 1 ≤ length (step_rows (Steps.set p l b))
unfolding step_rows
set_some p l b = omega arith

make_length : (i p : ℕ) (l : Path) (ps : Prototypes) → i + 1 + length (all_rows (prototype_steps ps ++ (Steps.done ∷ []))) ≡ i + length (all_rows (value_steps (extends p ps) l))
unfolding value_steps all_rows step_rows
make_length i p l ps = omega arith

make_next : {list t : List ℕ} {i q : ℕ} {xs : List Row} (p : ℕ) (l : Path) → Lies list t i q (step_rows (Steps.make p l) ++ xs) → p < 32768 → Lies list t (i + 1) (q + length (row_text (step_row 1 0 (text (path_text l)) 0 (number 0) p))) xs
unfolding step_rows
make_next p l L h = lies_next L (small_make p l h).0

-- ---- one statement

module _ (list t u s s₁ w w' : List ℕ) (i n tb k m : ℕ) (few : k ≤ 32) (room : 65536 ≤ length s) (hl : length list ≤ 20480) (hi : i < 1024) (N : NamesPut t (step_field 2 list i 4) s (32768 + k * 2) s₁ m) where
  pub statement_none : (r : Result Next Refusal) → m < 1 → StatementIs list i t u n tb k s w w' r
  unfolding value_steps statement_steps
  statement_none r z (assign l v) q rest st g L h held =
      absurd (omega (arith, z, target_count t u s s₁ k m q l v list i few room h g.0 (first list t i q l v rest h hl hi g.1 L) N, g.0.some))

  scope_same : scope_in t u s₁ k ≡ scope_in t u s k
  scope_same = names_before t s s₁ (step_field 2 list i 4) k m N few room t u

  set_length : (p : ℕ) (l : Path) (b : Basic) → length (all_rows (value_steps (basic p b) l)) ≡ length (step_rows (Steps.set p l b))
  unfolding value_steps
  set_length p l b = ap length (one_step (Steps.set p l b))

  link_length : (p : ℕ) (l r : Path) → length (all_rows (value_steps (link p r) l)) ≡ 1
  unfolding value_steps all_rows step_rows
  link_length p l r = refl

  set_span : (p : ℕ) (l : Path) (b : Basic) (q : ℕ) (rest : List Row) → IsValueOf (basic p b) → length t ≤ 32768 → Lies list t i q (step_rows (Steps.set p l b) ++ rest) → (step_field 2 list i 6 ≡ length (step_rows (Steps.set p l b))) × (i + length (step_rows (Steps.set p l b)) ≤ 1024)
  unfolding step_rows step_row
  set_span p l b q rest g h L =
      let e : i + length (step_rows (Steps.set p l b)) ≤ 1024 = lies_few (step_rows (Steps.set p l b)) rest L (long_set p l b) hl (omega arith) in
      let F = lies_first L (small_set p l b g.0 g.1 (omega (arith, e))).0 h in
      (F.span, e)

  pub statement_set : (ran : Result Size Reason) (next : ℕ) → step_field 2 list i 0 ≡ 6 → (1 ≤ step_field 2 list i 6 → i + step_field 2 list i 6 ≤ 1024 → next ≡ i + step_field 2 list i 6) → Sets list i t u n tb (k + m) s₁ w w' ran
      → StatementIs list i t u n tb k s w w' (Placed (step_field 4 list i 16) next ran)
  unfolding A⟦◌⟧ statement_steps
  statement_set ran next e6 en R (assign l (basic p b)) q rest st g L h held =
      let L₁ : Lies list t i q (step_rows (Steps.set p l b) ++ rest) = subst (Lies list t i q) (set_rows p l b rest) L in
      let F = first list t i q l (basic p b) rest h hl hi g.1 L in
      let J = joined t u s s₁ k m q l (basic p b) list i few room h g.0 F N in
      let X = set_span p l b q rest g.1 h L₁ in
      let c : 1 ≤ length (step_rows (Steps.set p l b)) = set_some p l b in
      let nx : next ≡ i + length (all_rows (value_steps (basic p b) l)) = en (omega (arith, X.0, c)) (omega (arith, X.0, X.1)) ∙ omega (arith, X.0, set_length p l b) in
      let A : RanIs p (view t u w') (Bounds.assign p (J.front ++ (J.last ∷ [])) (S.basic b) st) ran = R st J.front J.last p q l b rest held J.target L₁ g.0 g.1.1 h in
      subst (λ y. WentIs (view t u w') (i + length (all_rows (value_steps (basic p b) l))) (Bounds.assign p y (S.basic b) st) (Placed (step_field 4 list i 16) next ran)) (sym J.is)
      (subst (λ y. WentIs (view t u w') y (Bounds.assign p (J.front ++ (J.last ∷ [])) (S.basic b) st) (Placed (step_field 4 list i 16) next ran)) nx
      (placed_is p (view t u w') next _ ran (step_field 4 list i 16) F.place_is A))
  statement_set ran next e6 en R (assign l (link p x)) q rest st g L h held = absurd (omega (arith, e6, (first list t i q l (link p x) rest h hl hi g.1 L).step))
  statement_set ran next e6 en R (assign l (extends p ps)) q rest st g L h held = absurd (omega (arith, e6, (first list t i q l (extends p ps) rest h hl hi g.1 L).step))

  pub statement_link : (ran : Result Size Reason) → step_field 2 list i 0 ≡ 8 → Links list i t u n tb k (k + m) s₁ w w' ran → StatementIs list i t u n tb k s w w' (Placed (step_field 4 list i 16) (i + 1) ran)
  unfolding A⟦◌⟧ statement_steps
  statement_link ran e8 R (assign l (basic p b)) q rest st g L h held = absurd (omega (arith, e8, (first list t i q l (basic p b) rest h hl hi g.1 L).step))
  statement_link ran e8 R (assign l (link p x)) q rest st g L h held =
      let L₁ : Lies list t i q (step_rows (Steps.link p l x) ++ rest) = subst (Lies list t i q) (link_rows p l x rest) L in
      let F = first list t i q l (link p x) rest h hl hi g.1 L in
      let J = joined t u s s₁ k m q l (link p x) list i few room h g.0 F N in
      let A : RanIs p (view t u w') (linked p (J.front ++ (J.last ∷ [])) (resolve (scope_in t u s₁ k) x st) st) ran = R st J.front J.last p q l x rest held J.target L₁ g.0 g.1.1 g.1.0 h in
      subst (λ y. WentIs (view t u w') (i + y) (linked p (scope_in t u s k ++ l) (resolve (scope_in t u s k) x st) st) (Placed (step_field 4 list i 16) (i + 1) ran)) (sym (link_length p l x))
      (placed_is p (view t u w') (i + 1) _ ran (step_field 4 list i 16) F.place_is
      (subst (λ y. RanIs p (view t u w') (linked p y (resolve (scope_in t u s k) x st) st) ran) (sym J.is) (subst (λ y. RanIs p (view t u w') (linked p (J.front ++ (J.last ∷ [])) (resolve y x st) st) ran) scope_same A)))
  statement_link ran e8 R (assign l (extends p ps)) q rest st g L h held = absurd (omega (arith, e8, (first list t i q l (extends p ps) rest h hl hi g.1 L).step))

  pub statement_component : (r : Result Next Refusal) → (step_field 2 list i 0 ≡ 6 → ⊥) → (step_field 2 list i 0 ≡ 8 → ⊥) → ComponentIs list i t u n tb k (k + m) s₁ w w' r → StatementIs list i t u n tb k s w w' r
  unfolding A⟦◌⟧ statement_steps
  statement_component r n6 n8 C (assign l (basic p b)) q rest st g L h held = absurd (n6 (first list t i q l (basic p b) rest h hl hi g.1 L).step)
  statement_component r n6 n8 C (assign l (link p x)) q rest st g L h held = absurd (n8 (first list t i q l (link p x) rest h hl hi g.1 L).step)
  statement_component r n6 n8 C (assign l (extends p ps)) q rest st g L h held =
      let F = first list t i q l (extends p ps) rest h hl hi g.1 L in
      let J = joined t u s s₁ k m q l (extends p ps) list i few room h g.0 F N in
      subst (λ y. WentIs (view t u w') (i + length (all_rows (value_steps (extends p ps) l))) (V⟦ extends p ps ⟧ (scope_in t u s k) y st) r) (sym J.is)
      (subst (λ y. WentIs (view t u w') (i + length (all_rows (value_steps (extends p ps) l))) (V⟦ extends p ps ⟧ y (J.front ++ (J.last ∷ [])) st) r) scope_same
      (C p q l J.front J.last ps rest st g.0 g.1 L h J.target held))

-- ---- a component

module _ (list t u s w : List ℕ) (i n tb k own : ℕ) (hl : length list ≤ 20480) (hi : i < 1024) where
  pub component_refused : (w' : List ℕ) (r : Result Size Reason) (refusal : Refusal) → Placed (step_field 4 list i 16) (i + 1) r ≡ Err refusal → Makes t u n tb own s w w' r → ComponentIs list i t u n tb k own s w w' (Err refusal)
  unfolding V⟦◌⟧ ◌>>=◌
  component_refused w' (Ok size) refusal e M p q l front last ps rest st hp g L h T held = absurd (cc)
  component_refused w' (Err reason) refusal e M p q l front last ps rest st hp g L h T held =
      let F = first list t i q l (extends p ps) rest h hl hi g L in
      subst (WentIs (view t u w') (i + length (all_rows (value_steps (extends p ps) l))) (V⟦ extends p ps ⟧ (scope_in t u s k) (front ++ (last ∷ [])) st)) e (rw (M st front last p held T, F.place_is))

  pub component_on : (s₁ w₁ w' : List ℕ) (size : Size) (r : Result Next Refusal) → Makes t u n tb own s w w₁ (Ok size) → drop 32768 s₁ ≡ drop 32768 s → PrototypesAre list (i + 1) t u size.rows size.text k own s₁ w₁ w' r → ComponentIs list i t u n tb k own s w w' r
  unfolding V⟦◌⟧ ◌>>=◌
  component_on s₁ w₁ w' size r M ed R p q l front last ps rest st hp g L h T held =
      go (M st front last p held T)
    where
      L₁ : Lies list t i q (step_rows (Steps.make p l) ++ (all_rows (prototype_steps ps ++ (Steps.done ∷ [])) ++ rest))
      L₁ = subst (Lies list t i q) (make_rows p l ps rest) L

      len : i + 1 + length (all_rows (prototype_steps ps ++ (Steps.done ∷ []))) ≡ i + length (all_rows (value_steps (extends p ps) l))
      len = make_length i p l ps

      own_names : scope_in t u s₁ own ≡ front ++ (last ∷ [])
      own_names = ap (λ y. names t u y own) ed ∙ T.names_are

      outer : scope_in t u s₁ k ≡ scope_in t u s k
      outer = ap (λ y. names t u y k) ed

      go : RanIs p (view t u w₁) (Bounds.assign p (front ++ (last ∷ [])) (component ∅) st) (Ok size)
          → WentIs (view t u w') (i + length (all_rows (value_steps (extends p ps) l))) (Bounds.assign p (front ++ (last ∷ [])) (component ∅) st >>= λ z. P⟦ ps ⟧ (scope_in t u s k) (front ++ (last ∷ [])) z) r
      go (st₁, made, G) =
          rw made
          (subst (λ y. WentIs (view t u w') (i + length (all_rows (value_steps (extends p ps) l))) (P⟦ ps ⟧ (scope_in t u s k) y st₁) r) own_names
          (subst (λ y. WentIs (view t u w') (i + length (all_rows (value_steps (extends p ps) l))) (P⟦ ps ⟧ y (scope_in t u s₁ own) st₁) r) outer
          (subst (λ y. WentIs (view t u w') y (P⟦ ps ⟧ (scope_in t u s₁ k) (scope_in t u s₁ own) st₁) r) len
          (R ps (q + length (row_text (step_row 1 0 (text (path_text l)) 0 (number 0) p))) rest st₁ g.2 (make_next p l L₁ g.0) h G))))
