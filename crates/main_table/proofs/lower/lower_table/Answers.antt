-- `main_table::lower::lower_table` meets its contract. Assumes nothing.
-- what the places are, as the code has them
use Prim.Native.Nat.{ℕ, ◌+◌, ◌-◌, ◌*◌, ◌≤◌}
use native.Mathlib.Omega.{arith}
use mathlib.Core.Path.{◌≡◌, ◌∙◌, ap}
use lib.ListN.{length}
use mathlib.Core.List.{List}
use Rattle.paper.specs.DecodeAt.{word}
use Rattle.memory.proofs.Laws.{word_in}
use Rattle.main_table.specs.Lower.{Lowerable, text_from, text_to}
use Rattle.memory.specs.Memory.{stored}
use Rattle.forms.proofs.Puts.{table_header}
use Rattle.main_table.proofs.Lowers.{table_stored, table_size}
use Rattle.main_table.proofs.lower.lower_table.Goals as goal

record Places (recs text : List ℕ) (i n from to : ℕ) : Type 0 where
  number : n ≡ word 2 recs (i + 6) - 1
  start : from ≡ text_from recs text i
  end : to ≡ text_to recs text (i + 16 + 16 * n)
  on : from ≤ to
  within : to ≤ length text
  short : length text ≤ 16384
  few : n ≤ 1024

places : (recs text : List ℕ) (i m from to : ℕ) → Lowerable recs text i → m ≡ word 2 recs (i + 6) → from ≡ text_from recs text i → to ≡ text_to recs text (i + 16 + 16 * (m - 1)) → Places recs text i (m - 1) from to
places recs text i m from to L e f g =
    let n : m - 1 ≡ word 2 recs (i + 6) - 1 = ap (λ k. k - 1) e in
    let h : to ≡ text_to recs text (i + 16 + 16 * (word 2 recs (i + 6) - 1)) = rw n at g in
    record { number = n; start = f; end = g; on = omega (arith, L.on); within = omega (arith, L.end); short = L.short; few = omega (arith, L.few) }

pub overflow_sub-n : goal.overflow_sub-n
overflow_sub-n c = omega (arith, c.requires.0.some, (c.span_at-n.ensures.0 ∙ word_in 2 _ _ (omega (arith, c.requires.0.within))))

pub text_end-requires : goal.text_end-requires
text_end-requires c = λ l. let L = c.requires.0 in let e = (c.span_at-n.ensures.0 ∙ word_in 2 _ _ (omega (arith, c.requires.0.within))) in rw e (L.next (rw e at l))

pub overflow_sub-size : goal.overflow_sub-size
overflow_sub-size c = let P = places c.args.body.records.now c.args.body.text.now c.args.i c.span_at-n.result c.text_start-from.result c.text_end.result c.requires.0 (c.span_at-n.ensures.0 ∙ word_in 2 _ _ (omega (arith, c.requires.0.within))) c.text_start-from.ensures c.text_end.ensures in omega arith

pub overflow_cast-size : goal.overflow_cast-size
overflow_cast-size c = let P = places c.args.body.records.now c.args.body.text.now c.args.i c.span_at-n.result c.text_start-from.result c.text_end.result c.requires.0 (c.span_at-n.ensures.0 ∙ word_in 2 _ _ (omega (arith, c.requires.0.within))) c.text_start-from.ensures c.text_end.ensures in omega (arith, P.within, P.short)

pub lower_rows-requires : goal.lower_rows-requires
lower_rows-requires c = let P = places c.args.body.records.now c.args.body.text.now c.args.i c.span_at-n.result c.text_start-from.result c.text_end.result c.requires.0 (c.span_at-n.ensures.0 ∙ word_in 2 _ _ (omega (arith, c.requires.0.within))) c.text_start-from.ensures c.text_end.ensures in (omega (arith, c.requires.0.within, (c.span_at-n.ensures.0 ∙ word_in 2 _ _ (omega (arith, c.requires.0.within)))), omega (arith, c.requires.1, c.put_header.auto.out))

pub overflow_add-result : goal.overflow_add-result
overflow_add-result c = let P = places c.args.body.records.now c.args.body.text.now c.args.i c.span_at-n.result c.text_start-from.result c.text_end.result c.requires.0 (c.span_at-n.ensures.0 ∙ word_in 2 _ _ (omega (arith, c.requires.0.within))) c.text_start-from.ensures c.text_end.ensures in omega arith

pub returns : goal.returns
returns c =
    let P = places c.args.body.records.now c.args.body.text.now c.args.i c.span_at-n.result c.text_start-from.result c.text_end.result c.requires.0 (c.span_at-n.ensures.0 ∙ word_in 2 _ _ (omega (arith, c.requires.0.within))) c.text_start-from.ensures c.text_end.ensures in
    record { written = table_stored c.args.body.records.now c.args.body.text.now c.args.out.now _ _ _ c.args.i (c.span_at-n.result - 1) c.text_start-from.result c.text_end.result P.number P.start P.end P.on P.within P.short P.few c.requires.1 (c.put_header.ensures ∙ ap (stored c.args.out.now 0) (table_header _ _)) c.lower_rows.ensures (rw c.part.ensures at c.copy.ensures); size = table_size c.args.body.records.now c.args.body.text.now c.args.out.now c.args.out.now c.args.out.now c.args.out.now c.args.i (c.span_at-n.result - 1) c.text_start-from.result c.text_end.result P.number P.start P.end P.on P.within P.short P.few c.requires.1 }
