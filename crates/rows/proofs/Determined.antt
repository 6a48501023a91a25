-- Of each public function, any two results that its contract allows for the same arguments are one,
-- with the bytes of the slice that is lent. Assumes nothing.
use mathlib.Core.Path.{◌≡◌}
use mathlib.Core.List.{[]}
use Rattle.paper.specs.Determines.{Determines, ◌&◌}
use Rattle.rows.specs.Search.{found}
use Rattle.std.specs.Prelude.{ℕ}
use Rattle.std.specs.Prelude as Std
use Rattle.rows.proofs.row.kind_at.Reads as KindAt
use Rattle.rows.proofs.row.depth_at.Reads as DepthAt
use Rattle.rows.proofs.row.label_at.Reads as LabelAt
use Rattle.rows.proofs.row.size_at.Reads as SizeAt
use Rattle.rows.proofs.row.value_at.Reads as ValueAt
use Rattle.rows.proofs.row.put_row.Reads as PutRow
use Rattle.rows.proofs.row.Row.has_text.Reads as HasText
use Rattle.rows.proofs.row.Row.store.Reads as Store
use Rattle.rows.proofs.row.row_at.Reads as RowAt
use Rattle.rows.proofs.text.Texts.byte_of.Reads as ByteOf
use Rattle.rows.proofs.text.Texts.part.Reads as Part
use Rattle.rows.proofs.text.Texts.name_of.Reads as NameOf
use Rattle.rows.proofs.text.Texts.is_named.Reads as IsNamed
use Rattle.rows.proofs.search.Rows.kept.Reads as Kept
use Rattle.rows.proofs.search.Rows.child.Reads as Child
use Rattle.rows.proofs.search.Rows.end_of.Reads as EndOf
use Rattle.rows.proofs.search.Rows.text_of.Reads as TextOf
use Rattle.rows.proofs.search.Rows.deepest_of.Reads as DeepestOf

-- no two answers are told alike
found_one : (r r' : Std.Option ℕ) → found r ≡ found r' → r ≡ r'
found_one (Std.Some i) (Std.Some j) e = cc
found_one (Std.Some i) Std.None e = cc
found_one Std.None (Std.Some j) e = cc
found_one Std.None Std.None e = cc

pub record Determined : Type 0 where
  pub kind_at : Determines KindAt.Post (λ _ (w, (i, _)). w.now & i) λ _ r _. r
  pub depth_at : Determines DepthAt.Post (λ _ (w, (i, _)). w.now & i) λ _ r _. r
  pub label_at : Determines LabelAt.Post (λ _ (w, (i, _)). w.now & i) λ _ r _. r
  pub size_at : Determines SizeAt.Post (λ _ (w, (i, _)). w.now & i) λ _ r _. r
  pub value_at : Determines ValueAt.Post (λ _ (w, (i, _)). w.now & i) λ _ r _. r
  pub row_at : Determines RowAt.Post (λ _ (w, (i, _)). w.now & i) λ _ r _. r
  pub put_row : Determines PutRow.Post (λ _ (w, (i, (row, _))). w.now & i & row) λ _ _ (w, _). w.now
  pub has_text : Determines HasText.Post (λ _ (row, _). row) λ _ r _. r
  pub store : Determines Store.Post (λ _ (row, (out, (at, _))). row & out.now & at) λ _ _ (_, (out, _)). out.now
  pub byte_of : Determines ByteOf.Post (λ _ (texts, (p, _)). texts.list.now & texts.table.now & p) λ _ r _. r
  pub part : Determines Part.Post (λ _ (texts, (p, (n, _))). texts.list.now & texts.table.now & p & n) λ _ r _. r.now
  pub name_of : Determines NameOf.Post (λ _ (texts, (p, _)). texts.list.now & texts.table.now & p) λ _ r _. r.now
  pub is_named : Determines IsNamed.Post (λ _ (texts, (p, (name, _))). texts.list.now & texts.table.now & p & name.now) λ _ r _. r
  pub kept : Determines Kept.Post (λ _ (rows, _). rows.bytes.now & rows.count) λ _ r _. r
  pub child : Determines Child.Post
      (λ _ (rows, (lo, (d, (texts, (name, _))))). rows.bytes.now & rows.count & lo & d & texts.list.now & texts.table.now & name.now)
      λ _ r _. r
  pub end_of : Determines EndOf.Post (λ _ (rows, (lo, (d, _))). rows.bytes.now & rows.count & lo & d) λ _ r _. r
  pub text_of : Determines TextOf.Post (λ _ (rows, (lo, (hi, _))). rows.bytes.now & rows.count & lo & hi) λ _ r _. r
  pub deepest_of : Determines DeepestOf.Post (λ _ (rows, (lo, (hi, _))). rows.bytes.now & rows.count & lo & hi) λ _ r _. r

pub determined : Determined
determined =
    record {
      kind_at = λ _ _ _ _ _ _ _ _ g e f. cc;
      depth_at = λ _ _ _ _ _ _ _ _ g e f. cc;
      label_at = λ _ _ _ _ _ _ _ _ g e f. cc;
      size_at = λ _ _ _ _ _ _ _ _ g e f. cc;
      value_at = λ _ _ _ _ _ _ _ _ g e f. cc;
      row_at = λ _ _ _ _ _ _ _ _ g e f. cc;
      put_row = λ _ _ _ _ _ _ _ _ g e f. cc;
      has_text = λ _ _ _ _ _ _ _ _ g e f. cc;
      store = λ _ _ _ _ _ _ _ _ g e f. cc;
      byte_of = λ _ _ _ _ _ _ _ _ g e f. cc;
      part = λ _ _ _ _ _ _ _ _ g e f. cc;
      name_of = λ _ _ _ _ _ _ _ _ g e f. cc;
      is_named = λ _ _ _ _ _ _ _ _ g e f. cc;
      kept = λ _ _ _ _ _ _ _ _ g e f. cc;
      child = λ _ _ _ _ r r' _ _ g e f. found_one r r' (cc);
      end_of = λ _ _ _ _ _ _ _ _ g e f. cc (e [] [], f [] []);
      text_of = λ _ _ _ _ _ _ _ _ g e f. cc (e [] [], f [] []);
      deepest_of = λ _ _ _ _ _ _ _ _ g e f. cc (e [] [], f [] []);
    }
