-- What the readers leave of a description: one draft a step, in the steps' order. A draft is its step's row, in which the places of texts
-- are still places in the source: where the path, or the value's text, can be read again. These readers go the way of paper's `Reader`,
-- line by line, and give drafts where that gives a block. Assumes nothing.
use Rattle.std.specs.Prelude.{ℕ, zero, suc, ◌+◌, ◌*◌, ◌-◌, List, [], ◌∷◌, ◌++◌, length, leb, ltb}
use Rattle.paper.specs.Bytes.{when◌then◌else◌}
use Rattle.paper.specs.Answer.{Answer, ok, refused, ◌>>=◌, demand}
use Rattle.paper.specs.Syntax.{Basic, boolean, null, integer, decimal, string, reference, vector}
use Rattle.paper.specs.Tokens.{Token, name, literal, mark, end, is_name, is_mark, Here}
use Rattle.paper.specs.Scanner.{next}
use Rattle.paper.specs.Reader.{expect, expect_word, path, is_word, is_end}
use Rattle.paper.specs.Layout.{Row, number, complement, path_text}
use Rattle.paper.specs.StepLayout.{step_row}

-- a step's row, and how many bytes of text the step will take
pub record Draft : Type 0 where
  pub row : Row
  pub size : ℕ

-- from step, kind, where the path stands, span, value, source place, size
unfoldable pub draft : ℕ → ℕ → ℕ → ℕ → ℕ → ℕ → ℕ → Draft
draft i k r m v p z = record { row = step_row i k (number r) m (number v) p; size = z }

-- a basic: its kind, its value (a number, or where its text stands), how many bytes of text it will take, its items
pub record Drafted : Type 0 where
  pub kind : ℕ
  pub value : ℕ
  pub size : ℕ
  pub items : List Draft

unfoldable pub one : ℕ → ℕ → ℕ → Drafted
one k v z = record { kind = k; value = v; size = z; items = [] }

unfoldable pub several : List Draft → Drafted
several is = record { kind = 7; value = 0; size = 0; items = is }

-- a set whose target stands at p, its path taking z bytes; an item; each with the items beneath it
unfoldable pub set_draft : ℕ → ℕ → Drafted → List Draft
set_draft p z b = draft 6 b.kind p (suc (length b.items)) b.value p (z + b.size) ∷ b.items

unfoldable pub item_draft : Drafted → List Draft
item_draft b = draft 7 b.kind 0 (suc (length b.items)) b.value 0 b.size ∷ b.items

-- ---- basics

unfoldable pub draft_word : Token → Here → Here → Answer (Drafted × Here)
draft_word t h after =
    when is_word "true" t then ok (one 1 1 0, after) else
    when is_word "false" t then ok (one 1 0 0, after) else
    when is_word "NULL" t then ok (one 2 0 0, after) else
    when is_word "DATA" t then (do (r, at) ← path after; ok (one 6 after.place (length (path_text r)), at)) else
    refused 3 h.place

-- a literal that stands at p; the scanner's are integers, decimals and strings
unfoldable pub draft_literal : Basic → ℕ → Drafted
draft_literal (boolean b) p = one 0 0 0
draft_literal null p = one 0 0 0
draft_literal (integer z) p = one 3 (complement z) 0
draft_literal (decimal t) p = one 4 p (2 + length t)
draft_literal (string t) p = one 5 p (2 + length t)
draft_literal (reference r) p = one 0 0 0
draft_literal (vector bs) p = one 0 0 0

unfoldable mutual
  pub draft_basic : ℕ → ℕ → Here → Answer (Drafted × Here)
  draft_basic zero d at = refused 0 0
  draft_basic (suc f) d at = do
    (t, h, after) ← next at
    elim t [
      | name n ↦ draft_word (name n) h after
      | literal b ↦ ok (draft_literal b h.place, after)
      | mark m ↦ do
        at ← expect "[" at
        _ ← demand (ltb 0 d) 5 h.place
        (u, _, closed) ← next at
        when is_mark "]" u then ok (several [], closed) else (do
          (is, at) ← draft_basics f (d - 1) at
          ok (several is, at))
      | end ↦ refused 3 h.place
    ]

  pub draft_basics : ℕ → ℕ → Here → Answer (List Draft × Here)
  draft_basics zero d at = refused 0 0
  draft_basics (suc f) d at = do
    (b, at) ← draft_basic f d at
    (t, _, _) ← next at
    when is_mark "," t
        then (do
          at ← expect "," at
          (is, at) ← draft_basics f d at
          ok (item_draft b ++ is, at))
        else (do
          at ← expect "]" at
          ok (item_draft b, at))

-- ---- statements

unfoldable pub make_draft : ℕ → ℕ → Draft
make_draft p z = draft 1 0 p 0 0 p z

unfoldable pub take_draft : ℕ → ℕ → Draft
take_draft p z = draft 2 0 p 0 0 p z

-- enter, leave, done
unfoldable pub bare_draft : ℕ → Draft
bare_draft i = draft i 0 0 0 0 0 0

-- a link whose target stands at p and whose reference stands at q, their paths together taking z bytes
unfoldable pub link_draft : ℕ → ℕ → ℕ → Draft
link_draft p q z = draft 8 0 p 0 q q z

unfoldable mutual
  pub draft_statements : ℕ → ℕ → Here → Answer (List Draft × Here)
  draft_statements zero d at = refused 0 0
  draft_statements (suc f) d at = do
    (t, h, _) ← next at
    when is_name t
        then (do
          (r, at) ← path at
          (ds, at) ← draft_value f d h.place (length (path_text r)) at
          (es, at) ← draft_statements f d at
          ok (ds ++ es, at))
        else ok ([], at)

  -- the steps of a statement whose target stands at p, its path taking z bytes
  pub draft_value : ℕ → ℕ → ℕ → ℕ → Here → Answer (List Draft × Here)
  draft_value zero d p z at = refused 0 0
  draft_value (suc f) d p z at = do
    (t, h, _) ← next at
    when is_word "extends" t
        then (do
          at ← expect_word "extends" at
          (ds, at) ← draft_prototypes f d at
          ok (make_draft p z ∷ ds ++ (bare_draft 5 ∷ []), at))
        else when is_name t then (do
          (r, at) ← path at
          at ← expect ";" at
          ok (link_draft p h.place (z + length (path_text r)) ∷ [], at))
        else (do
          (b, at) ← draft_basic f d at
          at ← expect ";" at
          ok (set_draft p z b, at))

  pub draft_prototypes : ℕ → ℕ → Here → Answer (List Draft × Here)
  draft_prototypes zero d at = refused 0 0
  draft_prototypes (suc f) d at = do
    (t, h, _) ← next at
    when is_name t
        then (do
          (r, at) ← path at
          (u, _, _) ← next at
          when is_mark "," u
              then (do
                at ← expect "," at
                (ds, at) ← draft_prototypes f d at
                ok (take_draft h.place (length (path_text r)) ∷ ds, at))
              else (do
                at ← expect ";" at
                ok (take_draft h.place (length (path_text r)) ∷ [], at)))
        else (do
          at ← expect "{" at
          _ ← demand (ltb 0 d) 5 h.place
          (ds, at) ← draft_statements f (d - 1) at
          at ← expect "}" at
          (u, _, _) ← next at
          when is_mark "," u
              then (do
                at ← expect "," at
                (es, at) ← draft_prototypes f d at
                ok (bare_draft 3 ∷ ds ++ (bare_draft 4 ∷ es), at))
              else ok (bare_draft 3 ∷ ds ++ (bare_draft 4 ∷ []), at))

-- ---- the whole description

unfoldable pub drafts : List ℕ → Answer (List Draft)
drafts source = do
  _ ← demand (leb (length source) 32768) 1 0
  (ds, at) ← draft_statements (2 * length source + 2) 32 (record { place = 0; rest = source })
  (t, h, _) ← next at
  _ ← demand (is_end t) 3 h.place
  ok ds

-- how many bytes of text they will take
unfoldable pub text_size : List Draft → ℕ
text_size [] = 0
text_size (d ∷ ds) = d.size + text_size ds
