-- A draft and the row that it is a draft of: the same numbers, and for each text of the row a place of the source from which it is read again.
-- Assumes nothing.
use Rattle.std.specs.Prelude.{ℕ, ◌≡◌, Bool, true, false, ◌||◌, List, [], ◌∷◌, length, drop, eqb}
use Rattle.paper.specs.Answer.{Answer, ok, refused}
use Rattle.paper.specs.Syntax.{Path, Block, decimal, string}
use Rattle.paper.specs.Tokens.{Here, literal}
use Rattle.paper.specs.Scanner.{token, scan}
use Rattle.paper.specs.Reader.{path, read}
use Rattle.paper.specs.Layout.{Field, number, text, Row, path_text, long_text, row_text, texts}
use Rattle.paper.specs.Steps.{steps}
use Rattle.paper.specs.StepLayout.{all_rows}
use Rattle.grammar.specs.Drafts.{Draft, drafts, text_size}
use Rattle.grammar.specs.Places.{here}

-- a path is read at p
pub record Reads (s : List ℕ) (p : ℕ) (r : Path) : Type 0 where
  pub after : Here
  pub is : path (here s p) ≡ ok (r, after)

-- the steps that have a path: make, take, set, link
unfoldable pub has_path : ℕ → Bool
has_path i = eqb i 1 || eqb i 2 || eqb i 6 || eqb i 8

-- a value that is a path: a link's, and a data reference
unfoldable pub is_path : ℕ → ℕ → Bool
is_path i k = eqb i 8 || eqb k 6

-- of step i: the draft's label, and the row's
pub data Labelled (s : List ℕ) (i : ℕ) : Field → Field → Type 0 where
  no_label : has_path i ≡ false → Labelled s i (number 0) (number 0)
  path_label : {p : ℕ} {r : Path} → has_path i ≡ true → Reads s p r → Labelled s i (number p) (text (path_text r))

-- of step i and kind k: the draft's value, and the row's
pub data Valued (s : List ℕ) (i k : ℕ) : Field → Field → Type 0 where
  same_number : {v : ℕ} → is_path i k ≡ false → eqb k 4 ≡ false → eqb k 5 ≡ false → Valued s i k (number v) (number v)
  path_value : {p : ℕ} {r : Path} → is_path i k ≡ true → Reads s p r → Valued s i k (number p) (text (path_text r))
  decimal_value : {p n : ℕ} {t : List ℕ} → is_path i k ≡ false → eqb k 4 ≡ true → scan (drop p s) ≡ token (literal (decimal t)) n → Valued s i k (number p) (text (long_text t))
  string_value : {p n : ℕ} {t : List ℕ} → is_path i k ≡ false → eqb k 4 ≡ false → eqb k 5 ≡ true → scan (drop p s) ≡ token (literal (string t)) n → Valued s i k (number p) (text (long_text t))

pub record Tied (s : List ℕ) (d : Draft) (x : Row) : Type 0 where
  pub step : d.row.first ≡ x.first
  pub kind : d.row.second ≡ x.second
  pub label : Labelled s x.first d.row.label x.label
  pub span : d.row.span ≡ x.span
  pub value : Valued s x.first x.second d.row.value x.value
  pub last : d.row.last ≡ x.last
  pub size : d.size ≡ length (row_text x)

-- one by one
pub data AllTied (s : List ℕ) : List Draft → List Row → Type 0 where
  none : AllTied s [] []
  also : {d : Draft} {x : Row} {ds : List Draft} {xs : List Row} → Tied s d x → AllTied s ds xs → AllTied s (d ∷ ds) (x ∷ xs)

-- two readers answer alike: they refuse with the same number at the same place, or P holds of what they give
pub data Alike {A B : Type 0} (P : A → B → Type 0) : Answer A → Answer B → Type 0 where
  both : {a : A} {b : B} → P a b → Alike P (ok a) (ok b)
  neither : {n p : ℕ} → Alike P (refused n p) (refused n p)

-- the drafts are those of the block's steps
abbrev pub DraftsOf : List ℕ → List Draft → Block → Type 0
DraftsOf s ds b = AllTied s ds (all_rows (steps b))

-- what there is where a source is read as b: drafts of b's steps, as many as their rows, with as much text
pub record Given (source : List ℕ) (b : Block) : Type 0 where
  pub all : List Draft
  pub is : drafts source ≡ ok all
  pub tied : DraftsOf source all b
  pub count : length all ≡ length (all_rows (steps b))
  pub size : text_size all ≡ length (texts (all_rows (steps b)))

-- the drafts are the description's
pub record AreDrafts (source : List ℕ) : Type 0 where
  pub alike : Alike (DraftsOf source) (drafts source) (read source)
  pub given : (b : Block) → read source ≡ ok b → Given source b
  pub refuses : (n p : ℕ) → read source ≡ refused n p → drafts source ≡ refused n p
  pub refused_by : (n p : ℕ) → drafts source ≡ refused n p → read source ≡ refused n p
