-- Of each public function, any two results that its contract allows for the same arguments are one. Assumes nothing.
use Prim.Native.Nat.{ℕ}
use mathlib.Core.Path.{◌≡◌, sym, ap, ◌∙◌}
use mathlib.Core.List.{List}
use mathlib.Core.Option.{Option, some, some-injective}
use Rattle.paper.specs.Decoder.{Cursor}
use Rattle.paper.specs.Determines.{Determines, ◌&◌}
use Rattle.forms.specs.Header.{SizeIs}
use Rattle.forms.specs.declared.form.Form.{Form}
use Rattle.std.specs.Prelude.{Option as RustOption, Some, None}
use Rattle.forms.proofs.form.Form.size.Reads as Size
use Rattle.forms.proofs.form.Form.top.Reads as Top
use Rattle.forms.proofs.form.Form.kind_of.Reads as KindOf
use Rattle.forms.proofs.form.Form.element_fits.Reads as ElementFits
use Rattle.forms.proofs.header.count.Reads as Count
use Rattle.forms.proofs.header.put_header.Reads as PutHeader
use Rattle.forms.proofs.header.records_of.Reads as RecordsOf
use Rattle.forms.proofs.header.text_of.Reads as TextOf

number_one : {o o' : Option (ℕ × Cursor)} {x y : Cursor} (m n : ℕ) → o ≡ some (m, x) → o' ≡ some (n, y) → o ≡ o'
    → Some m ≡ Some n
number_one m n e f g = ap Some (ap (λ (z : ℕ × Cursor). z.0) (some-injective _ _ (sym e ∙ g ∙ f)))

size_one : (form form' : Form) (b b' : List ℕ) (r r' : RustOption ℕ) → form & b ≡ form' & b'
    → SizeIs form b r → SizeIs form' b' r' → r ≡ r'
size_one form form' b b' (Some m) (Some n) g e f = number_one m n e.is f.is (cc)
size_one form form' b b' (Some m) None g e f = cc
size_one form form' b b' None (Some n) g e f = cc
size_one form form' b b' None None g e f = cc

pub record Determined : Type 0 where
  pub size : Determines Size.Post (λ _ (form, _). form) λ _ r _. r
  pub top : Determines Top.Post (λ _ (form, _). form) λ _ r _. r
  pub kind_of : Determines KindOf.Post (λ _ (form, (recs, (i, _))). form & recs.now & i) λ _ r _. r
  pub element_fits : Determines ElementFits.Post (λ _ (form, (recs, (i, (depth, _)))). form & recs.now & i & depth)
      λ _ r _. r
  pub count : Determines Count.Post (λ _ (form, (b, _)). form & b.now) λ _ r _. r
  pub put_header : Determines PutHeader.Post (λ _ (form, (out, (n, (t, _)))). form & out.now & n & t) λ _ _ (_, (out, _)). out.now
  pub records_of : Determines RecordsOf.Post (λ _ (form, (b, _)). form & b.now) λ _ r _. r.now
  pub text_of : Determines TextOf.Post (λ _ (b, _). b.now) λ _ r _. r.now

pub determined : Determined
determined =
    record {
      size = λ _ _ _ _ _ _ _ _ g e f. cc;
      top = λ _ _ _ _ _ _ _ _ g e f. cc;
      kind_of = λ _ _ _ _ _ _ _ _ g e f. cc;
      element_fits = λ _ _ _ _ _ _ _ _ g e f. cc;
      count = λ _ _ _ _ r r' _ _ g e f. size_one _ _ _ _ r r' g e f;
      put_header = λ _ _ _ _ _ _ _ _ g e f. cc;
      records_of = λ _ _ _ _ _ _ _ _ g e f. cc;
      text_of = λ _ _ _ _ _ _ _ _ g e f. cc;
    }
