-- The whole of a step list: the paper's reader, one law for each way through the code. Assumes nothing.
use Rattle.std.specs.Prelude.{Option as RustOption, Some, None, is_some}
use Rattle.layout.proofs.Steps.{place}
use Prim.Native.Nat.{ℕ, ◌≤◌, ◌<◌}
use mathlib.Core.Path.{◌≡◌, refl, sym, ◌∙◌, ap}
use mathlib.Core.Bool.{Bool, true, false, not}
use mathlib.Core.List.{List}
use mathlib.Core.Option.{none}
use lib.ListN.{length}
use lib.Dec.{leb}
use borrow.Author.Tests.{leb-true, leb-false}
use Rattle.paper.specs.Maybe.{◌>>=◌}
use Rattle.paper.specs.TableDecoder.{absent}
use Rattle.paper.specs.StepDecoder.{in_steps, block_of}
use Rattle.theorems.proofs.Laws.DecodeFree.{block_of_is}
use Rattle.forms.specs.declared.form.Form.TheVariants.{Steps}
use Rattle.forms.specs.Form.{form_of, size_of}
use Rattle.forms.specs.Header.{header_in, records_of, text_of, Sized, SizeIs}
use Rattle.layout.specs.Walk.{WalkIs}
use Rattle.layout.proofs.Ends.{ended_more, ended_text, ended_all}
use Rattle.steplist.specs.Walk.{statements_here}
use Rattle.steplist.specs.Whole.{is_step_list_of, block_in, whole_in}

pub whole_wrong : (recs text : List ℕ) → statements_here recs text 0 0 0 ≡ none → false ≡ whole_in recs text
unfolding whole_in block_in absent ◌>>=◌
whole_wrong recs text e = rw e

module _ (recs text : List ℕ) (i p : ℕ) (W : WalkIs (statements_here recs text 0 0 0) recs text (Some (place i p))) where
  pub whole_more : i < length recs → false ≡ whole_in recs text
  unfolding whole_in block_in absent ◌>>=◌
  whole_more h = rw (W.1, ended_more recs text i p h)

  pub whole_text : length recs ≤ i → leb (length text) p ≡ whole_in recs text
  unfolding whole_in block_in absent ◌>>=◌
  whole_text l = case (leb (length text) p) refl
    where
      case : (t : Bool) → leb (length text) p ≡ t → leb (length text) p ≡ whole_in recs text
      case true e = rw (e, W.1, ended_all recs text i p l (leb-true _ _ e))
      case false e = rw (e, W.1, ended_text recs text i p l (leb-false _ _ e))

list_unfit : (b : List ℕ) → header_in Steps b ≡ none → false ≡ is_step_list_of b
unfolding is_step_list_of absent header_in size_of form_of in_steps ◌>>=◌
list_unfit b e = rw (block_of_is b, e)

list_is : (b : List ℕ) (n : ℕ) (r : Bool) → Sized Steps b n → r ≡ whole_in (records_of Steps b) (text_of b) → r ≡ is_step_list_of b
unfolding is_step_list_of whole_in block_in header_in size_of form_of in_steps ◌>>=◌
list_is b n r S w =
    let e : block_of b ≡ block_in (records_of Steps b) (text_of b) = block_of_is b ∙ rw S.is in
    w ∙ ap (λ o. not (absent o)) (sym e)

pub list_counted : (b : List ℕ) (o : RustOption ℕ) (r : Bool) → SizeIs Steps b o → is_some o ≡ true → r ≡ whole_in (records_of Steps b) (text_of b) → r ≡ is_step_list_of b
list_counted b (Some n) r h e w = list_is b n r h w
list_counted b None r h e w = cc

pub list_uncounted : (b : List ℕ) (o : RustOption ℕ) (r : Bool) → SizeIs Steps b o → r ≡ is_some o → r ≡ false → r ≡ is_step_list_of b
list_uncounted b (Some n) r h e w = cc
list_uncounted b None r h e w = e ∙ list_unfit b h
