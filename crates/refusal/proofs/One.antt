-- No two reasons have one number, so no two refusals are told alike. Assumes nothing.
use Prim.Native.Nat.{ℕ}
use mathlib.Core.Path.{◌≡◌, refl, sym, ap, ap₂, ◌∙◌}
use mathlib.Core.List.{List, [], ◌∷◌}
use lib.ListN.{get_or}
use Rattle.std.specs.Prelude.{Result, Ok, Err}
use Rattle.refusal.specs.Refused.{number_of, answered}
use Rattle.refusal.specs.declared.Refusal.{Refusal}
use Rattle.refusal.specs.declared.Reason.{Reason}
use Rattle.refusal.specs.declared.Reason.TheVariants.{DescriptionTooLong, NoToken, Unexpected, IntegerOutOfRange, TooManyOpenings, TokenTooLong, ListTooLong, SliceTooShort, NotAStepList, NotATable, LinkFindsNothing, PrototypeFindsNothing, PrototypeIsNoComponent, TargetAbsent, TargetIsNoComponent, TooDeep, TooManyNodes, TooMuchText, MainAbsent, MainIsNoComponent, TargetIsRoot}

-- the reasons in the order of their numbers; no reason has number 0
reasons : List Reason
reasons =
    DescriptionTooLong
    ∷ DescriptionTooLong
    ∷ NoToken
    ∷ Unexpected
    ∷ IntegerOutOfRange
    ∷ TooManyOpenings
    ∷ TokenTooLong
    ∷ ListTooLong
    ∷ SliceTooShort
    ∷ NotAStepList
    ∷ NotATable
    ∷ LinkFindsNothing
    ∷ PrototypeFindsNothing
    ∷ PrototypeIsNoComponent
    ∷ TargetAbsent
    ∷ TargetIsNoComponent
    ∷ TooDeep
    ∷ TooManyNodes
    ∷ TooMuchText
    ∷ MainAbsent
    ∷ MainIsNoComponent
    ∷ TargetIsRoot
    ∷ []

abbrev reason_of : ℕ → Reason
reason_of n = get_or reasons n DescriptionTooLong

told_back : (r : Reason) → reason_of (number_of r) ≡ r
unfolding reasons
told_back DescriptionTooLong = refl
told_back NoToken = refl
told_back Unexpected = refl
told_back IntegerOutOfRange = refl
told_back TooManyOpenings = refl
told_back TokenTooLong = refl
told_back ListTooLong = refl
told_back SliceTooShort = refl
told_back NotAStepList = refl
told_back NotATable = refl
told_back LinkFindsNothing = refl
told_back PrototypeFindsNothing = refl
told_back PrototypeIsNoComponent = refl
told_back TargetAbsent = refl
told_back TargetIsNoComponent = refl
told_back TooDeep = refl
told_back TooManyNodes = refl
told_back TooMuchText = refl
told_back MainAbsent = refl
told_back MainIsNoComponent = refl
told_back TargetIsRoot = refl

pub reason_one : (r r' : Reason) → number_of r ≡ number_of r' → r ≡ r'
reason_one r r' e = sym (told_back r) ∙ ap reason_of e ∙ told_back r'

pub answered_one : {A : Type 0} (r r' : Result A Refusal) → answered r ≡ answered r' → r ≡ r'
answered_one (Ok n) (Ok m) e = cc
answered_one (Ok n) (Err f) e = cc
answered_one (Err f) (Ok m) e = cc
answered_one (Err f) (Err g) e =
    let reason : f.reason ≡ g.reason = reason_one f.reason g.reason (cc) in
    let place : f.place ≡ g.place = cc in
    ap₂ (λ (r : Reason) (p : ℕ). Err (record { reason = r; place = p })) reason place
