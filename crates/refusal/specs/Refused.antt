-- What a refusal says, as paper says it. Assumes nothing.
use Rattle.std.specs.Prelude.{ℕ, Result, Ok, Err}
use Rattle.paper.specs.Answer.{Answer, ok, refused}
use Rattle.refusal.specs.declared.Refusal.{Refusal}
use Rattle.refusal.specs.declared.Reason.{Reason}
use Rattle.refusal.specs.declared.Reason.TheVariants.{DescriptionTooLong, NoToken, Unexpected, IntegerOutOfRange, TooManyOpenings, TokenTooLong, ListTooLong, SliceTooShort, NotAStepList, NotATable, LinkFindsNothing, PrototypeFindsNothing, PrototypeIsNoComponent, TargetAbsent, TargetIsNoComponent, TooDeep, TooManyNodes, TooMuchText, MainAbsent, MainIsNoComponent, TargetIsRoot}

-- "Refusal numbers", a row of that table at a time: its number, and what it is given when.
abbrev pub number_of : Reason → ℕ
-- 1: "description over 32,768 bytes"
number_of DescriptionTooLong = 1
-- 2: "no whole token here"
number_of NoToken = 2
-- 3: "token, or the end, cannot continue"
number_of Unexpected = 3
-- 4: "integer out of range"
number_of IntegerOutOfRange = 4
-- 5: "a 33rd opening"
number_of TooManyOpenings = 5
-- 6: "name, string, decimal too long; 33rd name of a reference"
number_of TokenTooLong = 6
-- 7: "step list over a bound"
number_of ListTooLong = 7
-- 8: "a lent slice too short"
number_of SliceTooShort = 8
-- 9 / 10: "step list / table not well-formed"
number_of NotAStepList = 9
number_of NotATable = 10
-- 11: "link finds nothing"
number_of LinkFindsNothing = 11
-- 12 / 13: "prototype finds nothing / no component"
number_of PrototypeFindsNothing = 12
number_of PrototypeIsNoComponent = 13
-- 14 / 15: "on the target's path a name is absent / no component"
number_of TargetAbsent = 14
number_of TargetIsNoComponent = 15
-- 16, 17, 18: "depth, nodes, text over the bound"
number_of TooDeep = 16
number_of TooManyNodes = 17
number_of TooMuchText = 18
-- 19 / 20: "main absent / no component"
number_of MainAbsent = 19
number_of MainIsNoComponent = 20
-- 21: "target is the root itself"
number_of TargetIsRoot = 21

-- a result as paper's answer
abbrev pub answered : {A : Type 0} → Result A Refusal → Answer A
answered (Ok a) = ok a
answered (Err e) = refused (number_of e.reason) e.place
