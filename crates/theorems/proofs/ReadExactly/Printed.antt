-- Short names for what the grammar allows, with its limits and without. Assumes nothing.
use Rattle.paper.specs.Syntax.{Path, Basic, Basics, Statement, Value, Prototypes}
use Rattle.paper.specs.Grammar.{Reference, AllowedBasic, AllowedBasics, AllowedStatement, AllowedValue, AllowedPrototypes, AtMost32, AnyNumber}

abbrev pub LegalBasic : Basic → Type 0
LegalBasic = AllowedBasic AtMost32

abbrev pub LegalBasics : Basics → Type 0
LegalBasics = AllowedBasics AtMost32

abbrev pub LegalStatement : Statement → Type 0
LegalStatement = AllowedStatement AtMost32

abbrev pub LegalValue : Value → Type 0
LegalValue = AllowedValue AtMost32

abbrev pub LegalPrototypes : Prototypes → Type 0
LegalPrototypes = AllowedPrototypes AtMost32

abbrev pub FormedBasic : Basic → Type 0
FormedBasic = AllowedBasic AnyNumber

abbrev pub FormedBasics : Basics → Type 0
FormedBasics = AllowedBasics AnyNumber

abbrev pub FormedStatement : Statement → Type 0
FormedStatement = AllowedStatement AnyNumber

abbrev pub FormedValue : Value → Type 0
FormedValue = AllowedValue AnyNumber

abbrev pub FormedPrototypes : Prototypes → Type 0
FormedPrototypes = AllowedPrototypes AnyNumber

abbrev pub Reference32 : Path → Type 0
Reference32 = Reference AtMost32

abbrev pub Reference∞ : Path → Type 0
Reference∞ = Reference AnyNumber
