-- What is written of a refusal, `refused N at P`. Assumes nothing.
use Rattle.std.specs.Prelude.{ℕ, List, ◌++◌, codes, decimal}
use Rattle.refusal.specs.declared.Refusal.{Refusal}
use Rattle.refusal.specs.Refused.{number_of}

-- "One program reads a description from standard input and writes the main table's bytes, or one line `refused N at P`."
abbrev pub refusal_text : Refusal → List ℕ
refusal_text r = codes "refused " ++ decimal (number_of r.reason) ++ codes " at " ++ decimal r.place
