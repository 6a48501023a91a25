-- An answer that refuses, as the code's refusal. Assumes nothing.
use Rattle.std.specs.Prelude.{◌≡◌}
use Rattle.paper.specs.Answer.{Answer, refused}
use Rattle.refusal.specs.Refused.{number_of}
use Rattle.refusal.specs.declared.Refusal.{Refusal}

abbrev pub Refuses : {A : Type 0} → Answer A → Refusal → Type 0
Refuses a e = a ≡ refused (number_of e.reason) e.place
