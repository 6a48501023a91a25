-- `find_basic`: by the sorts of token, and the words. Assumes nothing.
use Rattle.std.proofs.Common.{rules}
use mathlib.Core.Path.{◌≡◌}
use Rattle.grammar.proofs.Rules.Refusals.{handed_on}
use Rattle.grammar.proofs.Rules.Basics.{true_basic, false_basic, null_basic, data_basic, data_fault, integer_basic, decimal_basic, text_basic, vector_basic, word_basic, mark_basic, other_basic, fault_basic}
use Rattle.tokens.specs.declared.Kind.TheVariants.{Mark}
use Rattle.grammar.proofs.basic.find_basic.Goals as goal
use Rattle.grammar.proofs.basic.find_basic.Goals.{in_default-via-in-Mark+in_default, in_default-via-in_default}

pub returns-in_err-token : goal.returns-in_err-token
returns-in_err-token c = rw (handed_on c.from_residual.result c.from_residual.ensures.1) (fault_basic _ _ _ _ c.in_err-token.ensures)

pub returns-in_err-path-in-Data : goal.returns-in_err-path-in-Data
returns-in_err-path-in-Data c =
    rw (handed_on c.from_residual-in_err-path-in-Data.result c.from_residual-in_err-path-in-Data.ensures.1)
    (data_fault _ _ _ _ _ _ (rw c.in-Data.is at (rw c.in-Word.is at c.in_ok-token.ensures)) c.in_err-path-in-Data.ensures)

pub returns-in_default-word : goal.returns-in_default-word
returns-in_default-word c =
    let d = c.in_default-word in
    rw c.unexpected.ensures (word_basic _ _ _ _ c.in-Word.word (rw c.in-Word.is at c.in_ok-token.ensures) d.not-True d.not-False d.not-Null d.not-Data)

pub returns-in_default : goal.returns-in_default
returns-in_default c =
    let t = c.in_ok-token.token in
    rw c.unexpected-in_default.ensures (elim c.in_default.branch [
      | in_default-via-in-Mark+in_default w ↦
          let ne : w.in_default.field-0 ≡ 91 → ⊥ = search rules in
          mark_basic _ _ _ (rw w.in_default.is at c.in_ok-token.ensures) ne
      | in_default-via-in_default w ↦
          let d = w.in_default in
          let ne : t.kind ≡ Mark 91 → ⊥ = search rules in
          other_basic _ _ _ t.end t.kind c.in_ok-token.ensures d.not-Word d.not-Integer d.not-Decimal d.not-Text ne
    ])

pub returns-in-True : goal.returns-in-True
returns-in-True c = true_basic _ _ _ _ (rw c.in-True.is at (rw c.in-Word.is at c.in_ok-token.ensures))

pub returns-in-False : goal.returns-in-False
returns-in-False c = false_basic _ _ _ _ (rw c.in-False.is at (rw c.in-Word.is at c.in_ok-token.ensures))

pub returns-in-Null : goal.returns-in-Null
returns-in-Null c = null_basic _ _ _ _ (rw c.in-Null.is at (rw c.in-Word.is at c.in_ok-token.ensures))

pub returns-in_ok-path-in-Data : goal.returns-in_ok-path-in-Data
returns-in_ok-path-in-Data c = data_basic _ _ _ _ _ _ (rw c.in-Data.is at (rw c.in-Word.is at c.in_ok-token.ensures)) c.in_ok-path-in-Data.ensures

pub returns-in-Integer : goal.returns-in-Integer
returns-in-Integer c = integer_basic _ _ _ _ _ (rw c.in-Integer.is at c.in_ok-token.ensures)

pub returns-in-Decimal : goal.returns-in-Decimal
returns-in-Decimal c = decimal_basic _ _ _ _ (rw c.in-Decimal.is at c.in_ok-token.ensures)

pub returns-in-Text : goal.returns-in-Text
returns-in-Text c = text_basic _ _ _ _ _ (rw c.in-Text.is at c.in_ok-token.ensures)

pub returns-in-Mark-eq91 : goal.returns-in-Mark-eq91
returns-in-Mark-eq91 c =
    let bracket : c.in_ok-token.token.kind ≡ Mark 91 = search rules in
    vector_basic _ _ _ _ (rw bracket at c.in_ok-token.ensures)
