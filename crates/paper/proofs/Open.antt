-- One name that opens every definition, where a proof computes: `unfolding all`. The 65,536 zeros of a work slice stay shut.
-- Assumes nothing.
use Rattle.paper.specs.Bytes as Bytes
use Rattle.paper.specs.Answer as Answer
use Rattle.paper.specs.Maybe as Maybe
use Rattle.paper.specs.Tokens as Tokens
use Rattle.paper.specs.Scanner as Scanner
use Rattle.paper.specs.Reader as Reader
use Rattle.paper.specs.Store as Store
use Rattle.paper.specs.Bounds as Bounds
use Rattle.paper.specs.Meaning as Meaning
use Rattle.paper.specs.Layout as Layout
use Rattle.paper.specs.Steps as Steps
use Rattle.paper.specs.StepLayout as StepLayout
use Rattle.paper.specs.Decoder as Decoder
use Rattle.paper.specs.TableDecoder as TableDecoder
use Rattle.paper.specs.StepDecoder as StepDecoder
use Rattle.paper.specs.Running as Running
use Rattle.paper.specs.Operations as Operations

unfoldable pub all : Unit {0}
unfolding Bytes.when◌then◌else◌ Answer.◌>>=◌ Answer.demand Maybe.◌>>=◌ Maybe.require Tokens.blank Tokens.digit Tokens.octal Tokens.starts Tokens.goes_on Tokens.reserved Tokens.member Tokens.in_range Scanner.span Scanner.closing Scanner.gap Scanner.past Scanner.skip Scanner.named Scanner.digits_after Scanner.sign Scanner.whole Scanner.fraction Scanner.exponent Tokens.count Tokens.valued Scanner.number Tokens.escaped Scanner.meant Scanner.quoted Scanner.text Scanner.scan Scanner.found Scanner.next Tokens.is_name Reader.is_word Tokens.is_mark Reader.is_end Reader.spelling Reader.expect Reader.expect_word Reader.names Reader.path Reader.word Reader.basic_at Reader.statements Reader.read Store.put Store.lookup Store.find Store.resolve_in Store.resolve Store.bind Bounds.bounded Bounds.assign Meaning.copy Meaning.inherit Meaning.linked Meaning.B⟦◌⟧ Meaning.main Meaning.SF⟦◌⟧ Layout.little Layout.name_text Layout.names_text Layout.path_text Layout.long_text Layout.complement Layout.kind Layout.content Layout.elements Layout.table_row Layout.rows Layout.deepest Layout.text_of Layout.row_text Layout.texts Layout.figure Layout.row_bytes Layout.records Layout.laid_out Layout.table Steps.steps Running.made Running.step Running.exec Running.run StepLayout.step_row StepLayout.item StepLayout.step_rows StepLayout.all_rows StepLayout.step_list StepLayout.listed Decoder.number_of Decoder.one_name Decoder.a_decimal Decoder.one_decimal Decoder.name_of Decoder.names_of Decoder.path_of Decoder.long_of Decoder.decimal_of Decoder.string_of Decoder.signed Decoder.raw_of Decoder.record_at Decoder.field Decoder.leaf Decoder.basic_at Decoder.header Decoder.ended TableDecoder.in_table TableDecoder.entries_at TableDecoder.absent TableDecoder.distinct TableDecoder.table_of StepDecoder.in_steps StepDecoder.plain StepDecoder.bare StepDecoder.some_prototype StepDecoder.step_here StepDecoder.stops StepDecoder.statements_at StepDecoder.block_of Operations.translated Operations.evaluated Operations.executed Operations.resolved Operations.translate Operations.resolve Operations.or_refused Operations.translate_op Operations.run_op Operations.main_op Operations.resolve_op
all = tt
