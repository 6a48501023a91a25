-- notation
pub mod Bytes
pub mod Answer
pub mod Limits
pub mod Maybe
-- document 01, Tokens and Grammar
pub mod Syntax
pub mod Tokens
pub mod Written
pub mod Scanner
pub mod Grammar
pub mod Described
pub mod Reader
-- Meaning and Bounds
pub mod Store
pub mod Bounds
pub mod Meaning
-- Layouts
pub mod Layout
pub mod Steps
pub mod StepLayout
pub mod WellFormed
pub mod Decoder
pub mod TableDecoder
pub mod StepDecoder
pub mod DecodeAt
pub mod DecodeFrom
-- lent slices, Refusal numbers
pub mod Lent
-- what each operation answers, demands 2 and 3
pub mod Allowed
-- the four operations, computed
pub mod Running
pub mod Operations
-- How much the contracts must say
pub mod Determines
