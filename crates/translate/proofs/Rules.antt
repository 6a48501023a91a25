-- The rules by which each contract follows from those of its parts. Assumes nothing.
pub mod Stores
pub mod Tokens
pub mod Paths
pub mod Rows
pub mod Drafts
pub mod Outcomes
