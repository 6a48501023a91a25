pub mod Answers
pub mod Gives
pub mod Found
pub mod Rescan
pub mod Enough
pub mod DecodeFree
pub mod DecodeAt
pub mod Wiped
