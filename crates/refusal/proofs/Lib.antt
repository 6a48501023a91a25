pub mod One
pub mod Determined
