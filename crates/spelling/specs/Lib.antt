pub mod Text
pub mod Spelt
