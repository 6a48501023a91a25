pub mod Refused
pub mod Text
