pub mod Walk
pub mod Child
pub mod Whole
