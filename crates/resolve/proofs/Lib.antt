pub mod Main
pub mod Turns
pub mod Determined
