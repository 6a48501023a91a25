pub mod Records
pub mod Values
pub mod Statements
pub mod Wholes
pub mod Determined
