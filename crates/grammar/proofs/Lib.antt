pub mod Tied
pub mod Rules
pub mod Determined
