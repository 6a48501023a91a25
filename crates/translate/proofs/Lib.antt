pub mod Laid
pub mod Rules
pub mod Determined
