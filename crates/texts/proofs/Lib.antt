pub mod Texts
pub mod Leaves
pub mod Determined
