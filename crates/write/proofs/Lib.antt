pub mod Texts
pub mod Records
pub mod Lays
pub mod Stores
pub mod Determined
